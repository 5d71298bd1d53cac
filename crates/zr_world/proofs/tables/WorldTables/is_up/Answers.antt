use Rattle.std.proofs.Common.{◌≡◌, false, None, sym, ap, ◌∙◌, rules}
use Rattle.std.specs.Option.{option_map_or}
use Rattle.zr_world_spec.specs.World.{end_of}
use Rattle.zr_world_ends.specs.Kept.{KeptEnd}
use Rattle.zr_world.specs.State.{state_of}
use Rattle.zr_world.proofs.Kept.{kept_there, none_kept}
use Rattle.zr_world.proofs.tables.WorldTables.is_up.Goals as goal

pub returns-in-Some : goal.returns-in-Some
returns-in-Some g c =
    let k = kept_there (end_of (state_of c.args.self.now).ends (c.args.router, c.args.neighbour)) c.in-Some.end.now (search rules) in
    c.is_up.ensures ∙ ap (λ (z : KeptEnd). z.up) (sym k.2) ∙ ap (λ o. option_map_or (λ s. s.up) o false) (sym k.1)

pub returns-in-None : goal.returns-in-None
returns-in-None g c = ap (λ o. option_map_or (λ s. s.up) o false) (sym (none_kept (end_of (state_of c.args.self.now).ends (c.args.router, c.args.neighbour)) (search rules)))
