use Rattle.std.proofs.Common.{◌≡◌, false, None, sym, ap, ◌∙◌, rules}
use Rattle.std.specs.Option.{option_map_or}
use Rattle.zr_world_spec.specs.World.{end_of}
use Rattle.zr_world_ends.specs.Kept.{KeptEnd}
use Rattle.zr_world.proofs.Kept.{kept_there, none_kept}
use Rattle.zr_world.proofs.settled.is_unbroken.Goals as goal

pub returns-in-Some : goal.returns-in-Some
returns-in-Some g c =
    let k = kept_there (end_of c.args.ends.now c.args.at) c.in-Some.end.now (search rules) in
    c.is_unbroken.ensures ∙ ap (λ (z : KeptEnd). z.unbroken) (sym k.2) ∙ ap (λ o. option_map_or (λ s. s.unbroken) o false) (sym k.1)

pub returns-in-None : goal.returns-in-None
returns-in-None g c = ap (λ o. option_map_or (λ s. s.unbroken) o false) (sym (none_kept (end_of c.args.ends.now c.args.at) (search rules)))
