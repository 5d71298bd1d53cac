use Rattle.std.proofs.Common.{◌≡◌, Some, sym, ap, ◌∙◌, rules}
use Rattle.zr_world_spec.specs.World.{EndState, end_of}
use Rattle.zr_world_ends.specs.Kept.{KeptEnd}
use Rattle.zr_world.proofs.Kept.{kept_there, none_kept}
use Rattle.zr_world.proofs.members.weight_at.Goals as goal

pub returns-in-Some : goal.returns-in-Some
returns-in-Some g c = λ s found.
    let k = kept_there (end_of c.args.ends.now c.args.at) c.in-Some.end.now (search rules) in
    let one : Some k.0 ≡ Some s = sym k.1 ∙ found in
    let is : k.0 ≡ s = cc in
    c.weight.ensures ∙ ap (λ (z : KeptEnd). z.weight) (sym k.2) ∙ ap (λ (z : EndState). z.weight) is

pub returns-in-None : goal.returns-in-None
returns-in-None g c = λ s found. absurd (let none = none_kept (end_of c.args.ends.now c.args.at) (search rules) in cc)
