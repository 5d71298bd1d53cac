use Rattle.std.proofs.Common.{◌≡◌, ap, ◌∙◌, arith}
use Rattle.zr_told_spec.specs.Told.{ToldMap, at}
use Rattle.zr_told_spec.proofs.Agree.{found_used}
use Rattle.zr_told.proofs.book.Book.plan.Goals as goal

pub returns-clause-small : goal.returns-clause-small
returns-clause-small c = λ p e h.
    let m : ToldMap = c.self.inside.entries.entries in
    let k : at m p ≡ _ = ap (λ (z : ToldMap). at z p) c.self.view_is ∙ h in
    let lt = c.end.ensures.above e.id (c.self.invariant.given e.id ∙ found_used m p e k) in
    omega (arith, lt, c.end.ensures.within)
