use Rattle.std.proofs.Common.{◌≡◌, [], subst, arith}
use Rattle.zr_told_spec.specs.Ids.{IsLeast}
use Rattle.zr_told.specs.Ids.{IdsState, is_given}
use Rattle.zr_told.proofs.Freed.{none_freed, least_next, least_first}
use Rattle.zr_told.proofs.ids.Ids.least.Goals as goal

pub overflow_cast-result : goal.overflow_cast-result
overflow_cast-result c =
    let s : IdsState = record { next = c.self.inside.next; freed = c.self.inside.freed.keys } in
    let e : s.freed ≡ [] = none_freed s.freed c.in-None.ensures.variant.1 in
    let le = c.requires s.next (subst (λ (z : IdsState). IsLeast (is_given z) s.next) c.self.view_is (least_next s c.self.invariant e)) in
    omega (arith, le)

pub returns-in-Some : goal.returns-in-Some
returns-in-Some c =
    let s : IdsState = record { next = c.self.inside.next; freed = c.self.inside.freed.keys } in
    rw (← c.self.view_is) (least_first s c.in-Some.id.now c.self.invariant c.in-Some.ensures.first c.in-Some.ensures.least)
