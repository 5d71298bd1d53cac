use Rattle.std.proofs.Common.{◌≡◌, ◌==◌, ◌||◌, [], sym, subst, ap, ◌∙◌, arith}
use Rattle.zr_told_spec.specs.Ids.{IsLeast}
use Rattle.zr_told.specs.Ids.{IdsState, is_given}
use Rattle.zr_told.proofs.Freed.{none_freed, least_next, given_first}
use Rattle.zr_told.proofs.ids.Ids.give.Goals as goal

pub invariant_of-self-in-None : goal.invariant_of-self-in-None
invariant_of-self-in-None c =
    let s : IdsState = record { next = c.self.inside.next; freed = c.self.inside.freed.keys } in
    let e : s.freed ≡ [] = none_freed s.freed c.in-None.ensures.variant.1 in
    let le = c.requires s.next (subst (λ (z : IdsState). IsLeast (is_given z) s.next) c.self.view_is (least_next s c.self.invariant e)) in
    let p = c.self.invariant.from in
    rw (c.in-None.ensures.unchanged ∙ e) (record { from = omega arith; upto = omega (arith, le); freed = tt })

pub returns-in-Some : goal.returns-in-Some
returns-in-Some c = λ n l k.
    let s : IdsState = record { next = c.self.inside.next; freed = c.self.inside.freed.keys } in
    given_first s c.in-Some.field-0 c.pop_first.new.self.keys c.self.invariant c.in-Some.ensures.removal c.in-Some.ensures.updates.1 c.in-Some.ensures.least n k (subst (λ (z : IdsState). IsLeast (is_given z) n) (sym c.self.view_is) l)
    ∙ ap (λ z. n == k || is_given z k) c.self.view_is
