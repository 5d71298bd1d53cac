use Rattle.std.proofs.Common.{◌≡◌, [], ◌∙◌, refl, sym, subst, rules, arith}
use Rattle.std.proofs.lemmas.Grind.{common_steps}
use Rattle.std.specs.Vec.Iter.{into_iter_items}
use Rattle.zr_law_rounds.specs.Told.{AreBeginning}
use Rattle.zr_world_rounds.proofs.begin.begin_all.Goals as goal

pub loop-router-init : goal.loop-router-init
loop-router-init c = (
  λ w may same.
      subst (λ z. AreBeginning w c.args.shares.now c.args.shares.now z) (sym (c.into_iter-router-iterator.ensures.into_iter_gives.0 ∙ same)) (c.start_goes.ensures w c.args.shares.now may),
  (refl, refl),
)

pub loop-router-preserved : goal.loop-router-preserved
loop-router-preserved c =
    let inv = c.loop-router.invariant in
    let begun = c.in_ok-begin.ensures in (
      λ w may same.
          c.end_goes.ensures w c.args.shares.now c.loop-router.shares c.begin.new.shares (c.in-Some.router, c.in-Some.neighbour) c.in-Some.end (into_iter_items c.next.new.self)
          (subst (λ z. AreBeginning w c.args.shares.now c.loop-router.shares z) c.in-Some.ensures.steps.0 (inv.0 w may same)) begun,
      (begun.come.stay.0 ∙ inv.1.0, begun.come.stay.1 ∙ inv.1.1),
    )

pub returns-clause-gone : goal.returns-clause-gone
returns-clause-gone c =
    let none : into_iter_items c.loop-router.router-iterator ≡ [] = first_of (search rules, grind (arith, common_steps)) in
    λ w may same. c.all_have_begun.ensures w c.args.shares.now c.loop-router.shares (subst (λ z. AreBeginning w c.args.shares.now c.loop-router.shares z) none (c.loop-router.invariant.0 w may same))

pub returns-clause-stay : goal.returns-clause-stay
returns-clause-stay c = c.loop-router.invariant.1
