use Rattle.std.proofs.Common.{◌+◌, ◌≤◌, drop, length, subst, sym, ap, ◌∙◌, arith}
use Rattle.std.proofs.Math.ListN.{drop_of_length-le}
use Rattle.std.specs.List.{flat_map}
use Rattle.std.proofs.lemmas.Result.{err_from_is_err_and}
use Rattle.zr_lists.proofs.Prefixes.{IsSoFar, so_far_all, so_far_more, so_far_stopped}
use Rattle.zr_told.specs.Plan.{ids_last, tells_plan, told_plans}
use Rattle.zr_told.proofs.Changed.{next_left, told_more}
use Rattle.zr_told.proofs.told.Told.tell_all.Goals as goal

pub loop-planned-preserved : goal.loop-planned-preserved
loop-planned-preserved c =
    let i = c.loop-planned.invariant in
    let q = next_left c.args.plans.now c.loop-planned.planned-index c.planned-item.result c.loop-planned-test.true c.planned-item.is in
    let r = told_more c.loop-planned.self c.tell.new.self c.planned-item.result (drop (c.loop-planned.planned-index + 1) c.args.plans.now) (drop c.loop-planned.planned-index c.args.plans.now) q i.3 i.2 c.in_ok-tell.ensures.map in (
      λ k. r.0 k ∙ i.0 k,
      so_far_more _ _ _ _ (tells_plan c.loop-planned.self c.planned-item.result) _
          (subst (λ z. IsSoFar c.args.out.now.items (flat_map (tells_plan c.args.self.now) c.args.plans.now) c.loop-planned.out.items z) (sym r.1) i.1) c.in_ok-tell.ensures.out,
      r.2,
      r.3,
    )

pub returns-in_err-tell-clause-err : goal.returns-in_err-tell-clause-err
returns-in_err-tell-clause-err c =
    let i = c.loop-planned.invariant in
    let q = next_left c.args.plans.now c.loop-planned.planned-index c.planned-item.result c.loop-planned-test.true c.planned-item.is in
    let p = err_from_is_err_and c.from_residual.result c.from_residual.ensures.1 in
    rw p.1
    (so_far_stopped _ _ _ _ (tells_plan c.loop-planned.self c.planned-item.result) _
    (subst (λ z. IsSoFar c.args.out.now.items (flat_map (tells_plan c.args.self.now) c.args.plans.now) c.loop-planned.out.items (flat_map (tells_plan c.loop-planned.self) z)) q i.1) c.in_err-tell.ensures.err)

pub tell-requires : goal.tell-requires
tell-requires c =
    let q = next_left c.args.plans.now c.loop-planned.planned-index c.planned-item.result c.loop-planned-test.true c.planned-item.is in
    (subst (λ z. ids_last c.loop-planned.self z) q c.loop-planned.invariant.2).0

pub returns-clause-map : goal.returns-clause-map
returns-clause-map c = λ k.
    let l : length c.args.plans.now ≤ c.loop-planned.planned-index = omega arith in
    ap (λ z. told_plans c.loop-planned.self z k) (sym (drop_of_length-le c.args.plans.now l)) ∙ c.loop-planned.invariant.0 k

pub returns-clause-out : goal.returns-clause-out
returns-clause-out c =
    let l : length c.args.plans.now ≤ c.loop-planned.planned-index = omega arith in
    so_far_all _ _ _
    (subst (λ z. IsSoFar c.args.out.now.items (flat_map (tells_plan c.args.self.now) c.args.plans.now) c.loop-planned.out.items (flat_map (tells_plan c.loop-planned.self) z))
    (drop_of_length-le c.args.plans.now l) c.loop-planned.invariant.1)
