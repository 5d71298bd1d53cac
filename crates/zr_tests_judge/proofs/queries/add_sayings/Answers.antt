use Rattle.std.proofs.Common.{Option, refl, ap, sym, ◌∙◌, arith}
use Rattle.std.specs.List.{filter_map}
use Rattle.zr_world_spec.specs.Moments.{Numbered}
use Rattle.zr_guarantee.specs.Queries.{Saying, saying_in}
use Rattle.zr_tests_judge.proofs.Loops.{gathered_all, one_brought, none_brought}
use Rattle.zr_tests_judge.proofs.queries.add_sayings.Goals.{in-Some+in_ok-push, in_default}
use Rattle.zr_tests_judge.proofs.queries.add_sayings.Goals as goal

pub loop-x-preserved : goal.loop-x-preserved
loop-x-preserved c =
    let bring : Numbered → Option Saying = λ x. saying_in x.0 x.1 in
    elim c.match-saying_in.branch [
      | in-Some+in_ok-push w ↦
          one_brought bring c.args.acts.now c.loop-x.x-index c.x-item.result c.loop-x-test.true c.x-item.is c.loop-x.out.items _ _ c.loop-x.invariant w.in-Some.s (sym c.saying_in.ensures ∙ w.in-Some.is) (ap (λ v. v.items) w.out-is ∙ w.in_ok-push.ensures.items)
      | in_default w ↦
          none_brought bring c.args.acts.now c.loop-x.x-index c.x-item.result c.loop-x-test.true c.x-item.is c.loop-x.out.items _ _ c.loop-x.invariant (sym c.saying_in.ensures ∙ w.in_default.is) (ap (λ v. v.items) w.out-is)
    ]

pub returns : goal.returns
returns c =
    let bring : Numbered → Option Saying = λ x. saying_in x.0 x.1 in
    gathered_all (filter_map bring) refl c.args.acts.now c.loop-x.x-index (omega arith) c.loop-x.out.items _ c.loop-x.invariant
