use Rattle.std.proofs.Common.{◌≡◌, Option, Some, None, refl, ap, sym, subst, ◌∙◌, arith}
use Rattle.std.specs.List.{filter_map}
use Rattle.zr_guarantee.specs.Item.{Reply}
use Rattle.zr_guarantee.specs.Sent.{Told, reply_in}
use Rattle.zr_tests_judge.proofs.Loops.{gathered_all, one_brought, none_brought}
use Rattle.zr_tests_judge.proofs.sent.replies_in.Goals.{in-Some+in_ok-push, in_default}
use Rattle.zr_tests_judge.proofs.sent.replies_in.Goals as goal

pub loop-x-preserved : goal.loop-x-preserved
loop-x-preserved c =
    let bring : Told → Option Reply = λ x. reply_in x.tag x.msg in
    elim c.match-reply_in.branch [
      | in-Some+in_ok-push w ↦
          one_brought bring c.args.told.now c.loop-x.x-index c.x-item.result c.loop-x-test.true c.x-item.is c.loop-x.replies.items _ _ c.loop-x.invariant w.in-Some.r (subst (λ (t : Told). bring t ≡ Some w.in-Some.r) c.x.view_is (sym c.reply_in.ensures ∙ w.in-Some.is))
          (ap (λ v. v.items) w.replies-is ∙ w.in_ok-push.ensures.items)
      | in_default w ↦
          none_brought bring c.args.told.now c.loop-x.x-index c.x-item.result c.loop-x-test.true c.x-item.is c.loop-x.replies.items _ _ c.loop-x.invariant (subst (λ (t : Told). bring t ≡ None) c.x.view_is (sym c.reply_in.ensures ∙ w.in_default.is)) (ap (λ v. v.items) w.replies-is)
    ]

pub returns : goal.returns
returns c =
    let bring : Told → Option Reply = λ x. reply_in x.tag x.msg in
    gathered_all (filter_map bring) refl c.args.told.now c.loop-x.x-index (omega arith) c.loop-x.replies.items _ c.loop-x.invariant
