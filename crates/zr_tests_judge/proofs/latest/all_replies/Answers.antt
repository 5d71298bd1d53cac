use Rattle.std.proofs.Common.{Option, refl, ap, sym, ◌∙◌, arith}
use Rattle.std.specs.List.{filter_map}
use Rattle.zr_msg.specs.declared.content.Parts.{Parts}
use Rattle.zr_guarantee.specs.Queries.{Saying, is_said_to}
use Rattle.zr_guarantee.specs.Latest.{said_if}
use Rattle.zr_tests_judge.specs.Judge.{acts_of}
use Rattle.zr_tests_judge.proofs.Loops.{gathered_all, one_brought, none_brought}
use Rattle.zr_tests_judge.proofs.latest.all_replies.Goals.{in-Some+in_ok-push, in_default}
use Rattle.zr_tests_judge.proofs.latest.all_replies.Goals as goal

pub loop-s-preserved : goal.loop-s-preserved
loop-s-preserved c =
    let bring : Saying → Option Parts = λ s. said_if (is_said_to (acts_of c.args.talk.now) c.args.talk.now.report c.args.q.now.line s) s.reply in
    elim c.match-branch-2.branch [
      | in-Some+in_ok-push w ↦
          one_brought bring c.deref-s-items.result.now c.loop-s.s-index c.s-item.result c.loop-s-test.true c.s-item.is c.loop-s.replies.items _ _ c.loop-s.invariant w.in-Some.r (sym c.in_ok-r.ensures ∙ w.in-Some.is) (ap (λ v. v.items) w.replies-is ∙ w.in_ok-push.ensures.items)
      | in_default w ↦
          none_brought bring c.deref-s-items.result.now c.loop-s.s-index c.s-item.result c.loop-s-test.true c.s-item.is c.loop-s.replies.items _ _ c.loop-s.invariant (sym c.in_ok-r.ensures ∙ w.in_default.is) (ap (λ v. v.items) w.replies-is)
    ]

pub returns : goal.returns
returns c =
    let bring : Saying → Option Parts = λ s. said_if (is_said_to (acts_of c.args.talk.now) c.args.talk.now.report c.args.q.now.line s) s.reply in
    gathered_all (filter_map bring) refl c.deref-s-items.result.now c.loop-s.s-index (omega arith) c.loop-s.replies.items _ c.loop-s.invariant
