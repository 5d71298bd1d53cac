use Rattle.std.proofs.Common.{◌∙◌, sym}
use Rattle.std.specs.Prelude.{◌&&◌, Bool}
use Rattle.zr_guarantee.specs.Queries.{Saying, is_said_to}
use Rattle.zr_guarantee.specs.Latest.{is_what_is_said}
use Rattle.zr_tests_judge.specs.Judge.{acts_of}
use Rattle.zr_tests_judge.proofs.Loops.{any_found, any_passed}
use Rattle.zr_tests_judge.proofs.queries.is_said.Goals as goal

pub returns-then-branch : goal.returns-then-branch
returns-then-branch c =
    let talk = c.args.talk.now in
    let is_it : Saying → Bool = λ s. is_said_to (acts_of talk) talk.report c.args.q.now.line s && is_what_is_said c.args.q.now c.args.reply.now s in
    sym (any_found is_it c.deref-s-items.result.now c.loop-s.s-index c.s-item.result c.loop-s-test.true c.s-item.is (sym c.in_ok-is_said_so.ensures ∙ c.if-branch.true)) ∙ c.loop-s.invariant

pub loop-s-preserved : goal.loop-s-preserved
loop-s-preserved c =
    let talk = c.args.talk.now in
    let is_it : Saying → Bool = λ s. is_said_to (acts_of talk) talk.report c.args.q.now.line s && is_what_is_said c.args.q.now c.args.reply.now s in
    any_passed is_it c.deref-s-items.result.now c.loop-s.s-index c.s-item.result c.loop-s-test.true c.s-item.is (sym c.in_ok-is_said_so.ensures ∙ c.if-branch.false) ∙ c.loop-s.invariant
