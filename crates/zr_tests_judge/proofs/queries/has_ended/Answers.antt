use Rattle.std.proofs.Common.{◌∙◌, sym}
use Rattle.std.specs.Prelude.{◌&&◌, Bool, is_none}
use Rattle.zr_id.specs.Zid.{is_named}
use Rattle.zr_guarantee.specs.Queries.{Saying, is_said_to}
use Rattle.zr_tests_judge.specs.Judge.{acts_of}
use Rattle.zr_tests_judge.proofs.Loops.{any_found, any_passed}
use Rattle.zr_tests_judge.proofs.queries.has_ended.Goals as goal

pub returns-then-branch : goal.returns-then-branch
returns-then-branch c =
    let talk = c.args.talk.now in
    let is_end_of : Saying → Bool = λ s. is_named c.args.client.now s.client && (is_none s.reply && is_said_to (acts_of talk) talk.report c.args.q.now.line s) in
    sym (any_found is_end_of c.deref-s-items.result.now c.loop-s.s-index c.s-item.result c.loop-s-test.true c.s-item.is (sym c.in_ok-is_end_of.ensures ∙ c.if-branch.true)) ∙ c.loop-s.invariant

pub loop-s-preserved : goal.loop-s-preserved
loop-s-preserved c =
    let talk = c.args.talk.now in
    let is_end_of : Saying → Bool = λ s. is_named c.args.client.now s.client && (is_none s.reply && is_said_to (acts_of talk) talk.report c.args.q.now.line s) in
    any_passed is_end_of c.deref-s-items.result.now c.loop-s.s-index c.s-item.result c.loop-s-test.true c.s-item.is (sym c.in_ok-is_end_of.ensures ∙ c.if-branch.false) ∙ c.loop-s.invariant
