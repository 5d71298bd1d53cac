use Rattle.std.proofs.Common.{arith}
use Rattle.std.proofs.lemmas.Result.{err_from_is_err_and}
use Rattle.zr_ext.proofs.Passed.{begins, goes_on, is_last, is_refused, is_over}
use Rattle.zr_ext.proofs.reading.pass_chain.Goals as goal

pub exts-init : goal.exts-init
exts-init c = begins _

pub returns-in_err-pass_extension : goal.returns-in_err-pass_extension
returns-in_err-pass_extension c =
    let p = err_from_is_err_and c.from_residual.result c.from_residual.ensures.1 in
    rw (p.1, p.2) (is_refused _ c.exts.counter _ _ _ (omega (arith, c.left-end.ensures)) c.in_err-pass_extension.ensures c.exts.invariant)

pub returns-then-not-branch : goal.returns-then-not-branch
returns-then-not-branch c =
    is_last _ c.exts.counter c.in_ok-pass_extension.field-0 _ _ _ (omega (arith, c.left-end.ensures)) c.if-not-branch.true c.in_ok-pass_extension.ensures c.exts.invariant

pub exts-preserved : goal.exts-preserved
exts-preserved c =
    goes_on _ c.exts.counter c.in_ok-pass_extension.field-0 _ _ _ (omega (arith, c.left-end.ensures)) c.if-not-branch.false c.in_ok-pass_extension.ensures c.exts.invariant

pub returns : goal.returns
returns c = is_over _ c.exts.counter _ _ (omega (arith, c.left-end.ensures)) c.exts.invariant
