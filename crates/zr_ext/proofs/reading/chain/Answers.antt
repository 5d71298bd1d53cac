use Rattle.std.proofs.Common.{arith, inr}
use Rattle.std.proofs.lemmas.Result.{err_from_is_err_and}
use Rattle.zr_ext.proofs.Found.{begins, goes_on, is_last, is_refused, is_over}
use Rattle.zr_ext.proofs.reading.chain.Goals as goal

pub exts-init : goal.exts-init
exts-init c = begins _ _ _ c.new-found.ensures.items

pub returns-in_err-ext : goal.returns-in_err-ext
returns-in_err-ext c =
    let p = err_from_is_err_and c.from_residual.result c.from_residual.ensures.1 in
    rw (p.1, p.2) (is_refused _ _ c.exts.counter c.exts.found.items _ _ _ (omega (arith, c.left-end.ensures)) c.in_err-ext.ensures c.exts.invariant)

pub returns-then-not-more : goal.returns-then-not-more
returns-then-not-more c =
    rw c.in_ok-keep.ensures (is_last _ _ c.exts.counter c.exts.found.items (c.in_ok-ext.ext, c.in_ok-ext.more) _ _ _ (omega (arith, c.left-end.ensures)) c.if-not-more.true c.in_ok-ext.ensures c.exts.invariant)

pub exts-preserved : goal.exts-preserved
exts-preserved c =
    rw c.in_ok-keep.ensures (goes_on _ _ c.exts.counter c.exts.found.items (c.in_ok-ext.ext, c.in_ok-ext.more) _ _ _ (omega (arith, c.left-end.ensures)) c.if-not-more.false c.in_ok-ext.ensures c.exts.invariant)

pub returns : goal.returns
returns c = inr (is_over _ _ c.exts.counter c.exts.found.items _ _ (omega (arith, c.left-end.ensures)) c.exts.invariant)
