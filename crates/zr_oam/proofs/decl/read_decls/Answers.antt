use Rattle.std.proofs.Common.{arith}
use Rattle.std.proofs.lemmas.Result.{err_from_is_err_and}
use Rattle.zr_format_spec.proofs.Series.{series_begins, series_more, series_fails, series_over}
use Rattle.zr_oam.proofs.decl.read_decls.Goals as goal

pub decls-init : goal.decls-init
decls-init c = series_begins _ _ _ _ c.new-decls.ensures

pub decls-preserved : goal.decls-preserved
decls-preserved c =
    let read = rw c.as_slice.ensures at c.in_ok-decl.ensures in
    rw c.in_ok-push.ensures (series_more _ c.decls.counter _ c.decls.decls _ _ _ _ (omega arith) read c.decls.invariant)

pub returns-in_err-decl : goal.returns-in_err-decl
returns-in_err-decl c =
    let p = err_from_is_err_and c.from_residual.result c.from_residual.ensures.1 in
    let refused = rw c.as_slice.ensures at c.in_err-decl.ensures in
    rw (p.1, p.2) (series_fails _ c.decls.counter _ c.decls.decls _ _ _ (omega arith) refused c.decls.invariant)

pub returns : goal.returns
returns c = rw c.into_vec.ensures (series_over _ c.decls.counter _ c.decls.decls _ _ (omega arith) c.decls.invariant)
