use Rattle.std.proofs.Common.{arith}
use Rattle.std.proofs.lemmas.Result.{err_from_is_err_and}
use Rattle.zr_format_spec.proofs.Series.{series_begins, series_more, series_fails, series_over}
use Rattle.zr_oam.proofs.Messages.{links_are_links}
use Rattle.zr_oam.proofs.record.read_links.Goals as goal

pub links-init : goal.links-init
links-init c = series_begins _ _ _ _ c.new-links.ensures

pub links-preserved : goal.links-preserved
links-preserved c =
    let read = rw c.as_slice.ensures at c.in_ok-link.ensures in
    rw c.in_ok-push.ensures (series_more _ c.links.counter _ c.links.links _ _ _ _ (omega arith) read c.links.invariant)

pub returns-in_err-link-clause-read : goal.returns-in_err-link-clause-read
returns-in_err-link-clause-read c =
    let p = err_from_is_err_and c.from_residual.result c.from_residual.ensures.1 in
    let refused = rw c.as_slice.ensures at c.in_err-link.ensures in
    rw (p.1, p.2) (series_fails _ c.links.counter _ c.links.links _ _ _ (omega arith) refused c.links.invariant)

pub returns-clause-read : goal.returns-clause-read
returns-clause-read c = rw c.into_vec.ensures (series_over _ c.links.counter _ c.links.links _ _ (omega arith) c.links.invariant)

pub returns-clause-in_order : goal.returns-clause-in_order
returns-clause-in_order c = rw c.into_vec.ensures (links_are_links _ _ _ _ _ _ (omega arith) (series_over _ c.links.counter _ c.links.links _ _ (omega arith) c.links.invariant))
