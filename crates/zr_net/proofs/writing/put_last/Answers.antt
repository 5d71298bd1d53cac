use Rattle.std.proofs.Common.{[], ◌∷◌, false}
use Rattle.zr_bytes.specs.Number.{writes}
use Rattle.zr_ext.specs.Writing.{writes_chain}
use Rattle.zr_format_spec.specs.Writing.{writes_header}
use Rattle.zr_net.specs.Writing.{has_any}
use Rattle.zr_net.proofs.Fronts.{appends_both, appends_more, keeps_same}
use Rattle.zr_net.proofs.writing.put_last.Goals as goal

pub returns-clause-ok : goal.returns-clause-ok
returns-clause-ok c =
    let head = rw (c.header_byte.ensures, c.has_any.ensures) at c.in_ok-push.ensures.items in
    let id = rw c.from.ensures at c.in_ok-put_zint.ensures.ok in
    let e = appends_both c.args.out.now.items (writes_header 0x1A false false (has_any c.args.exts.now) ∷ []) (writes c.args.id) _ _ head id in
    appends_more _ c.args.out.now.items _ (writes_chain c.args.exts.now) c.put_zint.new.out.items _ e c.put_chain.ensures.ok

pub returns-clause-err : goal.returns-clause-err
returns-clause-err c =
    let e = appends_both c.args.out.now.items (c.header_byte.result ∷ []) (writes c.from.result) _ _ c.in_ok-push.ensures.items c.in_ok-put_zint.ensures.ok in
    keeps_same _ c.args.out.now.items _ c.put_zint.new.out.items _ e c.put_chain.ensures.err
