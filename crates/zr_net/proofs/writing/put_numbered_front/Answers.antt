use Rattle.std.proofs.Common.{[], ◌∷◌, ◌==◌, not}
use Rattle.zr_bytes.specs.Number.{writes}
use Rattle.zr_format_spec.specs.Writing.{writes_header}
use Rattle.zr_wirekey.specs.Writing.{writes_key}
use Rattle.zr_net.proofs.Fronts.{appends_both, appends_more, keeps_same}
use Rattle.zr_net.proofs.writing.put_numbered_front.Goals as goal

pub returns-clause-ok : goal.returns-clause-ok
returns-clause-ok c =
    let head = rw c.header_byte.ensures at c.in_ok-push.ensures.items in
    let id = rw c.from.ensures at c.in_ok-put_zint.ensures.ok in
    let e = appends_both c.args.out.now.items (writes_header c.args.message (c.args.number == 0) (not (c.args.number == 0)) c.args.extended ∷ []) (writes c.args.id) _ _ head id in
    let key = rw c.key.ensures at c.write_key.ensures.ok in
    appends_more _ c.args.out.now.items _ (writes_key c.args.content.now.key c.args.number) c.put_zint.new.out.items _ e key

pub returns-clause-err : goal.returns-clause-err
returns-clause-err c =
    let e = appends_both c.args.out.now.items (c.header_byte.result ∷ []) (writes c.from.result) _ _ c.in_ok-push.ensures.items c.in_ok-put_zint.ensures.ok in
    keeps_same _ c.args.out.now.items _ c.put_zint.new.out.items _ e c.write_key.ensures.err
