use Rattle.std.proofs.Common.{[], ◌∷◌}
use Rattle.zr_bytes.specs.Number.{writes}
use Rattle.zr_bytes.proofs.Fronts.{keeps_more}
use Rattle.zr_net.specs.Writing.{writes_keyed, writes_content}
use Rattle.zr_net.proofs.Fronts.{appends_both, appends_more}
use Rattle.zr_net.proofs.writing.put_numbered.Goals as goal

pub returns-clause-ok : goal.returns-clause-ok
returns-clause-ok c =
    let head = rw c.keyed.ensures at c.in_ok-push.ensures.items in
    let id = rw c.from.ensures at c.in_ok-put_zint.ensures.ok in
    let e = appends_both c.args.out.now.items (writes_keyed c.args.message c.args.number c.args.exts.now ∷ []) (writes c.args.id) _ _ head id in
    appends_more _ c.args.out.now.items _ (writes_content c.args.content.now c.args.exts.now c.args.number) c.put_zint.new.out.items _ e c.put_content.ensures.ok

pub returns-clause-err : goal.returns-clause-err
returns-clause-err c =
    let e = appends_both c.args.out.now.items (c.keyed.result ∷ []) (writes c.from.result) _ _ c.in_ok-push.ensures.items c.in_ok-put_zint.ensures.ok in
    keeps_more _ _ _ c.put_zint.new.out.items _ e c.put_content.ensures.err
