use Rattle.std.proofs.Common.{[], ◌∷◌}
use Rattle.zr_bytes.proofs.Fronts.{keeps_more}
use Rattle.zr_net.specs.Writing.{writes_keyed, writes_content}
use Rattle.zr_net.proofs.Fronts.{appends_more}
use Rattle.zr_net.proofs.writing.put_sample.Goals as goal

pub returns-clause-ok : goal.returns-clause-ok
returns-clause-ok c =
    let head = rw c.keyed.ensures at c.in_ok-push.ensures.items in
    appends_more _ c.args.out.now.items (writes_keyed 0x1D c.args.number c.args.exts.now ∷ []) (writes_content c.args.content.now c.args.exts.now c.args.number) c.push.new.self.items _ head c.put_content.ensures.ok

pub returns-clause-err : goal.returns-clause-err
returns-clause-err c = keeps_more _ c.args.out.now.items (c.keyed.result ∷ []) c.push.new.self.items _ c.in_ok-push.ensures.items c.put_content.ensures.err
