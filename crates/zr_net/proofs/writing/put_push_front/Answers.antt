use Rattle.std.proofs.Common.{[], ◌∷◌, ◌==◌, not}
use Rattle.zr_format_spec.specs.Writing.{writes_header}
use Rattle.zr_wirekey.specs.Writing.{writes_key}
use Rattle.zr_net.proofs.Fronts.{appends_more, keeps_same}
use Rattle.zr_net.proofs.writing.put_push_front.Goals as goal

pub returns-clause-ok : goal.returns-clause-ok
returns-clause-ok c =
    let head = rw c.header_byte.ensures at c.in_ok-push.ensures.items in
    let key = rw c.key.ensures at c.write_key.ensures.ok in
    appends_more _ c.args.out.now.items (writes_header 0x1D (c.args.number == 0) (not (c.args.number == 0)) c.args.extended ∷ []) (writes_key c.args.content.now.key c.args.number)
    c.push.new.self.items _ head key

pub returns-clause-err : goal.returns-clause-err
returns-clause-err c = keeps_same _ c.args.out.now.items (c.header_byte.result ∷ []) c.push.new.self.items _ c.in_ok-push.ensures.items c.write_key.ensures.err
