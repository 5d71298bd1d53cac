use Rattle.std.proofs.lemmas.Result.{on_ok_weaker, on_err_weaker}
use Rattle.zr_node_spec.proofs.Told.{tells_list, tells_prefix}
use Rattle.zr_flood.proofs.OnChildren.{snapshots_by}
use Rattle.zr_flood.proofs.children.fresh_children.Goals as goal

pub returns-clause-ok : goal.returns-clause-ok
returns-clause-ok c = λ t by own logs up.
    on_ok_weaker c.tell_logs.result (tells_list _ _ _ _ (λ to. snapshots_by t c.args.links.now c.args.family.now c.args.before.now c.args.logs.now by logs own up to)) c.tell_logs.ensures.ok

pub returns-clause-err : goal.returns-clause-err
returns-clause-err c = λ t by own logs up.
    on_err_weaker c.tell_logs.result (tells_prefix _ _ _ _ (λ to. snapshots_by t c.args.links.now c.args.family.now c.args.before.now c.args.logs.now by logs own up to)) c.tell_logs.ensures.err
