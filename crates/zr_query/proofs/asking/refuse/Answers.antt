use Rattle.std.proofs.lemmas.Result.{on_ok_weaker}
use Rattle.zr_node_spec.proofs.Told.{tells_list}
use Rattle.zr_query.proofs.Told.{refused_is}
use Rattle.zr_query.proofs.asking.refuse.Goals as goal

pub returns-clause-ok : goal.returns-clause-ok
returns-clause-ok c = λ t rows named target content gone.
    on_ok_weaker _ (tells_list _ _ _ _ (refused_is t rows c.args.from named target content gone)) c.end_at_once.ensures.ok
