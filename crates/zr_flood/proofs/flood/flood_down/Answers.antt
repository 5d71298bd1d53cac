use Rattle.std.proofs.lemmas.Result.{on_ok_weaker, on_err_weaker}
use Rattle.zr_node_spec.proofs.Told.{tells_list, tells_prefix}
use Rattle.zr_flood.proofs.Rows.{on_down}
use Rattle.zr_flood.proofs.flood.flood_down.Goals as goal

pub returns-clause-ok : goal.returns-clause-ok
returns-clause-ok c = λ node peer of is. on_ok_weaker _ (tells_list _ _ _ _ (on_down node c.args.links.now peer c.args.base.now of is c.args.down)) c.tell_own.ensures.ok

pub returns-clause-err : goal.returns-clause-err
returns-clause-err c = λ node peer of is. on_err_weaker _ (tells_prefix _ _ _ _ (on_down node c.args.links.now peer c.args.base.now of is c.args.down)) c.tell_own.ensures.err
