use Rattle.std.proofs.lemmas.Result.{on_ok_weaker, on_err_weaker}
use Rattle.zr_node_spec.proofs.Told.{tells_list, tells_prefix}
use Rattle.zr_flood.proofs.Rows.{on_newer}
use Rattle.zr_flood.proofs.flood.flood_newer.Goals as goal

pub returns-clause-ok : goal.returns-clause-ok
returns-clause-ok c = λ node of leads newer. on_ok_weaker _ (tells_list _ _ _ _ (on_newer node c.args.links.now c.args.told.now c.args.from of leads newer)) c.tell_others.ensures.ok

pub returns-clause-err : goal.returns-clause-err
returns-clause-err c = λ node of leads newer. on_err_weaker _ (tells_prefix _ _ _ _ (on_newer node c.args.links.now c.args.told.now c.args.from of leads newer)) c.tell_others.ensures.err
