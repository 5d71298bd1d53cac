use Rattle.std.proofs.Common.{◌∙◌}
use Rattle.std.proofs.lemmas.Result.{on_ok_weaker, on_err_weaker}
use Rattle.zr_query.proofs.Told.{ends_told, ends_prefix}
use Rattle.zr_query.proofs.answering.ends_of.Goals as goal

pub returns-clause-ok : goal.returns-clause-ok
returns-clause-ok c =
    on_ok_weaker _ (ends_told c.args.pending.now.rows c.args.pending.now.held c.args.link.0 c.as_slice.result.now _ _ (c.as_slice.ensures.value ∙ c.in_ok-ended.ensures.ended)) c.end_each.ensures.ok

pub returns-clause-err : goal.returns-clause-err
returns-clause-err c =
    on_err_weaker _ (ends_prefix c.args.pending.now.rows c.args.pending.now.held c.args.link.0 c.as_slice.result.now _ _ (c.as_slice.ensures.value ∙ c.in_ok-ended.ensures.ended)) c.end_each.ensures.err
