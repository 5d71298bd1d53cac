use Rattle.std.proofs.Common.{◌∙◌}
use Rattle.zr_frame_pack.proofs.Returning.{back_from, mark_later}
use Rattle.zr_frame_pack.proofs.packing.pack.Goals as goal

pub return_to-requires : goal.return_to-requires
return_to-requires c = (mark_later c.args.outbox.now.names c.put_batches.new.outbox.names c.mark-mark.result c.mark-mark.ensures.mark c.put_batches.ensures.later).alike

pub returns-in-Err-clause-err : goal.returns-in-Err-clause-err
returns-in-Err-clause-err c = (
  c.in-Err.ensures.err,
  c.return_to.ensures ∙ back_from c.args.outbox.now c.put_batches.new.outbox c.mark-mark.result c.mark-mark.ensures.mark c.put_batches.ensures.later ∙ c.mark-mark.ensures.outbox,
)
