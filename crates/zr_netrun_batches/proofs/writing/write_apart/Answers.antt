use Rattle.std.proofs.Common.{◌∙◌}
use Rattle.std.proofs.lemmas.Result.{on_ok_weaker}
use Rattle.zr_netrun_batches.proofs.Sending.{batches_are, comes_on}
use Rattle.zr_netrun_batches.proofs.writing.write_apart.Goals as goal

pub returns : goal.returns
returns c =
    on_ok_weaker c.put.result
    (comes_on c.packed_messages_are_read_back.ensures c.args.outbox.now c.pack.new.outbox c.args.wire.now c.put.new.self c.args.msg.now c.from_ref.result.now c.deref.result.now
    c.from_ref.ensures.value
    (c.deref.ensures.value
    ∙ batches_are c.args.outbox.now c.args.msg.now c.from_ref.result.now c.new-batches.result.items c.pack.new.parcels.items c.from_ref.ensures.value c.new-batches.ensures.items c.in_ok-pack.ensures.batches)
    c.in_ok-pack.ensures.outbox) c.put.ensures
