use Rattle.std.proofs.Common.{◌≡◌, ap, ◌∙◌, subst, sym}
use Rattle.std.proofs.lemmas.Result.{IfOk-weaker, on_ok_weaker}
use Rattle.zr_node_spec.specs.Event.{on_link}
use Rattle.zr_frame.specs.Packing.{parcels}
use Rattle.zr_frame_pack.specs.Marks.{IsLater}
use Rattle.zr_frame_pack.specs.Packing.{written}
use Rattle.zr_frame_pack.proofs.NamesGiven.{packed_written}
use Rattle.zr_router_queue.specs.Batches.{batches_in}
use Rattle.zr_router_queue.proofs.pack.pack_all.Goals as goal

pub returns-clause-batches : goal.returns-clause-batches
returns-clause-batches c =
    let w = written c.args.outbox.now.names (on_link c.args.link c.args.sent.now) in
    let same = packed_written c.args.outbox.now c.messages.new.outbox w c.deref.result.now (c.deref.ensures.value ∙ c.in_ok-messages.ensures.messages) c.in_ok-messages.ensures.names in
    IfOk-weaker c.in_batches.result (λ b. batches_in b ≡ (parcels c.messages.new.outbox c.deref.result.now).batches) _ (λ b k. k ∙ ap (λ p. p.batches) same) c.in_batches.ensures.batches

pub returns-clause-outbox : goal.returns-clause-outbox
returns-clause-outbox c =
    let w = written c.args.outbox.now.names (on_link c.args.link c.args.sent.now) in
    let same = packed_written c.args.outbox.now c.messages.new.outbox w c.deref.result.now (c.deref.ensures.value ∙ c.in_ok-messages.ensures.messages) c.in_ok-messages.ensures.names in
    on_ok_weaker c.in_batches.result (λ (k : c.in_batches.new.outbox ≡ (parcels c.messages.new.outbox c.deref.result.now).outbox). k ∙ ap (λ p. p.outbox) same) c.in_batches.ensures.outbox

pub returns-clause-later : goal.returns-clause-later
returns-clause-later c = subst (λ n. IsLater c.args.outbox.now.names n) (sym c.in_batches.ensures.names) c.messages.ensures.later
