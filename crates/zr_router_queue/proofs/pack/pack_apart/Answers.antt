use Rattle.std.proofs.Common.{◌≡◌, ◌++◌, ap, ◌∙◌, subst, sym}
use Rattle.std.proofs.lemmas.Result.{IfOk-weaker, on_ok_weaker}
use Rattle.zr_frame.specs.Packing.{parcels}
use Rattle.zr_frame_pack.specs.Marks.{IsLater}
use Rattle.zr_frame_pack.specs.Packing.{written_one}
use Rattle.zr_frame_pack.proofs.NamesGiven.{packed_apart}
use Rattle.zr_router_queue.specs.Batches.{batches_in}
use Rattle.zr_router_queue.proofs.pack.pack_apart.Goals as goal

pub returns-clause-batches : goal.returns-clause-batches
returns-clause-batches c =
    let same = packed_apart c.args.outbox.now c.put.new.outbox c.args.msg.now c.deref.result.now (c.deref.ensures.value ∙ c.in_ok-put.ensures.messages ∙ ap (λ z. z ++ (written_one c.args.outbox.now.names c.args.msg.now).messages) c.new-messages.ensures.items) c.in_ok-put.ensures.names in
    IfOk-weaker c.in_batches.result (λ b. batches_in b ≡ (parcels c.put.new.outbox c.deref.result.now).batches) _ (λ b k. k ∙ ap (λ p. p.batches) same) c.in_batches.ensures.batches

pub returns-clause-outbox : goal.returns-clause-outbox
returns-clause-outbox c =
    let same = packed_apart c.args.outbox.now c.put.new.outbox c.args.msg.now c.deref.result.now (c.deref.ensures.value ∙ c.in_ok-put.ensures.messages ∙ ap (λ z. z ++ (written_one c.args.outbox.now.names c.args.msg.now).messages) c.new-messages.ensures.items) c.in_ok-put.ensures.names in
    on_ok_weaker c.in_batches.result (λ (k : c.in_batches.new.outbox ≡ (parcels c.put.new.outbox c.deref.result.now).outbox). k ∙ ap (λ p. p.outbox) same) c.in_batches.ensures.outbox

pub returns-clause-later : goal.returns-clause-later
returns-clause-later c = subst (λ n. IsLater c.args.outbox.now.names n) (sym c.in_batches.ensures.names) c.put.ensures.later
