use Rattle.std.proofs.Common.{◌≡◌, ◌++◌, ap, ◌∙◌, subst, sym}
use Rattle.std.proofs.lemmas.Result.{on_ok_weaker}
use Rattle.zr_frame.specs.Packing.{parcels}
use Rattle.zr_frame_pack.specs.Marks.{IsLater}
use Rattle.zr_frame_pack.specs.Packing.{written}
use Rattle.zr_frame_pack.proofs.NamesGiven.{packed_written}
use Rattle.zr_frame_pack.proofs.packing.put_batches.Goals as goal

pub returns-clause-batches : goal.returns-clause-batches
returns-clause-batches c =
    let same = packed_written c.args.outbox.now c.written.new.outbox (written c.args.outbox.now.names c.args.messages.now) c.deref.result.now
    (c.deref.ensures.value ∙ c.in_ok-written.ensures.messages) c.in_ok-written.ensures.names in
    on_ok_weaker c.pieces.result (λ (k : c.pieces.new.out.items ≡ c.args.parcels.now.items ++ (parcels c.written.new.outbox c.deref.result.now).batches).
    k ∙ ap (λ p. c.args.parcels.now.items ++ p.batches) same) c.pieces.ensures.batches

pub returns-clause-outbox : goal.returns-clause-outbox
returns-clause-outbox c =
    let same = packed_written c.args.outbox.now c.written.new.outbox (written c.args.outbox.now.names c.args.messages.now) c.deref.result.now
    (c.deref.ensures.value ∙ c.in_ok-written.ensures.messages) c.in_ok-written.ensures.names in
    on_ok_weaker c.pieces.result (λ (k : c.pieces.new.self ≡ (parcels c.written.new.outbox c.deref.result.now).outbox). k ∙ ap (λ p. p.outbox) same) c.pieces.ensures.outbox

pub returns-clause-later : goal.returns-clause-later
returns-clause-later c = subst (λ n. IsLater c.args.outbox.now.names n) (sym c.pieces.ensures.names) c.written.ensures.later
