use Rattle.std.proofs.Common.{◌≡◌, ◌∙◌, ◌++◌, ap, subst}
use Rattle.std.specs.Prelude.{if◌then◌else◌}
use Rattle.std.proofs.lemmas.Result.{on_ok_weaker}
use Rattle.zr_frame.specs.Outbox.{OutboxState, advanced}
use Rattle.zr_frame_batch.specs.Framing.{framed}
use Rattle.zr_netrun_batches.specs.Coming.{ComesOn}
use Rattle.zr_netrun_batches.proofs.Sending.{frame_comes}
use Rattle.zr_netrun_batches.proofs.writing.write.Goals as goal

pub returns-then-fits : goal.returns-then-fits
returns-then-fits c =
    let box = c.args.outbox.now in
    let head = c.in_frame.new.scratch.head.items in
    let message = c.in_frame.new.scratch.message.items in
    let framed_is : framed (c.as_slice.result.now ++ c.as_slice-then-fits.result.now) ≡ framed (head ++ message) =
    ap (λ z. framed (z ++ c.as_slice-then-fits.result.now)) c.as_slice.ensures.value ∙ ap (λ z. framed (head ++ z)) c.as_slice-then-fits.ensures.value in
    on_ok_weaker c.put_frame.result
    (λ (h : c.put_frame.new.self ≡ c.args.wire.now ++ framed (c.as_slice.result.now ++ c.as_slice-then-fits.result.now)).
    frame_comes c.packed_messages_are_read_back.ensures box c.in_frame.new.outbox c.args.wire.now c.put_frame.new.self (head ++ message) c.args.msg.now
    (c.in_ok-fits.ensures.parcel c.if-fits.true) (c.in_ok-fits.ensures.outbox ∙ ap (λ b. if b then advanced box else box) c.if-fits.true)
    (h ∙ ap (λ z. c.args.wire.now ++ z) framed_is)) c.put_frame.ensures

pub returns : goal.returns
returns c =
    let box = c.args.outbox.now in
    let same : c.in_frame.new.outbox ≡ box = c.in_ok-fits.ensures.outbox ∙ ap (λ b. if b then advanced box else box) c.if-fits.false in
    on_ok_weaker c.write_apart.result
    (λ (h : ComesOn c.in_frame.new.outbox c.args.wire.now c.args.msg.now c.write_apart.new.outbox c.write_apart.new.wire).
    subst (λ (z : OutboxState). ComesOn z c.args.wire.now c.args.msg.now c.write_apart.new.outbox c.write_apart.new.wire) same h) c.write_apart.ensures
