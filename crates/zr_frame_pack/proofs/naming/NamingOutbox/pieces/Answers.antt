use Rattle.std.proofs.Common.{◌≡◌, ◌++◌, ap, ◌∙◌}
use Rattle.std.proofs.lemmas.Result.{on_ok_weaker, on_err_weaker}
use Rattle.zr_frame.specs.Packing.{parcels}
use Rattle.zr_frame_pack.proofs.Outboxes.{either_way, kept_as, pieces_batches, pieces_outbox, pieces_names}
use Rattle.zr_frame_pack.proofs.naming.NamingOutbox.pieces.Goals as goal

pub returns-clause-batches : goal.returns-clause-batches
returns-clause-batches c =
    let o = c.self.inside.outbox in
    let ms = c.args.messages.now in
    let same = pieces_batches o c.self.inside.names ms ∙ ap (λ s. (parcels s ms).batches) c.self.view_is in
    on_ok_weaker c.pieces.result (λ (k : c.pieces.new.out.items ≡ c.args.out.now.items ++ (parcels o ms).batches). k ∙ ap (λ b. c.args.out.now.items ++ b) same) c.pieces.ensures.batches

pub returns-clause-outbox : goal.returns-clause-outbox
returns-clause-outbox c =
    let o = c.self.inside.outbox in
    let ms = c.args.messages.now in
    on_ok_weaker c.pieces.result
    (λ (k : c.pieces.new.self ≡ (parcels o ms).outbox). pieces_outbox o c.pieces.new.self c.self.inside.names ms k ∙ ap (λ s. (parcels s ms).outbox) c.self.view_is) c.pieces.ensures.outbox

pub returns-clause-names : goal.returns-clause-names
returns-clause-names c =
    let o = c.self.inside.outbox in
    let ms = c.args.messages.now in
    let was = ap (λ s. s.names) c.self.view_is in
    either_way c.pieces.result (c.pieces.new.self ≡ (parcels o ms).outbox) ((c.pieces.new.out.items ≡ c.args.out.now.items) × (c.pieces.new.self ≡ o)) _ c.pieces.ensures.outbox c.pieces.ensures.err
    (λ k. pieces_names o c.pieces.new.self c.self.inside.names ms k ∙ was) (λ k. ap (λ s. (kept_as s c.self.inside.names).names) k.1 ∙ was)

pub returns-clause-err : goal.returns-clause-err
returns-clause-err c =
    let o = c.self.inside.outbox in
    on_err_weaker c.pieces.result (λ (k : (c.pieces.new.out.items ≡ c.args.out.now.items) × (c.pieces.new.self ≡ o)). (k.0, ap (λ s. kept_as s c.self.inside.names) k.1 ∙ c.self.view_is)) c.pieces.ensures.err
