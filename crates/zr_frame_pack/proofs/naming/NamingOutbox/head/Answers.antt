use Rattle.std.proofs.Common.{◌≡◌, ℕ, ◌++◌, ◌∷◌, [], List, true, length, ap, ◌∙◌, sym}
use Rattle.std.specs.Prelude.{if◌then◌else◌}
use Rattle.std.proofs.lemmas.Result.{IfOk-weaker}
use Rattle.zr_frame.specs.Outbox.{advanced}
use Rattle.zr_frame.specs.Packing.{one_parcel, parcels}
use Rattle.zr_frame_pack.proofs.Outboxes.{advanced_kept, one_kept}
use Rattle.zr_frame_pack.proofs.naming.NamingOutbox.head.Goals as goal

pub returns-clause-outbox : goal.returns-clause-outbox
returns-clause-outbox c =
    let o = c.self.inside.outbox in
    IfOk-weaker c.head.result (λ fits. c.head.new.self ≡ (if fits then advanced o else o)) _
    (λ fits k. advanced_kept o c.head.new.self c.self.inside.names fits k ∙ ap (λ s. if fits then advanced s else s) c.self.view_is) c.head.ensures.outbox

pub returns-clause-alone : goal.returns-clause-alone
returns-clause-alone c =
    let o = c.self.inside.outbox in
    IfOk-weaker c.head.result (λ fits. fits ≡ true → (m : List ℕ) → length m ≡ c.args.count → parcels o (m ∷ []) ≡ one_parcel o (c.head.new.head.items ++ m)) _
    (λ fits k is m long.
    ap (λ s. parcels s (m ∷ [])) (sym c.self.view_is) ∙ one_kept o c.self.inside.names m (c.head.new.head.items ++ m) (k is m long)
    ∙ ap (λ s. one_parcel s (c.head.new.head.items ++ m)) c.self.view_is) c.head.ensures.alone
