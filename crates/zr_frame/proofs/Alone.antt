-- One message in a frame of its own.
use Rattle.std.proofs.Common.{◌≡◌, ◌∙◌, ap, sym, ℕ, ◌+◌, true, List, [], ◌∷◌, ◌++◌, length, length-append, None, nat_le}
use Rattle.zr_trans.specs.Writing.{writes_trans}
use Rattle.zr_trans.specs.declared.trans.Trans.TheVariants.{Frame}
use Rattle.zr_frame.specs.Outbox.{OutboxState}
use Rattle.zr_frame.specs.Packing.{one_parcel, fits, with_message, packed, parcels}
use Rattle.zr_frame.proofs.Adding.{packed_fits}

alone : (o : OutboxState) (m : List ℕ) → true ≡ fits o (with_message o None m) → parcels o (m ∷ []) ≡ one_parcel o (with_message o None m)
unfolding packed
alone o m e = sym (packed_fits o None m [] e)

-- a frame's head and a message that fit into a batch are its one batch
pub goes_alone : (o : OutboxState) (head m : List ℕ) (n : ℕ) → head ≡ writes_trans (Frame true o.next) → nat_le (length head + n) o.batch ≡ true → length m ≡ n →
    parcels o (m ∷ []) ≡ one_parcel o (head ++ m)
goes_alone o head m n is few long =
    alone o m (sym (ap (λ h. nat_le (length (h ++ m)) o.batch) (sym is) ∙ ap (λ k. nat_le k o.batch) (length-append head m ∙ ap (λ k. length head + k) long) ∙ few))
    ∙ ap (λ h. one_parcel o (h ++ m)) (sym is)
