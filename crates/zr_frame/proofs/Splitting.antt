-- A message in fragments: what was sent and what the rest comes to are the fragments of the whole.
use Rattle.std.proofs.Common.{◌≡◌, ◌∙◌, ap, refl, sym, ℕ, zero, suc, ◌<◌, ◌≤◌, Bool, true, false, cond, List, [], ◌∷◌, ◌++◌, length, take, drop, append_assoc, Option, Some, None, nat_le, arith}
use Rattle.std.proofs.lemmas.Bool.Decides.{nat_tests}
use Rattle.zr_trans.specs.Writing.{writes_trans}
use Rattle.zr_trans.specs.declared.trans.Trans.TheVariants.{Fragment}
use Rattle.zr_frame.specs.Outbox.{OutboxState, advanced}
use Rattle.zr_frame.specs.Packing.{Parcels, one_parcel, before, room, fragments}
use Rattle.zr_frame.specs.Packer.{PackerState, with_batch, behind, Cuts}

abbrev pub last_one : OutboxState → List ℕ → Parcels
last_one o m = one_parcel o (writes_trans (Fragment true false o.next m))

abbrev pub full_one : OutboxState → List ℕ → List ℕ
full_one o m = writes_trans (Fragment true true o.next (take (room o) m))

-- a message that has room goes in one fragment
pub fragments_last : (most : ℕ) (o : OutboxState) (m : List ℕ) → length m ≤ room o → fragments most o m ≡ last_one o m
unfolding fragments
fragments_last zero o m h = refl
fragments_last (suc most) o m h =
    let e : nat_le (length m) (room o) ≡ true = grind (arith, nat_tests, h) in
    ap (λ (b : Bool). cond b (last_one o m) (before (one_parcel o (full_one o m)) (λ p. fragments most p (drop (room o) m)))) e

-- another one fills a batch with its front
pub fragments_more : (most : ℕ) (o : OutboxState) (m : List ℕ) → room o < length m →
    fragments (suc most) o m ≡ before (one_parcel o (full_one o m)) (λ p. fragments most p (drop (room o) m))
unfolding fragments
fragments_more most o m h =
    let e : nat_le (length m) (room o) ≡ false = grind (arith, nat_tests, h) in
    ap (λ (b : Bool). cond b (last_one o m) (before (one_parcel o (full_one o m)) (λ p. fragments most p (drop (room o) m)))) e

-- What was sent, with what is to be sent, is the whole.
abbrev pub IsSplitting : PackerState → Option (List ℕ) → PackerState → Type 0
IsSplitting all None p = p ≡ all
IsSplitting all (Some m) p = (most : ℕ) × (length m ≤ most) × (p.frame ≡ None) × (behind p (fragments most p.outbox m) ≡ all)

pub splits_from : (p : PackerState) (m : List ℕ) → p.frame ≡ None → IsSplitting (behind p (fragments (length m) p.outbox m)) (Some m) p
splits_from p m h = (length m, omega arith, h, refl)

pub splits_on : (all old new : PackerState) (m : List ℕ) (rest : Option (List ℕ)) → IsSplitting all (Some m) old → Cuts rest m old new → IsSplitting all rest new
splits_on all old new m None h c =
    c.1 ∙ ap (λ (f : Option (List ℕ)). record { outbox = advanced old.outbox; frame = f; batches = old.batches ++ writes_trans (Fragment true false old.outbox.next m) ∷ [] }) h.2
    ∙ ap (behind old) (sym (fragments_last h.0 old.outbox m c.0)) ∙ h.3
splits_on all old new m (Some rest) h c = by h.0 h.1 h.3
  where
    next : PackerState
    next = with_batch old (full_one old.outbox m)

    by : (most : ℕ) → length m ≤ most → behind old (fragments most old.outbox m) ≡ all → IsSplitting all (Some rest) new
    by zero few e = absurd (omega (arith, few, c.0))
    by (suc most) few e =
        let less : length rest ≤ most = omega (arith, few, c.1) in
        let same : behind new (fragments most new.outbox rest) ≡ behind next (fragments most (advanced old.outbox) (drop (room old.outbox) m)) =
        ap (λ (x : PackerState). behind x (fragments most x.outbox rest)) c.3
        ∙ ap (λ (r : List ℕ). behind next (fragments most (advanced old.outbox) r)) c.2 in (
          most,
          less,
          ap (λ (x : PackerState). x.frame) c.3 ∙ h.2,
          same
              ∙ ap (λ (b : List (List ℕ)). record { outbox = (fragments most (advanced old.outbox) (drop (room old.outbox) m)).outbox; frame = None; batches = b })
              (append_assoc old.batches (full_one old.outbox m ∷ []) (fragments most (advanced old.outbox) (drop (room old.outbox) m)).batches)
              ∙ ap (behind old) (sym (fragments_more most old.outbox m c.0))
              ∙ e,
        )
