-- The batch at the front of a piece.
use Rattle.std.proofs.Common.{◌≡◌, ◌∙◌, ap, refl, sym, ℕ, ◌+◌, ◌-◌, ◌*◌, ◌≤◌, List, [], ◌∷◌, ◌++◌, length, take, drop, get_or, Option, Some, None, IfSome, arith}
use Rattle.std.proofs.lemmas.List.{take_all}
use Rattle.zr_frame_batch.specs.Framing.{BeginsWith}

pub split_begins : {X : Type 0} (f g : X → List ℕ) (piece : List ℕ) (n : ℕ) (r : Option X) → 2 ≤ length piece → n ≡ get_or piece 0 0 + 256 * get_or piece 1 0 →
    IfSome r (λ x. (take (length piece - 2) (drop 2 piece) ≡ f x ++ g x) × (length (f x) ≡ n)) → IfSome r (λ x. BeginsWith piece (f x) (g x))
split_begins f g piece n None long is h = tt
split_begins f g [] n (Some x) long is h = absurd (omega arith)
split_begins f g (low ∷ []) n (Some x) long is h = absurd (omega arith)
split_begins f g (low ∷ high ∷ bytes) n (Some x) long is h =
    let all : take (length (low ∷ high ∷ bytes) - 2) bytes ≡ bytes = take_all (length (low ∷ high ∷ bytes) - 2) bytes (omega arith) in
    let split : bytes ≡ f x ++ g x = sym all ∙ h.0 in
    (low ∷ high ∷ f x, ap (λ z. low ∷ high ∷ z) split, (low, high, refl, h.1 ∙ is))
