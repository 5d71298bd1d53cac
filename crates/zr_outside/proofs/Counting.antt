-- Counts of faults over one call, and over several calls one after another.
use Rattle.std.proofs.Common.{◌≡◌, ◌∙◌, ℕ, ◌<◌, ltb, arith, Bool, true, false, Result, Ok, Err, refl, sym, subst, ◌≤◌, inl, inr}
use Rattle.std.specs.Result.{IsErrAnd}
use Rattle.std.proofs.lemmas.Bool.{ltb-true, ltb-false}
use Rattle.zr_outside.specs.Counts.{Counted, RoseOnlyBy, Rose}
use Rattle.zr_outside.specs.Piece.{IsReadToEnd}

-- a count that stands as it was has not risen
pub rose_not : {P : Type 0} (a b : ℕ) → b ≡ a → a < b → P
rose_not a b same rose = absurd (omega (arith, same, rose))

-- a count whose event didn't come stands as it was
pub counted_same : (a b : ℕ) (E : Type 0) → Counted a b E → (E → ⊥) → b ≡ a
counted_same a b E h never = by (ltb a b) refl
  where
    by : (t : Bool) → ltb a b ≡ t → b ≡ a
    by true e = absurd (never (h.only (ltb-true a b e)))
    by false e = let k = ltb-false a b e in let l = h.later in omega (arith, k, l)

-- the calls before had no fault
pub only_behind : {X E : Type 0} (fault : E) (r : Result X E) (a b c : ℕ) → b ≡ a → RoseOnlyBy fault r b c → RoseOnlyBy fault r a c
only_behind fault r a b c same h = subst (λ (z : ℕ). RoseOnlyBy fault r z c) same h

-- the same where the error of the call is handed on
pub only_stopped : {Y E : Type 0} (fault : E) (r : Result Y E) (e : E) (a b c : ℕ) → IsErrAnd r (λ x. x ≡ e) → b ≡ a → (b < c → e ≡ fault) → RoseOnlyBy fault r a c
only_stopped fault (Ok y) e a b c is same h = absurd is
only_stopped fault (Err x) e a b c is same h = λ rose. is ∙ h (subst (λ (z : ℕ). z < c) (sym same) rose)

-- no count rose, however the call ends
pub only_still : {X E : Type 0} (fault : E) (r : Result X E) (a b : ℕ) → b ≡ a → RoseOnlyBy fault r a b
only_still fault (Ok x) a b same = same
only_still fault (Err e) a b same = λ rose. absurd (omega (arith, same, rose))

-- a count that rose behind a moment rose since an earlier one
pub rose_since : (a b c : ℕ) → a ≤ b → Rose b c → Rose a c
rose_since a b c le rose = omega arith

-- what was read to its end since some moment was so since an earlier one
pub ended_since : (ends later ends' quiets later_quiets quiets' : ℕ) → ends ≤ later → quiets ≤ later_quiets → IsReadToEnd later ends' later_quiets quiets' → IsReadToEnd ends ends' quiets quiets'
ended_since ends later ends' quiets later_quiets quiets' e q (inl rose) = inl (omega (arith, e, rose))
ended_since ends later ends' quiets later_quiets quiets' e q (inr waited) = inr (omega (arith, q, waited))
