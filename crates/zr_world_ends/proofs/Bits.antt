-- The first mark, by words: the lowest bit of the first word that is not 0.
use Rattle.std.proofs.Common.{◌≡◌, ℕ, zero, suc, ◌+◌, ◌*◌, ◌/◌, ◌%◌, ◌<◌, ◌≢◌, ◌==◌, Bool, true, false, not, cond, nat_lt, List, [], ◌∷◌, is_some, length, get_or, Some, None, refl, sym, ap, ◌∙◌, arith}
use Rattle.std.specs.Int.{bit_at}
use Rattle.std.specs.List.{position, position_or_len}
use Rattle.std.proofs.lemmas.Bool.{eqb-true, eqb-false, ltb-false, true≢false}
use Rattle.std.proofs.lemmas.List.Quantifiers.{position-Some}
use Rattle.std.proofs.lemmas.List.Sums.{fails_before_first}
use Rattle.std.proofs.lemmas.Nat.Bits.{bit_at-zero}
use Rattle.zr_world_ends.specs.Index.{has_mark}

abbrev pub is_some_word : ℕ → Bool
is_some_word w = not (w == 0)

is_zero : (w : ℕ) → is_some_word w ≡ false → w ≡ 0
is_zero w h = by (w == 0) refl h
  where
    by : (b : Bool) → (w == 0) ≡ b → not b ≡ false → w ≡ 0
    by true e k = eqb-true w 0 e
    by false e k = absurd (true≢false k)

pub is_above : (w : ℕ) → is_some_word w ≡ true → 0 < w
is_above zero h = absurd (true≢false (sym h))
is_above (suc w) h = omega arith

-- no place in a word without bits is marked
pub unmarked : (words : List ℕ) (q : ℕ) → is_some_word (get_or words (q / 64) 0) ≡ false → has_mark words q ≡ false
unmarked words q h = ap (λ w. bit_at w (q % 64) == 1) (is_zero (get_or words (q / 64) 0) h) ∙ ap (λ b. b == 1) (bit_at-zero (q % 64))

module _ (words : List ℕ) (at bit : ℕ) (within : bit < 64) where
  word_is : (at * 64 + bit) / 64 ≡ at
  word_is = omega arith

  bit_is : (at * 64 + bit) % 64 ≡ bit
  bit_is = omega arith

  pub marked_there : bit_at (get_or words at 0) bit ≡ 1 → has_mark words (at * 64 + bit) ≡ true
  marked_there h = rw (word_is, bit_is, h) refl

  pub none_before : position is_some_word words ≡ Some at → ((q : ℕ) → q < bit → bit_at (get_or words at 0) q ≡ 0) → (q : ℕ) → q < at * 64 + bit → has_mark words q ≡ false
  none_before found least q lt = by (q / 64 == at) refl
    where
      by : (b : Bool) → (q / 64 == at) ≡ b → has_mark words q ≡ false
      by true e =
          let same : q / 64 ≡ at = eqb-true (q / 64) at e in
          let below : q % 64 < bit = omega (arith, same) in
          ap (λ w. bit_at (get_or words w 0) (q % 64) == 1) same ∙ ap (λ b. b == 1) (least (q % 64) below)
      by false e =
          let apart : q / 64 ≢ at = eqb-false (q / 64) at e in
          let below : q / 64 < at = omega (arith, apart, lt) in
          unmarked words q ((position-Some is_some_word words at 0 found).2 (q / 64) below)

-- where each word is 0 nothing is marked
no_word : (words : List ℕ) (k : ℕ) → ((j : ℕ) → j < length words → is_some_word (get_or words j 0) ≡ false) → is_some_word (get_or words k 0) ≡ false
no_word [] k h = refl
no_word (w ∷ ws) zero h = h 0 (omega arith)
no_word (w ∷ ws) (suc k) h = no_word ws k (λ j lt. h (suc j) (omega arith))

pub none_marked : (words : List ℕ) → position is_some_word words ≡ None → (q : ℕ) → has_mark words q ≡ false
none_marked words none q = unmarked words q (no_word words (q / 64) (λ j lt. fails_before_first is_some_word words j 0 (by (nat_lt (position_or_len is_some_word words) (length words)) refl none j lt)))
  where
    by : (b : Bool) → nat_lt (position_or_len is_some_word words) (length words) ≡ b → cond b (Some (position_or_len is_some_word words)) None ≡ None → (j : ℕ) → j < length words →
        j < position_or_len is_some_word words
    by true e n j lt = absurd (true≢false (ap is_some n))
    by false e n j lt = let le = ltb-false (position_or_len is_some_word words) (length words) e in omega (arith, le, lt)
