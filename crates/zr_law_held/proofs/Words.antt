-- What words have to do with the bytes that they stand in, and numbers with the bytes that spell them.
use Rattle.std.proofs.Common.{◌≡◌, ◌≤◌, ◌<◌, ◌+◌, ◌/◌, ℕ, zero, suc, ◌*◌, ◌%◌, ◌^◌, Bool, true, false, cond, List, [], ◌∷◌, length, Some, Ok, refl, ap, arith}
use Rattle.std.specs.Prelude.{nat_eq, nat_lt, nat_le, not, ◌&&◌, ◌==◌}
use Rattle.std.specs.Cmp.Lexicographic.{pointwise}
use Rattle.std.specs.List.{list_all, sum_by}
use Rattle.std.proofs.lemmas.Bool.{false≢true, and_parts, ltb-true, ltb-false, leb-true}
use Rattle.std.proofs.lemmas.List.Splits.{length-slice_split}
use Rattle.std.proofs.lemmas.List.Sums.{sum_by-cons, sum_by-append}
use Rattle.zr_id.specs.Zid.{zid_of_hex}
use Rattle.zr_key.specs.Key.{read_key}
use Rattle.zr_key.proofs.Reading.{Sound-from_read}
use Rattle.zr_key.proofs.Text.{LeadsTo-length}
use Rattle.zr_key.specs.Key.{expression_of, canonical}
use Rattle.zr_bytes.specs.Number.{writes_within, writes}
use Rattle.zr_script_spec.specs.Lines.{parts, all_but_last, last_part, ended_lines, open_line, unless_empty}
use Rattle.zr_law_carried.proofs.Words.{split_sum, with_end, zid_named}
use Rattle.zr_law_held.specs.Lines.{LinesAreWithin}

-- ---- parts

ends_apart : (ps : List (List ℕ)) → sum_by with_end ps ≡ sum_by length ps + length ps
ends_apart [] = refl
ends_apart (p ∷ ps) = omega (arith, sum_by-cons with_end p ps, sum_by-cons length p ps, ends_apart ps)

last_apart : (ps : List (List ℕ)) → sum_by length (all_but_last ps) + length (last_part ps) ≡ sum_by length ps
last_apart [] = refl
last_apart (p ∷ []) = omega (arith, sum_by-cons length p [])
last_apart (p ∷ q ∷ ps) = omega (arith, sum_by-cons length p (all_but_last (q ∷ ps)), sum_by-cons length p (q ∷ ps), last_apart (q ∷ ps))

pub lines_are_within : LinesAreWithin
lines_are_within bytes = omega (
  arith,
  sum_by-append length (ended_lines bytes) (unless_empty (open_line bytes)),
  one (open_line bytes),
  last_apart (parts bytes),
  ends_apart (parts bytes),
  split_sum (λ b. b == 10) bytes,
  length-slice_split (λ b. b == 10) bytes,
)
  where
    one : (l : List ℕ) → sum_by length (unless_empty l) ≡ length l
    one [] = refl
    one (b ∷ bs) = omega (arith, sum_by-cons length (b ∷ bs) [])

-- ---- words

pub word_length : (a b : List ℕ) → pointwise nat_eq a b ≡ true → length a ≡ length b
word_length [] [] e = refl
word_length [] (y ∷ b) e = absurd (false≢true e)
word_length (x ∷ a) [] e = absurd (false≢true e)
word_length (x ∷ a) (y ∷ b) e = omega (arith, word_length a b (and_parts (nat_eq x y) (pointwise nat_eq a b) e).1)

-- a word that names someone is twice as long as the identifier, which has at most sixteen bytes
pub zid_length : (word id : List ℕ) → zid_of_hex word ≡ Some id → (length word ≡ 2 * length id) × (1 ≤ length id) × (length id ≤ 16)
zid_length word id e =
    let named = zid_named word id e in
    let parts = and_parts (nat_lt 0 (length id) && nat_le (length id) 16) (not (list_all (λ b. b == 0) id)) named.1 in
    let both = and_parts (nat_lt 0 (length id)) (nat_le (length id) 16) parts.0 in
    let some = ltb-true 0 (length id) both.0 in
    let short = leb-true (length id) 16 both.1 in
    (named.0, omega (arith, some), omega (arith, short))

-- the canonical form of a key is no longer than what spells it
pub key_length : (word key : List ℕ) → read_key word ≡ Ok key → length key ≤ length word
key_length word key e =
    let s = Sound-from_read word key e in
    omega (arith, ap length s.text_is, LeadsTo-length (expression_of word) (canonical (expression_of word)) s.leads s.spelling.expression, ap length s.spelling.spells)

-- ---- numbers

module _ (n bound : ℕ) (high : (more v : ℕ) → v < bound → length (writes_within more v) ≤ n) where
  one_more : (more v : ℕ) → v < 128 * bound → length (writes_within more v) ≤ n + 1
  unfolding writes_within
  one_more zero v less = omega (arith, some)
    where
      some : 1 ≤ n + 1
      some = omega arith
  one_more (suc more) v less = by (nat_lt v 128) (high more (v / 128) (omega (arith, less)))
    where
      by : (t : Bool) → length (writes_within more (v / 128)) ≤ n → length (cond t (v ∷ []) ((v % 128 + 128) ∷ writes_within more (v / 128))) ≤ n + 1
      by true ih = omega arith
      by false ih = omega (arith, ih)

first : (more v : ℕ) → v < 128 → length (writes_within more v) ≤ 1
unfolding writes_within
first zero v less = omega arith
first (suc more) v less = by (nat_lt v 128) refl
  where
    by : (t : Bool) → nat_lt v 128 ≡ t → length (cond t (v ∷ []) ((v % 128 + 128) ∷ writes_within more (v / 128))) ≤ 1
    by true e = omega arith
    by false e = let not_less : 128 ≤ v = ltb-false v 128 e in absurd (omega (arith, less, not_less))

second : (more v : ℕ) → v < 16384 → length (writes_within more v) ≤ 2
second = one_more 1 128 first

third : (more v : ℕ) → v < 2097152 → length (writes_within more v) ≤ 3
third = one_more 2 16384 second

fourth : (more v : ℕ) → v < 268435456 → length (writes_within more v) ≤ 4
fourth = one_more 3 2097152 third

fifth : (more v : ℕ) → v < 34359738368 → length (writes_within more v) ≤ 5
fifth = one_more 4 268435456 fourth

pub small_number : (v : ℕ) → v < 128 → length (writes v) ≤ 1
small_number v less = first 8 v less

pub short_number : (v : ℕ) → v < 16384 → length (writes v) ≤ 2
short_number v less = second 8 v less

pub number_of_time : (v : ℕ) → v < 2 ^ 32 → length (writes v) ≤ 5
number_of_time v less = fifth 8 v (omega (arith, less))
