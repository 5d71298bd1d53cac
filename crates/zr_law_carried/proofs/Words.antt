-- What the words of a line have to do with its bytes, and a name with the word that spells it.
use Rattle.std.proofs.Common.{◌≡◌, ◌≤◌, ◌+◌, ℕ, ◌*◌, Bool, true, false, cond, List, [], ◌∷◌, length, Result, Option, Some, None, Ok, Err, refl, sym, ap, ◌∙◌, arith}
use Rattle.std.specs.Prelude.{nat_lt, nat_le, ◌&&◌, ◌==◌}
use Rattle.std.specs.List.{slice_split, onto_first, list_all, sum_by}
use Rattle.std.proofs.lemmas.List.Splits.{length-slice_split}
use Rattle.std.proofs.lemmas.List.Sums.{sum_by-cons}
use Rattle.hex.specs.Hex.{decode_of}
use Rattle.hex.specs.declared.error.FromHexError.{FromHexError}
use Rattle.hex.proofs.HexLemmas.{decode_of-ok}
use Rattle.zr_id.specs.Zid.{is_zid, is_lower_hex, valid_zid, zid_of_hex}
use Rattle.zr_key.specs.Key.{read_key}
use Rattle.zr_key.specs.declared.key.KeyError.{KeyError}
use Rattle.zr_lists.proofs.Sums.{filter_sum}
use Rattle.zr_script_spec.specs.Words.{words, zid_of_word, zid_at, key_of_word, key_at}

-- ---- parts

-- a part with the byte that ends it
abbrev pub with_end : List ℕ → ℕ
with_end part = length part + 1

onto_sum : (b : ℕ) (ps : List (List ℕ)) → 1 ≤ length ps → sum_by with_end (onto_first b ps) ≡ sum_by with_end ps + 1
onto_sum b [] h = absurd (omega arith)
onto_sum b (p ∷ ps) h = omega (arith, sum_by-cons with_end (b ∷ p) ps, sum_by-cons with_end p ps)

pub split_sum : (test : ℕ → Bool) (bytes : List ℕ) → sum_by with_end (slice_split test bytes) ≡ length bytes + 1
split_sum test [] = refl
split_sum test (b ∷ bytes) = by (test b) (split_sum test bytes)
  where
    some : 1 ≤ length (slice_split test bytes)
    some = omega (arith, length-slice_split test bytes)

    by : (t : Bool) → sum_by with_end (slice_split test bytes) ≡ length bytes + 1 → sum_by with_end (cond t ([] ∷ slice_split test bytes) (onto_first b (slice_split test bytes))) ≡ length (b ∷ bytes) + 1
    by true ih = omega (arith, sum_by-cons with_end [] (slice_split test bytes), ih)
    by false ih = omega (arith, onto_sum b (slice_split test bytes) some, ih)

-- the words of a line, each with what parts it from the next one
pub words_fit : (line : List ℕ) → sum_by with_end (words line) ≤ length line + 1
words_fit line = omega (arith, filter_sum with_end (λ word. nat_lt 0 (length word)) (slice_split (λ b. b == 32) line), split_sum (λ b. b == 32) line)

-- ---- names

-- a word that names someone is twice as long as the identifier
pub zid_named : (word id : List ℕ) → zid_of_hex word ≡ Some id → (length word ≡ 2 * length id) × (is_zid id ≡ true)
zid_named word id e = by (nat_le (length word) 32 && list_all is_lower_hex word) e
  where
    valid : (t : Bool) (bytes : List ℕ) → is_zid bytes ≡ t → decode_of word ≡ Ok bytes → cond t (Some bytes) None ≡ Some id → (length word ≡ 2 * length id) × (is_zid id ≡ true)
    valid true bytes z d k = let same : bytes ≡ id = cc in (omega (arith, (decode_of-ok word bytes d).2, ap length same), ap is_zid (sym same) ∙ z)
    valid false bytes z d k = absurd (cc)

    read : (r : Result (List ℕ) FromHexError) → decode_of word ≡ r → valid_zid r ≡ Some id → (length word ≡ 2 * length id) × (is_zid id ≡ true)
    read (Ok bytes) d k = valid (is_zid bytes) bytes refl d k
    read (Err f) d k = absurd (cc)

    by : (t : Bool) → cond t (valid_zid (decode_of word)) None ≡ Some id → (length word ≡ 2 * length id) × (is_zid id ≡ true)
    by true k = read (decode_of word) refl k
    by false k = absurd (cc)

pub zid_word : (word id : List ℕ) → zid_at word ≡ Ok id → zid_of_hex word ≡ Some id
zid_word word id e = by (zid_of_hex word) e
  where
    by : (o : Option (List ℕ)) → zid_of_word o ≡ Ok id → o ≡ Some id
    by None k = absurd (cc)
    by (Some z) k = cc

pub key_word : (word key : List ℕ) → key_at word ≡ Ok key → read_key word ≡ Ok key
key_word word key e = by (read_key word) e
  where
    by : (r : Result (List ℕ) KeyError) → key_of_word r ≡ Ok key → r ≡ Ok key
    by (Err f) k = absurd (cc)
    by (Ok z) k = cc
