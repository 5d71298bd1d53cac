-- Where the words of a line stand, and the bytes that no line may have.
use Rattle.std.proofs.Common.{◌≡◌, ◌∙◌, ℕ, ◌+◌, ◌<◌, ◌≤◌, cond, get_or, nat_lt, ◌⊎◌, Bool, true, false, List, [], ◌∷◌, Option, Some, None, take, drop, suc, refl, sym, ap, subst, inl, inr, arith, true≢false}
use Rattle.std.specs.Prelude.{◌-◌, ◌&&◌, ◌==◌, if◌then◌else◌, length, not}
use Rattle.std.specs.List.{filter, list_all, onto_first, position_or_len, slice_get, slice_split}
use mathlib.Core.Logic.{⊎_elim}
use Rattle.std.proofs.lemmas.Bool.{cases_lt, eqb-false, eqb-true, lt-ltb, not-true, not-false, true_from_ne_false}
use Rattle.std.proofs.lemmas.Bool.Decides.{nat_tests}
use Rattle.std.proofs.lemmas.List.Quantifiers.{position-Some}
use Rattle.std.proofs.lemmas.List.Sums.{fails_before_first}
use Rattle.std.proofs.lemmas.Option.{same_Some, slice_get-get_or, slice_get_within}
use Rattle.zr_caret.specs.Shown.{place_from, place_of_word}
use Rattle.zr_script_spec.specs.Words.{is_clean, is_printable, is_space, words}
use Rattle.zr_lists.proofs.Truths.{then_of, else_of}
use Rattle.zr_script_explain.specs.Places.{odd_byte, place_of_byte, place_of_space}
use Rattle.zr_script_explain.specs.Carets.{IsWrongByte}

-- ---- behind the last word

-- the words among some parts: those that are not empty
abbrev words_of : List (List ℕ) → List (List ℕ)
words_of parts = filter (λ word. nat_lt 0 (length word)) parts

abbrev count : List (List ℕ) → ℕ
count parts = length (words_of parts)

-- the first part, and those behind it
abbrev first : List (List ℕ) → List ℕ
first [] = []
first (part ∷ parts) = part

abbrev others : List (List ℕ) → List (List ℕ)
others [] = []
others (part ∷ parts) = parts

abbrev parts : List ℕ → List (List ℕ)
parts line = slice_split (λ b. b == 32) line

-- the first part is a word once it has a byte
words_onto : (b : ℕ) (ps : List (List ℕ)) → words_of (onto_first b ps) ≡ (b ∷ first ps) ∷ words_of (others ps)
words_onto b [] = refl
words_onto b (p ∷ ps) = then_of (nat_lt 0 (length (b ∷ p))) ((b ∷ p) ∷ words_of ps) (words_of ps) (lt-ltb 0 (length (b ∷ p)) (omega arith))

count_onto : (b : ℕ) (ps : List (List ℕ)) → count (onto_first b ps) ≡ suc (count (others ps))
count_onto b ps = ap length (words_onto b ps)

first_onto : (b : ℕ) (ps : List (List ℕ)) → first (onto_first b ps) ≡ b ∷ first ps
first_onto b [] = refl
first_onto b (p ∷ ps) = refl

others_onto : (b : ℕ) (ps : List (List ℕ)) → others (onto_first b ps) ≡ others ps
others_onto b [] = refl
others_onto b (p ∷ ps) = refl

not_zero : (n : ℕ) → (n == 0) ≡ false → 0 < n
not_zero n isnt = ⊎_elim (λ more. more) (λ none. absurd (eqb-false n 0 isnt (omega arith))) (cases_lt 0 n)

-- from each place on where no word is left, the line has so many bytes: outside of a word, and within one
abbrev NoneLeft : List ℕ → ℕ → Type 0
NoneLeft line n =
    (count (parts line) ≤ n → place_from false n line ≡ length line) × (count (others (parts line)) ≤ n → place_from true n line ≡ length line)

-- no word begins behind the last
none_left : (line : List ℕ) (n : ℕ) → NoneLeft line n
none_left [] n = ((λ le. refl), (λ le. refl))
none_left (b ∷ bs) n = by (b == 32) (λ m. none_left bs m)
  where
    out : (t : Bool) → ((m : ℕ) → NoneLeft bs m) → (n == 0) ≡ t → count (onto_first b (parts bs)) ≤ n → (if t then 0 else place_from true (n - 1) bs + 1) ≡ suc (length bs)
    out true again e le = absurd (omega (arith, le, eqb-true n 0 e, count_onto b (parts bs)))
    out false again e le =
        let some : 0 < n = not_zero n e in
        let less : count (others (parts bs)) ≤ n - 1 = omega (arith, le, some, count_onto b (parts bs)) in
        omega (arith, (again (n - 1)).1 less)

    by : (t : Bool) → ((m : ℕ) → NoneLeft bs m)
        → (count (cond t ([] ∷ parts bs) (onto_first b (parts bs))) ≤ n → (if t then place_from false n bs + 1 else if n == 0 then 0 else place_from true (n - 1) bs + 1) ≡ suc (length bs))
        × (count (others (cond t ([] ∷ parts bs) (onto_first b (parts bs)))) ≤ n → (if t then place_from false n bs + 1 else place_from true n bs + 1) ≡ suc (length bs))
    by true again = ((λ le. omega (arith, (again n).0 le)), (λ le. omega (arith, (again n).0 le)))
    by false again = (
      (λ le. out (n == 0) again refl le),
      (λ le. let less : count (others (parts bs)) ≤ n = subst (λ z. count z ≤ n) (others_onto b (parts bs)) le in omega (arith, (again n).1 less)),
    )

-- where a line has no word of this number, its place is behind the line
pub behind : (line : List ℕ) (n : ℕ) → length (words line) ≤ n → place_of_word n line ≡ length line
behind line n le = (none_left line n).0 le

-- ---- a word at its place

-- some bytes stand in a line behind so many
abbrev StandsAt : List ℕ → ℕ → List ℕ → Type 0
StandsAt word at line = take (length word) (drop at line) ≡ word

one_on : (word line : List ℕ) (b at : ℕ) → StandsAt word at line → StandsAt word (at + 1) (b ∷ line)
one_on word line b at there = let next : suc at ≡ at + 1 = omega arith in subst (λ k. StandsAt word k (b ∷ line)) next there

first_stands : (line : List ℕ) → StandsAt (first (parts line)) 0 line
first_stands [] = refl
first_stands (b ∷ bs) = by (b == 32) (first_stands bs)
  where
    by : (t : Bool) → StandsAt (first (parts bs)) 0 bs → StandsAt (first (cond t ([] ∷ parts bs) (onto_first b (parts bs)))) 0 (b ∷ bs)
    by true again = refl
    by false again = subst (λ z. StandsAt z 0 (b ∷ bs)) (sym (first_onto b (parts bs))) (ap (λ z. b ∷ z) again)

abbrev Stands : List ℕ → ℕ → List ℕ → Type 0
Stands line n w =
    (slice_get (words_of (parts line)) n ≡ Some w → StandsAt w (place_from false n line) line)
    × (slice_get (words_of (others (parts line))) n ≡ Some w → StandsAt w (place_from true n line) line)

word_stands : (line : List ℕ) (n : ℕ) (w : List ℕ) → Stands line n w
word_stands [] n w = ((λ is. absurd (cc)), (λ is. absurd (cc)))
word_stands (b ∷ bs) n w = by (b == 32) (λ m. word_stands bs m w)
  where
    onto : slice_get (words_of (onto_first b (parts bs))) n ≡ Some w → slice_get ((b ∷ first (parts bs)) ∷ words_of (others (parts bs))) n ≡ Some w
    onto is = sym (ap (λ z. slice_get z n) (words_onto b (parts bs))) ∙ is

    out : (t : Bool) → ((m : ℕ) → Stands bs m w) → (n == 0) ≡ t → slice_get ((b ∷ first (parts bs)) ∷ words_of (others (parts bs))) n ≡ Some w
        → StandsAt w (if t then 0 else place_from true (n - 1) bs + 1) (b ∷ bs)
    out true again e is =
        let here : Some (b ∷ first (parts bs)) ≡ Some w = subst (λ k. slice_get ((b ∷ first (parts bs)) ∷ words_of (others (parts bs))) k ≡ Some w) (eqb-true n 0 e) is in
        subst (λ z. StandsAt z 0 (b ∷ bs)) (same_Some (b ∷ first (parts bs)) w here) (ap (λ z. b ∷ z) (first_stands bs))
    out false again e is =
        let some : 0 < n = not_zero n e in
        let next : n ≡ suc (n - 1) = omega (arith, some) in
        let later : slice_get (words_of (others (parts bs))) (n - 1) ≡ Some w = subst (λ k. slice_get ((b ∷ first (parts bs)) ∷ words_of (others (parts bs))) k ≡ Some w) next is in
        one_on w bs b (place_from true (n - 1) bs) ((again (n - 1)).1 later)

    by : (t : Bool) → ((m : ℕ) → Stands bs m w)
        → (slice_get (words_of (cond t ([] ∷ parts bs) (onto_first b (parts bs)))) n ≡ Some w
        → StandsAt w (if t then place_from false n bs + 1 else if n == 0 then 0 else place_from true (n - 1) bs + 1) (b ∷ bs))
        × (slice_get (words_of (others (cond t ([] ∷ parts bs) (onto_first b (parts bs))))) n ≡ Some w
        → StandsAt w (if t then place_from false n bs + 1 else place_from true n bs + 1) (b ∷ bs))
    by true again = ((λ is. one_on w bs b (place_from false n bs) ((again n).0 is)), (λ is. one_on w bs b (place_from false n bs) ((again n).0 is)))
    by false again = (
      (λ is. out (n == 0) again refl (onto is)),
      (λ is. one_on w bs b (place_from true n bs) ((again n).1 (sym (ap (λ z. slice_get (words_of z) n) (others_onto b (parts bs))) ∙ is))),
    )

-- the word of a number stands at the place of that number
pub stands : (line : List ℕ) (n : ℕ) (w : List ℕ) → slice_get (words line) n ≡ Some w → take (length w) (drop (place_of_word n line) line) ≡ w
stands line n w is = (word_stands line n w).0 is

-- ---- bytes

-- the test that finds the first byte which is not printable
abbrev is_odd : ℕ → Bool
is_odd b = not (is_printable b)

not_odd : (b : ℕ) → is_odd b ≡ false → is_printable b ≡ true
not_odd b isnt = not-false (is_printable b) isnt

-- a line whose bytes are not all printable has one that is not
some_odd : (line : List ℕ) → list_all is_printable line ≡ false → (k : ℕ) × (k < length line) × (is_printable (get_or line k 0) ≡ false)
some_odd [] some = absurd (true≢false some)
some_odd (b ∷ bs) some = by (is_printable b) refl (λ rest. some_odd bs rest) some
  where
    by : (t : Bool) → is_printable b ≡ t
        → (list_all is_printable bs ≡ false → (k : ℕ) × (k < length bs) × (is_printable (get_or bs k 0) ≡ false))
        → (t && list_all is_printable bs) ≡ false → (k : ℕ) × (k < length (b ∷ bs)) × (is_printable (get_or (b ∷ bs) k 0) ≡ false)
    by true e again rest = let at = again rest in (suc at.0, omega (arith, at.1), at.2)
    by false e again rest = (0, omega arith, e)

-- where the first such byte is found, it is one
found_odd : (line : List ℕ) (at : ℕ) → odd_byte line ≡ Some at → IsWrongByte line at
found_odd line at is =
    let found = position-Some is_odd line at 0 is in
    (get_or line at 0, slice_get-get_or line at 0 found.0, inl (not-true (is_printable (get_or line at 0)) found.1))

-- where none is found there is none
none_found : (line : List ℕ) → odd_byte line ≡ None → list_all is_printable line ≡ true
none_found line none = true_from_ne_false (list_all is_printable line) clash
  where
    long : (t : Bool) → nat_lt (position_or_len is_odd line) (length line) ≡ t → cond t (Some (position_or_len is_odd line)) None ≡ None → length line ≤ position_or_len is_odd line
    long true e is = cc
    long false e is = grind (arith, nat_tests)

    clash : list_all is_printable line ≡ false → ⊥
    clash some =
        let at = some_odd line some in
        let all = long (nat_lt (position_or_len is_odd line) (length line)) refl none in
        let printable = not_odd (get_or line at.0 0) (fails_before_first is_odd line at.0 0 (omega (arith, at.1))) in
        true≢false (sym printable ∙ at.2)

-- a space at the start, or else at the end
space_at : (line : List ℕ) (at : ℕ) → is_space (slice_get line at) ≡ true → (at ≡ 0) ⊎ (at ≡ length line - 1) → IsWrongByte line at
space_at line at is there = by (slice_get line at) refl is
  where
    by : (o : Option ℕ) → slice_get line at ≡ o → is_space o ≡ true → IsWrongByte line at
    by (Some b) e space = (b, e, inr (space, ⊎_elim (λ first. inl first) (λ last. inr (let within = slice_get_within line at b e in omega arith)) there))
    by None e space = absurd (true≢false (sym space))

pub wrong_byte : (line : List ℕ) → is_clean line ≡ false → IsWrongByte line (place_of_byte (odd_byte line) line)
wrong_byte line dirty = by (odd_byte line) refl
  where
    spaces : (r f l : Bool) → r ≡ true → (r && not f && not l) ≡ false → (f ≡ true) ⊎ ((f ≡ false) × (l ≡ true))
    spaces r true l is dirty = inl refl
    spaces r false true is dirty = inr (refl, refl)
    spaces true false false is dirty = absurd (true≢false dirty)
    spaces false false false is dirty = absurd (true≢false (sym is))

    at_space : (is_space (slice_get line 0) ≡ true) ⊎ ((is_space (slice_get line 0) ≡ false) × (is_space (slice_get line (length line - 1)) ≡ true)) → IsWrongByte line (place_of_space line)
    at_space (inl first) = subst (λ z. IsWrongByte line z) (sym (then_of (is_space (slice_get line 0)) 0 (length line - 1) first)) (space_at line 0 first (inl refl))
    at_space (inr last) =
        subst (λ z. IsWrongByte line z) (sym (else_of (is_space (slice_get line 0)) 0 (length line - 1) last.0)) (space_at line (length line - 1) last.1 (inr refl))

    by : (o : Option ℕ) → odd_byte line ≡ o → IsWrongByte line (place_of_byte o line)
    by (Some at) is = found_odd line at is
    by None is = at_space (spaces (list_all is_printable line) (is_space (slice_get line 0)) (is_space (slice_get line (length line - 1))) (none_found line is) dirty)
