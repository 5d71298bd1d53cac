-- The words of a line are no longer than the line.
use Rattle.std.proofs.Common.{◌≡◌, ℕ, ◌≤◌, ◌<◌, ◌^◌, ◌==◌, Bool, true, false, cond, nat_lt, nat_le, List, [], ◌∷◌, length, refl, subst, arith}
use Rattle.std.specs.List.{list_all, filter, slice_split, onto_first}
use Rattle.std.proofs.lemmas.Bool.{and_parts, and_from, leb-true, le-leb}
use Rattle.zr_script_spec.specs.Lines.{most_line}
use Rattle.zr_script_spec.specs.Words.{words, payload_at, is_word}
use Rattle.zr_script.specs.Short.{are_short}

abbrev within : ℕ → List (List ℕ) → Bool
within most ws = list_all (λ w. nat_le (length w) most) ws

within_more : (m n : ℕ) (ws : List (List ℕ)) → m ≤ n → within m ws ≡ true → within n ws ≡ true
within_more m n [] le h = refl
within_more m n (w ∷ ws) le h =
    let parts = and_parts (nat_le (length w) m) (within m ws) h in
    let short : length w ≤ m = leb-true (length w) m parts.0 in
    and_from (nat_le (length w) n) (within n ws) (le-leb (length w) n (omega arith)) (within_more m n ws le parts.1)

-- the parts of a list are no longer than the list
parts_short : (p : ℕ → Bool) (xs : List ℕ) → within (length xs) (slice_split p xs) ≡ true
parts_short p [] = and_from (nat_le 0 0) true (le-leb 0 0 (omega arith)) refl
parts_short p (x ∷ xs) = by (p x) (parts_short p xs)
  where
    onto : (ps : List (List ℕ)) → within (length xs) ps ≡ true → within (length (x ∷ xs)) (onto_first x ps) ≡ true
    onto [] h = and_from (nat_le (length (x ∷ [])) (length (x ∷ xs))) true (le-leb (length (x ∷ [])) (length (x ∷ xs)) (omega arith)) refl
    onto (w ∷ ws) h =
        let parts = and_parts (nat_le (length w) (length xs)) (within (length xs) ws) h in
        let short : length w ≤ length xs = leb-true (length w) (length xs) parts.0 in
        and_from (nat_le (length (x ∷ w)) (length (x ∷ xs))) (within (length (x ∷ xs)) ws) (le-leb (length (x ∷ w)) (length (x ∷ xs)) (omega arith))
        (within_more (length xs) (length (x ∷ xs)) ws (omega arith) parts.1)

    by : (t : Bool) → within (length xs) (slice_split p xs) ≡ true → within (length (x ∷ xs)) (cond t ([] ∷ slice_split p xs) (onto_first x (slice_split p xs))) ≡ true
    by true h =
        and_from (nat_le 0 (length (x ∷ xs))) (within (length (x ∷ xs)) (slice_split p xs)) (le-leb 0 (length (x ∷ xs)) (omega arith))
        (within_more (length xs) (length (x ∷ xs)) (slice_split p xs) (omega arith) h)
    by false h = onto (slice_split p xs) h

filter_within : (most : ℕ) (q : List ℕ → Bool) (ws : List (List ℕ)) → within most ws ≡ true → within most (filter q ws) ≡ true
filter_within most q [] h = refl
filter_within most q (w ∷ ws) h = by (q w) (filter_within most q ws parts.1)
  where
    parts : (nat_le (length w) most ≡ true) × (within most ws ≡ true)
    parts = and_parts (nat_le (length w) most) (within most ws) h

    by : (t : Bool) → within most (filter q ws) ≡ true → within most (cond t (w ∷ filter q ws) (filter q ws)) ≡ true
    by true k = and_from (nat_le (length w) most) (within most (filter q ws)) parts.0 k
    by false k = k

pub words_short : (line : List ℕ) → length line ≤ most_line → are_short (words line) ≡ true
words_short line le =
    filter_within most_line (λ word. nat_lt 0 (length word)) (slice_split (λ b. b == 32) line)
    (within_more (length line) most_line (slice_split (λ b. b == 32) line) le (parts_short (λ b. b == 32) line))

-- a payload that a short word spells is short enough for a body
payload_short : (word : List ℕ) → length word ≤ most_line → length (payload_at word) < 2 ^ 32
payload_short word short = by (is_word word (45 ∷ []))
  where
    by : (t : Bool) → length (cond t [] word) < 2 ^ 32
    by true = omega arith
    by false = omega (arith, short)

-- the payload of the third of three words is short enough for a body
pub third_short : (args : List (List ℕ)) (a b c : List ℕ) → are_short args ≡ true → args ≡ a ∷ b ∷ c ∷ [] → length (payload_at c) < 2 ^ 32
third_short args a b c h e =
    let all : are_short (a ∷ b ∷ c ∷ []) ≡ true = subst (λ ws. are_short ws ≡ true) e h in
    let first = and_parts (nat_le (length a) most_line) (are_short (b ∷ c ∷ [])) all in
    let second = and_parts (nat_le (length b) most_line) (are_short (c ∷ [])) first.1 in
    let third = and_parts (nat_le (length c) most_line) true second.1 in
    payload_short c (leb-true (length c) most_line third.0)

-- so is that of the fourth word
pub fourth_short : (args more : List (List ℕ)) (a b c d : List ℕ) → are_short args ≡ true → args ≡ a ∷ b ∷ c ∷ d ∷ more → length (payload_at d) < 2 ^ 32
fourth_short args more a b c d h e =
    let all : are_short (a ∷ b ∷ c ∷ d ∷ more) ≡ true = subst (λ ws. are_short ws ≡ true) e h in
    let first = and_parts (nat_le (length a) most_line) (are_short (b ∷ c ∷ d ∷ more)) all in
    let second = and_parts (nat_le (length b) most_line) (are_short (c ∷ d ∷ more)) first.1 in
    let third = and_parts (nat_le (length c) most_line) (are_short (d ∷ more)) second.1 in
    let fourth = and_parts (nat_le (length d) most_line) (are_short more) third.1 in
    payload_short d (leb-true (length d) most_line fourth.0)
