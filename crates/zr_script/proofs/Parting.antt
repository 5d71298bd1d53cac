-- The first word of a text, and what is behind it.
use Rattle.std.proofs.Common.{◌≡◌, ℕ, ◌+◌, ◌-◌, ◌<◌, ◌==◌, true, nat_lt, nat_le, List, [], ◌∷◌, length, take, drop, Some, None, Err, refl, ap, subst, arith}
use Rattle.std.specs.Prelude.{position, filter, if◌then◌else◌}
use Rattle.std.proofs.lemmas.Bool.{and_parts}
use Rattle.std.proofs.lemmas.List.{take_all, length-drop, length-take}
use Rattle.std.proofs.lemmas.List.Quantifiers.{position-Some}
use Rattle.zr_lists.proofs.Cutting.{cut_some, none_cut}
use Rattle.zr_script_spec.specs.Lines.{most_line}
use Rattle.zr_script_spec.specs.declared.error.ScriptError.TheVariants.{BadWords}
use Rattle.zr_script_spec.specs.Words.{words, one_of, two_of, some_two_of, three_of, four_of, five_of}
use Rattle.zr_script.specs.Args.{none_of}
use Rattle.zr_script.specs.Short.{are_short}

-- the words behind the first are as short
pub more_short : (ws : List (List ℕ)) (w : List ℕ) (more : List (List ℕ)) → ws ≡ w ∷ more → are_short ws ≡ true → are_short more ≡ true
more_short ws w more e h = (and_parts (nat_le (length w) most_line) (are_short more) (subst (λ v. are_short v ≡ true) e h)).1

-- a text with a space: the bytes before it, and the words behind it
pub part_at : (text : List ℕ) (place : ℕ) → position (λ b. b == 32) text ≡ Some place →
    words text ≡ (if nat_lt 0 (length (take place text)) then take place text ∷ words (take (length text - (place + 1)) (drop (place + 1) text))
    else words (take (length text - (place + 1)) (drop (place + 1) text)))
part_at text place found =
    let whole : take (length text - (place + 1)) (drop (place + 1) text) ≡ drop (place + 1) text = take_all _ _ (omega (arith, length-drop (place + 1) text)) in
    rw whole (ap (filter (λ word. nat_lt 0 (length word))) (cut_some (λ b. b == 32) text place 0 found))

-- a text with none
pub part_whole : (text : List ℕ) → position (λ b. b == 32) text ≡ None → words text ≡ (if nat_lt 0 (length text) then text ∷ [] else [])
part_whole text none = ap (filter (λ word. nat_lt 0 (length word))) (none_cut (λ b. b == 32) text 0 none)

pub behind_shorter : (text : List ℕ) (place k : ℕ) → position (λ b. b == 32) text ≡ Some place → length (take k (drop (place + 1) text)) < length text
behind_shorter text place k found =
    let within = (position-Some (λ b. b == 32) text place 0 found).0 in
    omega (arith, length-take k (drop (place + 1) text), length-drop (place + 1) text)

-- with a word more than too few or too many there are too few or too many
pub one_more : (ws more : List (List ℕ)) (a : List ℕ) → ws ≡ a ∷ more → none_of more ≡ Err BadWords → one_of ws ≡ Err BadWords
one_more ws [] a e h = absurd (cc)
one_more ws (b ∷ more) a e h = ap one_of e

pub two_more : (ws more : List (List ℕ)) (a : List ℕ) → ws ≡ a ∷ more → one_of more ≡ Err BadWords → two_of ws ≡ Err BadWords
two_more ws [] a e h = ap two_of e
two_more ws (b ∷ []) a e h = absurd (cc)
two_more ws (b ∷ c ∷ more) a e h = ap two_of e

pub three_more : (ws more : List (List ℕ)) (a : List ℕ) → ws ≡ a ∷ more → two_of more ≡ Err BadWords → three_of ws ≡ Err BadWords
three_more ws [] a e h = ap three_of e
three_more ws (b ∷ []) a e h = ap three_of e
three_more ws (b ∷ c ∷ []) a e h = absurd (cc)
three_more ws (b ∷ c ∷ d ∷ more) a e h = ap three_of e

pub few_two : (ws : List (List ℕ)) → length ws < 2 → some_two_of ws ≡ Err BadWords
few_two [] le = refl
few_two (a ∷ []) le = refl
few_two (a ∷ b ∷ more) le = absurd (omega arith)

pub few_four : (ws : List (List ℕ)) → length ws < 4 → four_of ws ≡ Err BadWords
few_four [] le = refl
few_four (a ∷ []) le = refl
few_four (a ∷ b ∷ []) le = refl
few_four (a ∷ b ∷ c ∷ []) le = refl
few_four (a ∷ b ∷ c ∷ d ∷ more) le = absurd (omega arith)

pub few_five : (ws : List (List ℕ)) → length ws < 5 → five_of ws ≡ Err BadWords
few_five [] le = refl
few_five (a ∷ []) le = refl
few_five (a ∷ b ∷ []) le = refl
few_five (a ∷ b ∷ c ∷ []) le = refl
few_five (a ∷ b ∷ c ∷ d ∷ []) le = refl
few_five (a ∷ b ∷ c ∷ d ∷ e ∷ more) le = absurd (omega arith)
