-- A word is parted at its last comma.
use Rattle.std.proofs.Common.{◌≡◌, ℕ, zero, suc, ◌+◌, ◌-◌, ◌≤◌, ◌<◌, List, length, get_or, take, drop, Option, Some, None, MatchOption, Result, Ok, Err, Bor, refl, sym, ap, ◌∙◌, inl, inr, arith, eq-eqb, ne_eqb, length-drop, get_or-drop}
use Rattle.std.specs.Prelude.{IfOk}
use Rattle.std.specs.Option.{option_map}
use Rattle.std.specs.Str.Pattern.{RFindsChar}
use Rattle.std.proofs.lemmas.Bool.{cases_eq, cond-true, cond-false}
use Rattle.std.proofs.lemmas.Str.{len_utf8_ascii}
use Rattle.std.proofs.lemmas.Str.Pattern.{NoCharPasses-char}
use Rattle.std.specs.Result.{result_ok}
use Rattle.std.specs.Path.{rfind_below, rsplit_once}
use Rattle.zr_script_spec.specs.declared.error.ScriptError.{ScriptError}
use Rattle.zr_script_spec.specs.declared.error.ScriptError.TheVariants.{UnknownCommand, BadWords, UnknownName, NameTaken, BadKey, NotLinked, AlreadyLinked, NothingThere, NotAsked, NotSettled, NotSamples, NotJoined, Limit, NoMemory}
use Rattle.zr_script_spec.specs.Step.{IsSaid}
use Rattle.zr_script_spec.specs.Words.{weight_at}
use Rattle.zr_dial.specs.Dial.{DialState, parted_dial, dial_of}

-- ---- the last comma

none_below : (c : ℕ) (text : List ℕ) (n : ℕ) → ((i : ℕ) → i < n → get_or text i 0 ≡ c → ⊥) → rfind_below c text n ≡ None
none_below c text zero h = refl
none_below c text (suc n) h = cond-false _ _ _ (ne_eqb _ c (h n (omega arith))) ∙ none_below c text n (λ i l. h i (omega arith))

last_below : (c : ℕ) (text : List ℕ) (k n : ℕ) → k < n → get_or text k 0 ≡ c → ((i : ℕ) → k < i → i < n → get_or text i 0 ≡ c → ⊥) → rfind_below c text n ≡ Some k
last_below c text k zero l at h = absurd (omega arith)
last_below c text k (suc n) l at h =
    elim (cases_eq k n) [
      | inl e ↦ cond-true _ _ _ (eq-eqb _ c (ap (λ j. get_or text j 0) (sym e) ∙ at)) ∙ ap (λ j. Some j) (sym e)
      | inr other ↦ cond-false _ _ _ (ne_eqb _ c (h n (omega arith) (omega arith))) ∙ last_below c text k n (omega arith) at (λ i a b. h i a (omega arith))
    ]

-- a text that the library parted at its last comma is parted so
pub parted : (text : List ℕ) (r : Option (Bor (List ℕ) × Bor (List ℕ)))
    → MatchOption r (RFindsChar 44 text None) (λ x. (i : ℕ) × (j : ℕ) × RFindsChar 44 text (Some (i, j)) × (x.0.now ≡ take i text) × (x.1.now ≡ drop j text) × (i ≤ j) × (length x.0.now ≡ i) × (length x.1.now + j ≡ length text))
    → option_map (λ x. (x.0.now, x.1.now)) r ≡ rsplit_once 44 text
unfolding rsplit_once
parted text None h =
    sym (ap (option_map (λ i. (take i text, drop (i + 1) text))) (none_below 44 text (length text) (λ i l. NoCharPasses-char 44 text i h (omega arith) l)))
parted text (Some x) h =
    let i = h.0 in
    let j = h.1 in
    let next : j ≡ i + 1 = omega (arith, h.2.1.ends, len_utf8_ascii 44 (omega arith)) in
    let later : (k : ℕ) → i < k → k < length text → get_or text k 0 ≡ 44 → ⊥ = λ k a l e.
    let back : j + (k - j) ≡ k = omega arith in
    NoCharPasses-char 44 (drop j text) (k - j) h.2.0 (omega arith) (omega (arith, length-drop j text)) (get_or-drop j text (k - j) 0 ∙ ap (λ n. get_or text n 0) back ∙ e) in
    let found = last_below 44 text i (length text) (omega (arith, h.7)) (h.2.1.byte (omega arith)) later in
    let second = h.4 ∙ ap (λ n. drop n text) next in
    (λ t. Some (h.3 t, second t)) ∙ sym (ap (option_map (λ k. (take k text, drop (k + 1) text))) found)

-- ---- an address and a weight

-- an address with its weight
abbrev at : List ℕ → ℕ → DialState
at address w = record { address = address; weight = w }

-- without a comma
pub whole : {E : Type 0} (word : List ℕ) (result : Result (Option DialState) E) → None ≡ rsplit_once 44 word → IfOk result (λ d. d ≡ Some (at word 1)) → IfOk result (λ d. d ≡ dial_of word)
whole word (Ok d) split h = h ∙ ap (parted_dial word) split
whole word (Err e) split h = h

-- with a weight behind it
pub weighed : {E : Type 0} (word address digits : List ℕ) (w : ℕ) (result : Result (Option DialState) E) → Some (address, digits) ≡ rsplit_once 44 word → weight_at digits ≡ Ok w
    → IfOk result (λ d. d ≡ Some (at address w)) → IfOk result (λ d. d ≡ dial_of word)
weighed word address digits w (Ok d) split is h = h ∙ (sym (ap (λ m. option_map (at address) (result_ok m)) is) ∙ ap (parted_dial word) split)
weighed word address digits w (Err e) split is h = h

-- a word that is no weight is refused
none_of : (e : ScriptError) (m : Result ℕ ScriptError) → IsSaid {X = ℕ} (Err e) m → (e ≡ NoMemory → ⊥) → result_ok m ≡ None
none_of UnknownCommand m h has = ap result_ok h
none_of BadWords m h has = ap result_ok h
none_of UnknownName m h has = ap result_ok h
none_of NameTaken m h has = ap result_ok h
none_of BadKey m h has = ap result_ok h
none_of NotLinked m h has = ap result_ok h
none_of AlreadyLinked m h has = ap result_ok h
none_of NothingThere m h has = ap result_ok h
none_of NotAsked m h has = ap result_ok h
none_of NotSettled m h has = ap result_ok h
none_of NotSamples m h has = ap result_ok h
none_of NotJoined m h has = ap result_ok h
none_of Limit m h has = ap result_ok h
none_of NoMemory m h has = absurd (has refl)

-- with something else behind it
pub unweighed : {E : Type 0} (word address digits : List ℕ) (e : ScriptError) (result : Result (Option DialState) E) → Some (address, digits) ≡ rsplit_once 44 word → IsSaid {X = ℕ} (Err e) (weight_at digits)
    → IfOk result (λ d. (d ≡ None) × (e ≡ NoMemory → ⊥)) → IfOk result (λ d. d ≡ dial_of word)
unweighed word address digits e (Ok d) split said h = h.0 ∙ (sym (ap (option_map (at address)) (none_of e (weight_at digits) said h.1)) ∙ ap (parted_dial word) split)
unweighed word address digits e (Err x) split said h = h
