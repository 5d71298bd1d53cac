-- Words that `clap` doesn't take ask for nothing.
use Rattle.std.proofs.Common.{◌≡◌, ◌∙◌, Bool, true, false, not, refl, ap, sym, List, [], ◌∷◌, Option, None, inl, inr, true≢false}
use Rattle.std.specs.Prelude.{◌||◌, ℕ, option_and_then}
use Rattle.std.specs.List.{list_any}
use Rattle.clap.specs.Kinds.{IsAmong, Kinds}
use Rattle.clap.specs.declared.error.kind.ErrorKind.{ErrorKind}
use Rattle.zr_top_words.specs.Asked.{asked_by, asked_of, faults, found, unless_fault}
use Rattle.zr_top_words.specs.Read.{is_answer, may_answer, may_refuse, IsWrong}

-- nothing is asked for where there is a fault
none_of : {A : Type 0} (p : ErrorKind → Bool) (kinds : Kinds) (x : Option A) → list_any p kinds ≡ true → unless_fault kinds x ≡ None
none_of p [] x h = absurd (true≢false (sym h))
none_of p (k ∷ ks) x h = refl

pub answer_asks_none : (words : List (List ℕ)) → may_answer words ≡ true → asked_of words ≡ None
unfolding asked_of
answer_asks_none words h = none_of is_answer (faults words) (option_and_then asked_by (found words)) h

pub refused_asks_none : (words : List (List ℕ)) → may_refuse words ≡ true → asked_of words ≡ None
unfolding asked_of
refused_asks_none words h = none_of (λ k. not (is_answer k)) (faults words) (option_and_then asked_by (found words)) h

pub wrong_asks_none : (words : List (List ℕ)) → IsWrong words → asked_of words ≡ None
wrong_asks_none words (inl h) = refused_asks_none words h.1
wrong_asks_none words (inr h) = h.1

-- where there is no fault, what is asked for is what was found
pub asks_found : (words : List (List ℕ)) → faults words ≡ [] → asked_of words ≡ option_and_then asked_by (found words)
unfolding asked_of
asks_found words none = ap (λ (k : Kinds). unless_fault k (option_and_then asked_by (found words))) none

-- a kind that is among some is found there
pub among : (p : ErrorKind → Bool) (k : ErrorKind) (kinds : Kinds) → IsAmong k kinds → p k ≡ true → list_any p kinds ≡ true
among p k [] h e = absurd h
among p k (x ∷ xs) (inl same) e = first (p x) (ap p (sym same) ∙ e)
  where
    first : (b : Bool) → b ≡ true → (b || list_any p xs) ≡ true
    first true b = refl
    first false b = absurd (true≢false (sym b))
among p k (x ∷ xs) (inr h) e = second (p x) (among p k xs h e)
  where
    second : (b : Bool) → list_any p xs ≡ true → (b || list_any p xs) ≡ true
    second true b = refl
    second false b = b
