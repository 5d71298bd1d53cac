-- What the words ask for, part by part.
use Rattle.std.proofs.Common.{◌≡◌, sym, ap, List, ℕ, None, Result, Ok, Err}
use Rattle.std.specs.Prelude.{IfErr, IfOk, option_and_then}
use Rattle.zr_top_words.specs.declared.plan.Plan.{Plan}
use Rattle.zr_top_words.specs.declared.plan.WordsError.{WordsError}
use Rattle.zr_top_words.specs.declared.plan.WordsError.TheVariants as error
use Rattle.zr_top_words.specs.Asked.{asked_of, made_of, make_part, net_of, net_part, serve_part, served_of}
use Rattle.zr_top_words.specs.Read.{asked_as, AsksNone, Reads}
use Rattle.zr_top_words.proofs.Causes.{answer_asks_none, wrong_asks_none}

pub net_is : (words : List (List ℕ)) (r : Result Plan WordsError) → Reads words r → IfOk r (λ p. net_part (asked_as p) ≡ net_of words)
net_is words (Ok p) h = sym (ap (option_and_then net_part) h)
net_is words (Err e) h = tt

pub serve_is : (words : List (List ℕ)) (r : Result Plan WordsError) → Reads words r → IfOk r (λ p. serve_part (asked_as p) ≡ served_of words)
serve_is words (Ok p) h = sym (ap (option_and_then serve_part) h)
serve_is words (Err e) h = tt

pub make_is : (words : List (List ℕ)) (r : Result Plan WordsError) → Reads words r → IfOk r (λ p. make_part (asked_as p) ≡ made_of words)
make_is words (Ok p) h = sym (ap (option_and_then make_part) h)
make_is words (Err e) h = tt

nothing : (words : List (List ℕ)) → asked_of words ≡ None → (net_of words ≡ None) × (served_of words ≡ None) × (made_of words ≡ None)
nothing words h = (ap (option_and_then net_part) h, ap (option_and_then serve_part) h, ap (option_and_then make_part) h)

pub none_is : (words : List (List ℕ)) (r : Result Plan WordsError) → Reads words r → IfErr r (λ e. AsksNone e words)
none_is words (Ok p) h = tt
none_is words (Err (error.Told text)) h = nothing words (answer_asks_none words h)
none_is words (Err error.Wrong) h = nothing words (wrong_asks_none words h)
none_is words (Err error.NoMemory) h = tt
