-- What `clap` found, and how it failed, over the program's own commands.
use Rattle.std.proofs.Common.{◌≡◌, ◌∙◌, ◌⊎◌, Bool, true, false, not, refl, ap, sym, subst, List, [], Option, Result, Ok, Err, inl, inr, true≢false}
use Rattle.std.specs.Prelude.{ℕ, option_and_then}
use Rattle.clap.proofs.OnLiterals.{clap_on_literals}
use Rattle.clap.specs.Kinds.{HasKind, IsAmong}
use Rattle.clap.specs.Walk.{Row}
use Rattle.clap.specs.Simple.{App, HasMatchesOf, is_simple, subcommand_of, subcommand_rows_of}
use Rattle.clap.specs.Takes.{takes}
use Rattle.clap.specs.Faults.{fault_of, is_simple_and_free}
use Rattle.clap.specs.declared.error.Error.{Error}
use Rattle.clap.specs.declared.error.kind.ErrorKind.{ErrorKind}
use Rattle.clap.specs.declared.error.kind.ErrorKind.TheVariants.{OutOfMemory}
use Rattle.clap.specs.declared.parser.matches.ArgMatches.{ArgMatches}
use Rattle.zr_top_words.specs.App.{app}
use Rattle.zr_top_words.specs.Asked.{asked_by, faults, found, is_promised}
use Rattle.zr_top_words.specs.Read.{is_answer, IsCause, PlansOf, Reads, Refuses}
use Rattle.zr_top_words.specs.declared.plan.Plan.{Plan}
use Rattle.zr_top_words.specs.declared.plan.WordsError.{WordsError}
use Rattle.zr_top_words.specs.declared.plan.WordsError.TheVariants as error
use Rattle.zr_top_words.proofs.Causes.{among, asks_found}

app_is_simple : is_simple app ≡ true
unfolding app clap_on_literals
app_is_simple = refl

app_is_free : is_simple_and_free app ≡ true
unfolding app clap_on_literals
app_is_free = refl

pub finds : (a : App) (words : List (List ℕ)) (m : ArgMatches) → a ≡ app → HasMatchesOf a words m → subcommand_rows_of m ≡ found words
unfolding found
finds a words m e h = (h (ap is_simple e ∙ app_is_simple)).1 ∙ ap (λ x. subcommand_of x words) e

pub no_fault : (a : App) (words : List (List ℕ)) → a ≡ app → (is_simple_and_free a ≡ true → fault_of a words ≡ []) → faults words ≡ []
unfolding faults
no_fault a words e h = sym (ap (λ x. fault_of x words) e) ∙ h (ap is_simple_and_free e ∙ app_is_free)

pub some_fault : (a : App) (words : List (List ℕ)) (e : Error) → a ≡ app → (is_simple_and_free a ≡ true → HasKind (fault_of a words) e)
    → HasKind (faults words) e
unfolding faults
some_fault a words e same h = subst (λ (x : App). HasKind (fault_of x words) e) same (h (ap is_simple_and_free same ∙ app_is_free))

pub promises : (a : App) (words : List (List ℕ)) (k : ErrorKind) → a ≡ app → (takes a words ≡ true → k ≡ OutOfMemory)
    → is_promised words ≡ true → k ≡ OutOfMemory
unfolding is_promised
promises a words k e h p = h (ap (λ x. takes x words) e ∙ p)

-- the plan is what the words ask for
pub reads_plan : (words : List (List ℕ)) (f : Option (List ℕ × List Row)) (r : Result Plan WordsError) → faults words ≡ [] → f ≡ found words
    → PlansOf (option_and_then asked_by f) r → Reads words r
reads_plan words f (Ok p) none same h = asks_found words none ∙ ap (option_and_then asked_by) (sym same) ∙ h
reads_plan words f (Err (error.Told text)) none same h = absurd h
reads_plan words f (Err error.Wrong) none same h = inr (none, asks_found words none ∙ ap (option_and_then asked_by) (sym same) ∙ h)
reads_plan words f (Err error.NoMemory) none same h = tt

is_false : (b : Bool) → (b ≡ true → ⊥) → b ≡ false
is_false true h = absurd (h refl)
is_false false h = refl

no_answer : (k : ErrorKind) → k ≡ OutOfMemory → is_answer k ≡ true → ⊥
no_answer k e h = true≢false (sym h ∙ ap is_answer e)

-- the words are at fault
pub causes : (words : List (List ℕ)) (k : ErrorKind) (e : WordsError) → Refuses k e → (k ≡ OutOfMemory) ⊎ IsAmong k (faults words)
    → (is_promised words ≡ true → k ≡ OutOfMemory) → IsCause e words
causes words k (error.Told text) h (inl m) p = absurd (no_answer k m h)
causes words k (error.Told text) h (inr a) p = among is_answer k (faults words) a h
causes words k error.Wrong h (inl m) p = absurd (h.1 m)
causes words k error.Wrong h (inr a) p =
    inl (is_false (is_promised words) (λ t. h.1 (p t)), among (λ x. not (is_answer x)) k (faults words) a (ap not h.0))
causes words k error.NoMemory h how p = tt
