-- Words taken from a text.
use Rattle.std.specs.Prelude.{◌≡◌, ℕ, Bool, List, [], ◌∷◌, Result, Ok, Err}
use Rattle.zr_msg.specs.declared.msg.Kinds.{Kinds}
use Rattle.zr_script_spec.specs.declared.command.Command.{Command}
use Rattle.zr_script_spec.specs.declared.command.Mode.{Mode}
use Rattle.zr_script_spec.specs.declared.error.ScriptError.{ScriptError}
use Rattle.zr_script_spec.specs.declared.error.ScriptError.TheVariants.{BadWords}
use Rattle.zr_script_spec.specs.Step.{◌>>=◌, IsSaid}
use Rattle.zr_script_spec.specs.Words.{two_of, some_two_of, three_of, zid_at, number_at, link_weight_at, key_at, mode_at, kinds_at, aggregate_at}

-- that there are no words
abbrev pub none_of : List (List ℕ) → Result (Unit {0}) ScriptError
none_of [] = Ok tt
none_of (w ∷ ws) = Err BadWords

-- what was taken are the words that there are; else it is said that the words do not fit
abbrev pub Takes : {X Y : Type 0} → (X → List (List ℕ)) → Result X ScriptError → Result Y ScriptError → List (List ℕ) → Type 0
Takes shape (Ok x) said words = words ≡ shape x
Takes shape (Err e) said words = (e ≡ BadWords) × (said ≡ Err BadWords)

-- what was read leads on, whatever comes then: what is said is what comes of it, or the refusal
abbrev pub LeadsOn : {X : Type 0} → Result X ScriptError → ((X → Result Command ScriptError) → Result Command ScriptError) → Type 0
LeadsOn (Ok x) said = (then : _) → said then ≡ then x
LeadsOn (Err e) said = (then : _) → IsSaid (Err e) (said then)

-- a name and a number
abbrev pub numbered_then : List ℕ → List ℕ → (List ℕ × ℕ → Result Command ScriptError) → Result Command ScriptError
numbered_then name number then = do
  a ← zid_at name
  n ← number_at number
  then (a, n)

-- two words, which are names
abbrev pub names_then : List (List ℕ) → (List ℕ × List ℕ → Result Command ScriptError) → Result Command ScriptError
names_then words then = do
  w ← two_of words
  a ← zid_at w.0
  b ← zid_at w.1
  then (a, b)

-- two words, which are names, and the words behind them, which may be a weight
abbrev pub linked_then : List (List ℕ) → (List ℕ × List ℕ × ℕ → Result Command ScriptError) → Result Command ScriptError
linked_then words then = do
  w ← some_two_of words
  a ← zid_at w.0
  b ← zid_at w.1
  weight ← link_weight_at w.2
  then (a, b, weight)

-- two words, a name and a number
abbrev pub pair_then : List (List ℕ) → (List ℕ × ℕ → Result Command ScriptError) → Result Command ScriptError
pair_then words then = two_of words >>= (λ w. numbered_then w.0 w.1 then)

-- three words, a name, a number and a key
abbrev pub keyed_then : List (List ℕ) → (List ℕ × ℕ × List ℕ → Result Command ScriptError) → Result Command ScriptError
keyed_then words then = do
  w ← three_of words
  a ← zid_at w.0
  n ← number_at w.1
  key ← key_at w.2
  then (a, n, key)

-- two words of an interest, and the words behind its key
abbrev pub terms_then : List ℕ → List ℕ → List (List ℕ) → (Mode × Kinds × Bool → Result Command ScriptError) → Result Command ScriptError
terms_then mode kinds behind then = do
  m ← mode_at mode
  k ← kinds_at kinds
  all ← aggregate_at behind
  then (m, k, all)
