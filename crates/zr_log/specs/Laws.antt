-- What follows of change logs, for the proofs above.
use Rattle.std.specs.Prelude.{◌≡◌, ℕ, ◌+◌, ◌≤◌, List, ◌∷◌, ◌++◌, length}
use Rattle.zr_log_set.specs.Decls.{IsSet}
use Rattle.zr_log.specs.Log.{Change, changed, known}

-- what is known after a number of changes stays so when the log grows
abbrev pub KnownStays : Type 0
KnownStays = (log more : List Change) (n : ℕ) → n ≤ length log → known (log ++ more) n ≡ known log n

-- the next change leads from what is known before it to what is known after it
abbrev pub KnownGrows : Type 0
KnownGrows = (before after : List Change) (c : Change) → known (before ++ c ∷ after) (length before + 1) ≡ changed (known (before ++ c ∷ after) (length before)) c

-- what is known is a set
abbrev pub KnownAreSets : Type 0
KnownAreSets = (log : List Change) (n : ℕ) → IsSet (known log n)
