-- What of a report waits to be written.
use Rattle.std.specs.Prelude.{◌≡◌, ℕ, List, ◌++◌, Option, Some, None}

-- as much of a report waits at most between two acts
abbrev pub most_pending : ℕ
most_pending = 65536

-- a prefix of the text has gone out, and the rest is to be written
abbrev pub Written : List ℕ → List ℕ → Option (List ℕ) → Option (List ℕ) → Type 0
Written text pending None after = Unit {0}
Written text pending (Some held) after = (gone : List ℕ) × (text ≡ gone ++ pending) × (after ≡ Some (held ++ gone))
