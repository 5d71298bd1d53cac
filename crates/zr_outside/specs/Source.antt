-- What a call of a source's `read` may give, by what it says of the bytes that are left.
use Rattle.std.specs.Prelude.{◌≡◌, ℕ, ◌<◌, ◌≤◌, List, [], length, Option, IfSome}
use Rattle.zr_outside.specs.Told.{IsAsBefore, Consumes}
use Rattle.zr_outside.specs.declared.source.Got.{Got}
use Rattle.zr_outside.specs.declared.source.Got.TheVariants.{Bytes, Quiet, End, Failed}

abbrev pub IsFailed : Got → Type 0
IsFailed got = got ≡ Failed

abbrev pub IsQuiet : Got → Type 0
IsQuiet got = got ≡ Quiet

abbrev pub IsEnd : Got → Type 0
IsEnd got = got ≡ End

-- what a read gave, with the buffer and what is left before and after it
abbrev pub GetsNext : Got → List ℕ → List ℕ → Option (List ℕ) → Option (List ℕ) → Type 0
GetsNext (Bytes n) old new before after = (0 < n) × (n ≤ length old) × Consumes n new before after
GetsNext Quiet old new before after = IsAsBefore before after
GetsNext End old new before after = IsAsBefore before after × IfSome before (λ bytes. bytes ≡ [])
GetsNext Failed old new before after = IsAsBefore before after
