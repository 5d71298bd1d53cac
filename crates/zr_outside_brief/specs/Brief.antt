-- What a brief write may give, by what a sink says of the bytes that it holds.
use Rattle.std.specs.Prelude.{◌≡◌, ℕ, ◌<◌, ◌≤◌, List, length, take, Option}
use Rattle.zr_outside.specs.Told.{IsAsBefore, Appends}
use Rattle.zr_outside_brief.specs.declared.brief.Brief.{Brief}
use Rattle.zr_outside_brief.specs.declared.brief.Brief.TheVariants.{Took, Full, Failed}

abbrev pub IsFailed : Brief → Type 0
IsFailed brief = brief ≡ Failed

-- some bytes were taken, at most so many; or none were
abbrev pub IsWithin : ℕ → Brief → Type 0
IsWithin most (Took n) = (0 < n) × (n ≤ most)
IsWithin most Full = Unit {0}
IsWithin most Failed = Unit {0}

-- what a brief write gave, with what is held before and after it
abbrev pub WritesBriefly : Brief → List ℕ → Option (List ℕ) → Option (List ℕ) → Type 0
WritesBriefly (Took n) bytes before after = (0 < n) × (n ≤ length bytes) × Appends (take n bytes) before after
WritesBriefly Full bytes before after = IsAsBefore before after
WritesBriefly Failed bytes before after = IsAsBefore before after
