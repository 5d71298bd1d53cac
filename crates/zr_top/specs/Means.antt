-- What the headline's words mean, and how it is tied to the report.
use Rattle.std.specs.Prelude.{◌≡◌, ℕ, List, ◌∷◌, ◌++◌}
use Rattle.zr_script_spec.specs.declared.command.Act.{Act}
use Rattle.zr_world_spec.specs.Moments.{Numbered, Moment}
use Rattle.zr_world_spec.specs.Accepted.{accepted, IsMoment}
use Rattle.zr_law_samples.specs.Keys.{HasKeyText}

-- the key of each accepted act of some lines is the canonical text of an expression
abbrev pub HaveKeyTexts : List (List ℕ) → Type 0
HaveKeyTexts ls = (before rest : List Numbered) (number : ℕ) (act : Act) → accepted ls ≡ before ++ (number, act) ∷ rest → HasKeyText act

-- the accepted acts of some lines, of which the headline speaks, lead to the moment that the report of the lines tells
abbrev pub LeadToTheirReport : List (List ℕ) → Type 0
LeadToTheirReport ls = (m : Moment) × IsMoment ls m
