-- The guarantee, of scripts: it holds at each moment of each phase of their accepted acts.
use Rattle.std.specs.Prelude.{◌≡◌, ℕ, true, List, ◌∷◌, ◌++◌, Some}
use Rattle.zr_script_spec.specs.declared.command.Act.TheVariants.{Mark}
use Rattle.zr_world_spec.specs.Moments.{Numbered, Moment, reached}
use Rattle.zr_world_spec.specs.Accepted.{accepted}
use Rattle.zr_guarantee.specs.Phase.{is_phase}
use Rattle.zr_guarantee.specs.Latest.{LatestFit}
use Rattle.zr_guarantee.specs.Refines.{Refines}
use Rattle.zr_guarantee.specs.Interests.{AreTold, TokensAreToldAt, is_at_rest}

-- however the accepted acts of some lines are cut at a mark and in its phase, also within a run, there is a moment, and it refines one broker
abbrev pub IsRefined : List (List ℕ) → Type 0
IsRefined ls = (before phase rest : List Numbered) (mark : ℕ) →
    accepted ls ≡ before ++ (mark, Mark) ∷ (phase ++ rest) → is_phase phase ≡ true →
    (m : Moment) × (reached (before ++ (mark, Mark) ∷ phase) ≡ Some m) × Refines before mark phase m

-- so it is with every script's lines, a refused script's up to the refused one: where a query asks for the latest, as far as what clients reply may be
-- held, and so of each script that has no more bytes than it may have
abbrev pub LinesRefine : Type 0
LinesRefine = (ls : List (List ℕ)) → LatestFit (accepted ls) → IsRefined ls

-- however the accepted acts of some lines are cut, also within a run, there is a moment, and where the network is at rest its clients were told
-- what they want
abbrev pub TellsClients : List (List ℕ) → Type 0
TellsClients ls = (acts rest : List Numbered) → accepted ls ≡ acts ++ rest → (m : Moment) × (reached acts ≡ Some m) × (is_at_rest m.world ≡ true → AreTold acts m)

-- and of tokens just those that they want of the living ones
abbrev pub TellsTokens : List (List ℕ) → Type 0
TellsTokens ls = (acts rest : List Numbered) → accepted ls ≡ acts ++ rest → (m : Moment) × (reached acts ≡ Some m) × (is_at_rest m.world ≡ true → TokensAreToldAt acts m)

-- so it is with every script's lines
abbrev pub LinesTellClients : Type 0
LinesTellClients = (ls : List (List ℕ)) → TellsClients ls

abbrev pub LinesTellTokens : Type 0
LinesTellTokens = (ls : List (List ℕ)) → TellsTokens ls
