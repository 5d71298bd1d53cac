-- What holds of each run of a script's network.
use Rattle.std.specs.Prelude.{◌≡◌, ℕ, true, List, ◌∷◌, ◌++◌, Some, is_none}
use Rattle.zr_script_spec.specs.declared.command.Act.TheVariants.{Mark}
use Rattle.zr_world_spec.specs.World.{is_quiet}
use Rattle.zr_world_spec.specs.Next.{next}
use Rattle.zr_world_spec.specs.Moments.{Numbered, Moment, reached}
use Rattle.zr_world_spec.specs.Accepted.{accepted}
use Rattle.zr_guarantee.specs.Phase.{is_phase}

-- what a run says at its end, in a phase: no step is possible exactly where nothing is under way, on no wire and in no queue
abbrev pub RestIsQuiet : Type 0
RestIsQuiet = (ls : List (List ℕ)) (before phase rest : List Numbered) (mark : ℕ) →
    accepted ls ≡ before ++ (mark, Mark) ∷ (phase ++ rest) → is_phase phase ≡ true →
    (m : Moment) × (reached (before ++ (mark, Mark) ∷ phase) ≡ Some m) × (is_none (next m.world) ≡ is_quiet m.world)
