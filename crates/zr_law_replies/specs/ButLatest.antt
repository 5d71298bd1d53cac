-- The headline but for how queries for the latest are answered. It needs no premise on what clients reply: `Refines` has one for those queries alone.
use Rattle.std.specs.Prelude.{◌≡◌, ℕ, ◌≤◌, suc, length, true, false, List, [], ◌∷◌, ◌++◌, Some}
use Rattle.std.specs.List.{AllByRecursion}
use Rattle.zr_script_spec.specs.declared.command.Act.TheVariants.{Mark}
use Rattle.zr_world_spec.specs.Moments.{Numbered, ascends, Moment, reached}
use Rattle.zr_guarantee.specs.Phase.{is_phase}
use Rattle.zr_guarantee.specs.Names.{is_router}
use Rattle.zr_guarantee.specs.Queries.{queries, times_asked, times_ended}
use Rattle.zr_guarantee.specs.Latest.{asks_latest, all_may_come}
use Rattle.zr_guarantee.specs.Refines.{Delivers, IsAnswered}
use Rattle.zr_guarantee.specs.Sent.{told_to, requests_to, finals_in}

-- At a moment of a phase the network has done what one broker does, but for how queries for the latest are answered.
pub record RefinesButLatest (before : List Numbered) (mark : ℕ) (phase : List Numbered) (m : Moment) : Type 0 where
  -- samples and requests come as one broker sends them
  pub delivers : Delivers before mark phase m
  -- each other query of the phase is answered
  pub answered : AllByRecursion (λ q. asks_latest q ≡ false → IsAnswered before (before ++ phase) m q) (queries phase)
  -- what clients were sent of all queries, those for the latest too, is as in `Refines`
  pub no_other_reply : (receiver : List ℕ) → is_router before receiver ≡ false → all_may_come (before ++ phase) m.report receiver [] (told_to m.report receiver) ≡ true
  pub one_at_a_time : (receiver : List ℕ) (number : ℕ) → is_router before receiver ≡ false →
      length (requests_to m.report receiver number) ≤ suc (times_ended (before ++ phase) receiver number)
  pub no_other_final : (receiver : List ℕ) (number : ℕ) → is_router before receiver ≡ false →
      finals_in number (told_to m.report receiver) ≤ times_asked (before ++ phase) receiver number

-- so it is at every moment of every phase, whatever clients reply
abbrev pub PhasesRefineButLatest : Type 0
PhasesRefineButLatest = (before phase : List Numbered) (mark : ℕ) (m : Moment) →
    ascends 0 (before ++ (mark, Mark) ∷ phase) ≡ true → is_phase phase ≡ true →
    reached (before ++ (mark, Mark) ∷ phase) ≡ Some m → RefinesButLatest before mark phase m
