-- A fan, whatever the order of its steps.
use Rattle.std.specs.Prelude.{◌≡◌, ◌≤◌, ℕ, true, List, [], ◌∷◌, length, map, Ok}
use Rattle.std.specs.List.{AllByRecursion}
use Rattle.zr_orders.specs.Bag.{Goes}
use Rattle.zr_world_spec.specs.World.{WorldState}
use Rattle.zr_world_spec.specs.Fan.{most_fan_steps, fanned}
use Rattle.zr_world_spec.specs.Next.{fan_done}
use Rattle.zr_world_spec.specs.Sound.{IsSound}
use Rattle.zr_law_fan.specs.Samples.{Move, under_way, line_of, next_moves, can_go, quieted, IsCalm, AreSamples}

-- samples of a world have moved, in any order, until nothing is under way, each where it can go, and no more than a fan may have steps
pub record HaveGone (w : WorldState) (moved : List Move) : Type 0 where
  pub goes : Goes (next_moves w) (under_way w.ends) moved []
  pub can : AllByRecursion (λ m. can_go w m ≡ true) moved
  pub few : length moved ≤ most_fan_steps

-- then a fan tells just these moves, and leaves the world in which nothing waits
abbrev pub FanIsPlain : Type 0
FanIsPlain = (w : WorldState) → IsSound w → IsCalm w → AreSamples w → (line : ℕ) (moved : List Move) → HaveGone w moved →
    fan_done line w ≡ Ok (fanned w.routers (map line_of moved) ∷ [], quieted w)
