-- Why the world of a run has room for each further act: a line applies at most one act, and the runs no more than the steps that they ask for.
use Rattle.std.specs.Prelude.{◌≡◌, ℕ, ◌+◌, ◌<◌, ◌≤◌, false}
use Rattle.zr_world_spec.specs.World.{most_steps}
use Rattle.zr_world.specs.Living.{Living}
use Rattle.zr_netrun_lines.specs.Kept.{Kept}

-- no more acts were applied than so many lines and the steps that runs asked for
unfoldable pub IsWithin : Living → ℕ → Type 0
IsWithin w number = w.spent ≡ false → (w.applied ≤ number + w.state.booked) × (w.state.booked ≤ most_steps)

-- one of them is still to be applied
abbrev pub HasRoom : Kept → Type 0
HasRoom k = k.world.applied < k.number + k.world.state.booked

-- at most one more was applied, and no steps were asked for
abbrev pub OneMore : Living → Living → Type 0
OneMore old new = (new.applied ≤ old.applied + 1) × (new.state.booked ≡ old.state.booked)
