-- What a clock in memory tells.
use Rattle.std.specs.Prelude.{ℕ, ◌+◌, ◌-◌, ◌^◌, min}
use Rattle.zr_outside_mem.specs.declared.mem_clock.MemClock.{MemClock}

-- the moment now, by how much a pause moves it on, and the last answer
abbrev pub time_of : MemClock → ℕ
time_of c = c.time

abbrev pub step_of : MemClock → ℕ
step_of c = c.step

abbrev pub last_of : MemClock → ℕ
last_of c = c.last

-- the moment after a pause; it stands still at 2 ^ 64 - 1
abbrev pub moved : ℕ → ℕ → ℕ
moved time step = min (time + step) (2 ^ 64 - 1)
