-- How the run of a script ends, whatever its bytes are.
use Rattle.std.specs.Prelude.{◌≡◌, ℕ, ◌<◌, ◌≤◌, ◌⊎◌}
use Rattle.zr_outside.specs.Counts.{Rose}
use Rattle.zr_netrun.specs.declared.status.Status.{Status}
use Rattle.zr_netrun.specs.declared.status.Status.TheVariants.{Done, Words, ReadFault, WriteFault, HostFault}

-- It is done only where the input counts as read to its end. It ends by a fault only where that count of faults rose, and never as no run of a
-- script does. No count of faults falls: not that of the input, nor that of a sink.
pub record IsEnded (InputEnded : Type 0) (status : Status) (input input' out out' err err' : ℕ) : Type 0 where
  pub whole : status ≡ Done → InputEnded
  pub read : status ≡ ReadFault → Rose input input'
  pub write : status ≡ WriteFault → Rose out out' ⊎ Rose err err'
  pub words : (status ≡ Words) → ⊥
  pub host : (status ≡ HostFault) → ⊥
  pub input_later : input ≤ input'
  pub out_later : out ≤ out'
  pub err_later : err ≤ err'

-- a write that failed, of the output or of the error output, is told as that
abbrev pub TellsFailedWrites : Status → ℕ → ℕ → ℕ → ℕ → Type 0
TellsFailedWrites status out out' err err' = (out < out' → status ≡ WriteFault) × (err < err' → status ≡ WriteFault)
