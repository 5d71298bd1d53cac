-- What was told of a run that stopped, by its status.
use Rattle.std.specs.Prelude.{◌≡◌, ◌⊎◌, ℕ, List, Option}
use Rattle.zr_script_spec.specs.declared.error.ScriptError.{ScriptError}
use Rattle.zr_outside.specs.Told.{Appends, AppendsPrefix}
use Rattle.zr_netrun_lines.specs.declared.runner.RunStop.{RunStop}
use Rattle.zr_netrun_lines.specs.declared.runner.RunStop.TheVariants.{Refused, NoMemory, WriteFault}
use Rattle.zr_netrun.specs.declared.status.Status.{Status}
use Rattle.zr_netrun.specs.declared.status.Status.TheVariants as s

-- The line that tells a refusal was written whole; or a prefix of it, and a write failed; or nothing, and memory ran out.
abbrev pub Complains : Status → List ℕ → Option (List ℕ) → Option (List ℕ) → Type 0
Complains s.Refused text err err' = Appends text err err'
Complains s.WriteFault text err err' = AppendsPrefix text err err'
Complains s.NoMemory text err err' = err' ≡ err
Complains s.Done text err err' = ⊥
Complains s.Words text err err' = ⊥
Complains s.ReadFault text err err' = ⊥
Complains s.HostFault text err err' = ⊥

-- What was told of a run that stopped where its last line is refused: what waited was written, and then why. Where a write of out
-- failed err has nothing.
abbrev pub TellsRefusal : Status → List ℕ → List ℕ → Option (List ℕ) → Option (List ℕ) → Option (List ℕ) → Option (List ℕ) → Type 0
TellsRefusal s.Refused text pending out out' err err' = Appends pending out out' × Appends text err err'
TellsRefusal s.WriteFault text pending out out' err err' =
    (AppendsPrefix pending out out' × (err' ≡ err)) ⊎ (Appends pending out out' × AppendsPrefix text err err')
TellsRefusal s.NoMemory text pending out out' err err' = Appends pending out out' × (err' ≡ err)
TellsRefusal s.Done text pending out out' err err' = ⊥
TellsRefusal s.Words text pending out out' err err' = ⊥
TellsRefusal s.ReadFault text pending out out' err err' = ⊥
TellsRefusal s.HostFault text pending out out' err err' = ⊥

-- otherwise nothing was written
abbrev pub Tells : RunStop → Status → (ScriptError → List ℕ) → List ℕ → Option (List ℕ) → Option (List ℕ) → Option (List ℕ) → Option (List ℕ) → Type 0
Tells (Refused error) status text pending out out' err err' = TellsRefusal status (text error) pending out out' err err'
Tells NoMemory status text pending out out' err err' = (status ≡ s.NoMemory) × (out' ≡ out) × (err' ≡ err)
Tells WriteFault status text pending out out' err err' = (status ≡ s.WriteFault) × (out' ≡ out) × (err' ≡ err)
