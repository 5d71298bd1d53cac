-- What was counted of a whole script, where a summary is asked for, and what was told of it.
use Rattle.std.specs.Prelude.{◌≡◌, ℕ, Bool, List, Option, Some, None, IfSome}
use Rattle.zr_outside.specs.Told.{Appends, AppendsPrefix}
use Rattle.zr_netrun_report.specs.declared.counts.Counts.{Counts}
use Rattle.zr_netrun_report.specs.Summary.{summary_text}
use Rattle.zr_netrun_report.specs.Counted.{no_counts}
use Rattle.zr_netrun_lines.specs.Kept.{Kept}
use Rattle.zr_netrun_lines.specs.Counted.{CountsWhole}
use Rattle.zr_netrun.specs.declared.status.Status.{Status}
use Rattle.zr_netrun.specs.declared.status.Status.TheVariants as s
use Rattle.zr_netrun.specs.Clauses.{IsReported}

-- where anything is counted, it begins with nothing
abbrev pub CountsFromNone : Option Counts → Type 0
CountsFromNone counts = IfSome counts (λ c. c ≡ no_counts)

-- so much was reported of the bytes that were read, and at the end all was counted
abbrev pub IsRun : Bool → Type 0 → Status → Option (List ℕ) → Option (List ℕ) → Option (List ℕ) → Option (List ℕ) → Kept → List ℕ → Type 0
IsRun explains InputEnded status out out' err err' new bytes = IsReported explains InputEnded status out out' err err' bytes × (status ≡ s.Done → CountsWhole new bytes)

-- what was told of what was counted: the summary, or a prefix of it and a write failed, or nothing, and memory ran out
abbrev pub TellsSummary : Status → Option Counts → Option (List ℕ) → Option (List ℕ) → Type 0
TellsSummary status None out out' = Unit {0}
TellsSummary s.Done (Some c) out out' = Appends (summary_text c) out out'
TellsSummary s.WriteFault (Some c) out out' = AppendsPrefix (summary_text c) out out'
TellsSummary s.NoMemory (Some c) out out' = out' ≡ out
TellsSummary s.Refused (Some c) out out' = ⊥
TellsSummary s.Words (Some c) out out' = ⊥
TellsSummary s.ReadFault (Some c) out out' = ⊥
TellsSummary s.HostFault (Some c) out out' = ⊥
