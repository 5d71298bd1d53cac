-- What the run of a script promises, status by status, over the bytes that were read.
use Rattle.std.specs.Prelude.{◌≡◌, ℕ, ◌<◌, ◌≤◌, Bool, true, false, List, ◌++◌, length, Option, Some, None, ◌⊎◌}
use Rattle.zr_script_spec.specs.Lines.{most_bytes}
use Rattle.zr_outside.specs.Told.{IsAsBefore, Appends, AppendsPrefix}
use Rattle.zr_world_spec.specs.Moments.{Moment}
use Rattle.zr_world_spec.specs.Accepted.{IsMoment}
use Rattle.zr_netrun_report.specs.Summary.{counts_of, summary_text}
use Rattle.zr_netrun.specs.declared.options.NetOptions.{NetOptions}
use Rattle.zr_netrun.specs.declared.status.Status.{Status}
use Rattle.zr_netrun.specs.declared.status.Status.TheVariants.{Done, Refused, Words, NoMemory, ReadFault, WriteFault, HostFault}
use Rattle.zr_netrun.specs.Judged.{judged_lines, judged, is_refused, complaint}

-- where the source tells its bytes: P holds of those that were read, and the others are left
abbrev pub OfRead : Option (List ℕ) → Option (List ℕ) → (List ℕ → Type 0) → Type 0
OfRead None after P = Unit {0}
OfRead (Some all) after P = (read : List ℕ) × (rest : List ℕ) × (all ≡ read ++ rest) × (after ≡ Some rest) × P read

-- where the source tells its bytes: P holds of the lines that count of those that were read, whether they are the whole script or not
abbrev pub OfLines : Option (List ℕ) → Option (List ℕ) → (List (List ℕ) → Type 0) → Type 0
OfLines before after P = OfRead before after (λ read. (to_end : Bool) → P (judged_lines to_end read))

-- so too, but where they are the whole script it has no more bytes than a script may have
abbrev pub OfScriptLines : Option (List ℕ) → Option (List ℕ) → (List (List ℕ) → Type 0) → Type 0
OfScriptLines before after P = OfRead before after (λ read. (to_end : Bool) → (to_end ≡ true → length read ≤ most_bytes) → P (judged_lines to_end read))

-- What was written to out and to err, by the status, where these bytes were read, to the end of the script or not.
-- Done: it was read to its end and is not refused, and out gained its whole report; err gained nothing.
-- Refused: it is refused by what was read, out gained the report of the lines before that, and err the one line that tells why, with the
-- explanation of the refused line where that is asked for.
-- ReadFault: it was not read to its end and is not refused by what was read; out gained the report of its lines, err nothing.
-- NoMemory: out gained a prefix of that report, and err nothing.
-- WriteFault: out gained a prefix of that report, and err nothing; or out the whole, and err a prefix of the line that tells a refusal.
abbrev pub Reports : Bool → Status → Bool → Option (List ℕ) → Option (List ℕ) → Option (List ℕ) → Option (List ℕ) → List ℕ → Type 0
Reports explains Done to_end out out' err err' bytes =
    (to_end ≡ true) × (is_refused to_end bytes ≡ false) × Appends (judged to_end bytes).text out out' × IsAsBefore err err'
Reports explains Refused to_end out out' err err' bytes =
    (is_refused to_end bytes ≡ true) × Appends (judged to_end bytes).text out out' × Appends (complaint explains to_end bytes) err err'
Reports explains ReadFault to_end out out' err err' bytes =
    (to_end ≡ false) × (is_refused to_end bytes ≡ false) × Appends (judged to_end bytes).text out out' × IsAsBefore err err'
Reports explains NoMemory to_end out out' err err' bytes = AppendsPrefix (judged to_end bytes).text out out' × IsAsBefore err err'
Reports explains WriteFault to_end out out' err err' bytes =
    (AppendsPrefix (judged to_end bytes).text out out' × IsAsBefore err err')
    ⊎ ((is_refused to_end bytes ≡ true) × Appends (judged to_end bytes).text out out' × AppendsPrefix (complaint explains to_end bytes) err err')
Reports explains Words to_end out out' err err' bytes = ⊥
Reports explains HostFault to_end out out' err err' bytes = ⊥

-- So much was reported of the bytes that were read. That they are the whole script is said only where the input told its end, and
-- where they are not too many.
abbrev pub IsReported : Bool → Type 0 → Status → Option (List ℕ) → Option (List ℕ) → Option (List ℕ) → Option (List ℕ) → List ℕ → Type 0
IsReported explains InputEnded status out out' err err' bytes =
    (to_end : Bool) × (to_end ≡ true → InputEnded × (length bytes ≤ most_bytes)) × Reports explains status to_end out out' err err' bytes

-- P holds of the summary of some lines: of what is counted in the report of the moment that they lead to
abbrev pub OfSummary : List (List ℕ) → (List ℕ → Type 0) → Type 0
OfSummary ls P = (m : Moment) × IsMoment ls m × P (summary_text (counts_of m))

-- What was written to out and to err, by the status, where these bytes were read and a summary is asked for.
-- Done: it was read to its end and is not refused, and out gained the summary; err gained nothing.
-- Refused: it is refused by what was read; out gained nothing, and err the one line that tells why.
-- ReadFault: it was not read to its end and is not refused by what was read; nothing was written.
-- NoMemory: nothing was written.
-- WriteFault: it was read to its end and is not refused, out gained a prefix of the summary, and err nothing; or out gained nothing, and
-- err a prefix of the line that tells a refusal.
abbrev pub SumsUp : Bool → Status → Bool → Option (List ℕ) → Option (List ℕ) → Option (List ℕ) → Option (List ℕ) → List ℕ → Type 0
SumsUp explains Done to_end out out' err err' bytes =
    (to_end ≡ true) × (is_refused to_end bytes ≡ false) × OfSummary (judged_lines to_end bytes) (λ text. Appends text out out') × IsAsBefore err err'
SumsUp explains Refused to_end out out' err err' bytes = (is_refused to_end bytes ≡ true) × IsAsBefore out out' × Appends (complaint explains to_end bytes) err err'
SumsUp explains ReadFault to_end out out' err err' bytes = (to_end ≡ false) × (is_refused to_end bytes ≡ false) × IsAsBefore out out' × IsAsBefore err err'
SumsUp explains NoMemory to_end out out' err err' bytes = IsAsBefore out out' × IsAsBefore err err'
SumsUp explains WriteFault to_end out out' err err' bytes =
    ((to_end ≡ true) × (is_refused to_end bytes ≡ false) × OfSummary (judged_lines to_end bytes) (λ text. AppendsPrefix text out out') × IsAsBefore err err')
    ⊎ (IsAsBefore out out' × AppendsPrefix (complaint explains to_end bytes) err err')
SumsUp explains Words to_end out out' err err' bytes = ⊥
SumsUp explains HostFault to_end out out' err err' bytes = ⊥

-- So it was summed up what was read. That it is the whole script is said as above.
abbrev pub IsSummedUp : Bool → Type 0 → Status → Option (List ℕ) → Option (List ℕ) → Option (List ℕ) → Option (List ℕ) → List ℕ → Type 0
IsSummedUp explains InputEnded status out out' err err' bytes =
    (to_end : Bool) × (to_end ≡ true → InputEnded × (length bytes ≤ most_bytes)) × SumsUp explains status to_end out out' err err' bytes

-- What was written, by what was asked for beside the script: the report, or the summary of it, with the explanation of a refused line or without.
pub record WritesAsAsked (options : NetOptions) (left left' : Option (List ℕ)) (InputEnded : Type 0) (status : Status) (out out' err err' : Option (List ℕ)) : Type 0 where
  pub read : OfRead left left' (λ read. Unit {0})
  pub report : options.summary ≡ false → OfRead left left' (IsReported options.explain InputEnded status out out' err err')
  pub summed_up : options.summary ≡ true → OfRead left left' (IsSummedUp options.explain InputEnded status out out' err err')

-- Where a read failed no write did, and out gained the report of all lines that had ended, unless a summary is asked for. Any read may fail, and
-- any write: what is kept back over a read is written behind it, and where that write fails too the run can't end as this says.
-- So before each read what has ended is reported.
abbrev pub ReportsBeforeReads : NetOptions → Option (List ℕ) → Option (List ℕ) → Option (List ℕ) → Option (List ℕ) → ℕ → ℕ → ℕ → ℕ → Type 0
ReportsBeforeReads options left left' out out' reads reads' writes writes' =
    reads < reads' → (writes' ≡ writes) × (options.summary ≡ false → OfRead left left' (λ read. Appends (judged false read).text out out'))
