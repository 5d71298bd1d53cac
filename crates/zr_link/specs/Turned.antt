-- How a writer's job has ended, by the turns that it took, and what it leaves.
use Rattle.std.specs.Prelude.{◌≡◌, ℕ, ◌⊎◌, List, Option, Some}
use Rattle.zr_link_writer.specs.declared.end.WriterEnd.{WriterEnd}
use Rattle.zr_link_writer.specs.declared.end.WriterEnd.TheVariants.{NoMemory, Turns}
use Rattle.zr_link_writer.specs.declared.turn.Turn.TheVariants.{Ended}
use Rattle.zr_link_writer.specs.declared.turns.WriterTurns.{WriterTurns}
use Rattle.zr_link_writer.specs.Turn.{last_turn, turns_most, turns_taken}
use Rattle.zr_outside.specs.Told.{Tells}
use Rattle.zr_link.specs.declared.log.LinkLog.{LinkLog}
use Rattle.zr_link.specs.Log.{log_held, log_lost, stage_of, writer_line}

-- The last turn told that the outlet has ended so; or all turns were taken; or none was, out of memory.
abbrev pub EndsByTurns : WriterTurns → WriterEnd → Type 0
EndsByTurns turns end = (last_turn turns ≡ Some (Ended end)) ⊎ ((end ≡ Turns) × (turns_taken turns ≡ turns_most turns))
    ⊎ ((end ≡ NoMemory) × (turns_taken turns ≡ 0))

-- A job with so many turns and this log has ended so, and its log was told.
abbrev pub HasWritten : {L : Type 0} → (L → Option (List ℕ)) → (L → ℕ) → ℕ → LinkLog L → WriterTurns → WriterEnd → LinkLog L → Type 0
HasWritten held lost most log turns end log' = (turns_most turns ≡ most) × EndsByTurns turns end
    × Tells (writer_line (stage_of log) end) (log_held held log) (log_held held log') (log_lost lost log) (log_lost lost log')
