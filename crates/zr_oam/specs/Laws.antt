-- The laws of messages between routers: what a reading call answers is what the bytes spell, and what is written is read again.
use Rattle.std.specs.Prelude.{ℕ, ◌<◌, List, Some}
use Rattle.std.specs.List.{AllByRecursion}
use Rattle.zr_msg.specs.declared.msg.Msg.{Msg}
use Rattle.zr_bytes.specs.Spelling.{HasOneReading}
use Rattle.zr_format_spec.specs.Laws.{anywhere, IsReadBy, WrittenIsRead}
use Rattle.zr_oam.specs.Oam.{oam_format}
use Rattle.zr_oam.specs.Reading.{oam_of}
use Rattle.zr_oam.specs.Writing.{writes_oam, CanBeWritten}

abbrev pub OamIsRead : Type 0
OamIsRead = IsReadBy anywhere oam_format oam_of

abbrev pub OamHasOneReading : Type 0
OamHasOneReading = HasOneReading oam_format.spelled

abbrev pub WrittenOamIsRead : Type 0
WrittenOamIsRead = WrittenIsRead anywhere oam_format oam_of (λ m. Some m) writes_oam CanBeWritten

-- Each message that bytes spell can be written: what is written is no longer than they are.
abbrev pub SpelledOamIsWritten : Type 0
SpelledOamIsWritten = (m : Msg) (bytes : List ℕ) → AllByRecursion (λ b. b < 256) bytes → oam_format.spelled (Some m) bytes → CanBeWritten m
