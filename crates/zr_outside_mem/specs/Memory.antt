-- What the forms in memory hold, and which of their calls fail.
use Rattle.std.specs.Prelude.{ℕ, ◌==◌, ◌≤◌, Bool, List, drop, max}
use Rattle.std.specs.List.{list_any}
use Rattle.zr_outside.specs.declared.source.Got.{Got}
use Rattle.zr_outside.specs.declared.source.Got.TheVariants.{Bytes, Quiet, End, Failed}
use Rattle.zr_outside_mem.specs.declared.mem_source.MemSource.{MemSource}
use Rattle.zr_outside_mem.specs.declared.mem_log.MemLog.{MemLog}
use Rattle.zr_outside_mem.specs.declared.mem_sink.MemSink.{MemSink}

-- the bytes that a source in memory has left
abbrev pub source_left : MemSource → List ℕ
source_left s = drop s.at s.bytes.items

-- the bytes that a sink in memory holds
abbrev pub sink_held : MemSink → List ℕ
sink_held s = s.bytes.items

-- the lines that a log in memory holds
abbrev pub log_held : MemLog → List ℕ
log_held l = l.bytes.items

-- the most bytes that a read of a source in memory gives
abbrev pub most_a_read : MemSource → ℕ
most_a_read s = s.most

-- the numbers of the reads of a source in memory that fail, and of those that are quiet
abbrev pub failing_reads : MemSource → List ℕ
failing_reads s = s.failing.items

abbrev pub quiet_reads : MemSource → List ℕ
quiet_reads s = s.quiet.items

-- how many reads there have been, which is the number of the next one
abbrev pub reads_of : MemSource → ℕ
reads_of s = s.calls

-- the most bytes that a brief write to a sink in memory takes
abbrev pub room_of : MemSink → ℕ
room_of s = s.room

-- the numbers of the writes to a sink in memory that fail
abbrev pub failing_writes : MemSink → List ℕ
failing_writes s = s.failing.items

-- how many writes there have been, which is the number of the next one
abbrev pub writes_of : MemSink → ℕ
writes_of s = s.calls

-- whether a call of this number is among those
abbrev pub is_among : ℕ → List ℕ → Bool
is_among call calls = list_any (λ n. n == call) calls

-- a read gives no more than so many bytes, or 1
abbrev pub GivesAtMost : ℕ → Got → Type 0
GivesAtMost most (Bytes n) = n ≤ max most 1
GivesAtMost most Quiet = Unit {0}
GivesAtMost most End = Unit {0}
GivesAtMost most Failed = Unit {0}
