-- What the forms over std hold and count.
use Rattle.std.specs.Prelude.{ℕ}
use Rattle.zr_outside.specs.declared.std_streams.ReadSource.{ReadSource}
use Rattle.zr_outside.specs.declared.std_streams.WriteSink.{WriteSink}

-- the reader of a source
abbrev pub reader_of : {R : Type 0} → ReadSource R → R
reader_of s = s.reader

-- the reads that failed, and those that found the end
abbrev pub read_faults : {R : Type 0} → ReadSource R → ℕ
read_faults s = s.faults

abbrev pub read_ends : {R : Type 0} → ReadSource R → ℕ
read_ends s = s.ends

-- the writer of a sink
abbrev pub writer_of : {W : Type 0} → WriteSink W → W
writer_of s = s.writer

-- the writes that failed
abbrev pub write_faults : {W : Type 0} → WriteSink W → ℕ
write_faults s = s.faults
