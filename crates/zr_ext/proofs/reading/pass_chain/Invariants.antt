use Rattle.std.proofs.Common.{◌≡◌, ◌-◌, [], length}
use Rattle.zr_ext.specs.Reading.{chain_of}
use Rattle.zr_ext.specs.Finding.{without_value}
use Rattle.zr_ext.proofs.Passed.{passed_within}
use Rattle.zr_ext.proofs.reading.pass_chain.Given as goal

abbrev pub invariant-exts : goal.invariant-exts
invariant-exts l = passed_within (length l.fn.c - l.counter) l.c ≡ without_value (chain_of [] l.fn.c)
