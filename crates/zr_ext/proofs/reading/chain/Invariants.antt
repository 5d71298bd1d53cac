use Rattle.std.proofs.Common.{◌≡◌, ◌-◌, length}
use Rattle.zr_ext.specs.Reading.{exts_within, chain_of}
use Rattle.zr_ext.proofs.Found.{with_found}
use Rattle.zr_ext.proofs.reading.chain.Given as goal

abbrev pub invariant-exts : goal.invariant-exts
invariant-exts l = with_found l.known l.found.items (exts_within (length l.fn.c - l.counter) l.known l.c) ≡ chain_of l.known l.fn.c
