use Rattle.std.proofs.Common.{◌≡◌, ◌++◌, drop}
use Rattle.zr_bytes.specs.Writing.{KeepsFront}
use Rattle.zr_ext.specs.Writing.{writes_chain}
use Rattle.zr_ext.proofs.writing.put_all.Given as goal

abbrev pub invariant-loop-i : goal.invariant-loop-i
invariant-loop-i l = record {
  same : l.out.items ++ writes_chain (drop l.i l.exts) ≡ l.fn.out.items ++ writes_chain l.exts;
  front : KeepsFront l.fn.out.items l.out.items;
}
