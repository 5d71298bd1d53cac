use Rattle.std.proofs.Common.{◌≡◌, drop}
use Rattle.std.specs.Prelude.{fold}
use Rattle.zr_net.specs.Exts.{with_mark}
use Rattle.zr_net.proofs.exts.marks.Given as goal

abbrev pub invariant-loop-ext : goal.invariant-loop-ext
invariant-loop-ext l = fold with_mark l.marks (drop l.ext-index l.exts) ≡ fold with_mark 0 l.exts
