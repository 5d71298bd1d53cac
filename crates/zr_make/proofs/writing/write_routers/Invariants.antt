use Rattle.std.proofs.Common.{◌≡◌}
use Rattle.zr_outside.specs.Told.{Appends}
use Rattle.zr_make.specs.Script.{all_routers, text_of}
use Rattle.zr_make.proofs.writing.write_routers.Given as goal

abbrev pub invariant-loop-index : goal.invariant-loop-index
invariant-loop-index g l = record {
  made : Appends (text_of (all_routers l.index)) (g.K.Sink.held l.fn.out) (g.K.Sink.held l.out);
  quiet : g.K.Sink.faults l.out ≡ g.K.Sink.faults l.fn.out;
}
