-- All reads so far were quiet: nothing is told but of those.
use Rattle.std.proofs.Common.{◌≡◌, ◌≤◌, length}
use Rattle.zr_outside.specs.Counts.{RoseBy}
use Rattle.zr_outside.specs.Told.{IsAsBefore}
use Rattle.zr_outside.proofs.piece.next_piece.Given as goal

abbrev pub invariant-reading : goal.invariant-reading
invariant-reading g l = record {
  sized : length l.into ≡ length l.fn.into;
  left : IsAsBefore (g.S.Source.left l.fn.input) (g.S.Source.left l.input);
  faults : g.S.Source.faults l.input ≡ g.S.Source.faults l.fn.input;
  ends : g.S.Source.ends l.input ≡ g.S.Source.ends l.fn.input;
  later : g.S.Source.quiets l.fn.input ≤ g.S.Source.quiets l.input;
  quiets : RoseBy l.counter (g.S.Source.quiets l.fn.input) (g.S.Source.quiets l.input);
  reads : RoseBy l.counter (g.S.Source.reads l.fn.input) (g.S.Source.reads l.input);
}
