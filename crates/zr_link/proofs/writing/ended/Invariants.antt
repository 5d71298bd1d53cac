use Rattle.std.proofs.Common.{◌≡◌}
use Rattle.zr_link_writer.specs.Turn.{turns_most, turns_taken}
use Rattle.zr_link.proofs.writing.ended.Given as goal

abbrev pub invariant-loop : goal.invariant-loop
invariant-loop g l = (turns_taken l.turns ≡ l.counter) × (turns_most l.turns ≡ turns_most l.fn.turns)
