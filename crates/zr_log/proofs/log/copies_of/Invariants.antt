use Rattle.std.proofs.Common.{◌≡◌, ◌++◌, drop}
use Rattle.zr_log.proofs.log.copies_of.Given as goal

abbrev pub invariant-loop-log : goal.invariant-loop-log
invariant-loop-log l = l.copies.items ++ drop l.log-index l.logs ≡ l.fn.logs
