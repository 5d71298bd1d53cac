use Rattle.std.proofs.Common.{◌≡◌, ◌++◌, drop}
use Rattle.zr_local.proofs.clients.copies_of.Given as goal

abbrev pub invariant-loop-client : goal.invariant-loop-client
invariant-loop-client l = l.copies.items ++ drop l.client-index l.clients ≡ l.fn.clients
