-- What was put and what is left make all.
use Rattle.std.proofs.Common.{◌≡◌, ◌++◌, drop}
use Rattle.zr_told_interested.specs.Keys.{keyless}
use Rattle.zr_told_interested.proofs.by_key.keyless.Given as goal

abbrev pub invariant-loop-client : goal.invariant-loop-client
invariant-loop-client l = l.links.items ++ keyless (drop l.client-index l.clients) ≡ keyless l.clients
