-- What holds of those that are left holds of all.
use Rattle.std.proofs.Common.{drop}
use Rattle.std.specs.List.{AllByRecursion}
use Rattle.zr_told_interested.specs.Keys.{AreKeyed}
use Rattle.zr_told_interested.proofs.by_key.know_clients.Given as goal

abbrev pub invariant-loop-client : goal.invariant-loop-client
invariant-loop-client l = AllByRecursion (λ c. AreKeyed c.interests) (drop l.client-index l.clients) → AllByRecursion (λ c. AreKeyed c.interests) l.clients
