-- What was put and what is left make all.
use Rattle.std.proofs.Common.{◌≡◌, ◌++◌, drop, map}
use Rattle.zr_local.specs.Clients.{client_link}
use Rattle.zr_told_interested.proofs.interested.numbers_of.Given as goal

abbrev pub invariant-loop-client : goal.invariant-loop-client
invariant-loop-client l = l.links.items ++ map client_link (drop l.client-index l.clients) ≡ map client_link l.clients
