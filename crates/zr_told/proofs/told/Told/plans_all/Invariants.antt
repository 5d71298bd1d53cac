-- The plans and what is left to plan make all.
use Rattle.std.proofs.Common.{drop}
use Rattle.zr_told.proofs.Changed.{ArePlanned}
use Rattle.zr_told.proofs.told.Told.plans_all.Given as goal

abbrev pub invariant-loop-client : goal.invariant-loop-client
invariant-loop-client l = ArePlanned l.tables l.clients l.self l.plans.items (drop l.client-index l.clients)
