-- Who is at most the bound so far, and all that are left, are all within it.
use Rattle.std.proofs.Common.{ℕ, ◌≤◌, drop}
use Rattle.zr_router_core.specs.Room.{HaveAtMost}
use Rattle.zr_router_core.proofs.counts.most_interests.Given as goal

abbrev pub invariant-loop-client : goal.invariant-loop-client
invariant-loop-client l = (n : ℕ) → l.most ≤ n → HaveAtMost n (drop l.client-index l.clients) → HaveAtMost n l.fn.clients
