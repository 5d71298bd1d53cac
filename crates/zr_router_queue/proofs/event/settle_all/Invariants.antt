use Rattle.std.proofs.Common.{◌≡◌}
use Rattle.zr_hist.specs.Words.{IsSamePass, mine, seen}
use Rattle.zr_router_queue.specs.Ends.{IsSettled}
use Rattle.zr_router_queue.proofs.Stepped.{IsStepped}
use Rattle.zr_router_queue.proofs.event.settle_all.Given as goal

abbrev pub invariant-loop-end : goal.invariant-loop-end
invariant-loop-end l =
    IsSamePass l.fn.pass l.pass × (seen l.pass ≡ seen l.fn.pass) × (mine l.pass ≡ mine l.fn.pass)
    × IsStepped (λ old new. IsSettled l.entry old new) l.end-index l.fn.ends l.ends
