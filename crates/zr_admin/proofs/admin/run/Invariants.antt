-- As many steps were made as turns.
use Rattle.std.proofs.Common.{◌≡◌, ◌+◌}
use Rattle.zr_hist.specs.Words.{IsSamePass}
use Rattle.zr_port.specs.Coming.{sight}
use Rattle.zr_ring.specs.Taker.{taken, take_calls, IsSameTaker}
use Rattle.zr_admin.specs.Inner.{inner_at}
use Rattle.zr_admin.proofs.Running.{Made}
use Rattle.zr_admin.proofs.admin.run.Given as goal

abbrev pub invariant-loop : goal.invariant-loop
invariant-loop g l = record {
  same : IsSamePass l.fn.pass l.pass × IsSameTaker l.fn.taker l.taker;
  calls : take_calls l.taker ≡ take_calls l.fn.taker + l.counter;
  made : Made l.link (λ h m e. g.P.Port.refuses_message l.port h l.link m e) (λ h. g.P.Glancing.glance_of l.port h) l.id l.counter
      (inner_at (taken l.fn.taker) l.fn.hearing (sight l.fn.pass)) (inner_at (taken l.taker) l.hearing (sight l.pass));
}
