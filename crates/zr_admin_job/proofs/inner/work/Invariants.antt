-- So often it was opened anew.
use Rattle.std.proofs.Common.{◌≡◌, ◌^◌, ◌-◌}
use Rattle.std.specs.Arc.{arc_value}
use Rattle.zr_hist.specs.Words.{IsSamePass}
use Rattle.zr_port.specs.Coming.{sight}
use Rattle.zr_ring.specs.Taker.{taken}
use Rattle.zr_admin_job.specs.Course.{ReopensTimes, attached}
use Rattle.zr_admin_job.proofs.inner.work.Given as goal

abbrev pub invariant-loop : goal.invariant-loop
invariant-loop g l =
    let a = l.fn.job.admin in
    let p = arc_value a.port in
    record {
      id : l.admin.id ≡ a.id;
      port : arc_value l.admin.port ≡ p;
      same : IsSamePass a.pass l.admin.pass;
      times : ReopensTimes (g.P.Port.refuses_up p) (g.P.Port.refuses_message p) (g.P.Port.refuses_down p) (g.P.Port.answers_down p) (g.P.Glancing.glance_of p) a.id l.fn.job.word (2 ^ 64 - 1) l.counter
          (attached a.link (taken a.taker) a.hearing (sight a.pass)) (attached l.admin.link (taken l.admin.taker) l.admin.hearing (sight l.admin.pass));
    }
