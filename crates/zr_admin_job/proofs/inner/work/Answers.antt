-- Each time stands behind those before it.
use Rattle.std.proofs.Common.{◌^◌, ◌-◌, ◌∙◌, arith, refl}
use Rattle.std.specs.Arc.{arc_value}
use Rattle.zr_port.specs.Coming.{sight}
use Rattle.zr_ring.specs.Taker.{taken}
use Rattle.zr_admin_job.specs.Course.{attached}
use Rattle.zr_admin_job.proofs.Serving.{ends_last, ends_refused, once_more}
use Rattle.zr_admin_job.proofs.inner.work.Goals as goal

pub loop-init : goal.loop-init
loop-init g c = record { id = refl; port = refl; same = (refl, refl); times = refl }

pub loop-preserved : goal.loop-preserved
loop-preserved g c =
    let inv = c.loop.invariant in
    let a = c.args.job.admin in
    let was = c.loop.admin in
    let opened = c.in-Ok.opened in
    let stays = c.in-Ok.ensures.stays in
    record {
      id = stays.0 ∙ inv.id;
      port = stays.1 ∙ inv.port;
      same = (stays.2.0 ∙ inv.same.0, stays.2.1 ∙ inv.same.1);
      times = once_more g.P.Port.refuses_up g.P.Port.refuses_message g.P.Port.refuses_down g.P.Port.answers_down g.P.Glancing.glance_of c.args.job.word (2 ^ 64 - 1)
          (arc_value a.port) (arc_value was.port) a.id was.id c.loop.counter (attached a.link (taken a.taker) a.hearing (sight a.pass)) (attached was.link (taken was.taker) was.hearing (sight was.pass))
          (attached opened.link (taken opened.taker) opened.hearing (sight opened.pass)) inv.port inv.id inv.times c.in-Ok.ensures.reopens;
    }

pub returns-in-Err : goal.returns-in-Err
returns-in-Err g c =
    let inv = c.loop.invariant in
    let a = c.args.job.admin in
    let was = c.loop.admin in
    let pass = c.in-Err.pass in
    let same = c.in-Err.ensures.same in (
      (same.0 ∙ inv.same.0, same.1 ∙ inv.same.1),
      ends_refused g.P.Port.refuses_up g.P.Port.refuses_message g.P.Port.refuses_down g.P.Port.answers_down g.P.Glancing.glance_of c.args.job.word (2 ^ 64 - 1)
          (arc_value a.port) (arc_value was.port) a.id was.id c.loop.counter (attached a.link (taken a.taker) a.hearing (sight a.pass)) (attached was.link (taken was.taker) was.hearing (sight was.pass)) (sight pass)
          inv.port inv.id inv.times (omega (arith, c.loop-test.true)) c.in-Err.ensures.refused,
    )

pub returns : goal.returns
returns g c =
    let inv = c.loop.invariant in
    let a = c.args.job.admin in
    let was = c.loop.admin in
    let gone = c.leave.new.self in
    let same = c.leave.ensures.same in (
      (same.0 ∙ inv.same.0, same.1 ∙ inv.same.1),
      ends_last g.P.Port.refuses_up g.P.Port.refuses_message g.P.Port.refuses_down g.P.Port.answers_down g.P.Glancing.glance_of c.args.job.word (2 ^ 64 - 1)
          (arc_value a.port) (arc_value was.port) a.id c.loop.counter (attached a.link (taken a.taker) a.hearing (sight a.pass)) (attached was.link (taken was.taker) was.hearing (sight was.pass)) (sight gone.pass)
          inv.port inv.times (omega (arith, c.loop-test.false, c.loop.auto.counter-end)) c.leave.ensures.left,
    )
