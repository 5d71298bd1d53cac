-- It served and left, and was opened anew, or that was refused.
use Rattle.std.proofs.Common.{◌^◌, ◌-◌, ◌∙◌, ap}
use Rattle.std.specs.Arc.{arc_value}
use Rattle.zr_port.specs.Coming.{sight}
use Rattle.zr_ring.specs.Taker.{taken}
use Rattle.zr_admin.specs.Inner.{inner_at}
use Rattle.zr_admin_job.specs.Course.{attached}
use Rattle.zr_admin_job.proofs.Serving.{refused, reopened, served}
use Rattle.zr_admin_job.proofs.inner.run_once.Goals as goal

pub returns-in-Ok-clause-reopens : goal.returns-in-Ok-clause-reopens
returns-in-Ok-clause-reopens g c =
    let a = c.args.admin in
    let ran = c.run.new.self in
    let gone = c.leave.new.self in
    let opened = c.in-Ok.opened in
    let p = arc_value a.port in
    let is_port = ap arc_value c.run.ensures.stays.2 in
    let came = attached a.link (taken a.taker) a.hearing (sight a.pass) in
    reopened g.P.Port.refuses_up g.P.Port.refuses_message g.P.Port.refuses_down g.P.Port.answers_down g.P.Glancing.glance_of c.args.word (2 ^ 64 - 1)
    p (arc_value gone.port) a.id gone.id came (attached opened.link (taken opened.taker) opened.hearing (sight opened.pass)) (sight gone.pass)
    (ap arc_value c.leave.ensures.stays.2 ∙ is_port) (c.leave.ensures.stays.1 ∙ c.run.ensures.stays.1)
    (served g.P.Port.refuses_up g.P.Port.refuses_message g.P.Port.refuses_down g.P.Port.answers_down g.P.Glancing.glance_of c.args.word (2 ^ 64 - 1)
    p (arc_value ran.port) a.id ran.link came c.run.result (inner_at (taken ran.taker) ran.hearing (sight ran.pass)) (sight gone.pass) is_port c.run.ensures.stays.0 c.run.ensures.steps c.leave.ensures.left)
    c.in-Ok.ensures.opened c.in-Ok.ensures.fresh.0 c.in-Ok.ensures.fresh.2

pub returns-clause-refused : goal.returns-clause-refused
returns-clause-refused g c =
    let a = c.args.admin in
    let ran = c.run.new.self in
    let gone = c.leave.new.self in
    let p = arc_value a.port in
    let is_port = ap arc_value c.run.ensures.stays.2 in
    let came = attached a.link (taken a.taker) a.hearing (sight a.pass) in
    refused g.P.Port.refuses_up g.P.Port.refuses_message g.P.Port.refuses_down g.P.Port.answers_down g.P.Glancing.glance_of c.args.word (2 ^ 64 - 1)
    p (arc_value gone.port) a.id gone.id came c.in-Err.refused.0 (sight gone.pass) (sight c.in-Err.refused.1)
    (ap arc_value c.leave.ensures.stays.2 ∙ is_port) (c.leave.ensures.stays.1 ∙ c.run.ensures.stays.1)
    (served g.P.Port.refuses_up g.P.Port.refuses_message g.P.Port.refuses_down g.P.Port.answers_down g.P.Glancing.glance_of c.args.word (2 ^ 64 - 1)
    p (arc_value ran.port) a.id ran.link came c.run.result (inner_at (taken ran.taker) ran.hearing (sight ran.pass)) (sight gone.pass) is_port c.run.ensures.stays.0 c.run.ensures.steps c.leave.ensures.left)
    c.in-Err.ensures.unopened
