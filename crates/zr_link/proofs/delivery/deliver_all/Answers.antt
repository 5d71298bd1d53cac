-- What the port tells of the messages, as it is of their events.
use Rattle.std.proofs.Common.{◌∙◌, []}
use Rattle.std.specs.Vec.Iter.{into_iter_items}
use Rattle.zr_hist.specs.Words.{seen}
use Rattle.zr_port.specs.Coming.{sight}
use Rattle.zr_wire.specs.Writing.{IsSpelled}
use Rattle.zr_link.specs.Heard.{messages}
use Rattle.zr_link.proofs.Going.{delivers_none, delivers_of, gone_by, not_gone, stops_memory, stops_of}
use Rattle.zr_link.proofs.Logged.{tells_none, tells_then}
use Rattle.zr_link.proofs.delivery.deliver_all.Goals as goal

pub returns-in_default-clause-stopped : goal.returns-in_default-clause-stopped
returns-in_default-clause-stopped g c = (
  into_iter_items c.args.events,
  delivers_none c.args.link (λ h m e. g.P.Port.refuses_message c.args.port.now h c.args.link m e) (into_iter_items c.args.events) (sight c.args.pass.now),
  stops_memory IsSpelled _ _ c.requires.messages c.in_default.ensures.some,
)

pub returns-in-Err-clause-stopped : goal.returns-in-Err-clause-stopped
returns-in-Err-clause-stopped g c =
    let stopped = c.in-Err.ensures.stopped in (
      messages stopped.0,
      delivers_of c.args.link (λ h m e. g.P.Port.refuses_message c.args.port.now h c.args.link m e) (into_iter_items c.args.events) c.in-Ok.messages.items stopped.0 (sight c.args.pass.now) (sight c.deliver_all.new.pass)
          c.in-Ok.ensures.are stopped.1,
      stops_of (λ m e. g.P.Port.refuses_message c.args.port.now (seen c.deliver_all.new.pass) c.args.link m e) stopped.0 c.in-Err.e _ c.of_delivery.ensures stopped.2,
    )

pub returns-clause-all : goal.returns-clause-all
returns-clause-all g c =
    delivers_of c.args.link (λ h m e. g.P.Port.refuses_message c.args.port.now h c.args.link m e) (into_iter_items c.args.events) c.in-Ok.messages.items [] (sight c.args.pass.now) (sight c.deliver_all.new.pass)
    c.in-Ok.ensures.are c.in_default-deliver_all.ensures.all

-- the log is told of no denial, or of one
pub returns-in_default-clause-logged : goal.returns-in_default-clause-logged
returns-in_default-clause-logged g c = tells_none (λ x. g.L.Log.held x) (λ x. g.L.Log.lost x) c.args.log.now

pub returns-in-Err-clause-logged : goal.returns-in-Err-clause-logged
returns-in-Err-clause-logged g c =
    tells_then (λ x. g.L.Log.held x) (λ x. g.L.Log.lost x) c.args.log.now c.denial-denial.new.self c.refused.new.self c.denial-denial.ensures.tells c.refused.ensures.tells

pub returns-clause-logged : goal.returns-clause-logged
returns-clause-logged g c =
    tells_then (λ x. g.L.Log.held x) (λ x. g.L.Log.lost x) c.args.log.now c.denial-denial.new.self c.denied.new.self c.denial-denial.ensures.tells c.denied.ensures.tells

-- whether the link is gone
pub returns-in_default-clause-gone : goal.returns-in_default-clause-gone
returns-in_default-clause-gone g c = not_gone _ c.requires.going

pub returns-in-Err-clause-gone : goal.returns-in-Err-clause-gone
returns-in-Err-clause-gone g c = let stopped = c.in-Err.ensures.stopped in gone_by _ stopped.0 c.in-Err.e _ c.refused.ensures.refusal stopped.2

pub returns-clause-going : goal.returns-clause-going
returns-clause-going g c = c.denied.ensures.refusal ∙ c.denial-denial.ensures.refusal ∙ c.requires.going
