use Rattle.zr_port.specs.Coming.{sight}
use Rattle.zr_ring.specs.Taker.{taken}
use Rattle.zr_admin.proofs.Stepping.{stepped}
use Rattle.zr_admin.proofs.admin.step.Goals as goal

pub returns-in-Parcel-clause-steps : goal.returns-in-Parcel-clause-steps
returns-in-Parcel-clause-steps g c =
    let told = c.in-Parcel.ensures.tells in
    stepped c.args.link (λ h m e. g.P.Port.refuses_message c.args.port.now h c.args.link m e) (λ h. g.P.Glancing.glance_of c.args.port.now h) c.args.id c.answer.result
    (taken c.args.taker.now) (taken c.take.new.self) c.args.hearing.now c.answer.new.hearing (sight c.args.pass.now) (sight c.answer.new.pass)
    (record { parcel = c.in-Parcel.parcel; one = told.0; goes_on = told.3; is_so = c.answer.ensures.hears })
