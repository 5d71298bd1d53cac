use Rattle.zr_port.specs.Coming.{sight}
use Rattle.zr_port.proofs.Coming.{looks_self}
use Rattle.zr_admin.proofs.Sending.{makes_one}
use Rattle.zr_admin.proofs.admin.declare.Goals as goal

pub returns-in-Ok-clause-declared : goal.returns-in-Ok-clause-declared
returns-in-Ok-clause-declared g c = (
  sight c.deliver.new.pass,
  makes_one c.args.link (λ h m e. g.P.Port.refuses_message c.args.port.now h c.args.link m e) _ c.args.pass.now c.deliver.new.pass c.in-Ok.ensures.added,
  looks_self (sight c.deliver.new.pass),
)
