use Rattle.std.proofs.Common.{Some, ap}
use Rattle.zr_carrier.specs.Wire.{new_wire}
use Rattle.zr_carrier.specs.Kept.{wires_in}
use Rattle.zr_carrier.proofs.Setting.{set_as}
use Rattle.zr_carrier.proofs.plain.Plain.put_wire.Goals as goal

pub returns-clause-put : goal.returns-clause-put
returns-clause-put c =
    set_as c.args.from c.args.to (Some c.new.result) (Some (new_wire c.args.role)) (wires_in c.args.self.now.wires) (wires_in c.insert.new.self)
    (λ f t. c.in_ok-insert.ensures.updates.0 (f, t)) (ap (λ z. Some z) c.new.ensures)
