use Rattle.std.proofs.Common.{None}
use Rattle.zr_carrier.specs.Kept.{wires_in}
use Rattle.zr_carrier.proofs.Setting.{set_both}
use Rattle.zr_netrun_batches.proofs.batches.BatchesCarrier.close.Goals as goal

pub returns : goal.returns
returns c =
    set_both c.args.one c.args.other c.args.other c.args.one None None (wires_in c.args.self.now.ways) (wires_in c.remove.new.self) (wires_in c.remove-2.new.self)
    (λ f t. c.remove.ensures.updates.0 (f, t)) (λ f t. c.remove-2.ensures.updates.0 (f, t))
