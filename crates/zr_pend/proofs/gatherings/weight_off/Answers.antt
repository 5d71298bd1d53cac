use Rattle.std.proofs.Common.{sym, ◌∙◌}
use Rattle.zr_pend_spec.proofs.Gathered.{parts_weigh}
use Rattle.zr_pend.proofs.gatherings.weight_off.Goals as goal

pub loop-gathering-init : goal.loop-gathering-init
loop-gathering-init c = c.requires ∙ sym (parts_weigh c.args.link.0 c.args.items.now)
