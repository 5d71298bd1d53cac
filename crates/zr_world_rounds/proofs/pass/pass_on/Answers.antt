use Rattle.std.proofs.Common.{[]}
use Rattle.zr_law_rounds.specs.Told.{nothing}
use Rattle.zr_world_rounds.proofs.Coming.{come_none, come_both}
use Rattle.zr_world_rounds.proofs.pass.pass_on.Goals as goal

pub loop-place-init : goal.loop-place-init
loop-place-init c = come_none c.args.shares.now

pub loop-place-preserved : goal.loop-place-preserved
loop-place-preserved c = come_both [] [] nothing nothing c.args.shares.now c.loop-place.shares c.pass_from.new.shares c.loop-place.invariant c.in_ok-pass_from.ensures

pub returns : goal.returns
returns c = c.loop-place.invariant
