use Rattle.std.proofs.Common.{arith}
use Rattle.std.proofs.lemmas.List.{drop_all}
use Rattle.zr_local.specs.declared.interest.Interest.{Interest}
use Rattle.zr_told_interested.specs.Keys.{IsKeyed}
use Rattle.zr_told_interested.proofs.Left.{all_hold, next_holds}
use Rattle.zr_told_interested.proofs.by_key.know_interests.Goals as goal

pub loop-interest-preserved : goal.loop-interest-preserved
loop-interest-preserved c =
    next_holds (λ (x : Interest). IsKeyed x) c.args.interests.now c.loop-interest.interest-index c.interest-item.result (omega arith) c.interest-item.is c.know_key.ensures c.loop-interest.invariant

pub returns : goal.returns
returns c = all_hold (λ (x : Interest). IsKeyed x) c.args.interests.now c.loop-interest.interest-index (drop_all c.loop-interest.interest-index c.args.interests.now (omega arith)) c.loop-interest.invariant
