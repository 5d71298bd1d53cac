use Rattle.std.proofs.Common.{arith}
use Rattle.zr_world_rounds.proofs.Telling.{kinds_more, kinds_all}
use Rattle.zr_world_rounds.proofs.told.kinds_in.Goals as goal

pub loop-share-preserved : goal.loop-share-preserved
loop-share-preserved c =
    kinds_more c.args.shares.now c.loop-share.share-index c.share-item.result c.loop-share.kinds c.steps-more.result _ _ _ (omega arith) c.share-item.is c.loop-share.invariant c.steps-more.ensures
    c.in_ok-kinds.ensures c.in_ok-kinds-2.ensures c.in_ok-kinds-3.ensures

pub returns : goal.returns
returns c = kinds_all c.args.shares.now c.loop-share.share-index c.loop-share.kinds (omega arith) c.loop-share.invariant
