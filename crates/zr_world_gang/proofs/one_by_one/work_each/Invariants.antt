use Rattle.zr_world_gang.proofs.Turns.{DoneSoFar}
use Rattle.zr_world_gang.proofs.one_by_one.work_each.Given as goal

abbrev pub invariant-loop-share : goal.invariant-loop-share
invariant-loop-share l = DoneSoFar l.turn l.share-index l.fn.shares l.shares
