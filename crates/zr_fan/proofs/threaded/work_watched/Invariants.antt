use Rattle.zr_world_gang.proofs.Turns.{DoneSoFar}
use Rattle.zr_fan.proofs.threaded.work_watched.Given as goal

abbrev pub invariant-loop-share : goal.invariant-loop-share
invariant-loop-share g l = DoneSoFar l.turn l.share-index l.fn.shares l.shares
