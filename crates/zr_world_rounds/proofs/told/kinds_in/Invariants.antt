use Rattle.std.proofs.Common.{◌≡◌, take}
use Rattle.zr_law_rounds.specs.Told.{kinds_in}
use Rattle.zr_world_rounds.proofs.told.kinds_in.Given as goal

abbrev pub invariant-loop-share : goal.invariant-loop-share
invariant-loop-share l = l.kinds ≡ kinds_in (take l.share-index l.shares)
