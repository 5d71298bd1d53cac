use Rattle.std.proofs.Common.{take}
use Rattle.std.specs.List.{AllByRecursion}
use Rattle.zr_law_rounds.specs.Told.{IsTold}
use Rattle.zr_law_rounds.proofs.Parts.{AreJoined}
use Rattle.zr_world_rounds.proofs.told.lines_of.Given as goal

abbrev pub invariant-loop-share : goal.invariant-loop-share
invariant-loop-share l = AllByRecursion (λ s. IsTold s) l.shares → AreJoined (take l.share-index l.shares) l.text.items l.last
