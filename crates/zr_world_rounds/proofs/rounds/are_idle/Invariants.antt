use Rattle.std.proofs.Common.{◌≡◌, [], true, take}
use Rattle.std.specs.List.{AllByRecursion}
use Rattle.zr_world_gang.specs.Shares.{MayBeHandled}
use Rattle.zr_law_rounds.specs.Rounds.{waits}
use Rattle.zr_world_rounds.proofs.rounds.are_idle.Given as goal

abbrev pub invariant-loop-share : goal.invariant-loop-share
invariant-loop-share l = (l.idle ≡ true → waits (take l.share-index l.shares) ≡ []) × AllByRecursion (λ s. MayBeHandled s.hub s.input) (take l.share-index l.shares)
