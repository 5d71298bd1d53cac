use Rattle.std.proofs.Common.{sym, ap, ◌∙◌, subst, arith}
use Rattle.std.specs.List.{AllByRecursion}
use Rattle.std.proofs.lemmas.List.{take_all}
use Rattle.zr_world_gang.specs.Shares.{MayBeHandled}
use Rattle.zr_law_rounds.specs.Rounds.{waits}
use Rattle.zr_world_rounds.proofs.Coming.{idle_next, may_next}
use Rattle.zr_world_rounds.proofs.rounds.are_idle.Goals as goal

pub loop-share-preserved : goal.loop-share-preserved
loop-share-preserved c =
    let inv = c.loop-share.invariant in
    let told = c.is_idle_too-idle.ensures in (
      λ idle.
          idle_next c.args.shares.now c.loop-share.share-index c.share-item.result (omega arith) c.share-item.is (inv.0 (told.idle idle).0) (told.idle idle).1,
      may_next c.args.shares.now c.loop-share.share-index c.share-item.result (omega arith) c.share-item.is inv.1 told.may,
    )

pub returns-clause-idle : goal.returns-clause-idle
returns-clause-idle c =
    let all = take_all c.loop-share.share-index c.args.shares.now (omega arith) in
    λ idle. ap waits (sym all) ∙ c.loop-share.invariant.0 idle

pub returns-clause-may : goal.returns-clause-may
returns-clause-may c =
    subst (λ z. AllByRecursion (λ s. MayBeHandled s.hub s.input) z) (take_all c.loop-share.share-index c.args.shares.now (omega arith)) c.loop-share.invariant.1
