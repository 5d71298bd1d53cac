use Rattle.std.proofs.Common.{◌<◌, length, get_or, set, sym, subst, add-one, arith}
use Rattle.zr_world_gang.specs.Turns.{HasDone}
use Rattle.zr_world_gang.proofs.Turns.{DoneSoFar, done_next, done_all}
use Rattle.zr_world_gang.proofs.one_by_one.work_each.Goals as goal

pub loop-share-preserved : goal.loop-share-preserved
loop-share-preserved c =
    let i = c.loop-share.share-index in
    let within : i < length c.args.shares.now = omega arith in
    let done : HasDone c.args.turn (get_or c.loop-share.shares i c.share-item.result) c.work.new.self = c.in_ok-work.ensures in
    subst (λ n. DoneSoFar c.args.turn n c.args.shares.now (set c.loop-share.shares i c.work.new.self)) (sym (add-one i))
    (done_next c.args.turn i c.args.shares.now c.loop-share.shares c.share-item.result c.work.new.self within c.loop-share.invariant done)

pub returns : goal.returns
returns c = done_all c.args.turn c.loop-share.share-index c.args.shares.now c.loop-share.shares (omega arith) (omega arith) c.loop-share.invariant
