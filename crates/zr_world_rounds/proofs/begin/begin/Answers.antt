use Rattle.std.proofs.lemmas.Result.{on_ok_weaker}
use Rattle.zr_world_rounds.proofs.Coming.{end_begins}
use Rattle.zr_world_rounds.proofs.begin.begin.Goals as goal

pub returns : goal.returns
returns c =
    on_ok_weaker c.send_all.result
    (λ h.
    end_begins (c.args.router, c.args.neighbour) c.args.end c.is_among-is_router.result c.is_stuck.result c.into_waiting-wire.result.0.items c.into_waiting-wire.result.1.items c.args.shares.now c.receive_all.new.shares c.send_all.new.shares
    c.is_among-is_router.ensures c.into_waiting-wire.ensures.wire c.into_waiting-wire.ensures.queue c.in_ok-receive_all.ensures h c.is_stuck.ensures c.if-is_stuck.false)
    c.send_all.ensures
