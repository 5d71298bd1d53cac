use Rattle.std.proofs.Common.{[], ◌∷◌}
use Rattle.std.proofs.lemmas.Result.{err_from_is_err_and}
use Rattle.zr_lists.proofs.Prefixes.{so_far_nothing, so_far_stopped}
use Rattle.zr_query.specs.Answering.{ending_sent, final_sent, held_sent}
use Rattle.zr_query.proofs.answering.end.Goals as goal

pub returns-in_err-send_held-clause-err : goal.returns-in_err-send_held-clause-err
returns-in_err-send_held-clause-err c =
    let p = err_from_is_err_and c.from_residual.result c.from_residual.ensures.1 in
    let before = c.args.out.now.items in
    let final = final_sent c.args.extras.now c.args.ended.now.asker ∷ [] in
    rw p.1
    (so_far_stopped before (ending_sent c.args.extras.now c.args.ended.now) before c.send_held.new.out.items (held_sent c.args.ended.now) final
    (so_far_nothing before (ending_sent c.args.extras.now c.args.ended.now)) (rw (← c.ended.view_is, ← c.as_slice.ensures.value) c.in_err-send_held.ensures.err))
