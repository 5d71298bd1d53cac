use Rattle.std.proofs.Common.{true, false, ◌∙◌}
use Rattle.std.proofs.lemmas.Result.{on_ok_weaker, on_err_weaker}
use Rattle.zr_query.proofs.OnRoute.{gathered_is, request_told, request_prefix, pending_is, room_is}
use Rattle.zr_query.proofs.asking.request.Goals as goal

pub returns-clause-sends : goal.returns-clause-sends
returns-clause-sends c = λ t named h.
    on_ok_weaker _
    (request_told t c.args.pending.now.rows c.args.from c.args.tree c.args.target c.args.content.now named c.args.route.now c.as_slice.result.now h (c.as_slice.ensures.value ∙ c.in_ok-stops.ensures) _ _)
    c.ask_or_end.ensures.sends

pub returns-clause-rows : goal.returns-clause-rows
returns-clause-rows c = λ t named h.
    on_ok_weaker _
    (pending_is t c.args.pending.now.rows c.args.from c.args.tree c.args.target c.args.content.now named c.args.route.now c.as_slice.result.now h (c.as_slice.ensures.value ∙ c.in_ok-stops.ensures) _)
    c.ask_or_end.ensures.rows

pub returns-clause-held : goal.returns-clause-held
returns-clause-held c = λ t named h.
    on_ok_weaker _
    (gathered_is t c.args.pending.now.rows c.args.from c.args.tree c.args.target c.args.content.now named c.args.route.now c.as_slice.result.now h (c.as_slice.ensures.value ∙ c.in_ok-stops.ensures) c.args.pending.now.held _ c.args.latest)
    c.ask_or_end.ensures.held

pub returns-clause-room : goal.returns-clause-room
returns-clause-room c = λ t named h.
    on_ok_weaker _
    (room_is t c.args.pending.now.rows c.args.from c.args.tree c.args.target c.args.content.now named c.args.route.now c.as_slice.result.now h (c.as_slice.ensures.value ∙ c.in_ok-stops.ensures) false)
    c.ask_or_end.ensures.room

pub returns-clause-full : goal.returns-clause-full
returns-clause-full c = λ t named h e.
    room_is t c.args.pending.now.rows c.args.from c.args.tree c.args.target c.args.content.now named c.args.route.now c.as_slice.result.now h (c.as_slice.ensures.value ∙ c.in_ok-stops.ensures) true
    (c.ask_or_end.ensures.full e)

pub returns-clause-prefix : goal.returns-clause-prefix
returns-clause-prefix c = λ t named h.
    on_err_weaker _
    (request_prefix t c.args.pending.now.rows c.args.from c.args.tree c.args.target c.args.content.now named c.args.route.now c.as_slice.result.now h (c.as_slice.ensures.value ∙ c.in_ok-stops.ensures) _ _)
    c.ask_or_end.ensures.prefix
