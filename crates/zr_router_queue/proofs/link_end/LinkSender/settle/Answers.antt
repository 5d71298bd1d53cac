-- The end was planned, and its entry stands last in what the pass has seen: what the entry says of the link is what its ring is given.
use Rattle.std.proofs.Common.{◌≡◌, true, false, Some, option_map, refl, sym, ap, subst, ◌∙◌}
use Rattle.zr_hist.specs.Words.{seen}
use Rattle.zr_router_queue.specs.Tables.{is_among}
use Rattle.zr_router_queue.specs.Ends.{EndState, IsEntered}
use Rattle.zr_router_queue.specs.Note.{FitsRing}
use Rattle.zr_router_queue.specs.Planned.{planned}
use Rattle.zr_router_queue.proofs.Planning.{of_plan, plan_is}
use Rattle.zr_router_queue.proofs.Settling.{closed_vouched, given_queued, given_room}
use Rattle.zr_router_queue.proofs.link_end.LinkSender.settle.Goals as goal

pub close-requires-clause-vouched : goal.close-requires-clause-vouched
close-requires-clause-vouched c =
    let en = c.requires.entered in
    let here = subst (λ x. IsEntered c.args.me (seen c.args.pass.now) en.0 c.args.entry.now x) (sym c.self.view_is) en.1 in
    let kept : c.self.inside.plan ≡ Some c.in-Some.plan = cc in
    let plan : option_map (planned c.self.inside.outbox) c.self.inside.plan ≡ Some (planned c.self.inside.outbox c.in-Some.plan) = ap (λ o. option_map (planned c.self.inside.outbox) o) kept in
    let among : is_among c.args.entry.now.closed c.self.inside.link ≡ true = ap (λ l. is_among l c.self.inside.link) (sym c.as_slice.ensures) ∙ sym c.is_among.ensures ∙ c.if-is_among.true in
    let note = c.note-note.ensures.note in
    rw (note.0, note.1, note.2) (closed_vouched c.args.me (seen c.args.pass.now) en.0 c.args.entry.now _ (planned c.self.inside.outbox c.in-Some.plan) here plan refl among)

pub give_plan-requires-clause-queued : goal.give_plan-requires-clause-queued
give_plan-requires-clause-queued c =
    let now = c.args.self.now in
    let en = c.requires.entered in
    let p = planned c.self.inside.outbox c.in-Some.plan in
    let kept : c.self.inside.plan ≡ Some c.in-Some.plan = cc in
    let plan = sym (ap (λ (e : EndState). e.plan) c.self.view_is) ∙ plan_is c.self.inside.outbox c.self.inside.plan c.in-Some.plan kept in
    let other : is_among c.args.entry.now.closed c.self.inside.link ≡ false = ap (λ l. is_among l c.self.inside.link) (sym c.as_slice.ensures) ∙ sym c.is_among.ensures ∙ c.if-is_among.false in
    let neither : is_among c.args.entry.now.dropped c.self.inside.link ≡ false =
    ap (λ l. is_among l c.self.inside.link) (sym c.as_slice-else-is_among.ensures) ∙ sym c.is_among-else-is_among.ensures ∙ c.if-is_among-2.false in
    of_plan now.plan p _ plan
    (given_queued c.args.me (seen c.args.pass.now) en.0 c.args.entry.now now p en.1 plan (sym (ap (λ (e : EndState). e.queue.is_up) c.self.view_is))
    (subst (λ (e : EndState). is_among c.args.entry.now.closed e.queue.link ≡ false) c.self.view_is other)
    (subst (λ (e : EndState). is_among c.args.entry.now.dropped e.queue.link ≡ false) c.self.view_is neither))

pub give_plan-requires-clause-room : goal.give_plan-requires-clause-room
give_plan-requires-clause-room c =
    let now = c.args.self.now in
    let en = c.requires.entered in
    let p = planned c.self.inside.outbox c.in-Some.plan in
    let kept : c.self.inside.plan ≡ Some c.in-Some.plan = cc in
    let plan = sym (ap (λ (e : EndState). e.plan) c.self.view_is) ∙ plan_is c.self.inside.outbox c.self.inside.plan c.in-Some.plan kept in
    let other : is_among c.args.entry.now.closed c.self.inside.link ≡ false = ap (λ l. is_among l c.self.inside.link) (sym c.as_slice.ensures) ∙ sym c.is_among.ensures ∙ c.if-is_among.false in
    let neither : is_among c.args.entry.now.dropped c.self.inside.link ≡ false =
    ap (λ l. is_among l c.self.inside.link) (sym c.as_slice-else-is_among.ensures) ∙ sym c.is_among-else-is_among.ensures ∙ c.if-is_among-2.false in
    of_plan now.plan p _ plan
    (given_room c.args.me (seen c.args.pass.now) en.0 c.args.entry.now now p en.1 plan (sym (ap (λ (e : EndState). e.queue.is_up) c.self.view_is))
    (subst (λ (e : EndState). is_among c.args.entry.now.closed e.queue.link ≡ false) c.self.view_is other)
    (subst (λ (e : EndState). is_among c.args.entry.now.dropped e.queue.link ≡ false) c.self.view_is neither))

pub give_plan-requires-clause-fits : goal.give_plan-requires-clause-fits
give_plan-requires-clause-fits c = c.requires.entered.1.named

pub close-requires-clause-fits : goal.close-requires-clause-fits
close-requires-clause-fits c =
    let note = c.note-note.ensures.note in
    let here = subst (λ (e : EndState). FitsRing e.ring.name c.args.me e.queue.link (seen c.args.pass.now)) (sym c.self.view_is) c.requires.entered.1.named in
    rw (note.0, note.1, note.2) here
