-- One message after another: one for another link changes nothing, and one for the link is put.
use Rattle.std.proofs.Common.{rules, ◌≡◌, ◌+◌, List, ◌∷◌, drop, ap, subst, sym, ◌∙◌, arith}
use Rattle.std.proofs.lemmas.List.{at_drop_more, at_drop_all}
use Rattle.zr_id.specs.declared.link.LinkNo.{LinkNo}
use Rattle.zr_msg.specs.declared.msg.Msg.{Msg}
use Rattle.zr_node_spec.specs.Event.{on_link}
use Rattle.zr_frame.specs.Outbox.{OutboxState}
use Rattle.zr_frame_pack.specs.Marks.{IsLater}
use Rattle.zr_frame_pack.specs.Packing.{written}
use Rattle.zr_frame_pack.proofs.NamesGiven.{later_then, put_all, put_more, put_none, put_other}
use Rattle.zr_router_queue.proofs.Plans.{on_next, on_other}
use Rattle.zr_router_queue.proofs.pack.named.Goals.{then-to-link+in_ok-put, else-to-link}
use Rattle.zr_router_queue.proofs.pack.named.Goals as goal

pub loop-place-init : goal.loop-place-init
loop-place-init c = put_none c.args.outbox.now _ (on_link c.args.link c.args.sent.now) (search rules)

pub loop-place-preserved : goal.loop-place-preserved
loop-place-preserved c =
    let l = c.loop-place in
    let start = c.args.outbox.now in
    let x : LinkNo × Msg = c.index-sent-place.result in
    let rest : List (LinkNo × Msg) = drop (l.place + 1) c.args.sent.now in
    let all = written start.names (on_link c.args.link c.args.sent.now) in
    let here : on_link c.args.link (drop l.place c.args.sent.now) ≡ on_link c.args.link (x ∷ rest) =
    at_drop_more (λ z. on_link c.args.link z) c.args.sent.now l.place x c.loop-place-test.true ∙ ap (λ y. on_link c.args.link (y ∷ rest)) (sym c.index-sent-place.is) in
    elim c.if-to-link.branch [
      | then-to-link+in_ok-put w ↦
          let first = here ∙ on_next c.args.link x rest (search rules) in
          put_more start all l.messages.items c.if-to-link.messages.items l.outbox c.if-to-link.outbox x.1 (on_link c.args.link (drop l.place c.args.sent.now)) (on_link c.args.link rest)
          l.invariant.0 l.invariant.1 l.invariant.2 first (ap (λ v. v.items) w.messages-is ∙ w.in_ok-put.ensures.messages) (w.outbox-is ∙ w.in_ok-put.ensures.names)
          (subst (λ (z : OutboxState). IsLater l.outbox.names z.names) (sym w.outbox-is) w.put.ensures.later)
      | else-to-link w ↦
          let same = here ∙ on_other c.args.link x rest (search rules) in
          rw (w.messages-is, w.outbox-is)
          (put_other start all l.messages.items l.outbox (on_link c.args.link (drop l.place c.args.sent.now)) (on_link c.args.link rest) l.invariant.0 l.invariant.1 l.invariant.2 same)
    ]

pub returns-clause-messages : goal.returns-clause-messages
returns-clause-messages c =
    (put_all c.args.outbox.now (written c.args.outbox.now.names (on_link c.args.link c.args.sent.now)) c.loop-place.messages.items c.loop-place.outbox _ c.loop-place.invariant.0 c.loop-place.invariant.1
    (at_drop_all (λ z. on_link c.args.link z) c.args.sent.now c.loop-place.place (omega arith))).0

pub returns-clause-names : goal.returns-clause-names
returns-clause-names c =
    (put_all c.args.outbox.now (written c.args.outbox.now.names (on_link c.args.link c.args.sent.now)) c.loop-place.messages.items c.loop-place.outbox _ c.loop-place.invariant.0 c.loop-place.invariant.1
    (at_drop_all (λ z. on_link c.args.link z) c.args.sent.now c.loop-place.place (omega arith))).1

pub returns-in_err-put-clause-later : goal.returns-in_err-put-clause-later
returns-in_err-put-clause-later c = later_then c.args.outbox.now.names c.loop-place.outbox.names c.put.new.outbox.names c.loop-place.invariant.2 c.put.ensures.later

pub returns-clause-later : goal.returns-clause-later
returns-clause-later c = c.loop-place.invariant.2
