use Rattle.std.proofs.Common.{rules, ◌+◌, ◌∷◌, drop, ap, sym, ◌∙◌, arith}
use Rattle.std.proofs.lemmas.List.{at_drop_more, at_drop_all}
use Rattle.zr_frame_pack.specs.Packing.{written}
use Rattle.zr_frame_pack.proofs.NamesGiven.{later_then, put_all, put_more, put_none}
use Rattle.zr_frame_pack.proofs.packing.written.Goals as goal

pub loop-msg-init : goal.loop-msg-init
loop-msg-init c = put_none c.args.outbox.now c.in_ok-written.written.items c.args.messages.now (search rules)

pub loop-msg-preserved : goal.loop-msg-preserved
loop-msg-preserved c =
    let l = c.loop-msg in
    let first = at_drop_more (λ x. x) c.args.messages.now l.msg-index c.msg-item.result c.loop-msg-test.true ∙ ap (λ m. m ∷ drop (l.msg-index + 1) c.args.messages.now) (sym c.msg-item.is) in
    put_more c.args.outbox.now (written c.args.outbox.now.names c.args.messages.now) l.written.items c.put.new.messages.items l.outbox c.put.new.self c.msg-item.result
    (drop l.msg-index c.args.messages.now) (drop (l.msg-index + 1) c.args.messages.now) l.invariant.0 l.invariant.1 l.invariant.2 first c.in_ok-put.ensures.messages c.in_ok-put.ensures.names
    c.put.ensures.later

pub returns-in_err-put-clause-later : goal.returns-in_err-put-clause-later
returns-in_err-put-clause-later c = later_then c.args.outbox.now.names c.loop-msg.outbox.names c.put.new.self.names c.loop-msg.invariant.2 c.put.ensures.later

pub returns-clause-messages : goal.returns-clause-messages
returns-clause-messages c =
    (put_all c.args.outbox.now (written c.args.outbox.now.names c.args.messages.now) c.loop-msg.written.items c.loop-msg.outbox _ c.loop-msg.invariant.0 c.loop-msg.invariant.1
    (at_drop_all (λ x. x) c.args.messages.now c.loop-msg.msg-index (omega arith))).0

pub returns-clause-names : goal.returns-clause-names
returns-clause-names c =
    (put_all c.args.outbox.now (written c.args.outbox.now.names c.args.messages.now) c.loop-msg.written.items c.loop-msg.outbox _ c.loop-msg.invariant.0 c.loop-msg.invariant.1
    (at_drop_all (λ x. x) c.args.messages.now c.loop-msg.msg-index (omega arith))).1
