use Rattle.std.proofs.Common.{List, ap, sym, ◌∙◌}
use Rattle.zr_local.specs.declared.interest.ClientInterests.{ClientInterests}
use Rattle.zr_router_core.specs.Ready.{tells_nobody}
use Rattle.zr_router_core.proofs.Joined.{judged, nobody_done, nobody_stays}
use Rattle.zr_router_core.proofs.Lasting.{known_after, known_failed}
use Rattle.zr_router_core.proofs.whole.on_event.Goals as goal

pub returns-then-tells_nobody-clause-done : goal.returns-then-tells_nobody-clause-done
returns-then-tells_nobody-clause-done c =
    nobody_done c.args.node.now c.args.told.now c.args.event.now c.requires.sound (ap (λ (cs : List ClientInterests). tells_nobody cs c.args.event.now) (sym c.clients.ensures.value) ∙ sym c.tells_nobody.ensures ∙ c.if-tells_nobody.true)
    c.handle.result c.handle.new.node c.args.out.now.items c.handle.new.out.items c.handle.ensures

pub returns-then-tells_nobody-clause-sound : goal.returns-then-tells_nobody-clause-sound
returns-then-tells_nobody-clause-sound c =
    nobody_stays c.args.node.now c.args.told.now c.args.event.now c.requires.sound (ap (λ (cs : List ClientInterests). tells_nobody cs c.args.event.now) (sym c.clients.ensures.value) ∙ sym c.tells_nobody.ensures ∙ c.if-tells_nobody.true)
    c.handle.result c.handle.new.node c.args.out.now.items c.handle.new.out.items c.handle.ensures

pub returns-then-tells_nobody-clause-known : goal.returns-then-tells_nobody-clause-known
returns-then-tells_nobody-clause-known c =
    known_after c.args.node.now c.args.event.now c.forget_changed.new.interested c.handle.result c.handle.new.node c.args.out.now.items c.handle.new.out.items c.handle.ensures c.forget_changed.ensures

pub returns-in-Err-clause-done : goal.returns-in-Err-clause-done
returns-in-Err-clause-done c = judged c.args.node.now c.args.told.now c.args.event.now c.lacking.result c.args.out.now.items c.lacking.ensures

pub returns-in-Err-clause-known : goal.returns-in-Err-clause-known
returns-in-Err-clause-known c = known_failed c.args.node.now.clients c.forget_changed.new.interested c.lacking.result c.forget_changed.ensures.before
