use Rattle.std.proofs.Common.{List, ap, sym, ◌∙◌}
use Rattle.std.specs.Option.{option_map}
use Rattle.zr_local.specs.declared.interest.ClientInterests.{ClientInterests}
use Rattle.zr_node_spec.specs.State.{tables}
use Rattle.zr_router_core.specs.Ready.{is_silent}
use Rattle.zr_router_core.proofs.Telling.{silent_told, ready_kept, told_again, again_of}
use Rattle.zr_router_core.proofs.tell.tell.Goals as goal

pub returns-then-is_silent-clause-told : goal.returns-then-is_silent-clause-told
returns-then-is_silent-clause-told c =
    told_again (tables c.args.node.now) c.args.event.now (option_map (λ v. v.items) c.args.places.now) c.args.told.now c.forget.new.told c.requires.to_tell c.forget.ensures c.forget.new.told c.args.out.now.items c.args.out.now.items
    (silent_told (tables c.args.node.now) c.args.event.now c.forget.new.told (option_map (λ v. v.items) c.args.places.now)
    (ready_kept (tables c.args.node.now) c.args.event.now (option_map (λ v. v.items) c.args.places.now) c.args.told.now c.forget.new.told c.requires.to_tell c.forget.ensures)
    c.args.out.now.items
    (ap (λ (cs : List ClientInterests). is_silent cs c.args.event.now (option_map (λ v. v.items) c.args.places.now)) (sym c.clients.ensures.value) ∙ sym c.is_silent.ensures ∙ c.if-is_silent.true))

pub returns-clause-told : goal.returns-clause-told
returns-clause-told c =
    again_of (tables c.args.node.now) c.args.event.now (option_map (λ v. v.items) c.args.places.now) c.args.told.now c.forget.new.told c.requires.to_tell c.forget.ensures c.tell_lent.result c.tell_lent.new.told c.args.out.now.items c.tell_lent.new.out.items
    c.tell_lent.ensures.told
