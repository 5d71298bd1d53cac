use Rattle.std.proofs.Common.{Err, subst}
use Rattle.zr_router_core.specs.Done.{IsNodeDone}
use Rattle.zr_router_core.specs.declared.failure.HubFailure.{HubFailure}
use Rattle.zr_router_core.specs.declared.failure.HubFailure.TheVariants.{NoMemory}
use Rattle.zr_router_core.proofs.Joined.{to_tell_now, now_done, now_sound, first_failed}
use Rattle.zr_router_core.proofs.Lasting.{known_told, known_handled}
use Rattle.zr_router_core.proofs.whole.on_judged.Goals as goal

pub tell-requires-clause-known : goal.tell-requires-clause-known
tell-requires-clause-known c = known_handled c.args.node.now c.args.event.now c.args.interested.now c.handle.new.node c.args.out.now.items c.handle.new.out.items c.in-Ok.ensures c.requires.lasting

pub tell-requires-clause-to_tell : goal.tell-requires-clause-to_tell
tell-requires-clause-to_tell c =
    to_tell_now c.args.node.now c.args.told.now c.args.event.now c.args.places.now c.requires.before c.requires.sound c.requires.places c.requires.keys c.requires.ids c.handle.new.node c.args.out.now.items c.handle.new.out.items c.in-Ok.ensures

pub returns-in-Ok-clause-done : goal.returns-in-Ok-clause-done
returns-in-Ok-clause-done c =
    now_done c.args.node.now c.args.told.now c.args.event.now c.args.places.now c.requires.before c.requires.sound c.requires.places c.requires.keys c.requires.ids c.handle.new.node c.args.out.now.items c.handle.new.out.items c.in-Ok.ensures
    c.tell.result c.tell.new.node c.tell.new.told c.tell.new.out.items c.tell.ensures.same c.tell.ensures.told c.answer.result c.answer.ensures

pub returns-in-Ok-clause-sound : goal.returns-in-Ok-clause-sound
returns-in-Ok-clause-sound c =
    now_sound c.args.node.now c.args.told.now c.args.event.now c.args.places.now c.requires.before c.requires.sound c.requires.places c.requires.keys c.requires.ids c.handle.new.node c.args.out.now.items c.handle.new.out.items c.in-Ok.ensures
    c.tell.result c.tell.new.node c.tell.new.told c.tell.new.out.items c.tell.ensures.same c.tell.ensures.told c.answer.result c.answer.ensures

pub returns-in-Err-NoMemory-clause-done : goal.returns-in-Err-NoMemory-clause-done
returns-in-Err-NoMemory-clause-done c =
    first_failed c.args.node.now c.args.told.now c.args.event.now NoMemory c.handle.new.node c.args.out.now.items c.handle.new.out.items
    (subst (λ (f : HubFailure). IsNodeDone c.args.node.now c.args.event.now (Err f) c.handle.new.node c.args.out.now.items c.handle.new.out.items) c.in-Err-NoMemory.field-0-is c.in-Err-NoMemory.ensures)

pub returns-in-Ok-clause-known : goal.returns-in-Ok-clause-known
returns-in-Ok-clause-known c = known_told c.handle.new.node c.tell.new.node c.tell.new.interested c.tell.result c.answer.result c.tell.ensures.same c.answer.ensures c.tell.ensures.known
