-- Each message stands behind those before it.
use Rattle.std.proofs.Common.{◌≡◌, ◌∙◌, ◌+◌, ◌∷◌, ◌++◌, length, ap, sym, subst, arith}
use Rattle.std.specs.List.{AllByRecursion}
use Rattle.std.specs.Vec.Iter.{into_iter_items}
use Rattle.std.proofs.lemmas.List.{length-append}
use Rattle.zr_session.specs.declared.event.SessionEvent.TheVariants as session_event
use Rattle.zr_wire.specs.Writing.{IsSpelled}
use Rattle.zr_link.specs.Heard.{AreMessages, messages}
use Rattle.zr_link.proofs.Going.{messages_more, spelled_more}
use Rattle.zr_link.proofs.delivery.messages_of.Goals as goal

pub loop-event-preserved : goal.loop-event-preserved
loop-event-preserved c =
    let inv = c.loop-event.invariant in
    let is : into_iter_items c.loop-event.rest ≡ session_event.Message c.in-Message.msg ∷ into_iter_items c.next.new.self = c.in-Some.ensures.items ∙ ap (λ z. z ∷ into_iter_items c.next.new.self) c.in-Message.is in
    let are = subst (AreMessages IsSpelled) is inv.others in
    let pushed = c.push_reserved.ensures.items in
    let more : length c.push_reserved.new.self.items ≡ length c.loop-event.messages.items + 1 = ap length pushed ∙ length-append c.loop-event.messages.items _ in
    record {
      are = inv.are ∙ messages_more _ _ _ _ is ∙ ap (λ z. messages z ++ into_iter_items c.next.new.self) (sym pushed);
      spelled = subst (AllByRecursion IsSpelled) (sym pushed) (spelled_more _ _ inv.spelled are.0);
      others = are.1;
      counted = omega (arith, c.in-Some.ensures.len, inv.counted, ap length is);
      room = omega (arith, inv.room, more, ap length is, c.push_reserved.ensures.capacity);
    }
