use Rattle.std.proofs.Common.{◌≡◌, ◌+◌, ◌≤◌, ◌++◌, length, vec_capacity}
use Rattle.std.specs.List.{AllByRecursion}
use Rattle.std.specs.Vec.Iter.{into_iter_items, into_iter_len}
use Rattle.zr_wire.specs.Writing.{IsSpelled}
use Rattle.zr_link.specs.Heard.{AreMessages, messages}
use Rattle.zr_link.proofs.delivery.messages_of.Given as goal

abbrev pub invariant-loop-event : goal.invariant-loop-event
invariant-loop-event l = record {
  are : into_iter_items l.fn.events ≡ messages l.messages.items ++ into_iter_items l.rest;
  spelled : AllByRecursion IsSpelled l.messages.items;
  others : AreMessages IsSpelled (into_iter_items l.rest);
  counted : into_iter_len l.rest ≡ length (into_iter_items l.rest);
  room : length l.messages.items + length (into_iter_items l.rest) ≤ vec_capacity l.messages;
}

abbrev pub decreases-loop-event : goal.decreases-loop-event
decreases-loop-event l = into_iter_len l.rest
