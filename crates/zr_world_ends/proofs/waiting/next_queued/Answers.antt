use Rattle.std.proofs.Common.{sym, ap, ◌∙◌}
use Rattle.zr_world_ends.specs.Kept.{can_handle}
use Rattle.zr_world_ends.proofs.Giving.{queue_gives}
use Rattle.zr_world_ends.proofs.Index.{takes_changed}
use Rattle.zr_world_ends.proofs.waiting.next_queued.Goals as goal

pub returns-clause-index : goal.returns-clause-index
returns-clause-index c = λ to_handle x.
    takes_changed c.args.ends.now c.args.to_take.now c.set.new.words to_handle c.in-Some.place _ c.next_queued.new.self c.in-Some.ensures.there.within
    (λ q. rw (← c.can_take.ensures) (c.set.ensures.marks q)) c.set.ensures.room (ap can_handle c.in-Some-next_queued.ensures.found.1) x

pub returns-clause-steps : goal.returns-clause-steps
returns-clause-steps c =
    queue_gives c.args.ends.now c.args.at c.in-Some.place c.index-ends-place.result _ c.next_queued.new.self c.in-Some.ensures.there (sym c.is_up.ensures ∙ c.if-not-is_up.false)
    (sym c.is_unbroken.ensures ∙ c.if-not-is_unbroken.false) c.in-Some-next_queued.ensures.found.0 c.in-Some-next_queued.ensures.found.1
