use Rattle.std.proofs.Common.{rules}
use Rattle.zr_world_ends.specs.Kept.{queued}
use Rattle.zr_world_ends.proofs.Same.{changed_by_look_up}
use Rattle.zr_world_ends.proofs.Index.{takes_changed}
use Rattle.zr_world_ends.proofs.waiting.enqueue.Goals as goal

pub returns-clause-index : goal.returns-clause-index
returns-clause-index c = λ to_handle x.
    takes_changed c.args.ends.now c.args.to_take.now c.set.new.words to_handle c.in-Some.place _ c.enqueue-done.new.self c.in-Some.ensures.there.within
    (λ q. rw (← c.can_take.ensures) (c.set.ensures.marks q)) c.set.ensures.room c.enqueue-done.ensures.handle x

pub returns-in_default-clause-queued : goal.returns-in_default-clause-queued
returns-in_default-clause-queued c = rw (← changed_by_look_up c.args.ends.now c.args.at (λ k. queued k c.args.msg c.args.tag) c.requires.ordered) (search rules)

pub returns-clause-queued : goal.returns-clause-queued
returns-clause-queued c = rw (← changed_by_look_up c.args.ends.now c.args.at (λ k. queued k c.args.msg c.args.tag) c.requires.ordered) (search rules)
