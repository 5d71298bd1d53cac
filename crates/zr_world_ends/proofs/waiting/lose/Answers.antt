use Rattle.std.proofs.Common.{rules}
use Rattle.zr_world_ends.specs.Kept.{lost}
use Rattle.zr_world_ends.proofs.Same.{changed_by_look_up}
use Rattle.zr_world_ends.proofs.Index.{handles_changed}
use Rattle.zr_world_ends.proofs.waiting.lose.Goals as goal

pub returns-clause-index : goal.returns-clause-index
returns-clause-index c = λ to_take x.
    handles_changed c.args.ends.now c.args.to_handle.now c.set.new.words to_take c.in-Some.place _ c.lose.new.self c.in-Some.ensures.there.within
    (λ q. rw (← c.can_handle.ensures) (c.set.ensures.marks q)) c.set.ensures.room c.lose.ensures.take x

pub returns-in_default-clause-lost : goal.returns-in_default-clause-lost
returns-in_default-clause-lost c = rw (← changed_by_look_up c.args.ends.now c.args.at (λ k. lost k) c.requires.ordered) (search rules)

pub returns-clause-lost : goal.returns-clause-lost
returns-clause-lost c = rw (← changed_by_look_up c.args.ends.now c.args.at (λ k. lost k) c.requires.ordered) (search rules)
