use Rattle.std.proofs.Common.{rules}
use Rattle.zr_world_ends.specs.Kept.{passed}
use Rattle.zr_world_ends.proofs.Same.{changed_by_look_up}
use Rattle.zr_world_ends.proofs.Standing.{changed_there}
use Rattle.zr_world_ends.proofs.Index.{handles_changed}
use Rattle.zr_world_ends.proofs.waiting.pass.Goals as goal

pub returns-clause-index : goal.returns-clause-index
returns-clause-index c = λ to_take x.
    handles_changed c.args.ends.now c.args.to_handle.now c.set.new.words to_take c.in-Some.place _ c.pass.new.self c.in-Some.ensures.there.within
    (λ q. rw (← c.can_handle.ensures) (c.set.ensures.marks q)) c.set.ensures.room c.pass.ensures.take x

pub returns-in_default-clause-passed : goal.returns-in_default-clause-passed
returns-in_default-clause-passed c = rw (← changed_by_look_up c.args.ends.now c.args.at (λ k. passed k) c.requires.ordered) (search rules)

pub returns-clause-passed : goal.returns-clause-passed
returns-clause-passed c = rw (← changed_by_look_up c.args.ends.now c.args.at (λ k. passed k) c.requires.ordered)
    (changed_there c.args.ends.now c.args.at passed c.in-Some.place c.index-ends-place.result c.pass.new.self c.in-Some.ensures.there c.pass.ensures.passed)
