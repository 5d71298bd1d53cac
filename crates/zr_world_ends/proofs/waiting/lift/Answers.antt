use Rattle.std.proofs.Common.{rules}
use Rattle.zr_world_ends.specs.Kept.{lifted}
use Rattle.zr_world_ends.proofs.Same.{changed_by_look_up}
use Rattle.zr_world_ends.proofs.Index.{both_changed}
use Rattle.zr_world_ends.proofs.waiting.lift.Goals as goal

pub returns-clause-index : goal.returns-clause-index
returns-clause-index c = λ x.
    both_changed c.args.ends.now c.args.to_handle.now c.mark.new.to_handle c.args.to_take.now c.in-Some.place _ c.lift.new.self c.in-Some.ensures.there.within c.mark.new.to_take
    c.mark.ensures.handles c.mark.ensures.handle_room c.mark.ensures.takes c.mark.ensures.take_room x

pub returns-in_default-clause-lifted : goal.returns-in_default-clause-lifted
returns-in_default-clause-lifted c = rw (← changed_by_look_up c.args.ends.now c.args.at lifted c.requires.ordered) (search rules)

pub returns-clause-lifted : goal.returns-clause-lifted
returns-clause-lifted c = rw (← changed_by_look_up c.args.ends.now c.args.at lifted c.requires.ordered) (search rules)
