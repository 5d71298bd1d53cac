use Rattle.std.proofs.Common.{rules}
use Rattle.zr_world_ends.specs.Kept.{broken}
use Rattle.zr_world_ends.proofs.Same.{changed_by_look_up}
use Rattle.zr_world_ends.proofs.Index.{both_changed}
use Rattle.zr_world_ends.proofs.waiting.break_off.Goals as goal

pub returns-clause-index : goal.returns-clause-index
returns-clause-index c = λ x.
    both_changed c.args.ends.now c.args.to_handle.now c.mark.new.to_handle c.args.to_take.now c.in-Some.place _ c.break_off.new.self c.in-Some.ensures.there.within c.mark.new.to_take
    c.mark.ensures.handles c.mark.ensures.handle_room c.mark.ensures.takes c.mark.ensures.take_room x

pub returns-in_default-clause-broken : goal.returns-in_default-clause-broken
returns-in_default-clause-broken c = rw (← changed_by_look_up c.args.ends.now c.args.at broken c.requires.ordered) (search rules)

pub returns-clause-broken : goal.returns-clause-broken
returns-clause-broken c = rw (← changed_by_look_up c.args.ends.now c.args.at broken c.requires.ordered) (search rules)
