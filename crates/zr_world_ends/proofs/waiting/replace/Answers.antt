use Rattle.zr_world_ends.proofs.Index.{both_changed}
use Rattle.zr_world_ends.proofs.Standing.{put_there}
use Rattle.zr_world_ends.proofs.waiting.replace.Goals as goal

pub returns-clause-put : goal.returns-clause-put
returns-clause-put c = put_there c.args.ends.now c.args.at.now c.args.new c.args.place _ c.requires.place

pub returns-clause-index : goal.returns-clause-index
returns-clause-index c =
    both_changed c.args.ends.now c.args.to_handle.now c.mark.new.to_handle c.args.to_take.now c.args.place _ c.args.new c.requires.place.within c.mark.new.to_take
    c.mark.ensures.handles c.mark.ensures.handle_room c.mark.ensures.takes c.mark.ensures.take_room c.requires.index
