use Rattle.zr_law_sent.proofs.Passing.{may_be_sent}
use Rattle.zr_world_ends.specs.Carried.{neighbour_role}
use Rattle.zr_world.proofs.sending.send.Goals as goal

pub send-requires : goal.send-requires
send-requires g c = λ s found.
    let may = c.requires s found in
    (may.0, may_be_sent (neighbour_role c.args.ends.now c.args.at) c.args.msg.now may.1 c.of_types.ensures)
