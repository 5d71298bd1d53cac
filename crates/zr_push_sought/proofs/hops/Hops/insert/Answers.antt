use Rattle.zr_push_sought.proofs.Ways.{put_ascends, put_inside}
use Rattle.zr_push_sought.proofs.hops.Hops.insert.Goals as goal

pub invariant_of-self-2 : goal.invariant_of-self-2
invariant_of-self-2 c =
    rw (c.in_ok-insert.ensures.items, put_inside c.self.inside.names.items c.args.name c.args.at (rw c.self.view_is c.requires)) (put_ascends c.self.inside.names.items c.args.name c.self.invariant)
