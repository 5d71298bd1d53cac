use Rattle.std.proofs.Common.{rules, arith}
use Rattle.zr_ring.proofs.Keeping.{starts, splits_giver, begins}
use Rattle.zr_ring.proofs.ends.GivingEnd.pair.Goals as goal

pub vacant-requires : goal.vacant-requires
vacant-requires g c = starts _ _ _ (search rules)

pub split_seat-giver-requires : goal.split_seat-giver-requires
split_seat-giver-requires g c = (search rules, search rules, splits_giver _ _ _ (search rules))

pub load-requires : goal.load-requires
load-requires g c = (search rules, search rules, begins _ _ _ _ (search rules) (search rules) (search (rules, arith)))
