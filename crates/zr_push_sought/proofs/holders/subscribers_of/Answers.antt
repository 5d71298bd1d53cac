use Rattle.std.proofs.Common.{[]}
use Rattle.zr_push_sought.proofs.holders.subscribers_of.Goals as goal

pub put_all-requires : goal.put_all-requires
put_all-requires c = record { subscribers = c.empty.ensures; queryables = c.new.ensures [] }

pub returns : goal.returns
returns c = c.put_all.ensures.subscribers
