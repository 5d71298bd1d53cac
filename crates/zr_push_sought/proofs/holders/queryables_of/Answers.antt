use Rattle.std.proofs.Common.{[]}
use Rattle.zr_push_sought.proofs.holders.queryables_of.Goals as goal

pub put_all-requires : goal.put_all-requires
put_all-requires c = record { subscribers = c.new.ensures []; queryables = c.empty.ensures }

pub returns : goal.returns
returns c = c.put_all.ensures.queryables
