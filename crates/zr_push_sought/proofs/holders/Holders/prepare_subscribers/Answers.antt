use Rattle.zr_push_sought.specs.Pairs.{declared_by, pairs_of}
use Rattle.zr_push_sought.specs.declared.sought.Sought.TheVariants.{Subscribers}
use Rattle.zr_push_sought.proofs.holders.Holders.prepare_subscribers.Goals as goal

pub returns-then-is_due : goal.returns-then-is_due
returns-then-is_due c = record { subscribers = c.subscribers_of.ensures; queryables = c.requires.queryables }

pub returns-else-is_due : goal.returns-else-is_due
returns-else-is_due c = record { subscribers = c.is_due.ensures (pairs_of Subscribers (declared_by c.args.tables.now)) c.requires.subscribers; queryables = c.requires.queryables }
