use Rattle.zr_push_sought.specs.Pairs.{declared_by, pairs_of}
use Rattle.zr_push_sought.specs.declared.sought.Sought.TheVariants.{Queryables}
use Rattle.zr_push_sought.proofs.holders.Holders.prepare_queryables.Goals as goal

pub returns-then-is_due : goal.returns-then-is_due
returns-then-is_due c = record { subscribers = c.requires.subscribers; queryables = c.queryables_of.ensures }

pub returns-else-is_due : goal.returns-else-is_due
returns-else-is_due c = record { subscribers = c.requires.subscribers; queryables = c.is_due.ensures (pairs_of Queryables (declared_by c.args.tables.now)) c.requires.queryables }
