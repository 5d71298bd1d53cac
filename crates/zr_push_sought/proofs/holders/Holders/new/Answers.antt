use Rattle.zr_push_sought.specs.Pairs.{pairs_of}
use Rattle.zr_push_sought.specs.declared.sought.Sought.TheVariants.{Subscribers, Queryables}
use Rattle.zr_push_sought.proofs.holders.Holders.new.Goals as goal

pub returns : goal.returns
returns c = λ xs. record { subscribers = c.new.ensures (pairs_of Subscribers xs); queryables = c.new-2.ensures (pairs_of Queryables xs) }
