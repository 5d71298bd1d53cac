-- What was found so far is nothing, and what is left decides.
use Rattle.std.proofs.Common.{◌≡◌, drop}
use Rattle.zr_told_spec.specs.Rows.{others}
use Rattle.zr_told_spec.specs.Wanted.{wants}
use Rattle.zr_told.proofs.search.one_asks.Given as goal

abbrev pub invariant-loop-interest : goal.invariant-loop-interest
invariant-loop-interest l = wants (others l.tables l.link.0) (drop l.interest-index l.interests) l.place ≡ wants (others l.tables l.link.0) l.interests l.place
