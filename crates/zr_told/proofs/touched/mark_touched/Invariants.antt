-- What is left to mark leads to the same end.
use Rattle.std.proofs.Common.{◌≡◌, drop}
use Rattle.std.specs.List.{fold}
use Rattle.zr_told_spec.specs.Rows.{others}
use Rattle.zr_told.specs.Plan.{mark_fitting}
use Rattle.zr_told.proofs.touched.mark_touched.Given as goal

abbrev pub invariant-loop-interest : goal.invariant-loop-interest
invariant-loop-interest l =
    fold (mark_fitting (others l.tables l.client.link.0) l.client.interests l.place) l.marks.entries (drop l.interest-index l.interests)
    ≡ fold (mark_fitting (others l.tables l.client.link.0) l.client.interests l.place) l.fn.marks.entries l.client.interests
