-- What is left to mark leads to the same end.
use Rattle.std.proofs.Common.{◌≡◌, [], drop}
use Rattle.std.specs.List.{fold}
use Rattle.zr_told_spec.specs.Rows.{others}
use Rattle.zr_told.specs.Plan.{mark_fitting}
use Rattle.zr_told.proofs.touched.marks_at.Given as goal

abbrev pub invariant-loop-place : goal.invariant-loop-place
invariant-loop-place l =
    fold (λ ms q. fold (mark_fitting (others l.tables l.client.link.0) l.client.interests q) ms l.client.interests) l.marks.entries (drop l.place-index l.places)
    ≡ fold (λ ms q. fold (mark_fitting (others l.tables l.client.link.0) l.client.interests q) ms l.client.interests) [] l.places
