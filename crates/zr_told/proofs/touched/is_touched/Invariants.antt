-- What was found so far is nothing, and what is left decides.
use Rattle.std.proofs.Common.{◌≡◌, drop}
use Rattle.zr_told_spec.specs.Rows.{is_touched}
use Rattle.zr_told.proofs.touched.is_touched.Given as goal

abbrev pub invariant-loop-place : goal.invariant-loop-place
invariant-loop-place l = is_touched (drop l.place-index l.places) l.interests ≡ is_touched l.places l.interests
