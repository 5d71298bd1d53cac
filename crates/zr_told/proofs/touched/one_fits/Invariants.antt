-- What was found so far is nothing, and what is left decides.
use Rattle.std.proofs.Common.{◌≡◌, drop}
use Rattle.std.specs.List.{list_any}
use Rattle.zr_told_spec.specs.Wanted.{fits}
use Rattle.zr_told.proofs.touched.one_fits.Given as goal

abbrev pub invariant-loop-interest : goal.invariant-loop-interest
invariant-loop-interest l = list_any (λ i. fits i l.place) (drop l.interest-index l.interests) ≡ list_any (λ i. fits i l.place) l.interests
