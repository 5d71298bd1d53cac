-- What is left to tell is left to be said.
use Rattle.std.proofs.Common.{Some, drop, map}
use Rattle.zr_lists.proofs.Prefixes.{IsSoFar}
use Rattle.zr_told_spec.specs.Rows.{sent_on}
use Rattle.zr_told_spec.specs.Told.{declares}
use Rattle.zr_told.proofs.told.say_each.Given as goal

abbrev pub invariant-loop-place : goal.invariant-loop-place
invariant-loop-place l =
    IsSoFar l.fn.out.items (sent_on l.link (map (λ w. declares 0 w.0.class w.0.key w.1 (Some l.interest)) l.places)) l.out.items
    (sent_on l.link (map (λ w. declares 0 w.0.class w.0.key w.1 (Some l.interest)) (drop l.place-index l.places)))
