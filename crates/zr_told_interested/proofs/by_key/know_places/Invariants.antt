-- What holds of those that are left holds of all.
use Rattle.std.proofs.Common.{drop}
use Rattle.std.specs.List.{AllByRecursion}
use Rattle.zr_key.specs.Key.{IsKeyText}
use Rattle.zr_told_interested.proofs.by_key.know_places.Given as goal

abbrev pub invariant-loop-place : goal.invariant-loop-place
invariant-loop-place l = AllByRecursion (λ q. IsKeyText q.key) (drop l.place-index l.places) → AllByRecursion (λ q. IsKeyText q.key) l.places
