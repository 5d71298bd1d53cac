-- The queries and the sayings of two parts of a script's acts.
use Rattle.std.proofs.Common.{◌≡◌, List, ◌++◌}
use Rattle.std.proofs.lemmas.List.Elements.{filter_map-append}
use Rattle.zr_world_spec.specs.Moments.{Numbered}
use Rattle.zr_guarantee.specs.Queries.{asked_in, queries, saying_in, sayings}

pub queries_of_both : (xs ys : List Numbered) → queries (xs ++ ys) ≡ queries xs ++ queries ys
queries_of_both xs ys = filter_map-append (λ x. asked_in x.0 x.1) xs ys

pub sayings_of_both : (xs ys : List Numbered) → sayings (xs ++ ys) ≡ sayings xs ++ sayings ys
sayings_of_both xs ys = filter_map-append (λ x. saying_in x.0 x.1) xs ys
