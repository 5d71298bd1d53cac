-- Texts in order, in parts one behind another.
use Rattle.std.specs.Prelude.{◌≡◌, ℕ, true, List, [], ◌++◌}
use Rattle.zr_orders.specs.Ranked.{ranked}
use Rattle.zr_world_gang.specs.Shares.{is_behind, last_behind}

-- where two lists of texts are put in order, and one then stands behind the other, both together are in order
abbrev pub PartsAreRanked : Type 0
PartsAreRanked = (ts us : List (List ℕ)) → is_behind (last_behind [] (ranked ts)) (ranked us) ≡ true → ranked (ts ++ us) ≡ ranked ts ++ ranked us
