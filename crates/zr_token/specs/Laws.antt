-- What follows of tokens that are alive, for the proofs above.
use Rattle.std.specs.Prelude.{◌≡◌, ℕ, ◌&&◌, Bool, List, Option}
use Rattle.std.specs.Cmp.Lexicographic.{slice_cmp}
use Rattle.std.specs.List.{list_any}
use Rattle.std.specs.List.Sorted.{IsStrictlySortedBy}
use Rattle.std.specs.Ordering.{nat_cmp}
use Rattle.zr_token.specs.Tally.{TallyState, is_alive, alive}

-- the keys that are alive ascend, none twice
abbrev pub AliveAscends : Type 0
AliveAscends = (t : TallyState) (but : ℕ) (key : Option (List ℕ)) → IsStrictlySortedBy (slice_cmp nat_cmp) (alive t but key)

-- one of them passes a test just where the key of a pair does that is alive
abbrev pub AliveIsOfPairs : Type 0
AliveIsOfPairs = (t : TallyState) (but : ℕ) (key : Option (List ℕ)) (test : List ℕ → Bool) →
    list_any test (alive t but key) ≡ list_any (λ p. is_alive t but key p && test p.key) t.pairs
