-- What came never goes further than the end of a batch.
use Rattle.std.proofs.Common.{◌≡◌, refl, ℕ, ◌+◌, ◌*◌, ◌≤◌, true, List, [], ◌∷◌, ◌++◌, length, length-append, arith}
use Rattle.std.proofs.lemmas.Bool.Decides.{nat_tests}
use Rattle.zr_frame_batch.specs.Framing.{lacks, is_within_one}

pub within_more : (bytes t : List ℕ) → is_within_one bytes ≡ true → length t ≤ lacks bytes → is_within_one (bytes ++ t) ≡ true
within_more [] [] h few = refl
within_more [] (a ∷ []) h few = refl
within_more [] (a ∷ b ∷ []) h few = grind (arith, nat_tests)
within_more [] (a ∷ b ∷ c ∷ t) h few = absurd (omega (arith, few))
within_more (a ∷ []) [] h few = refl
within_more (a ∷ []) (b ∷ []) h few = grind (arith, nat_tests)
within_more (a ∷ []) (b ∷ c ∷ t) h few = absurd (omega (arith, few))
within_more (a ∷ b ∷ bytes) t h few =
    let held : length bytes ≤ a + 256 * b = grind (arith, nat_tests, h) in
    let len = length-append bytes t in
    let all : length (bytes ++ t) ≤ a + 256 * b = omega (arith, held, few, len) in
    grind (arith, nat_tests, all)
