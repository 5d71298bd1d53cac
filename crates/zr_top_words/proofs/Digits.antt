-- The value of digits grows with each digit.
use Rattle.std.proofs.Common.{◌≡◌, ℕ, ◌+◌, ◌-◌, ◌*◌, ◌^◌, ◌<◌, ◌≤◌, false, suc, nat_lt, List, length, drop, get_or, arith, drop-cons}
use Rattle.std.proofs.lemmas.Bool.Decides.{nat_tests}
use Rattle.std.specs.List.{fold}
use Rattle.zr_lists.proofs.Numbers.{fold_grows}
use Rattle.zr_script_spec.specs.Words.{value_of}

-- a number that has passed 64 bits at a digit has passed them at the end
pub too_large : (n i : ℕ) (word : List ℕ) → i < length word → 2 ^ 64 ≤ n * 10 + (get_or word i 0 - 48) →
    fold (λ n b. n * 10 + (b - 48)) n (drop i word) ≡ value_of word → nat_lt (value_of word) (2 ^ 64) ≡ false
too_large n i word lt large whole =
    let step = rw (drop-cons word i 0) at whole in
    let grows = fold_grows (n * 10 + (get_or word i 0 - 48)) (drop (suc i) word) in
    let most : 2 ^ 64 ≤ value_of word = rw (← step) (omega (arith, large, grows)) in
    grind (arith, nat_tests)
