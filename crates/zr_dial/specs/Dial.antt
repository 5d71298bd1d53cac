-- What is dialled, and the word that spells it.
use Rattle.std.specs.Prelude.{ℕ, List, Option, Some, None}
use Rattle.std.specs.Option.{option_map}
use Rattle.std.specs.Result.{result_ok}
use Rattle.std.specs.Path.{rsplit_once}
use Rattle.zr_script_spec.specs.Words.{weight_at}

-- an address, and what the link to a router there weighs
pub record DialState : Type 0 where
  pub address : List ℕ
  pub weight : ℕ

-- a word without a comma is an address, and the weight is 1; what stands behind the last comma has to be a weight
abbrev pub parted_dial : List ℕ → Option (List ℕ × List ℕ) → Option DialState
parted_dial word None = Some (record { address = word; weight = 1 })
parted_dial word (Some (address, digits)) = option_map (λ w. record { address = address; weight = w }) (result_ok (weight_at digits))

-- ADDRESS, or ADDRESS,W with a weight from 1 to 65,535 in decimal digits without leading zeros
abbrev pub dial_of : List ℕ → Option DialState
dial_of word = parted_dial word (rsplit_once 44 word)
