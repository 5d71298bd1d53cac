-- Which id of a link is given next.
use Rattle.std.specs.Prelude.{◌≡◌, ℕ, ◌≤◌, ◌<◌, Bool, true, false}

-- the least number, from 1, that isn't in use
pub record IsLeast (used : ℕ → Bool) (n : ℕ) : Type 0 where
  pub positive : 1 ≤ n
  pub free : used n ≡ false
  pub least : (k : ℕ) → 1 ≤ k → k < n → used k ≡ true
