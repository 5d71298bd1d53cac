-- How long a list is once one more was put in, and limits that less keeps.
use Rattle.std.proofs.Common.{◌≡◌, ℕ, ◌≤◌, Bool, true, false, refl, sym, ◌∙◌, arith, le-leb, leb-true}
use Rattle.std.specs.Prelude.{nat_le}
use Rattle.std.proofs.lemmas.Bool.{false≢true}

-- a limit that more does not reach, less does not
pub under : (limit more less : ℕ) → nat_le limit more ≡ false → less ≤ more → nat_le limit less ≡ false
under limit more less h le = by (nat_le limit less) refl
  where
    by : (b : Bool) → nat_le limit less ≡ b → b ≡ false
    by false e = refl
    by true e = let at : limit ≤ less = leb-true limit less e in absurd (false≢true (sym h ∙ le-leb limit more (omega (arith, at, le))))
