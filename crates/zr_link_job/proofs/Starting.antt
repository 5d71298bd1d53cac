-- A job that is started, by what the crew says of it.
use Rattle.std.proofs.Common.{arith, ◌≡◌, ℕ, ◌+◌, ◌-◌, ◌^◌, ◌≤◌, true, false, List, [], ◌∷◌, Option, Some, None, Result, Ok, Err, refl, sym, ap, subst}
use Rattle.std.proofs.lemmas.List.{append-nil}
use Rattle.std.specs.Prelude.{min, is_err}
use Rattle.zr_outside.specs.Counts.{Counted}
use Rattle.zr_outside_crew.specs.Crew as crew
use Rattle.zr_link_job.specs.Starts.{Tells, Starts}

pub tells_none : {J : Type 0} (t : Option (List J)) → Tells [] t t
tells_none None = refl
tells_none (Some told) = ap Some (sym (append-nil told))

-- one for which there was no memory
pub starts_lost : {J : Type 0} (job : J) (a b : Option (List J)) (f g : ℕ) → b ≡ a → g ≡ min (f + 1) (2 ^ 64 - 1) → Starts (job ∷ []) a b f g
starts_lost job a b f g same counted = record { marks = false ∷ []; each = refl; are_told = subst (λ t. Tells [] a t) (sym same) (tells_none a); back = by counted }
  where
    by : g ≡ min (f + 1) (2 ^ 64 - 1) → min (f + 1) (2 ^ 64 - 1) ≤ g
    by is = omega arith

pub starts_one : {B J : Type 0} (r : Result (Unit {0}) B) (job : J) (a b : Option (List J)) (f g : ℕ) → crew.Tells r job a b
    → Counted f g (is_err r ≡ true) → Starts (job ∷ []) a b f g
starts_one (Ok u) job None b f g h k = record { marks = true ∷ []; each = refl; are_told = h; back = by k.later }
  where
    by : f ≤ g → min (f + 0) (2 ^ 64 - 1) ≤ g
    by le = omega arith
starts_one (Ok u) job (Some told) b f g h k = record { marks = true ∷ []; each = refl; are_told = h; back = by k.later }
  where
    by : f ≤ g → min (f + 0) (2 ^ 64 - 1) ≤ g
    by le = omega arith
starts_one (Err e) job a b f g h k = record { marks = false ∷ []; each = refl; are_told = subst (λ t. Tells [] a t) (sym h) (tells_none a); back = k.cause refl }
