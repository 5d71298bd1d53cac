-- The values of the entries that are kept, and of those that are changed.
use Rattle.std.proofs.Common.{◌≡◌, ℕ, Bool, true, false, cond, List, [], ◌∷◌, filter, map, refl, ap}
use Rattle.std.specs.Map.{values_of}

module _ {X : Type 0} where
  pub values_kept : (p : X → Bool) (es : List (ℕ × X)) → values_of (filter (λ e. p e.1) es) ≡ filter p (values_of es)
  values_kept p [] = refl
  values_kept p (e ∷ es) = by (p e.1) (values_kept p es)
    where
      by : (b : Bool) → values_of (filter (λ i. p i.1) es) ≡ filter p (values_of es) → values_of (cond b (e ∷ filter (λ i. p i.1) es) (filter (λ i. p i.1) es)) ≡ cond b (e.1 ∷ filter p (values_of es)) (filter p (values_of es))
      by true ih = ap (λ vs. e.1 ∷ vs) ih
      by false ih = ih

  pub values_changed : (g : X → X) (es : List (ℕ × X)) → values_of (map (λ e. (e.0, g e.1)) es) ≡ map g (values_of es)
  values_changed g [] = refl
  values_changed g (e ∷ es) = ap (λ vs. g e.1 ∷ vs) (values_changed g es)
