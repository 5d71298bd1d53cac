-- Depths, one router after the other.
use Rattle.std.proofs.Common.{◌≡◌, ℕ, ◌+◌, ◌<◌, zero, suc, Bool, true, false, cond, ◌==◌, List, [], ◌∷◌, ◌++◌, Option, Some, None, ◌⊎◌, inl, inr, length, get_or, set, take, replicate, get_or-set_same, get_or-set_other, length-set, refl, sym, ap, ◌∙◌, subst, arith}
use Rattle.std.specs.Option.{option_map}
use Rattle.std.proofs.lemmas.Bool.{true≢false, false≢true, cases_eq, eq-eqb, false_from_ne_true}
use Rattle.std.proofs.lemmas.List.{length-replicate, length_push, take_more}
use Rattle.zr_tree_parents.specs.Climb.{at, AreIndexes}
use Rattle.zr_tree_parents.specs.Depth.{depth_below, AreBehind, AreDepths}
use Rattle.zr_tree_parents.specs.Distance.{kept_at}
use Rattle.zr_tree_parents.specs.Search.{has_index}
use Rattle.zr_tree_parents.proofs.Offered.{has_left, has_right, has_itself, has_pushed}

-- the same, and each depth is less than there are routers so far
pub record AreSoFar (parents order : List ℕ) (depths : List (Option ℕ)) : Type 0 where
  pub are : AreDepths parents order depths
  pub small : (x n : ℕ) → kept_at depths x ≡ Some n → n < length order
  pub closed : (x : ℕ) → has_index order x ≡ true → (at parents x ≡ x) ⊎ (has_index order (at parents x) ≡ true)

abbrev blank : ℕ → List (Option ℕ)
blank n = replicate n None

never : (k x : ℕ) → kept_at (blank k) x ≡ None
never zero x = refl
never (suc k) zero = refl
never (suc k) (suc x) = never k x

pub depths_first : (parents : List ℕ) → AreSoFar parents [] (replicate (length parents) None)
depths_first parents = record {
  are = record {
    long = length-replicate {A = Option ℕ} (length parents) None;
    below = λ x t. absurd (false≢true t);
    only = λ x t. never (length parents) x;
  };
  small = λ x n e. let s : None ≡ Some n = sym (never (length parents) x) ∙ e in absurd (cc);
  closed = λ x t. absurd (false≢true t);
}

module _ (parents order : List ℕ) (depths : List (Option ℕ)) (u : ℕ) (right : AreIndexes parents) (lt : u < length parents)
    (behind : (at parents u ≡ u) ⊎ (has_index order (at parents u) ≡ true)) (h : AreSoFar parents order depths) where
  abbrev after : List (Option ℕ)
  after = set depths u (depth_below parents depths u)

  here : (x : ℕ) → x ≡ u → kept_at after x ≡ depth_below parents depths u
  here x e = ap (kept_at after) e ∙ get_or-set_same depths u (depth_below parents depths u) None (omega (arith, lt, h.are.long))

  there : (x : ℕ) → (x ≡ u → ⊥) → kept_at after x ≡ kept_at depths x
  there x ne = get_or-set_other depths u x (depth_below parents depths u) None ne

  -- those that were there keep their depths
  stays : (x : ℕ) → has_index order x ≡ true → kept_at after x ≡ kept_at depths x
  stays x t = elim (cases_eq x u) [
    | inl e ↦ here x e ∙ ap (depth_below parents depths) (sym e) ∙ sym (h.are.below x t)
    | inr ne ↦ there x ne
  ]

  -- whose parent stays is one deeper than it still
  below_stays : (x : ℕ) → (at parents x ≡ x) ⊎ (has_index order (at parents x) ≡ true) → depth_below parents depths x ≡ depth_below parents after x
  below_stays x (inl own) = let t : (at parents x == x) ≡ true = eq-eqb (at parents x) x own in rw t refl
  below_stays x (inr t) = ap (λ o. cond (at parents x == x) (Some 0) (option_map (λ n. suc n) o)) (sym (stays (at parents x) t))

  below_next : (x : ℕ) → (has_index order x ≡ true) ⊎ (x ≡ u) → kept_at after x ≡ depth_below parents after x
  below_next x (inl t) = stays x t ∙ h.are.below x t ∙ below_stays x (h.closed x t)
  below_next x (inr e) = here x e ∙ below_stays u behind ∙ ap (depth_below parents after) (sym e)

  closed_next : (x : ℕ) → (has_index order x ≡ true) ⊎ (x ≡ u) → (at parents x ≡ x) ⊎ (has_index (order ++ u ∷ []) (at parents x) ≡ true)
  closed_next x (inl t) = elim (h.closed x t) [ inl e ↦ inl e | inr s ↦ inr (has_left order (u ∷ []) (at parents x) s) ]
  closed_next x (inr e) = elim behind [
    | inl own ↦ inl (ap (at parents) e ∙ own ∙ sym e)
    | inr s ↦ inr (has_left order (u ∷ []) (at parents x) (subst (λ (z : ℕ). has_index order (at parents z) ≡ true) (sym e) s))
  ]

  small_below : (n : ℕ) → depth_below parents depths u ≡ Some n → n < length order + 1
  small_below n e = by (at parents u == u) (kept_at depths (at parents u)) refl e
    where
      by : (t : Bool) (o : Option ℕ) → kept_at depths (at parents u) ≡ o → cond t (Some 0) (option_map (λ m. suc m) o) ≡ Some n → n < length order + 1
      by true o f g = let i : 0 ≡ n = cc in omega (arith, i)
      by false None f g = absurd (cc)
      by false (Some m) f g = let i : suc m ≡ n = cc in omega (arith, i, h.small (at parents u) m f)

  pub depths_next : AreSoFar parents (order ++ u ∷ []) after
  depths_next = record {
    are = record {
      long = length-set depths u (depth_below parents depths u) ∙ h.are.long;
      below = λ x t. below_next x (has_pushed order u x t);
      only = λ x t.
          let other : x ≡ u → ⊥ = λ e. true≢false (sym (subst (λ (z : ℕ). has_index (order ++ u ∷ []) z ≡ true) (sym e) (has_right order (u ∷ []) u (has_itself u))) ∙ t) in
          there x other ∙ h.are.only x (false_from_ne_true _ (λ s. true≢false (sym (has_left order (u ∷ []) x s) ∙ t)));
    };
    small = λ x n e. elim (cases_eq x u) [
      | inl i ↦ (let s = small_below n (sym (here x i) ∙ e) in omega (arith, s, length_push order u))
      | inr ne ↦ omega (arith, h.small x n (sym (there x ne) ∙ e), length_push order u)
    ];
    closed = λ x t. closed_next x (has_pushed order u x t);
  }

-- the same, one router more of a list
pub depths_more : (parents order : List ℕ) (k : ℕ) (depths : List (Option ℕ)) → AreIndexes parents → AreBehind parents order → k < length order → get_or order k 0 < length parents →
    AreSoFar parents (take k order) depths → AreSoFar parents (take (k + 1) order) (set depths (get_or order k 0) (depth_below parents depths (get_or order k 0)))
depths_more parents order k depths right behind lt inside h =
    rw (take_more order k 0 lt) (depths_next parents (take k order) depths (get_or order k 0) right inside (behind k lt) h)
