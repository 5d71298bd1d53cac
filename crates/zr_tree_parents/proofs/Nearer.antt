-- The nearest of several routers, one after the other.
use Rattle.std.proofs.Common.{◌≡◌, ℕ, ◌+◌, ◌<◌, ◌≤◌, nat_lt, true, false, List, [], ◌∷◌, ◌++◌, Option, Some, None, MatchOption, All, inl, inr, ◌==◌, length, get_or, take, sym, ap, ◌∙◌, arith}
use Rattle.std.specs.Option.{option_map_or}
use Rattle.std.proofs.lemmas.Bool.{true≢false, eqb-true, ltb-true, ltb-false}
use Rattle.std.proofs.lemmas.List.{length_push, take_more, get_or_append_left, get_or_push, length-take-le}
use Rattle.std.proofs.lemmas.List.Elements.{All-append}
use Rattle.zr_tree_parents.specs.declared.search.Nearest.{Nearest}
use Rattle.zr_tree_parents.specs.Distance.{kept_at}
use Rattle.zr_tree_parents.specs.Search.{has_index, IsNearest}
use Rattle.zr_lists.proofs.Finds.{any_in, in_place}
use Rattle.zr_tree_parents.proofs.Offered.{has_pushed}

module _ (distances : List (Option ℕ)) where
  -- what the search for the nearest has found among these
  abbrev pub IsBest : List ℕ → Option Nearest → Type 0
  IsBest found best = MatchOption best (All (λ x. kept_at distances x ≡ None) found) (λ n. IsNearest found distances n.place n.distance)

  all_none : (xs : List ℕ) (x n : ℕ) → All (λ y. kept_at distances y ≡ None) xs → has_index xs x ≡ true → kept_at distances x ≡ Some n → ⊥
  all_none xs x n all h e =
      let f = any_in (λ j. j == x) xs h in
      let g = in_place xs f.0 0 f.1 in
      let none : kept_at distances x ≡ None = ap (kept_at distances) (sym (eqb-true f.0 x f.2) ∙ sym g.2) ∙ all g.0 0 g.1 in
      let s : None ≡ Some n = sym none ∙ e in
      absurd (cc)

  one : (y : ℕ) (P : ℕ → Type 0) → P y → All P (y ∷ [])
  one y P h k d lt = let z : k ≡ 0 = omega arith in rw z h

  push_none : (xs : List ℕ) (y : ℕ) → All (λ x. kept_at distances x ≡ None) xs → kept_at distances y ≡ None → All (λ x. kept_at distances x ≡ None) (xs ++ y ∷ [])
  push_none xs y all none = All-append (λ x. kept_at distances x ≡ None) xs (y ∷ []) all (one y (λ x. kept_at distances x ≡ None) none)

  push_farther : (xs : List ℕ) (y place distance : ℕ) → IsNearest xs distances place distance → ((n : ℕ) → kept_at distances y ≡ Some n → distance ≤ n) → IsNearest (xs ++ y ∷ []) distances place distance
  push_farther xs y place distance h far = record {
    within = omega (arith, h.within, length_push xs y);
    is = let lt = h.within in rw (get_or_append_left xs (y ∷ []) 0 place lt) h.is;
    least = λ x n t e. elim (has_pushed xs y x t) [ inl l ↦ h.least x n l e | inr i ↦ far n (ap (kept_at distances) (sym i) ∙ e) ];
  }

  push_nearer : (xs : List ℕ) (y place distance : ℕ) → place ≡ length xs → kept_at distances y ≡ Some distance → ((x n : ℕ) → has_index xs x ≡ true → kept_at distances x ≡ Some n → distance ≤ n) → IsNearest (xs ++ y ∷ []) distances place distance
  push_nearer xs y place distance last is far = record {
    within = omega (arith, last, length_push xs y);
    is = ap (kept_at distances) (get_or_push xs y 0 place (sym last)) ∙ is;
    least = λ x n t e. elim (has_pushed xs y x t) [
      | inl l ↦ far x n l e
      | inr i ↦ (let s : Some distance ≡ Some n = sym is ∙ ap (kept_at distances) (sym i) ∙ e in
          let j : distance ≡ n = cc in
          omega (arith, j))
    ];
  }

  module _ (found : List ℕ) (k : ℕ) (lt : k < length found) where
    abbrev here : ℕ
    here = get_or found k 0

    pub best_none : (best : Option Nearest) → kept_at distances here ≡ None → IsBest (take k found) best → IsBest (take (k + 1) found) best
    best_none None none h = rw (take_more found k 0 lt) (push_none (take k found) here h none)
    best_none (Some n) none h =
        rw (take_more found k 0 lt) (push_farther (take k found) here n.place n.distance h (λ m e. let s : None ≡ Some m = sym none ∙ e in absurd (cc)))

    pub best_stays : (best : Option Nearest) (distance : ℕ) → kept_at distances here ≡ Some distance → option_map_or (λ n. nat_lt distance n.distance) best true ≡ false →
        IsBest (take k found) best → IsBest (take (k + 1) found) best
    best_stays None distance e t h = absurd (true≢false t)
    best_stays (Some n) distance e t h =
        rw (take_more found k 0 lt) (push_farther (take k found) here n.place n.distance h (λ m f.
        let s : Some distance ≡ Some m = sym e ∙ f in
        let j : distance ≡ m = cc in
        omega (arith, ltb-false distance n.distance t, j)))

    pub best_now : (best : Option Nearest) (distance : ℕ) → kept_at distances here ≡ Some distance → option_map_or (λ n. nat_lt distance n.distance) best true ≡ true →
        IsBest (take k found) best → IsBest (take (k + 1) found) (Some (record { place = k; distance = distance }))
    best_now best distance e t h =
        rw (take_more found k 0 lt) (push_nearer (take k found) here k distance (sym (length-take-le k found (omega arith))) e (nearer_than best t h))
      where
        nearer_than : (best : Option Nearest) → option_map_or (λ n. nat_lt distance n.distance) best true ≡ true → IsBest (take k found) best →
            (x m : ℕ) → has_index (take k found) x ≡ true → kept_at distances x ≡ Some m → distance ≤ m
        nearer_than None t h x m i f = absurd (all_none (take k found) x m h i f)
        nearer_than (Some n) t h x m i f = omega (arith, ltb-true distance n.distance t, h.least x m i f)
