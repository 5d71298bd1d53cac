-- A router that the records don't know has no neighbours, so it is in no tree but its own, and that has no other.
use Rattle.std.proofs.Common.{◌≡◌, ℕ, ◌<◌, zero, suc, Bool, true, false, List, [], ◌∷◌, Option, Some, None, is_some, ◌⊎◌, inl, inr, refl, sym, ap, ◌∙◌, subst, arith}
use Rattle.std.specs.List.{filter}
use Rattle.std.proofs.lemmas.Bool.{false≢true, false_from_ne_true, and_left, and_right}
use Rattle.zr_id.specs.Record.{RecordState}
use Rattle.zr_id.specs.Zid.{is_named}
use Rattle.zr_graph.specs.Record.{ids, has, lists, has_edge}
use Rattle.zr_graph.proofs.Names.{same_is, same_refl}
use Rattle.zr_tree.specs.Walk.{graph_of, near}
use Rattle.zr_tree.specs.Tree.{dist, parent, is_child, children, below, toward, reached}
use Rattle.zr_lists.proofs.Finds.{In, any_none, none_find, in_filter}
use Rattle.zr_tree.proofs.Distances.{step_back, root_at_zero}
use Rattle.zr_tree.proofs.Depths.{parent_near}
use Rattle.zr_tree.proofs.Branches.{child_is, below_cases}
use Rattle.zr_tree.proofs.Indexed.{record_none}

module _ {X : Type 0} where
  none_filter : (p : X → Bool) (xs : List X) → ((y : X) → In y xs → p y ≡ false) → filter p xs ≡ []
  none_filter p [] h = refl
  none_filter p (x ∷ xs) h = let e = h x (inl refl) in rw e (none_filter p xs (λ y i. h y (inr i)))

module _ (rs : List RecordState) where
  not_in : (x : List ℕ) → has (ids rs) x ≡ false → In x (ids rs) → ⊥
  not_in x h i = false≢true (sym (any_none (λ y. is_named y x) (ids rs) x h i) ∙ same_refl x)

  near_none : (x y : List ℕ) → has (ids rs) x ≡ false → In y (near (graph_of rs) x) → ⊥
  near_none x y h i =
      let e : lists rs x y ≡ false = rw (record_none rs x h) refl in
      let f : has_edge rs x y ≡ false = and_left (lists rs x y) (lists rs y x) e in
      false≢true (sym f ∙ (in_filter (has_edge rs x) (ids rs) y i).1)

  -- an unknown root reaches no router that is known
  far_none : (root : List ℕ) → has (ids rs) root ≡ false → (k m : ℕ) (y : List ℕ) → m < k → In y (ids rs) → dist (graph_of rs) root y ≡ Some m → ⊥
  far_none root h zero m y lt i d = absurd (omega arith)
  far_none root h (suc k) m y lt i d =
      let s = step_back (graph_of rs) root m y d (λ e. let P : List ℕ → Type 0 = λ z. In z (ids rs) in not_in root h (subst P (sym e) i)) in
      far_none root h k s.1 s.0 (omega (arith, s.4)) (in_filter (has_edge rs y) (ids rs) s.0 s.2).0 s.3

  none_from : (o : Option (List ℕ)) → ((p : List ℕ) → o ≡ Some p → ⊥) → o ≡ None
  none_from None h = refl
  none_from (Some p) h = absurd (h p refl)

  no_parent_from : (root x p : List ℕ) → has (ids rs) root ≡ false → parent (graph_of rs) root x ≡ Some p → ⊥
  no_parent_from root x p h e =
      let q = parent_near (graph_of rs) root x p e in
      far_none root h (suc q.0) q.0 p (omega arith) (in_filter (has_edge rs x) (ids rs) p q.1.neighbour).0 q.1.from_parent

  no_parent_at : (root x p : List ℕ) → has (ids rs) x ≡ false → parent (graph_of rs) root x ≡ Some p → ⊥
  no_parent_at root x p h e = near_none x p h ((parent_near (graph_of rs) root x p e).1.neighbour)

  no_parent_to : (root x p : List ℕ) → has (ids rs) p ≡ false → parent (graph_of rs) root x ≡ Some p → ⊥
  no_parent_to root x p h e = not_in p h (in_filter (has_edge rs x) (ids rs) p ((parent_near (graph_of rs) root x p e).1.neighbour)).0

  pub parent_unknown_root : (root x : List ℕ) → has (ids rs) root ≡ false → parent (graph_of rs) root x ≡ None
  parent_unknown_root root x h = none_from _ (λ p. no_parent_from root x p h)

  pub parent_unknown_at : (root x : List ℕ) → has (ids rs) x ≡ false → parent (graph_of rs) root x ≡ None
  parent_unknown_at root x h = none_from _ (λ p. no_parent_at root x p h)

  no_child : (root x y : List ℕ) → (has (ids rs) root ≡ false) ⊎ (has (ids rs) x ≡ false) → is_child (graph_of rs) root x y ≡ false
  no_child root x y (inl h) = false_from_ne_true _ (λ t. no_parent_from root y x h (child_is (graph_of rs) root x y t))
  no_child root x y (inr h) = false_from_ne_true _ (λ t. no_parent_to root y x h (child_is (graph_of rs) root x y t))

  pub children_unknown : (root x : List ℕ) → (has (ids rs) root ≡ false) ⊎ (has (ids rs) x ≡ false) → children (graph_of rs) root x ≡ []
  children_unknown root x h = none_filter (is_child (graph_of rs) root x) (ids rs) (λ y i. no_child root x y h)

  pub toward_unknown : (root x dest : List ℕ) → (has (ids rs) root ≡ false) ⊎ (has (ids rs) x ≡ false) → toward (graph_of rs) root x dest ≡ None
  toward_unknown root x dest h = none_find _ (ids rs) (λ y i. and_left _ _ (no_child root x y h))

  pub toward_unknown_dest : (root x dest : List ℕ) → has (ids rs) dest ≡ false → toward (graph_of rs) root x dest ≡ None
  toward_unknown_dest root x dest h = none_find _ (ids rs) (λ y i. and_right (is_child (graph_of rs) root x y) _ (false_from_ne_true _ (λ t. apart y i (below_cases (graph_of rs) root y dest t))))
    where
      apart : (y : List ℕ) → In y (ids rs) → (dest ≡ y) ⊎ ((p : List ℕ) × (parent (graph_of rs) root dest ≡ Some p) × (below (graph_of rs) root y p ≡ true)) → ⊥
      apart y i (inl e) = let P : List ℕ → Type 0 = λ z. In z (ids rs) in not_in dest h (subst P (sym e) i)
      apart y i (inr f) = no_parent_at root dest f.0 h f.1

  pub reached_itself : (x y : List ℕ) → is_named x y ≡ true → reached (graph_of rs) x y ≡ true
  reached_itself x y h =
      let e = same_is x y h in
      let P : List ℕ → Type 0 = λ z. reached (graph_of rs) x z ≡ true in
      subst P e (ap is_some (root_at_zero (graph_of rs) x))

  pub reached_unknown : (x y : List ℕ) → is_named x y ≡ false → (has (ids rs) x ≡ false) ⊎ (has (ids rs) y ≡ false) → reached (graph_of rs) x y ≡ false
  reached_unknown x y ne h = by_dist (dist (graph_of rs) x y) refl h
    where
      by_dist : (o : Option ℕ) → dist (graph_of rs) x y ≡ o → (has (ids rs) x ≡ false) ⊎ (has (ids rs) y ≡ false) → is_some o ≡ false
      by_dist None d k = refl
      by_dist (Some m) d k =
          let s = step_back (graph_of rs) x m y d (λ e. false≢true (sym ne ∙ ap (is_named x) (sym e) ∙ same_refl x)) in
          absurd (elim k [
            | inl u ↦ far_none x u (suc s.1) s.1 s.0 (omega arith) (in_filter (has_edge rs y) (ids rs) s.0 s.2).0 s.3
            | inr u ↦ near_none y s.0 u s.2
          ])
