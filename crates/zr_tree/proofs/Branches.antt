-- Parents are one less deep, so what a router is below is a line of which each depth has one.
use Rattle.std.proofs.Common.{◌≡◌, ℕ, ◌≤◌, zero, suc, true, false, ◌||◌, List, Option, Some, None, ◌⊎◌, inl, inr, unwrap_or, refl, sym, ap, ◌∙◌, subst, arith}
use Rattle.std.specs.Option.{option_map_or}
use Rattle.std.proofs.lemmas.Bool.{false≢true, or_cases, or_right, or_left}
use Rattle.std.proofs.Math.Bool.{or-false}
use Rattle.zr_id.specs.Zid.{is_named}
use Rattle.zr_graph.proofs.Names.{same_is, same_refl}
use Rattle.zr_tree.specs.Walk.{Graph, near}
use Rattle.zr_tree.specs.Tree.{tree_depth, parent, climbs, below, is_child}
use Rattle.zr_lists.proofs.Finds.{In}
use Rattle.zr_tree.proofs.Depths.{parent_near, parent_depth, reached_parent, unreached_parent, root_parent, root_depth, depth_distance, depth_unreached, zero_is_root}

-- how a parent stands to its child
pub record IsParent (g : Graph) (root x p : List ℕ) (m : ℕ) : Type 0 where
  pub neighbour : In p (near g x)
  pub from_parent : tree_depth g root p ≡ Some m
  pub to_child : tree_depth g root x ≡ Some (suc m)

module _ (g : Graph) (root : List ℕ) where
  pub parent_is : (x p : List ℕ) → parent g root x ≡ Some p → (m : ℕ) × IsParent g root x p m
  parent_is x p h =
      let d = parent_depth g root x p h in
      (d.0, record { neighbour = (parent_near g root x p h).1.neighbour; from_parent = d.1; to_child = d.2 })

  pub has_parent : (x : List ℕ) (m : ℕ) → tree_depth g root x ≡ Some (suc m) → (p : List ℕ) × (parent g root x ≡ Some p)
  has_parent x m h =
      let d = depth_distance g root x (suc m) h in
      reached_parent g root x d.0 d.1 (λ i. let s : Some 0 ≡ Some (suc m) = sym (root_depth g root) ∙ ap (tree_depth g root) i ∙ h in cc)

  pub unreached_no_parent : (x : List ℕ) → tree_depth g root x ≡ None → parent g root x ≡ None
  unreached_no_parent x e = unreached_parent g root x (depth_unreached g root x e)

  pub zero_no_parent : (x : List ℕ) → tree_depth g root x ≡ Some 0 → parent g root x ≡ None
  zero_no_parent x e = subst (λ (z : List ℕ). parent g root z ≡ None) (zero_is_root g root x e) (root_parent g root)

  pub child_is : (x y : List ℕ) → is_child g root x y ≡ true → parent g root y ≡ Some x
  child_is x y h = by_parent (parent g root y) h
    where
      by_parent : (o : Option (List ℕ)) → option_map_or (λ p. is_named p x) o false ≡ true → o ≡ Some x
      by_parent None h = absurd (false≢true h)
      by_parent (Some p) h = ap Some (same_is p x h)

  pub child_from : (x y : List ℕ) → parent g root y ≡ Some x → is_child g root x y ≡ true
  child_from x y h = rw h (same_refl x)

  -- below, by its own words
  pub below_step : (y x : List ℕ) → below g root y x ≡ (is_named x y || option_map_or (λ p. below g root y p) (parent g root x) false)
  below_step y x = by_depth (tree_depth g root x) refl
    where
      by_parent : (m : ℕ) → tree_depth g root x ≡ Some (suc m) → (o : Option (List ℕ)) → parent g root x ≡ o →
          (is_named x y || option_map_or (λ p. climbs g m root y p) o false) ≡ (is_named x y || option_map_or (λ p. below g root y p) o false)
      by_parent m e None f = refl
      by_parent m e (Some p) f =
          let q = parent_is x p f in
          let s : Some (suc q.0) ≡ Some (suc m) = sym (q.1.to_child) ∙ e in
          let i : q.0 ≡ m = cc in
          let j : tree_depth g root p ≡ Some m = q.1.from_parent ∙ ap Some i in
          ap (λ (d : Option ℕ). is_named x y || climbs g (unwrap_or d 0) root y p) (sym j)

      by_depth : (o : Option ℕ) → tree_depth g root x ≡ o →
          climbs g (unwrap_or o 0) root y x ≡ (is_named x y || option_map_or (λ p. below g root y p) (parent g root x) false)
      by_depth None e = rw (unreached_no_parent x e) (sym (or-false (is_named x y)))
      by_depth (Some zero) e = rw (zero_no_parent x e) (sym (or-false (is_named x y)))
      by_depth (Some (suc m)) e = by_parent m e (parent g root x) refl

  pub below_itself : (x : List ℕ) → below g root x x ≡ true
  below_itself x = below_step x x ∙ or_left (is_named x x) _ (same_refl x)

  pub below_parent : (y x p : List ℕ) → parent g root x ≡ Some p → below g root y p ≡ true → below g root y x ≡ true
  below_parent y x p e h = below_step y x ∙ or_right (is_named x y) _ (rw e h)

  -- x is y, or a parent of x is below y
  pub below_cases : (y x : List ℕ) → below g root y x ≡ true → (x ≡ y) ⊎ ((p : List ℕ) × (parent g root x ≡ Some p) × (below g root y p ≡ true))
  below_cases y x h = elim (or_cases (is_named x y) (option_map_or (λ p. below g root y p) (parent g root x) false) (sym (below_step y x) ∙ h)) [
    | inl s ↦ inl (same_is x y s)
    | inr s ↦ inr (by_parent (parent g root x) refl s)
  ]
    where
      by_parent : (o : Option (List ℕ)) → parent g root x ≡ o → option_map_or (λ p. below g root y p) o false ≡ true → (p : List ℕ) × (parent g root x ≡ Some p) × (below g root y p ≡ true)
      by_parent None e s = absurd (false≢true s)
      by_parent (Some p) e s = (p, e, s)

  -- the same, where x is at a known depth: at zero it is y itself
  pub below_at : (n : ℕ) (y x : List ℕ) → tree_depth g root x ≡ Some n → below g root y x ≡ true →
      (x ≡ y) ⊎ ((p : List ℕ) × (m : ℕ) × (n ≡ suc m) × (tree_depth g root p ≡ Some m) × (parent g root x ≡ Some p) × (below g root y p ≡ true))
  below_at n y x d h = elim (below_cases y x h) [
    | inl i ↦ inl i
    | inr f ↦ (let q = parent_is x f.0 f.1 in
        let s : Some n ≡ Some (suc q.0) = sym d ∙ q.1.to_child in
        let e : n ≡ suc q.0 = cc in
        inr (f.0, q.0, e, q.1.from_parent, f.1, f.2))
  ]

  pub below_trans : (n : ℕ) (z y x : List ℕ) → tree_depth g root x ≡ Some n → below g root z y ≡ true → below g root y x ≡ true → below g root z x ≡ true
  below_trans zero z y x d u v = elim (below_at zero y x d v) [
    | inl i ↦ (let P : List ℕ → Type 0 = λ w. below g root z w ≡ true in subst P (sym i) u)
    | inr f ↦ absurd (omega (arith, f.2))
  ]
  below_trans (suc n) z y x d u v = elim (below_at (suc n) y x d v) [
    | inl i ↦ (let P : List ℕ → Type 0 = λ w. below g root z w ≡ true in subst P (sym i) u)
    | inr f ↦ (let e : f.1 ≡ n = omega (arith, f.2) in
        below_parent z x f.0 f.4 (below_trans n z y f.0 (f.3 ∙ ap Some e) u f.5))
  ]

  -- what x is below is at some depth, no deeper than x, and as far only where it is x
  pub below_nearer : (n : ℕ) (y x : List ℕ) → tree_depth g root x ≡ Some n → below g root y x ≡ true → (m : ℕ) × (tree_depth g root y ≡ Some m) × (m ≤ n) × (m ≡ n → x ≡ y)
  below_nearer zero y x d v = elim (below_at zero y x d v) [
    | inl i ↦ (let P : List ℕ → Type 0 = λ w. tree_depth g root w ≡ Some zero in (zero, subst P i d, omega arith, λ _. i))
    | inr f ↦ absurd (omega (arith, f.2))
  ]
  below_nearer (suc n) y x d v = elim (below_at (suc n) y x d v) [
    | inl i ↦ (let P : List ℕ → Type 0 = λ w. tree_depth g root w ≡ Some (suc n) in (suc n, subst P i d, omega arith, λ _. i))
    | inr f ↦ (let e : f.1 ≡ n = omega (arith, f.2) in
        let r = below_nearer n y f.0 (f.3 ∙ ap Some e) f.5 in
        (r.0, r.1, omega (arith, r.2), λ s. absurd (omega (arith, r.2, s))))
  ]

  -- of those that x is below, one is at each depth
  pub below_one : (n : ℕ) (y z x : List ℕ) (m : ℕ) → tree_depth g root x ≡ Some n → below g root y x ≡ true → below g root z x ≡ true → tree_depth g root y ≡ Some m → tree_depth g root z ≡ Some m → y ≡ z
  below_one zero y z x m d u v a b =
      let p = below_nearer zero y x d u in
      let q = below_nearer zero z x d v in
      sym (p.3 (omega (arith, p.2))) ∙ q.3 (omega (arith, q.2))
  below_one (suc n) y z x m d u v a b = elim (below_at (suc n) y x d u) [
    | inl i ↦ (let q = below_nearer (suc n) z x d v in
        let s : Some (suc n) ≡ Some q.0 = sym d ∙ (let P : List ℕ → Type 0 = λ w. tree_depth g root w ≡ Some m in subst P (sym i) a) ∙ sym b ∙ q.1 in
        let e : q.0 ≡ suc n = cc in
        sym i ∙ q.3 e)
    | inr f ↦ elim (below_at (suc n) z x d v) [
      | inl j ↦ (let q = below_nearer (suc n) y x d u in
          let s : Some (suc n) ≡ Some q.0 = sym d ∙ (let P : List ℕ → Type 0 = λ w. tree_depth g root w ≡ Some m in subst P (sym j) b) ∙ sym a ∙ q.1 in
          let e : q.0 ≡ suc n = cc in
          sym (q.3 e) ∙ j)
      | inr h ↦ (let e : f.1 ≡ n = omega (arith, f.2) in
          let i : Some f.0 ≡ Some h.0 = sym f.4 ∙ h.4 in
          let j : h.0 ≡ f.0 = cc in
          let P : List ℕ → Type 0 = λ w. below g root z w ≡ true in
          below_one n y z f.0 m (f.3 ∙ ap Some e) f.5 (subst P j h.5) a b)
    ]
  ]
