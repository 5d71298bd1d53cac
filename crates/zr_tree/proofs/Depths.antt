-- Depths: each edge of a tree goes one deeper, and no router is deeper than there are routers, since its parents are all nearer than it.
use Rattle.std.proofs.Common.{◌≡◌, ℕ, ◌+◌, ◌-◌, ◌<◌, ◌≤◌, zero, suc, Bool, true, false, List, [], ◌∷◌, Option, Some, None, is_some, length, refl, sym, ap, ◌∙◌, arith}
use Rattle.std.specs.List.{AllByRecursion, IsDistinct}
use Rattle.std.specs.Option.{option_map, option_map_or}
use Rattle.std.proofs.lemmas.Bool.{false≢true, eq-eqb, eqb-true, false_from_ne_true}
use Rattle.std.proofs.lemmas.Map.Keys.{IsDistinct-cons}
use Rattle.zr_id.specs.Zid.{is_named}
use Rattle.zr_graph.proofs.Names.{same_is, same_refl}
use Rattle.zr_tree_parents.specs.Distance.{is_sum}
use Rattle.zr_tree.specs.Tree.{dist, parent, parents_above, tree_depth, reached}
use Rattle.zr_tree.specs.Walk.{Graph, near, edge_length}
use Rattle.zr_lists.proofs.Finds.{In, find_in, in_find, none_find, in_filter}
use Rattle.zr_tree.proofs.Distances.{few_routers, none_distinct, root_at_zero, step_back}

pub sum_parts : (a b : Option ℕ) (w : ℕ) → is_sum a w b ≡ true → (m : ℕ) × (a ≡ Some m) × (b ≡ Some (m + w))
sum_parts (Some m) (Some n) w h = let e : n ≡ m + w = omega (arith, eqb-true (m + w) n h) in (m, refl, ap Some e)
sum_parts (Some m) None w h = absurd (false≢true h)
sum_parts None b w h = absurd (false≢true h)

pub sum_from : (a b : Option ℕ) (w m : ℕ) → a ≡ Some m → b ≡ Some (m + w) → is_sum a w b ≡ true
sum_from a b w m e f = rw (e, f) (eq-eqb (m + w) (m + w) refl)

-- how far a parent is from the root, and its child
pub record IsNear (g : Graph) (root x p : List ℕ) (m : ℕ) : Type 0 where
  pub neighbour : In p (near g x)
  pub from_parent : dist g root p ≡ Some m
  pub to_child : dist g root x ≡ Some (m + edge_length g p x)

module _ (g : Graph) (root : List ℕ) where
  pub parent_near : (x p : List ℕ) → parent g root x ≡ Some p → (m : ℕ) × IsNear g root x p m
  parent_near x p h =
      let f = find_in (λ y. is_sum (dist g root y) (edge_length g y x) (dist g root x)) (near g x) p h in
      let s = sum_parts (dist g root p) (dist g root x) (edge_length g p x) f.1 in
      (s.0, record { neighbour = f.0; from_parent = s.1; to_child = s.2 })

  -- another router that is reached has a parent
  pub reached_parent : (x : List ℕ) (n : ℕ) → dist g root x ≡ Some n → (root ≡ x → ⊥) → (p : List ℕ) × (parent g root x ≡ Some p)
  reached_parent x n d apart =
      let y = step_back g root n x d apart in
      in_find (λ z. is_sum (dist g root z) (edge_length g z x) (dist g root x)) (near g x) y.0 y.2 (sum_from (dist g root y.0) (dist g root x) (edge_length g y.0 x) y.1 y.3 (d ∙ ap Some y.4))

  none_from : (x : List ℕ) → ((m : ℕ) (w : ℕ) → 0 < w → dist g root x ≡ Some (m + w) → ⊥) → parent g root x ≡ None
  none_from x h = none_find _ (near g x) (λ y i. false_from_ne_true _ (λ t.
      let s = sum_parts (dist g root y) (dist g root x) (edge_length g y x) t in
      h s.0 (edge_length g y x) (omega arith) s.2))

  pub unreached_parent : (x : List ℕ) → dist g root x ≡ None → parent g root x ≡ None
  unreached_parent x e = none_from x (λ m w lt d. let s : None ≡ Some (m + w) = sym e ∙ d in cc)

  near_root : (x : List ℕ) → dist g root x ≡ Some 0 → parent g root x ≡ None
  near_root x e = none_from x (λ m w lt d. let s : Some 0 ≡ Some (m + w) = sym e ∙ d in let i : 0 ≡ m + w = cc in absurd (omega (arith, i)))

  pub root_parent : parent g root root ≡ None
  root_parent = near_root root (root_at_zero g root)

  -- all parents are counted where as many may be as the distance is long
  above_same : (n k : ℕ) (x : List ℕ) (d : ℕ) → dist g root x ≡ Some d → d ≤ n → d ≤ k → parents_above g n root x ≡ parents_above g k root x
  above_same zero zero x d e a b = refl
  above_same zero (suc k) x d e a b = let z : d ≡ 0 = omega arith in let none = near_root x (e ∙ ap Some z) in rw none refl
  above_same (suc n) zero x d e a b = let z : d ≡ 0 = omega arith in let none = near_root x (e ∙ ap Some z) in rw none refl
  above_same (suc n) (suc k) x d e a b = by (parent g root x) refl (λ p m at le lk. above_same n k p m at le lk)
    where
      by : (o : Option (List ℕ)) → parent g root x ≡ o → ((p : List ℕ) (m : ℕ) → dist g root p ≡ Some m → m ≤ n → m ≤ k → parents_above g n root p ≡ parents_above g k root p) →
          option_map_or (λ p. suc (parents_above g n root p)) o 0 ≡ option_map_or (λ p. suc (parents_above g k root p)) o 0
      by None f ih = refl
      by (Some p) f ih =
          let q = parent_near x p f in
          let s : Some d ≡ Some (q.0 + edge_length g p x) = sym e ∙ q.1.to_child in
          let i : d ≡ q.0 + edge_length g p x = cc in
          ap (λ (z : ℕ). suc z) (ih p q.0 q.1.from_parent (omega (arith, i)) (omega (arith, i)))

  -- a parent is one less deep
  pub parent_depth : (x p : List ℕ) → parent g root x ≡ Some p → (j : ℕ) × (tree_depth g root p ≡ Some j) × (tree_depth g root x ≡ Some (suc j))
  parent_depth x p f =
      let q = parent_near x p f in
      let c : (k : ℕ) × (q.0 + edge_length g p x ≡ suc k) × (q.0 ≤ k) = (q.0 + edge_length g p x - 1, omega arith, omega arith) in
      let at_p : tree_depth g root p ≡ Some (parents_above g q.0 root p) = ap (option_map (λ n. parents_above g n root p)) q.1.from_parent in
      let at_x : tree_depth g root x ≡ Some (parents_above g (suc c.0) root x) = ap (option_map (λ n. parents_above g n root x)) (q.1.to_child ∙ ap Some c.1) in
      let up : parents_above g (suc c.0) root x ≡ suc (parents_above g c.0 root p) = ap (λ (o : Option (List ℕ)). option_map_or (λ y. suc (parents_above g c.0 root y)) o 0) f in
      let same = above_same c.0 q.0 p q.0 q.1.from_parent c.2 (omega arith) in
      (parents_above g q.0 root p, at_p, at_x ∙ ap Some (up ∙ ap (λ (z : ℕ). suc z) same))

  pub root_depth : tree_depth g root root ≡ Some 0
  root_depth = ap (option_map (λ n. parents_above g n root root)) (root_at_zero g root)

  pub depth_distance : (x : List ℕ) (n : ℕ) → tree_depth g root x ≡ Some n → (d : ℕ) × (dist g root x ≡ Some d)
  depth_distance x n e = by (dist g root x) refl e
    where
      by : (o : Option ℕ) → dist g root x ≡ o → option_map (λ k. parents_above g k root x) o ≡ Some n → (d : ℕ) × (dist g root x ≡ Some d)
      by None f h = absurd (cc)
      by (Some d) f h = (d, f)

  pub distance_depth : (x : List ℕ) (d : ℕ) → dist g root x ≡ Some d → (n : ℕ) × (tree_depth g root x ≡ Some n)
  distance_depth x d e = (parents_above g d root x, ap (option_map (λ k. parents_above g k root x)) e)

  -- who has a distance has a depth
  pub reached_depth : (x : List ℕ) → reached g root x ≡ is_some (tree_depth g root x)
  reached_depth x = by (dist g root x)
    where
      by : (o : Option ℕ) → is_some o ≡ is_some (option_map (λ k. parents_above g k root x) o)
      by None = refl
      by (Some d) = refl

  pub unreached_depth : (x : List ℕ) → dist g root x ≡ None → tree_depth g root x ≡ None
  unreached_depth x e = rw e refl

  pub depth_unreached : (x : List ℕ) → tree_depth g root x ≡ None → dist g root x ≡ None
  depth_unreached x e = by (dist g root x) refl
    where
      by : (o : Option ℕ) → dist g root x ≡ o → dist g root x ≡ None
      by None f = f
      by (Some d) f = let q = distance_depth x d f in let s : None ≡ Some q.0 = sym e ∙ q.1 in absurd (cc)

  -- the root alone is at depth zero
  pub zero_is_root : (x : List ℕ) → tree_depth g root x ≡ Some 0 → root ≡ x
  zero_is_root x e = by (is_named root x) refl
    where
      by : (t : Bool) → is_named root x ≡ t → root ≡ x
      by true t = same_is root x t
      by false t =
          let d = depth_distance x 0 e in
          let p = reached_parent x d.0 d.1 (λ i. false≢true (sym t ∙ ap (is_named root) (sym i) ∙ same_refl root)) in
          let q = parent_depth x p.0 p.1 in
          let s : Some 0 ≡ Some (suc q.0) = sym e ∙ q.2 in
          absurd (cc)

  -- the parents of a router, one above the other
  record Line (n d : ℕ) : Type 0 where
    routers : List (List ℕ)
    long : length routers ≡ n
    inside : AllByRecursion (λ z. In z g.names) routers
    nearer : AllByRecursion (λ z. (k : ℕ) × (k < d) × (dist g root z ≡ Some k)) routers
    distinct : IsDistinct is_named routers

  weaker : (m d : ℕ) (zs : List (List ℕ)) → m < d → AllByRecursion (λ z. (k : ℕ) × (k < m) × (dist g root z ≡ Some k)) zs → AllByRecursion (λ z. (k : ℕ) × (k < d) × (dist g root z ≡ Some k)) zs
  weaker m d [] lt h = h
  weaker m d (z ∷ zs) lt h = ((h.0.0, omega (arith, lt, h.0.1), h.0.2), weaker m d zs lt h.1)

  others : (p : List ℕ) (m : ℕ) (zs : List (List ℕ)) → dist g root p ≡ Some m → AllByRecursion (λ z. (k : ℕ) × (k < m) × (dist g root z ≡ Some k)) zs → AllByRecursion (λ z. is_named p z ≡ false) zs
  others p m [] at h = h
  others p m (z ∷ zs) at h = (
    false_from_ne_true _ (λ t.
        let s : Some m ≡ Some h.0.0 = sym at ∙ ap (dist g root) (same_is p z t) ∙ h.0.2 in
        let i : m ≡ h.0.0 = cc in
        absurd (omega (arith, i, h.0.1))),
    others p m zs at h.1,
  )

  line : (n : ℕ) (x : List ℕ) (d : ℕ) → tree_depth g root x ≡ Some n → dist g root x ≡ Some d → Line n d
  line zero x d e f = record { routers = []; long = refl; inside = tt; nearer = tt; distinct = none_distinct }
  line (suc n) x d e f =
      let p = reached_parent x d f (λ i. let s : Some 0 ≡ Some (suc n) = sym root_depth ∙ ap (tree_depth g root) i ∙ e in cc) in
      let q = parent_near x p.0 p.1 in
      let r = parent_depth x p.0 p.1 in
      let s : Some (suc r.0) ≡ Some (suc n) = sym r.2 ∙ e in
      let i : r.0 ≡ n = cc in
      let t : Some d ≡ Some (q.0 + edge_length g p.0 x) = sym f ∙ q.1.to_child in
      let j : d ≡ q.0 + edge_length g p.0 x = cc in
      let lt : q.0 < d = omega (arith, j) in
      let l = line n p.0 q.0 (r.1 ∙ ap Some i) q.1.from_parent in
      record {
        routers = p.0 ∷ l.routers;
        long = let k = l.long in omega arith;
        inside = ((in_filter (λ z. g.joined x z) g.names p.0 q.1.neighbour).0, l.inside);
        nearer = ((q.0, lt, q.1.from_parent), weaker q.0 d l.routers lt l.nearer);
        distinct = IsDistinct-cons is_named p.0 l.routers (others p.0 q.0 l.routers q.1.from_parent l.nearer) l.distinct;
      }

  -- no router is deeper than there are routers
  pub depth_bounded : (x : List ℕ) (n : ℕ) → tree_depth g root x ≡ Some n → n ≤ length g.names
  depth_bounded x n e =
      let d = depth_distance x n e in
      let l = line n x d.0 e d.1 in
      omega (arith, few_routers g l.routers l.inside l.distinct, l.long)
