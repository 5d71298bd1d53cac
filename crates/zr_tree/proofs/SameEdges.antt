-- The tree laws: what a destination is below, the least parent, and that trees are those of the edges and their lengths alone.
use Rattle.std.proofs.Common.{◌≡◌, ℕ, ◌+◌, ◌≤◌, zero, suc, Bool, true, false, cond, ◌&&◌, ◌||◌, List, [], ◌∷◌, ◌++◌, Option, Some, None, map, flat_map, unwrap_or, Less, ◌⊎◌, inl, inr, length, refl, sym, ap, ◌∙◌, subst, arith}
use Rattle.std.specs.Cmp.Lexicographic.{slice_cmp, nat_list_cmp_total}
use Rattle.std.specs.List.{filter, find}
use Rattle.std.specs.Option.{option_map, option_map_or, option_and_then}
use Rattle.std.specs.Ordering.{nat_cmp}
use Rattle.std.proofs.lemmas.Bool.{false≢true, cases_Bool, and_from, and_parts}
use Rattle.std.proofs.lemmas.Cmp.{tied_itself}
use Rattle.std.proofs.lemmas.List.Kept.{IsStrictlySortedBy-filter}
use Rattle.std.proofs.lemmas.Map.Keys.{sorted_head, sorted_tail}
use Rattle.zr_lists.proofs.Elements.{each_in}
use Rattle.zr_id.specs.Zid.{is_named}
use Rattle.zr_graph.specs.Record.{IsAscending}
use Rattle.zr_id.specs.Record.{is_before}
use Rattle.zr_graph.proofs.Names.{same_is, same_refl, comes}
use Rattle.zr_tree_parents.specs.Distance.{is_sum}
use Rattle.zr_tree.specs.Laws.{IsGraph, IsNext, HaveSameTrees, steps_toward}
use Rattle.zr_tree.specs.Tree.{no_edge, sums, dist, parent, parents_above, tree_depth, is_child, children, climbs, below, toward}
use Rattle.zr_tree.specs.Walk.{Graph, near, edge_length}
use Rattle.zr_lists.proofs.Finds.{In, in_filter, filter_in, same_find, only_find}
use Rattle.zr_tree.proofs.Distances.{least_some, bounded}
use Rattle.zr_tree.proofs.Depths.{zero_is_root}
use Rattle.zr_tree.proofs.Branches.{parent_is, has_parent, child_is, child_from, below_itself, below_parent, below_at, below_nearer, below_one}
use Rattle.zr_tree.proofs.Paths.{has_in}

-- ---- ascending lists

-- the first that passes is the least
pub first_least : (p : List ℕ → Bool) (xs : List (List ℕ)) (a y : List ℕ) → IsAscending xs → find p xs ≡ Some a → In y xs → p y ≡ true → (a ≡ y) ⊎ (is_before a y ≡ true)
first_least p [] a y up h i e = absurd i
first_least p (x ∷ xs) a y up h i e = by_test (p x) refl h i (first_least p xs a y (sorted_tail _ x xs up))
  where
    by_test : (t : Bool) → p x ≡ t → cond t (Some x) (find p xs) ≡ Some a → In y (x ∷ xs) → (find p xs ≡ Some a → In y xs → p y ≡ true → (a ≡ y) ⊎ (is_before a y ≡ true)) → (a ≡ y) ⊎ (is_before a y ≡ true)
    by_test true f g (inl j) ih = let k : x ≡ a = cc in inl (sym k ∙ sym j)
    by_test true f g (inr j) ih =
        let k : x ≡ a = cc in
        let l = each_in (λ z. slice_cmp nat_cmp x z ≡ Less) xs y (sorted_head _ x xs up) j in
        let P : List ℕ → Type 0 = λ z. is_before z y ≡ true in
        inr (subst P k ((comes x y l).before))
    by_test false f g (inl j) ih = absurd (false≢true (sym f ∙ ap p (sym j) ∙ e))
    by_test false f g (inr j) ih = ih g j e

not_twice : (x : List ℕ) (xs : List (List ℕ)) → IsAscending (x ∷ xs) → In x xs → ⊥
not_twice x xs up i = let l = each_in (λ z. slice_cmp nat_cmp x z ≡ Less) xs x (sorted_head _ x xs up) i in let t = sym l ∙ tied_itself nat_list_cmp_total x in absurd (cc)

-- two ascending lists with the same elements are one list
pub same_list : (xs ys : List (List ℕ)) → IsAscending xs → IsAscending ys → ((z : List ℕ) → In z xs → In z ys) → ((z : List ℕ) → In z ys → In z xs) → xs ≡ ys
same_list [] [] a b f g = refl
same_list [] (y ∷ ys) a b f g = absurd (g y (inl refl))
same_list (x ∷ xs) [] a b f g = absurd (f x (inl refl))
same_list (x ∷ xs) (y ∷ ys) a b f g = by_head (f x (inl refl)) (g y (inl refl)) (same_list xs ys (sorted_tail _ x xs a) (sorted_tail _ y ys b))
  where
    before : (u v : List ℕ) (us : List (List ℕ)) → IsAscending (u ∷ us) → In v us → slice_cmp nat_cmp u v ≡ Less
    before u v us up i = each_in (λ z. slice_cmp nat_cmp u z ≡ Less) us v (sorted_head _ u us up) i

    tail : (i : x ≡ y) → ((z : List ℕ) → In z xs → In z ys) × ((z : List ℕ) → In z ys → In z xs)
    tail i = (λ z j. left z j (f z (inr j)), λ z j. right z j (g z (inr j)))
      where
        left : (z : List ℕ) → In z xs → In z (y ∷ ys) → In z ys
        left z j (inl k) = absurd (not_twice x xs a (let P : List ℕ → Type 0 = λ w. In w xs in subst P (k ∙ sym i) j))
        left z j (inr k) = k

        right : (z : List ℕ) → In z ys → In z (x ∷ xs) → In z xs
        right z j (inl k) = absurd (not_twice y ys b (let P : List ℕ → Type 0 = λ w. In w ys in subst P (k ∙ i) j))
        right z j (inr k) = k

    by_head : In x (y ∷ ys) → In y (x ∷ xs) → (((z : List ℕ) → In z xs → In z ys) → ((z : List ℕ) → In z ys → In z xs) → xs ≡ ys) → x ∷ xs ≡ y ∷ ys
    by_head (inl i) k ih = let t = tail i in λ j. i j ∷ ih t.0 t.1 j
    by_head (inr i) (inl k) ih = let t = tail (sym k) in λ j. (sym k) j ∷ ih t.0 t.1 j
    by_head (inr i) (inr k) ih = (let s = sym ((comes x y (before x y xs a k)).greater) ∙ before y x ys b i in absurd (cc))

-- ---- the way to a destination

module _ (g : Graph) (is : IsGraph g) (root : List ℕ) where
  child_in : (x y : List ℕ) → is_child g root x y ≡ true → In y g.names
  child_in x y t =
      let p = parent_is g root y x (child_is g root x y t) in
      has_in g.names y (is.known y x (in_filter (λ z. g.joined y z) g.names x p.1.neighbour).1)

  next_is : (n : ℕ) (at dest y : List ℕ) → tree_depth g root dest ≡ Some n → is_child g root at y ≡ true → below g root y dest ≡ true → IsNext g root at dest y
  next_is n at dest y d c b = record {
    next = only_find _ g.names y (child_in at y c) (and_from _ _ c b) (λ z i t. let both = and_parts (is_child g root at z) (below g root z dest) t in one z both.0 both.1);
    is_child_of = c;
    is_above = b;
    only = one;
  }
    where
      one : (z : List ℕ) → is_child g root at z ≡ true → below g root z dest ≡ true → z ≡ y
      one z t u =
          let p = parent_is g root y at (child_is g root at y c) in
          let q = parent_is g root z at (child_is g root at z t) in
          let s : Some q.0 ≡ Some p.0 = sym q.1.from_parent ∙ p.1.from_parent in
          let e : q.0 ≡ p.0 = cc in
          below_one g root n z y dest (suc p.0) d u b (q.1.to_child ∙ ap (λ (k : ℕ). Some (suc k)) e) p.1.to_child

  pub next_one : (n : ℕ) (at dest : List ℕ) → tree_depth g root dest ≡ Some n → below g root at dest ≡ true → (dest ≡ at → ⊥) → (y : List ℕ) × IsNext g root at dest y
  next_one zero at dest d b ne = elim (below_at g root zero at dest d b) [
    | inl e ↦ absurd (ne e)
    | inr f ↦ absurd (omega (arith, f.2))
  ]
  next_one (suc n) at dest d b ne = elim (below_at g root (suc n) at dest d b) [
    | inl e ↦ absurd (ne e)
    | inr f ↦ elim (cases_Bool (is_named f.0 at)) [
      | inl t ↦ (let e = same_is f.0 at t in
          (dest, next_is (suc n) at dest dest d (child_from g root at dest (f.4 ∙ ap Some e)) (below_itself g root dest)))
      | inr t ↦ (let e : f.1 ≡ n = omega (arith, f.2) in
          let r = next_one n at f.0 (f.3 ∙ ap Some e) f.5 (λ i. false≢true (sym t ∙ ap (λ z. is_named z at) i ∙ same_refl at)) in
          (r.0, next_is (suc n) at dest r.0 d r.1.is_child_of (below_parent g root r.0 dest f.0 f.4 r.1.is_above)))
    ]
  ]

  pub root_above : (n : ℕ) (dest : List ℕ) → tree_depth g root dest ≡ Some n → below g root root dest ≡ true
  root_above zero dest d =
      let e = zero_is_root g root dest d in
      let P : List ℕ → Type 0 = λ z. below g root root z ≡ true in
      subst P e (below_itself g root root)
  root_above (suc n) dest d =
      let p = has_parent g root dest n d in
      let q = parent_is g root dest p.0 p.1 in
      let s : Some (suc n) ≡ Some (suc q.0) = sym d ∙ q.1.to_child in
      let e : q.0 ≡ n = cc in
      below_parent g root root dest p.0 p.1 (root_above n p.0 (q.1.from_parent ∙ ap Some e))

  pub steps_lead : (n k m : ℕ) (at dest : List ℕ) → m ≡ k + n → tree_depth g root dest ≡ Some m → tree_depth g root at ≡ Some k → below g root at dest ≡ true → steps_toward g root n at dest ≡ Some dest
  steps_lead zero k m at dest e d a b =
      let f = below_nearer g root m at dest d b in
      let s : Some f.0 ≡ Some k = sym f.1 ∙ a in
      let i : f.0 ≡ k = cc in
      ap Some (sym (f.3 (omega (arith, i, e))))
  steps_lead (suc n) k m at dest e d a b =
      let r = next_one m at dest d b (λ i.
      let s : Some m ≡ Some k = sym d ∙ ap (tree_depth g root) i ∙ a in
      let j : m ≡ k = cc in
      absurd (omega (arith, j, e))) in
      let p = parent_is g root r.0 at (child_is g root at r.0 r.1.is_child_of) in
      let s : Some p.0 ≡ Some k = sym p.1.from_parent ∙ a in
      let i : p.0 ≡ k = cc in
      let j : m ≡ suc k + n = omega (arith, e) in
      ap (option_and_then (λ y. steps_toward g root n y dest)) r.1.next ∙ steps_lead n (suc k) m r.0 dest j d (p.1.to_child ∙ ap (λ (z : ℕ). Some (suc z)) i) r.1.is_above

-- ---- two graphs of the same edges

same_flat_map : {X Y : Type 0} (f k : X → List Y) (xs : List X) → ((x : X) → In x xs → f x ≡ k x) → flat_map f xs ≡ flat_map k xs
same_flat_map f k [] same = refl
same_flat_map f k (x ∷ xs) same = ap (λ ys. ys ++ flat_map f xs) (same x (inl refl)) ∙ ap (λ ys. k x ++ ys) (same_flat_map f k xs (λ y i. same y (inr i)))

module _ (g h : Graph) (a : IsGraph g) (b : IsGraph h) (edges : (x y : List ℕ) → g.joined x y ≡ h.joined x y)
    (lengths : (x y : List ℕ) → g.joined x y ≡ true → edge_length g x y ≡ edge_length h x y) where
  near_in : (u v : Graph) → IsGraph u → IsGraph v → ((x y : List ℕ) → u.joined x y ≡ v.joined x y) → (x z : List ℕ) → In z (near u x) → In z (near v x)
  near_in u v i j e x z k =
      let f = in_filter (λ y. u.joined x y) u.names z k in
      let t = sym (e x z) ∙ f.1 in
      filter_in (λ y. v.joined x y) v.names z (has_in v.names z (j.known z x (j.both_ways x z t))) t

  back : (x y : List ℕ) → h.joined x y ≡ g.joined x y
  back x y = sym (edges x y)

  same_near : (x : List ℕ) → near g x ≡ near h x
  same_near x = same_list (near g x) (near h x) (IsStrictlySortedBy-filter _ _ g.names a.ascending) (IsStrictlySortedBy-filter _ _ h.names b.ascending) (near_in g h a b edges x) (near_in h g b a back x)

  -- the edge to a neighbour is as long
  near_long : (x y : List ℕ) → In y (near h x) → edge_length g y x ≡ edge_length h y x
  near_long x y i = lengths y x (edges y x ∙ b.both_ways x y (in_filter (λ z. h.joined x z) h.names y i).1)

  same_sums : (n : ℕ) (root x : List ℕ) → sums g n root x ≡ sums h n root x
  same_sums zero root x = refl
  same_sums (suc n) root x =
      ap (λ ys. no_edge root x ++ flat_map (λ y. map (λ m. m + edge_length g y x) (sums g n root y)) ys) (same_near x)
      ∙ ap (λ ns. no_edge root x ++ ns)
      (same_flat_map (λ y. map (λ m. m + edge_length g y x) (sums g n root y)) (λ y. map (λ m. m + edge_length h y x) (sums h n root y)) (near h x)
      (λ y i. ap (λ (w : ℕ). map (λ m. m + w) (sums g n root y)) (near_long x y i) ∙ ap (map (λ m. m + edge_length h y x)) (same_sums n root y)))

  no_farther : (u v : Graph) → ((n : ℕ) (root x : List ℕ) → sums u n root x ≡ sums v n root x) → (root x : List ℕ) (n : ℕ) → dist u root x ≡ Some n → (k : ℕ) × (k ≤ n) × (dist v root x ≡ Some k)
  no_farther u v e root x n d =
      bounded v root (length u.names) n x (subst (λ (ns : List ℕ). In n ns) (e (length u.names) root x) (least_some (sums u (length u.names) root x) n d).among)

  pub same_dist : (root x : List ℕ) → dist g root x ≡ dist h root x
  same_dist root x = by_dist (dist g root x) refl (dist h root x) refl
    where
      by_dist : (o : Option ℕ) → dist g root x ≡ o → (p : Option ℕ) → dist h root x ≡ p → o ≡ p
      by_dist None d None e = refl
      by_dist None d (Some k) e = let f = no_farther h g (λ n r y. sym (same_sums n r y)) root x k e in let s : None ≡ Some f.0 = sym d ∙ f.2 in absurd (cc)
      by_dist (Some n) d None e = let f = no_farther g h same_sums root x n d in let s : None ≡ Some f.0 = sym e ∙ f.2 in absurd (cc)
      by_dist (Some n) d (Some k) e =
          let f = no_farther g h same_sums root x n d in
          let r = no_farther h g (λ m q y. sym (same_sums m q y)) root x k e in
          let s : Some k ≡ Some f.0 = sym e ∙ f.2 in
          let t : Some n ≡ Some r.0 = sym d ∙ r.2 in
          let i : k ≡ f.0 = cc in
          let j : n ≡ r.0 = cc in
          let q : n ≡ k = omega (arith, i, j, f.1, r.1) in
          ap Some q

  pub same_parent : (root x : List ℕ) → parent g root x ≡ parent h root x
  same_parent root x =
      ap (find (λ y. is_sum (dist g root y) (edge_length g y x) (dist g root x))) (same_near x)
      ∙ same_find _ _ (near h x) (λ y i. ap (λ o. is_sum o (edge_length g y x) (dist g root x)) (same_dist root y)
      ∙ ap (λ (w : ℕ). is_sum (dist h root y) w (dist g root x)) (near_long x y i) ∙ ap (λ o. is_sum (dist h root y) (edge_length h y x) o) (same_dist root x))

  same_above : (n : ℕ) (root x : List ℕ) → parents_above g n root x ≡ parents_above h n root x
  same_above zero root x = refl
  same_above (suc n) root x =
      ap (λ (o : Option (List ℕ)). option_map_or (λ p. suc (parents_above g n root p)) o 0) (same_parent root x) ∙ by (parent h root x) (λ p. same_above n root p)
    where
      by : (o : Option (List ℕ)) → ((p : List ℕ) → parents_above g n root p ≡ parents_above h n root p) → option_map_or (λ p. suc (parents_above g n root p)) o 0 ≡ option_map_or (λ p. suc (parents_above h n root p)) o 0
      by None ih = refl
      by (Some p) ih = ap (λ (z : ℕ). suc z) (ih p)

  pub same_depth : (root x : List ℕ) → tree_depth g root x ≡ tree_depth h root x
  same_depth root x = ap (option_map (λ n. parents_above g n root x)) (same_dist root x) ∙ by (dist h root x)
    where
      by : (o : Option ℕ) → option_map (λ n. parents_above g n root x) o ≡ option_map (λ n. parents_above h n root x) o
      by None = refl
      by (Some n) = ap Some (same_above n root x)

  pub same_child : (root x y : List ℕ) → is_child g root x y ≡ is_child h root x y
  same_child root x y = ap (λ o. option_map_or (λ p. is_named p x) o false) (same_parent root y)

  child_goes : (u v : Graph) → IsGraph u → IsGraph v → ((x y : List ℕ) → u.joined x y ≡ v.joined x y) → (root x z : List ℕ) → is_child u root x z ≡ is_child v root x z → In z (children u root x) → In z (children v root x)
  child_goes u v i j e root x z s k =
      let f = in_filter (is_child u root x) u.names z k in
      filter_in (is_child v root x) v.names z (child_in v j root x z (sym s ∙ f.1)) (sym s ∙ f.1)

  pub same_children : (root x : List ℕ) → children g root x ≡ children h root x
  same_children root x =
      same_list (children g root x) (children h root x) (IsStrictlySortedBy-filter _ _ g.names a.ascending) (IsStrictlySortedBy-filter _ _ h.names b.ascending)
      (λ z. child_goes g h a b edges root x z (same_child root x z)) (λ z. child_goes h g b a back root x z (sym (same_child root x z)))

  same_climbs : (n : ℕ) (root y x : List ℕ) → climbs g n root y x ≡ climbs h n root y x
  same_climbs zero root y x = refl
  same_climbs (suc n) root y x = ap (λ t. is_named x y || t) (by_parent (parent g root x) (parent h root x) (same_parent root x) (λ q. same_climbs n root y q))
    where
      at : (z : Option (List ℕ)) → ((q : List ℕ) → climbs g n root y q ≡ climbs h n root y q) → option_map_or (λ q. climbs g n root y q) z false ≡ option_map_or (λ q. climbs h n root y q) z false
      at None ih = refl
      at (Some q) ih = ih q

      by_parent : (o p : Option (List ℕ)) → o ≡ p → ((q : List ℕ) → climbs g n root y q ≡ climbs h n root y q) → option_map_or (λ q. climbs g n root y q) o false ≡ option_map_or (λ q. climbs h n root y q) p false
      by_parent o p e ih = ap (λ z. option_map_or (λ q. climbs g n root y q) z false) e ∙ at p ih

  pub same_below : (root y x : List ℕ) → below g root y x ≡ below h root y x
  same_below root y x = ap (λ o. climbs g (unwrap_or o 0) root y x) (same_depth root x) ∙ same_climbs (unwrap_or (tree_depth h root x) 0) root y x

  find_children : (u : Graph) (root x dest : List ℕ) (xs : List (List ℕ)) → find (λ y. is_child u root x y && below u root y dest) xs ≡ find (λ y. below u root y dest) (filter (is_child u root x) xs)
  find_children u root x dest [] = refl
  find_children u root x dest (z ∷ xs) = by_test (is_child u root x z) (find_children u root x dest xs)
    where
      by_test : (t : Bool) → find (λ y. is_child u root x y && below u root y dest) xs ≡ find (λ y. below u root y dest) (filter (is_child u root x) xs) →
          cond (t && below u root z dest) (Some z) (find (λ y. is_child u root x y && below u root y dest) xs) ≡ find (λ y. below u root y dest) (cond t (z ∷ filter (is_child u root x) xs) (filter (is_child u root x) xs))
      by_test true ih = ap (λ o. cond (below u root z dest) (Some z) o) ih
      by_test false ih = ih

  same_toward : (root x dest : List ℕ) → toward g root x dest ≡ toward h root x dest
  same_toward root x dest =
      find_children g root x dest g.names ∙ ap (find (λ y. below g root y dest)) (same_children root x)
      ∙ same_find _ _ (children h root x) (λ y i. same_below root y dest) ∙ sym (find_children h root x dest h.names)

  pub same_trees : HaveSameTrees g h
  same_trees = record { distances = same_dist; depths = same_depth; parents = same_parent; children_are = same_children; next = same_toward }
