-- Trees by two graphs that agree as far as a router reaches by the second one, and what is below the children of a router: it is apart.
use Rattle.std.proofs.Common.{◌≡◌, ℕ, suc, ◌+◌, ◌≤◌, Bool, true, false, cond, ◌&&◌, ◌||◌, List, [], ◌∷◌, ◌++◌, Option, Some, None, refl, sym, ap, ◌∙◌, subst, arith}
use Rattle.std.specs.Prelude.{is_some}
use Rattle.std.specs.List.{AllByRecursion, find}
use Rattle.std.proofs.lemmas.Bool.{false≢true, true≢false, and_parts, and_from}
use Rattle.std.proofs.lemmas.List.Kept.{IsStrictlySortedBy-filter}
use Rattle.zr_lists.proofs.Finds.{In, in_filter, filter_in, same_find}
use Rattle.zr_id.specs.Zid.{is_named}
use Rattle.zr_graph.specs.Record.{has}
use Rattle.zr_graph.proofs.Names.{same_is, same_refl}
use Rattle.zr_tree_parents.specs.Distance.{is_sum}
use Rattle.zr_tree.specs.Walk.{Graph, IsWalk, near, edge_length, walk_length, IsDistance}
use Rattle.zr_tree.specs.Tree.{dist, tree_depth, parent, is_child, below}
use Rattle.zr_tree.specs.Laws.{IsGraph}
use Rattle.zr_tree.proofs.Paths.{walk_push, walk_back, exact, has_in}
use Rattle.zr_tree.proofs.Depths.{parent_near}
use Rattle.zr_tree.proofs.SameEdges.{same_list}
use Rattle.zr_tree.proofs.Branches.{parent_is, child_is, child_from, below_itself, below_parent, below_trans, below_nearer, below_one}
use Rattle.zr_orders.specs.Bag.{weigh}
use Rattle.zr_orders.proofs.Bag.{weigh_le}

-- ---- two graphs

abbrev pub Agree : Graph → Graph → List ℕ → Type 0
Agree g h x = (z : List ℕ) (path : List (List ℕ)) → IsWalk h x path z → (y : List ℕ) → (g.joined z y ≡ h.joined z y) × (edge_length g z y ≡ edge_length h z y)

module _ (g h : Graph) (x : List ℕ) (agree : Agree g h x) where
  -- a walk that begins where a walk of the second leads is one by both, and as long
  over : (a z : List ℕ) (before path : List (List ℕ)) → IsWalk h x before a → IsWalk g a path z → IsWalk h a path z
  over a z before [] b w = w
  over a z before (y ∷ path) b w =
      let here : h.joined a y ≡ true = sym (agree a before b y).0 ∙ w.0 in
      (here, over y z (before ++ y ∷ []) path (walk_push h x a y before b here) w.1)

  back : (a z : List ℕ) (before path : List (List ℕ)) → IsWalk h x before a → IsWalk h a path z → IsWalk g a path z
  back a z before [] b w = w
  back a z before (y ∷ path) b w = ((agree a before b y).0 ∙ w.0, back y z (before ++ y ∷ []) path (walk_push h x a y before b w.0) w.1)

  same_length : (a z : List ℕ) (before path : List (List ℕ)) → IsWalk h x before a → IsWalk h a path z → walk_length g a path ≡ walk_length h a path
  same_length a z before [] b w = refl
  same_length a z before (y ∷ path) b w =
      λ i. (agree a before b y).1 i + same_length y z (before ++ y ∷ []) path (walk_push h x a y before b w.0) w.1 i

  module _ (root : List ℕ) (way : List (List ℕ)) (reaches : IsWalk h x way root) where
    to_second : (z : List ℕ) (n : ℕ) → IsDistance g root z n → IsDistance h root z n
    to_second z n d =
        let there = over root z way d.walk.0 reaches d.walk.1 in
        record {
          walk = (d.walk.0, there, sym (same_length root z way d.walk.0 reaches there) ∙ d.walk.2);
          shortest = λ path w. let most = d.shortest path (back root z way path reaches w) in let same = same_length root z way path reaches w in omega (arith, most, same);
        }

    to_first : (z : List ℕ) (n : ℕ) → IsDistance h root z n → IsDistance g root z n
    to_first z n d = record {
      walk = (d.walk.0, back root z way d.walk.0 reaches d.walk.1, same_length root z way d.walk.0 reaches d.walk.1 ∙ d.walk.2);
      shortest = λ path w.
          let there = over root z way path reaches w in
          let most = d.shortest path there in
          let same = same_length root z way path reaches there in
          omega (arith, most, same);
    }

    module _ (first : IsGraph g) (second : IsGraph h) where
      same_dist : (z : List ℕ) → dist g root z ≡ dist h root z
      same_dist z = by (dist g root z) (dist h root z) refl refl
        where
          by : (a b : Option ℕ) → dist g root z ≡ a → dist h root z ≡ b → dist g root z ≡ dist h root z
          by (Some n) b e f = e ∙ sym ((exact h second root z n).is_found (to_second z n ((exact g first root z n).is_shortest e)))
          by None (Some n) e f = (exact g first root z n).is_found (to_first z n ((exact h second root z n).is_shortest f)) ∙ sym f
          by None None e f = e ∙ sym f

-- ---- parents by both graphs

-- neighbours of a router at which both graphs agree
near_goes : (u v : Graph) → IsGraph u → IsGraph v → (z : List ℕ) → ((y : List ℕ) → u.joined z y ≡ v.joined z y) → (y : List ℕ) → In y (near u z) → In y (near v z)
near_goes u v i j z e y k =
    let f = in_filter (λ y. u.joined z y) u.names y k in
    let t = sym (e y) ∙ f.1 in
    filter_in (λ y. v.joined z y) v.names y (has_in v.names y (j.known y z (j.both_ways z y t))) t

near_same : (g h : Graph) → IsGraph g → IsGraph h → (z : List ℕ) → ((y : List ℕ) → g.joined z y ≡ h.joined z y) → near g z ≡ near h z
near_same g h i j z e = same_list (near g z) (near h z) (IsStrictlySortedBy-filter _ _ g.names i.ascending) (IsStrictlySortedBy-filter _ _ h.names j.ascending)
    (near_goes g h i j z e) (near_goes h g j i z (λ y. sym (e y)))

module _ (g h : Graph) (first : IsGraph g) (second : IsGraph h) (x : List ℕ) (agree : Agree g h x) where
  -- where x reaches the root and z, both graphs have one parent of z
  same_parent : (root z : List ℕ) (way path : List (List ℕ)) → IsWalk h x way root → IsWalk h x path z → parent g root z ≡ parent h root z
  same_parent root z way path reaches there =
      let dists : (y : List ℕ) → dist g root y ≡ dist h root y = same_dist g h x agree root way reaches first second in
      let long : (y : List ℕ) → edge_length g y z ≡ edge_length h y z = λ y. first.as_long y z ∙ (agree z path there y).1 ∙ second.as_long z y in
      ap (find (λ y. is_sum (dist g root y) (edge_length g y z) (dist g root z))) (near_same g h first second z (λ y. (agree z path there y).0))
      ∙ same_find _ _ (near h z) (λ y i. λ j. is_sum (dists y j) (long y j) (dists z j))

  -- a router whose distance from the root is known is reached from it by x, where x has that distance
  reaches_root : (root : List ℕ) (n : ℕ) → dist g root x ≡ Some n → (way : List (List ℕ)) × IsWalk h x way root
  reaches_root root n far =
      let d = (exact g first root x n).is_shortest far in
      let b = walk_back g first root x d.walk.0 d.walk.1 in
      (b.0, over g h x agree x root [] b.0 refl b.1)

  pub same_child_here : (root z : List ℕ) → is_child g root x z ≡ true → is_child h root x z ≡ true
  same_child_here root z is =
      let is_parent : parent g root z ≡ Some x = child_is g root x z is in
      let p = parent_near g root z x is_parent in
      let r = reaches_root root p.0 p.1.from_parent in
      let to_z : h.joined x z ≡ true = sym (agree x [] refl z).0 ∙ first.both_ways z x (in_filter (λ y. g.joined z y) g.names x p.1.neighbour).1 in
      child_from h root x z (sym (same_parent root z r.0 (z ∷ []) r.1 (to_z, refl)) ∙ is_parent)

  pub same_parent_here : (root y : List ℕ) → parent g root x ≡ Some y → parent h root x ≡ Some y
  same_parent_here root y is =
      let p = parent_near g root x y is in
      let r = reaches_root root _ p.1.to_child in
      sym (same_parent root x r.0 [] r.1 refl) ∙ is

-- ---- weights below a router

-- v is reached and below y in the tree of the root
abbrev pub is_under : Graph → List ℕ → List ℕ → List ℕ → Bool
is_under h root y v = is_some (tree_depth h root v) && below h root y v

abbrev pub weight_under : Graph → (List ℕ → ℕ) → List ℕ → List ℕ → ℕ
weight_under h wt root y = weigh (λ v. cond (is_under h root y v) (wt v) 0) h.names

-- each of them is another
abbrev pub AreApart : List (List ℕ) → Type 0
AreApart [] = Unit {0}
AreApart (z ∷ zs) = AllByRecursion (λ y. is_named z y ≡ false) zs × AreApart zs

-- ---- sums

pub two_sums : {X Y : Type 0} (f : X → Y → ℕ) (xs : List X) (ys : List Y) → weigh (λ x. weigh (f x) ys) xs ≡ weigh (λ y. weigh (λ x. f x y) xs) ys
two_sums f [] [] = refl
two_sums f [] (y ∷ ys) = omega (arith, two_sums f [] ys)
two_sums f (x ∷ xs) ys = omega (arith, two_sums f xs ys, both ys)
  where
    both : (ys : List _) → weigh (λ y. weigh (λ z. f z y) (x ∷ xs)) ys ≡ weigh (f x) ys + weigh (λ y. weigh (λ z. f z y) xs) ys
    both [] = refl
    both (y ∷ ys) = omega (arith, both ys)

pub weigh_both : {X : Type 0} (f g : X → ℕ) (xs : List X) → weigh (λ x. f x + g x) xs ≡ weigh f xs + weigh g xs
weigh_both f g [] = refl
weigh_both f g (x ∷ xs) = omega (arith, weigh_both f g xs)

-- what is there is counted
pub counted : (wt : List ℕ → ℕ) (x : List ℕ) (names : List (List ℕ)) → has names x ≡ true → wt x ≤ weigh (λ v. cond (is_named v x) (wt v) 0) names
counted wt x [] h = absurd (false≢true h)
counted wt x (v ∷ names) h = by (is_named v x) refl h (counted wt x names)
  where
    by : (b : Bool) → is_named v x ≡ b → (b || has names x) ≡ true → (has names x ≡ true → wt x ≤ weigh (λ v. cond (is_named v x) (wt v) 0) names) →
        wt x ≤ cond b (wt v) 0 + weigh (λ v. cond (is_named v x) (wt v) 0) names
    by true e h ih = let same = ap wt (same_is v x e) in omega (arith, same)
    by false e h ih = let more = ih h in omega (arith, more)

module _ (h : Graph) (is : IsGraph h) (wt : List ℕ → ℕ) (root x : List ℕ) where
  abbrev part : List ℕ → List ℕ → ℕ
  part y v = cond (is_under h root y v) (wt v) 0

  -- a router that is under none of them
  none_under : (v : List ℕ) (zs : List (List ℕ)) → AllByRecursion (λ z. is_under h root z v ≡ false) zs → weigh (λ z. part z v) zs ≡ 0
  none_under v [] all = refl
  none_under v (z ∷ zs) all = let one = ap (λ b. cond b (wt v) 0) all.0 in omega (arith, one, none_under v zs all.1)

  record Under (v z : List ℕ) : Type 0 where
    n : ℕ
    far : tree_depth h root v ≡ Some n
    below_it : below h root z v ≡ true

  under_of : (v z : List ℕ) → is_under h root z v ≡ true → Under v z
  under_of v z u =
      let parts = and_parts (is_some (tree_depth h root v)) (below h root z v) u in
      by (tree_depth h root v) refl parts.0 parts.1
    where
      by : (o : Option ℕ) → tree_depth h root v ≡ o → is_some o ≡ true → below h root z v ≡ true → Under v z
      by None e s b = absurd (false≢true s)
      by (Some n) e s b = record { n = n; far = e; below_it = b }

  -- who is under a child is under x, and is not x
  module _ (v z : List ℕ) (child : is_child h root x z ≡ true) (u : Under v z) where
    is_parent : parent h root z ≡ Some x
    is_parent = child_is h root x z child

    under_x : is_under h root x v ≡ true
    under_x =
        let over = below_trans h root u.n x z v u.far (below_parent h root x z x is_parent (below_itself h root x)) u.below_it in
        and_from (is_some (tree_depth h root v)) (below h root x v) (ap is_some u.far) over

    not_x : is_named v x ≡ false
    not_x = by (is_named v x) refl
      where
        by : (b : Bool) → is_named v x ≡ b → b ≡ false
        by false e = refl
        by true e =
            let p = parent_is h root z x is_parent in
            let near = below_nearer h root u.n z v u.far u.below_it in
            let same = same_is v x e in
            let at_x : Some p.0 ≡ Some u.n = sym p.1.from_parent ∙ ap (tree_depth h root) (sym same) ∙ u.far in
            let at_z : Some near.0 ≡ Some (suc p.0) = sym near.1 ∙ p.1.to_child in
            let i : p.0 ≡ u.n = cc in
            let j : near.0 ≡ suc p.0 = cc in
            absurd (omega (arith, i, j, near.2))

    -- and under no other child
    not_other : (y : List ℕ) → is_child h root x y ≡ true → is_named z y ≡ false → is_under h root y v ≡ false
    not_other y other apart = by (is_under h root y v) refl
      where
        by : (b : Bool) → is_under h root y v ≡ b → b ≡ false
        by false e = refl
        by true e =
            let w = under_of v y e in
            let p = parent_is h root z x is_parent in
            let q = parent_is h root y x (child_is h root x y other) in
            let at : Some p.0 ≡ Some q.0 = sym p.1.from_parent ∙ q.1.from_parent in
            let i : q.0 ≡ p.0 = cc in
            let same = below_one h root u.n z y v (suc p.0) u.far u.below_it w.below_it p.1.to_child (q.1.to_child ∙ ap (λ n. Some (suc n)) i) in
            absurd (true≢false (sym (same_refl z) ∙ ap (is_named z) same ∙ apart))

  others_none : (v z : List ℕ) → is_child h root x z ≡ true → Under v z → (zs : List (List ℕ)) → AllByRecursion (λ y. is_named z y ≡ false) zs → AllByRecursion (λ y. is_child h root x y ≡ true) zs →
      AllByRecursion (λ y. is_under h root y v ≡ false) zs
  others_none v z child u [] apart all = tt
  others_none v z child u (y ∷ zs) apart all = (not_other v z child u y all.0 apart.0, others_none v z child u zs apart.1 all.1)

  -- at one router
  pointwise : is_some (tree_depth h root x) ≡ true → (zs : List (List ℕ)) → AreApart zs → AllByRecursion (λ z. is_child h root x z ≡ true) zs → (v : List ℕ) →
      cond (is_named v x) (wt v) 0 + weigh (λ z. part z v) zs ≤ part x v
  pointwise reaches [] apart all v = by (is_named v x) refl
    where
      by : (b : Bool) → is_named v x ≡ b → cond b (wt v) 0 + 0 ≤ part x v
      by false e = omega arith
      by true e =
          let same = same_is v x e in
          let under : is_under h root x v ≡ true = subst (λ z. is_under h root x z ≡ true) (sym same) (and_from (is_some (tree_depth h root x)) (below h root x x) reaches (below_itself h root x)) in
          let one = ap (λ b. cond b (wt v) 0) under in
          omega (arith, one)
  pointwise reaches (z ∷ zs) apart all v = by (is_under h root z v) refl (pointwise reaches zs apart.1 all.1 v)
    where
      by : (b : Bool) → is_under h root z v ≡ b → cond (is_named v x) (wt v) 0 + weigh (λ z. part z v) zs ≤ part x v →
          cond (is_named v x) (wt v) 0 + (cond b (wt v) 0 + weigh (λ z. part z v) zs) ≤ part x v
      by false e ih = omega (arith, ih)
      by true e ih =
          let u = under_of v z e in
          let none = none_under v zs (others_none v z all.0 u zs apart.0 all.1) in
          let here = ap (λ b. cond b (wt v) 0) (under_x v z all.0 u) in
          let away = ap (λ b. cond b (wt v) 0) (not_x v z all.0 u) in
          omega (arith, none, here, away)

-- what is below different children of x is apart: with x itself it weighs no more than what is below x
pub children_are_apart : (h : Graph) → IsGraph h → (wt : List ℕ → ℕ) (root x : List ℕ) (zs : List (List ℕ)) → has h.names x ≡ true → is_some (tree_depth h root x) ≡ true →
    AreApart zs → AllByRecursion (λ z. is_child h root x z ≡ true) zs → wt x + weigh (weight_under h wt root) zs ≤ weight_under h wt root x
children_are_apart h is wt root x zs there reaches apart all =
    let own = counted wt x h.names there in
    let exchange = two_sums (λ z v. cond (is_under h root z v) (wt v) 0) zs h.names in
    let both = weigh_both (λ v. cond (is_named v x) (wt v) 0) (λ v. weigh (λ z. cond (is_under h root z v) (wt v) 0) zs) h.names in
    let each = weigh_le (λ v. cond (is_named v x) (wt v) 0 + weigh (λ z. cond (is_under h root z v) (wt v) 0) zs) (λ v. cond (is_under h root x v) (wt v) 0)
    (pointwise h is wt root x reaches zs apart all) h.names in
    omega (arith, own, exchange, both, each)

-- a parent is not below its child: what is below the child weighs, with the parent, no more than all
pub parent_is_apart : (h : Graph) (wt : List ℕ → ℕ) (root x a : List ℕ) → parent h root x ≡ Some a → has h.names a ≡ true → wt a + weight_under h wt root x ≤ weigh wt h.names
parent_is_apart h wt root x a is there =
    let own = counted wt a h.names there in
    let both = weigh_both (λ v. cond (is_named v a) (wt v) 0) (λ v. cond (is_under h root x v) (wt v) 0) h.names in
    let each = weigh_le (λ v. cond (is_named v a) (wt v) 0 + cond (is_under h root x v) (wt v) 0) wt pointwise_apart h.names in
    omega (arith, own, both, each)
  where
    not_under : (v : List ℕ) → is_named v a ≡ true → is_under h root x v ≡ true → ⊥
    not_under v e u =
        let p = parent_is h root x a is in
        let parts = and_parts (is_some (tree_depth h root v)) (below h root x v) u in
        let depth : tree_depth h root v ≡ Some p.0 = ap (tree_depth h root) (same_is v a e) ∙ p.1.from_parent in
        let near = below_nearer h root p.0 x v depth parts.1 in
        let at : Some near.0 ≡ Some (suc p.0) = sym near.1 ∙ p.1.to_child in
        let i : near.0 ≡ suc p.0 = cc in
        omega (arith, i, near.2)

    pointwise_apart : (v : List ℕ) → cond (is_named v a) (wt v) 0 + cond (is_under h root x v) (wt v) 0 ≤ wt v
    pointwise_apart v = by (is_named v a) refl (is_under h root x v) refl
      where
        by : (b : Bool) → is_named v a ≡ b → (c : Bool) → is_under h root x v ≡ c → cond b (wt v) 0 + cond c (wt v) 0 ≤ wt v
        by true e true u = absurd (not_under v e u)
        by true e false u = omega arith
        by false e true u = omega arith
        by false e false u = omega arith
