-- The least sum of a walk: what it says of all walks (`bounded`), and the three facts that make it the distance: the root is at zero, a walk
-- to another router comes over a neighbour (`step_back`), and no neighbour is farther than by the edge to it (`step_on`).
use Rattle.std.proofs.Common.{◌≡◌, ℕ, ◌+◌, ◌<◌, ◌≤◌, zero, suc, min, Bool, true, false, cond, List, [], ◌∷◌, Option, Some, None, ◌⊎◌, inl, inr, length, map, flat_map, refl, sym, ap, ◌∙◌, subst, arith}
use Rattle.std.specs.Cmp.{eq_by_cmp_equiv}
use Rattle.std.specs.Cmp.Lexicographic.{nat_list_cmp_total}
use Rattle.std.specs.List.{AllByRecursion, IsDistinct}
use Rattle.std.specs.Option.{option_map_or}
use Rattle.std.proofs.lemmas.Bool.{false≢true, cases_lt, false_from_ne_true}
use Rattle.std.proofs.lemmas.Map.Keys.{IsDistinct-cons}
use Rattle.std.proofs.lemmas.Map.Made.{length-le_from_is_member}
use Rattle.zr_id.specs.Zid.{is_named}
use Rattle.zr_tree.specs.Walk.{Graph, near, edge_length}
use Rattle.zr_tree.specs.Tree.{no_edge, sums, least, dist}
use Rattle.zr_graph.proofs.Names.{same_is, same_refl}
use Rattle.zr_lists.proofs.Finds.{In, any_in, in_any, in_filter, in_map, map_in}
use Rattle.zr_lists.proofs.Elements.{each_in, in_front, in_behind, in_either, in_flat, flat_in}

-- ---- the least of some numbers

pub least_in : (ns : List ℕ) (k : ℕ) → In k ns → (m : ℕ) × (m ≤ k) × (least ns ≡ Some m)
least_in [] k h = absurd h
least_in (n ∷ ns) k h = by (least ns) refl h (least_in ns k)
  where
    by : (o : Option ℕ) → least ns ≡ o → In k (n ∷ ns) → (In k ns → (m : ℕ) × (m ≤ k) × (least ns ≡ Some m)) → (m : ℕ) × (m ≤ k) × (Some (option_map_or (λ q. min n q) o n) ≡ Some m)
    by None e (inl i) ih = (n, omega (arith, i), refl)
    by None e (inr i) ih = let f = ih i in absurd (let s : None ≡ Some f.0 = sym e ∙ f.2 in cc)
    by (Some q) e (inl i) ih = (min n q, omega (arith, i), refl)
    by (Some q) e (inr i) ih =
        let f = ih i in
        let s : Some q ≡ Some f.0 = sym e ∙ f.2 in
        let j : q ≡ f.0 = cc in
        (min n q, omega (arith, j, f.1), refl)

least_among : (ns : List ℕ) (m : ℕ) → least ns ≡ Some m → In m ns
least_among [] m h = absurd (cc)
least_among (n ∷ ns) m h = by (least ns) refl h (least_among ns)
  where
    by : (o : Option ℕ) → least ns ≡ o → Some (option_map_or (λ q. min n q) o n) ≡ Some m → ((q : ℕ) → least ns ≡ Some q → In q ns) → In m (n ∷ ns)
    by None e s ih = let i : n ≡ m = cc in inl (sym i)
    by (Some q) e s ih =
        let i : min n q ≡ m = cc in
        elim (cases_lt q n) [
          | inl lt ↦ (let j : q ≡ m = omega (arith, i) in inr (subst (λ (z : ℕ). In z ns) j (ih q e)))
          | inr ge ↦ inl (omega (arith, i))
        ]

-- what the least number is
pub record IsLeast (ns : List ℕ) (m : ℕ) : Type 0 where
  pub among : In m ns
  pub first : (k : ℕ) → In k ns → m ≤ k

pub least_some : (ns : List ℕ) (m : ℕ) → least ns ≡ Some m → IsLeast ns m
least_some ns m h = record {
  among = least_among ns m h;
  first = λ k i.
      let f = least_in ns k i in
      let s : Some m ≡ Some f.0 = sym h ∙ f.2 in
      let e : m ≡ f.0 = cc in
      omega (arith, e, f.1);
}

pub none_distinct : IsDistinct is_named []
unfolding IsDistinct
none_distinct = tt

-- distinct routers of a graph are no more than all
module _ (g : Graph) where
  pub few_routers : (routers : List (List ℕ)) → AllByRecursion (λ z. In z g.names) routers → IsDistinct is_named routers → length routers ≤ length g.names
  few_routers routers inside distinct =
      length-le_from_is_member {eq = is_named} (eq_by_cmp_equiv nat_list_cmp_total) routers g.names distinct (λ q t.
      let f = any_in (is_named q) routers t in
      let i = each_in (λ z. In z g.names) routers f.0 inside f.1 in
      in_any (is_named q) g.names f.0 i f.2)

-- ---- walks of a graph from a root

module _ (g : Graph) (root : List ℕ) where
  pub no_edge_is : (n : ℕ) (x : List ℕ) → In n (no_edge root x) → (root ≡ x) × (n ≡ 0)
  no_edge_is n x h = by (is_named root x) refl h
    where
      by : (t : Bool) → is_named root x ≡ t → In n (cond t (0 ∷ []) []) → (root ≡ x) × (n ≡ 0)
      by true e (inl i) = (same_is root x e, i)
      by true e (inr i) = absurd i
      by false e i = absurd i

  at_root : In 0 (no_edge root root)
  at_root = rw (same_refl root) (inl refl)

  -- a walk has no edge, or comes over a neighbour
  pub sums_cases : (k n : ℕ) (x : List ℕ) → In n (sums g (suc k) root x) →
      ((root ≡ x) × (n ≡ 0)) ⊎ ((y : List ℕ) × (m : ℕ) × In y (near g x) × In m (sums g k root y) × (n ≡ m + edge_length g y x))
  sums_cases k n x h =
      elim (in_either (no_edge root x) (flat_map (λ y. map (λ m. m + edge_length g y x) (sums g k root y)) (near g x)) n h) [
        | inl i ↦ inl (no_edge_is n x i)
        | inr i ↦ (let f = in_flat (λ y. map (λ m. m + edge_length g y x) (sums g k root y)) (near g x) n i in
            let q = in_map (λ m. m + edge_length g f.0 x) (sums g k root f.0) n f.2 in
            inr (f.0, q.0, f.1, q.1, sym q.2))
      ]

  pub sums_on : (k m : ℕ) (y x : List ℕ) → In y (near g x) → In m (sums g k root y) → In (m + edge_length g y x) (sums g (suc k) root x)
  sums_on k m y x i h =
      in_behind (no_edge root x) (flat_map (λ z. map (λ q. q + edge_length g z x) (sums g k root z)) (near g x)) (m + edge_length g y x)
      (flat_in (λ z. map (λ q. q + edge_length g z x) (sums g k root z)) (near g x) y (m + edge_length g y x) i (map_in (λ q. q + edge_length g y x) (sums g k root y) m h))

  pub root_in : (k : ℕ) → In 0 (sums g k root root)
  root_in zero = at_root
  root_in (suc k) = in_front (no_edge root root) (flat_map (λ y. map (λ m. m + edge_length g y root) (sums g k root y)) (near g root)) 0 at_root

  root_in_at : (k n : ℕ) (x : List ℕ) → root ≡ x → n ≡ 0 → In n (sums g k root x)
  root_in_at k n x e z = subst (λ (m : ℕ). In m (sums g k root x)) (sym z) (subst (λ (y : List ℕ). In 0 (sums g k root y)) e (root_in k))

  sums_more : (k n : ℕ) (x : List ℕ) → In n (sums g k root x) → In n (sums g (suc k) root x)
  sums_more zero n x h = let z = no_edge_is n x h in root_in_at 1 n x z.0 z.1
  sums_more (suc k) n x h =
      elim (sums_cases k n x h) [
        | inl z ↦ root_in_at (suc (suc k)) n x z.0 z.1
        | inr f ↦ subst (λ (m : ℕ). In m (sums g (suc (suc k)) root x)) (sym f.4) (sums_on (suc k) f.1 f.0 x f.2 (sums_more k f.1 f.0 f.3))
      ]

  sums_up : (k j n : ℕ) (x : List ℕ) → j ≤ k → In n (sums g j root x) → In n (sums g k root x)
  sums_up zero j n x le h = let e : j ≡ 0 = omega arith in subst (λ (i : ℕ). In n (sums g i root x)) e h
  sums_up (suc k) j n x le h =
      elim (cases_lt k j) [
        | inl lt ↦ (let e : j ≡ suc k = omega arith in subst (λ (i : ℕ). In n (sums g i root x)) e h)
        | inr ge ↦ sums_more k n x (sums_up k j n x ge h)
      ]

  -- ---- a walk that is shorter than all of fewer edges comes over so many routers

  -- a walk of less than k edges and of no more than n leads to z
  abbrev IsBefore : ℕ → ℕ → List ℕ → Type 0
  IsBefore k n z = (j : ℕ) × (v : ℕ) × (j < k) × (v ≤ n) × In v (sums g j root z)

  -- all walks of less than k edges to x are longer than n
  abbrev IsFirst : ℕ → ℕ → List ℕ → Type 0
  IsFirst k n x = (j v : ℕ) → j < k → In v (sums g j root x) → n < v

  record Chain (k n : ℕ) : Type 0 where
    routers : List (List ℕ)
    long : length routers ≡ k
    inside : AllByRecursion (λ z. In z g.names) routers
    before : AllByRecursion (IsBefore k n) routers
    distinct : IsDistinct is_named routers

  weaker : (k n m : ℕ) (zs : List (List ℕ)) → n ≤ m → AllByRecursion (IsBefore k n) zs → AllByRecursion (IsBefore (suc k) m) zs
  weaker k n m [] le h = h
  weaker k n m (z ∷ zs) le h = ((h.0.0, h.0.1, omega (arith, h.0.2), omega (arith, h.0.3), h.0.4), weaker k n m zs le h.1)

  others : (k n : ℕ) (y : List ℕ) (zs : List (List ℕ)) → IsFirst k n y → AllByRecursion (IsBefore k n) zs → AllByRecursion (λ z. is_named y z ≡ false) zs
  others k n y [] first h = h
  others k n y (z ∷ zs) first h = (
    false_from_ne_true _ (λ t.
        let far = first h.0.0 h.0.1 h.0.2 (subst (λ (w : List ℕ). In h.0.1 (sums g h.0.0 root w)) (sym (same_is y z t)) h.0.4) in
        absurd (omega (arith, far, h.0.3))),
    others k n y zs first h.1,
  )

  chain : (k n : ℕ) (x : List ℕ) → In n (sums g k root x) → IsFirst k n x → Chain k n
  chain zero n x h first = record { routers = []; long = refl; inside = tt; before = tt; distinct = none_distinct }
  chain (suc k) n x h first =
      elim (sums_cases k n x h) [
        | inl z ↦ absurd (omega (arith, first 0 0 (omega arith) (root_in_at 0 0 x z.0 refl), z.1))
        | inr f ↦ (let first_y : IsFirst k f.1 f.0 = λ j v lt i. omega (arith, first (suc j) (v + edge_length g f.0 x) (omega arith) (sums_on j v f.0 x f.2 i), f.4) in
            let c = chain k f.1 f.0 f.3 first_y in
            let no_more : f.1 ≤ n = omega (arith, f.4) in
            record {
              routers = f.0 ∷ c.routers;
              long = let e = c.long in omega arith;
              inside = ((in_filter (λ z. g.joined x z) g.names f.0 f.2).0, c.inside);
              before = ((k, f.1, omega arith, no_more, f.3), weaker k f.1 n c.routers no_more c.before);
              distinct = IsDistinct-cons is_named f.0 c.routers (others k f.1 f.0 c.routers first_y c.before) c.distinct;
            })
      ]

  chain_short : (k n : ℕ) → Chain k n → k ≤ length g.names
  chain_short k n c = omega (arith, few_routers g c.routers c.inside c.distinct, c.long)

  -- a walk of one edge more than there are routers is no shorter than all others
  cut : (n : ℕ) (x : List ℕ) → In n (sums g (suc (length g.names)) root x) → (m : ℕ) × (m ≤ n) × In m (sums g (length g.names) root x)
  cut n x h = by (least (sums g (length g.names) root x)) refl
    where
      too_long : IsFirst (suc (length g.names)) n x → ⊥
      too_long first = let s = chain_short (suc (length g.names)) n (chain (suc (length g.names)) n x h first) in absurd (omega (arith, s))

      by : (o : Option ℕ) → least (sums g (length g.names) root x) ≡ o → (m : ℕ) × (m ≤ n) × In m (sums g (length g.names) root x)
      by None e = absurd (too_long (λ j v lt i.
          let f = least_in (sums g (length g.names) root x) v (sums_up (length g.names) j v x (omega arith) i) in
          let s : None ≡ Some f.0 = sym e ∙ f.2 in
          cc))
      by (Some m) e =
          let l = least_some (sums g (length g.names) root x) m e in
          elim (cases_lt n m) [
            | inl lt ↦ absurd (too_long (λ j v less i. omega (arith, l.first v (sums_up (length g.names) j v x (omega arith) i))))
            | inr ge ↦ (m, ge, l.among)
          ]

  shorten : (k n : ℕ) (x : List ℕ) → In n (sums g k root x) → (m : ℕ) × (m ≤ n) × In m (sums g (length g.names) root x)
  shorten zero n x h = (n, omega arith, sums_up (length g.names) 0 n x (omega arith) h)
  shorten (suc k) n x h =
      elim (sums_cases k n x h) [
        | inl z ↦ (n, omega arith, root_in_at (length g.names) n x z.0 z.1)
        | inr f ↦ (let r = shorten k f.1 f.0 f.3 in
            let c = cut (r.0 + edge_length g f.0 x) x (sums_on (length g.names) r.0 f.0 x f.2 r.2) in
            (c.0, omega (arith, c.1, r.1, f.4), c.2))
      ]

  -- a walk of any number of edges gives a distance
  pub bounded : (k n : ℕ) (x : List ℕ) → In n (sums g k root x) → (m : ℕ) × (m ≤ n) × (dist g root x ≡ Some m)
  bounded k n x h =
      let s = shorten k n x h in
      let f = least_in (sums g (length g.names) root x) s.0 s.2 in
      (f.0, omega (arith, f.1, s.1), f.2)

  -- ---- what makes it the distance

  pub root_at_zero : dist g root root ≡ Some 0
  root_at_zero =
      let f = bounded 0 0 root at_root in
      let e : f.0 ≡ 0 = omega (arith, f.1) in
      f.2 ∙ ap Some e

  -- another router that is reached has a neighbour that is nearer by the edge from it
  pub step_back : (n : ℕ) (x : List ℕ) → dist g root x ≡ Some n → (root ≡ x → ⊥) →
      (y : List ℕ) × (m : ℕ) × In y (near g x) × (dist g root y ≡ Some m) × (n ≡ m + edge_length g y x)
  step_back n x d apart =
      let l = least_some (sums g (length g.names) root x) n d in
      elim (sums_cases (length g.names) n x (sums_more (length g.names) n x l.among)) [
        | inl z ↦ absurd (apart z.0)
        | inr f ↦ (let b = bounded (length g.names) f.1 f.0 f.3 in
            let w = least_some (sums g (length g.names) root f.0) b.0 b.2 in
            let s = shorten (suc (length g.names)) (b.0 + edge_length g f.0 x) x (sums_on (length g.names) b.0 f.0 x f.2 w.among) in
            (f.0, b.0, f.2, b.2, omega (arith, l.first s.0 s.2, s.1, b.1, f.4)))
      ]

  -- a neighbour of one that is reached is no farther than by the edge to it
  pub step_on : (m : ℕ) (y x : List ℕ) → In y (near g x) → dist g root y ≡ Some m → (n : ℕ) × (n ≤ m + edge_length g y x) × (dist g root x ≡ Some n)
  step_on m y x i d =
      let l = least_some (sums g (length g.names) root y) m d in
      bounded (suc (length g.names)) (m + edge_length g y x) x (sums_on (length g.names) m y x i l.among)

  pub zero_is_root : (x : List ℕ) → dist g root x ≡ Some 0 → root ≡ x
  zero_is_root x d = by (is_named root x) refl
    where
      by : (t : Bool) → is_named root x ≡ t → root ≡ x
      by true e = same_is root x e
      by false e =
          let s = step_back 0 x d (λ i. false≢true (sym e ∙ ap (is_named root) (sym i) ∙ same_refl root)) in
          absurd (omega (arith, s.4))
