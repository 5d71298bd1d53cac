-- Walks and distances: a walk can be turned round and lengthened, and distances are the lengths of shortest walks.
use Rattle.std.proofs.Common.{◌≡◌, ℕ, ◌+◌, ◌≤◌, zero, suc, max, Bool, true, false, cond, ◌&&◌, List, [], ◌∷◌, ◌++◌, Some, inl, inr, length, refl, sym, ap, ◌∙◌, subst, arith}
use Rattle.std.proofs.lemmas.Bool.{false≢true, and_parts}
use Rattle.zr_id.specs.Record.{RecordState}
use Rattle.zr_id.specs.Zid.{is_named}
use Rattle.zr_graph.specs.Record.{ids, has, has_edge, lists, weight_given, IsAscending}
use Rattle.zr_tree.specs.Laws.{IsGraph, IsExact}
use Rattle.zr_tree.specs.Tree.{sums, dist}
use Rattle.zr_tree.specs.Walk.{Graph, graph_of, near, edge_length, IsWalk, walk_length, IsDistance}
use Rattle.zr_graph.proofs.Names.{same_is}
use Rattle.zr_lists.proofs.Finds.{In, any_in, in_filter, filter_in}
use Rattle.zr_tree.proofs.Indexed.{joined_back, record_none}
use Rattle.zr_tree.proofs.Distances.{least_some, sums_cases, sums_on, root_in, bounded, no_edge_is}

pub has_in : (names : List (List ℕ)) (x : List ℕ) → has names x ≡ true → In x names
has_in names x h =
    let f = any_in (λ y. is_named y x) names h in
    subst (λ (z : List ℕ). In z names) (same_is f.0 x f.2) f.1

pub graph_is : (rs : List RecordState) → IsAscending (ids rs) → IsGraph (graph_of rs)
graph_is rs up = record {
  ascending = up;
  known = λ x y h. by_has x y h (has (ids rs) x) refl;
  both_ways = λ x y h. joined_back rs x y h;
  as_long = λ x y. same_length (lists rs x y) (lists rs y x) (weight_given rs x y) (weight_given rs y x);
}
  where
    by_has : (x y : List ℕ) → has_edge rs x y ≡ true → (t : Bool) → has (ids rs) x ≡ t → has (ids rs) x ≡ true
    by_has x y h true e = e
    by_has x y h false e =
        let n : lists rs x y ≡ false = rw (record_none rs x e) refl in
        absurd (false≢true (sym n ∙ (and_parts (lists rs x y) (lists rs y x) h).0))

    same_length : (a b : Bool) (p q : ℕ) → max 1 (cond (a && b) (max p q) 0) ≡ max 1 (cond (b && a) (max q p) 0)
    same_length true true p q = omega arith
    same_length true false p q = refl
    same_length false true p q = refl
    same_length false false p q = refl

-- ---- walks

pub walk_push : (g : Graph) (a b c : List ℕ) (path : List (List ℕ)) → IsWalk g a path b → g.joined b c ≡ true → IsWalk g a (path ++ c ∷ []) c
walk_push g a b c [] h j = let P : List ℕ → Type 0 = λ z. g.joined z c ≡ true in (subst P (sym h) j, refl)
walk_push g a b c (y ∷ path) h j = (h.0, walk_push g y b c path h.1 j)

pub length_push : (g : Graph) (a b c : List ℕ) (path : List (List ℕ)) → IsWalk g a path b → walk_length g a (path ++ c ∷ []) ≡ walk_length g a path + edge_length g b c
length_push g a b c [] h = let e : edge_length g a c ≡ edge_length g b c = ap (λ z. edge_length g z c) h in omega (arith, e)
length_push g a b c (y ∷ path) h = let ih = length_push g y b c path h.1 in omega (arith, ih)

module _ (g : Graph) (is : IsGraph g) where
  pub walk_back : (x z : List ℕ) (path : List (List ℕ)) → IsWalk g x path z → (back : List (List ℕ)) × IsWalk g z back x × (walk_length g z back ≡ walk_length g x path)
  walk_back x z [] h = ([], sym h, refl)
  walk_back x z (y ∷ path) h =
      let ih = walk_back y z path h.1 in
      let n = length_push g z y x ih.0 ih.1 in
      (ih.0 ++ x ∷ [], walk_push g z y x ih.0 ih.1 (is.both_ways x y h.0), omega (arith, n, ih.2, is.as_long x y))

  near_joined : (x y : List ℕ) → In y (near g x) → g.joined y x ≡ true
  near_joined x y i = is.both_ways x y (in_filter (λ z. g.joined x z) g.names y i).1

  joined_near : (x y : List ℕ) → g.joined y x ≡ true → In y (near g x)
  joined_near x y j = filter_in (λ z. g.joined x z) g.names y (has_in g.names y (is.known y x j)) (is.both_ways y x j)

  pub sums_walk : (k n : ℕ) (root x : List ℕ) → In n (sums g k root x) → (path : List (List ℕ)) × IsWalk g root path x × (walk_length g root path ≡ n)
  sums_walk zero n root x h = let z = no_edge_is g root n x h in ([], z.0, sym z.1)
  sums_walk (suc k) n root x h =
      elim (sums_cases g root k n x h) [
        | inl z ↦ ([], z.0, sym z.1)
        | inr f ↦ (let ih = sums_walk k f.1 root f.0 f.3 in
            let e = length_push g root f.0 x ih.0 ih.1 in
            (ih.0 ++ x ∷ [], walk_push g root f.0 x ih.0 ih.1 (near_joined x f.0 f.2), omega (arith, e, ih.2, f.4)))
      ]

  -- one edge more at the root
  at_once : (k n : ℕ) (root y x : List ℕ) → g.joined root y ≡ true → y ≡ x → n ≡ 0 → In (edge_length g root y + n) (sums g (suc k) root x)
  at_once k n root y x j e z =
      let i = sums_on g root k 0 root y (joined_near y root j) (root_in g root k) in
      let s : 0 + edge_length g root y ≡ edge_length g root y + n = omega (arith, z) in
      subst (λ (m : ℕ). In m (sums g (suc k) root x)) s (subst (λ (u : List ℕ). In (0 + edge_length g root y) (sums g (suc k) root u)) e i)

  front_step : (k n : ℕ) (root y x : List ℕ) → g.joined root y ≡ true → In n (sums g k y x) → In (edge_length g root y + n) (sums g (suc k) root x)
  front_step zero n root y x j h = let z = no_edge_is g y n x h in at_once zero n root y x j z.0 z.1
  front_step (suc k) n root y x j h =
      elim (sums_cases g y k n x h) [
        | inl z ↦ at_once (suc k) n root y x j z.0 z.1
        | inr f ↦ (let i = sums_on g root (suc k) (edge_length g root y + f.1) f.0 x f.2 (front_step k f.1 root y f.0 j f.3) in
            let s : edge_length g root y + f.1 + edge_length g f.0 x ≡ edge_length g root y + n = omega (arith, f.4) in
            subst (λ (m : ℕ). In m (sums g (suc (suc k)) root x)) s i)
      ]

  pub walk_sums : (root x : List ℕ) (path : List (List ℕ)) → IsWalk g root path x → In (walk_length g root path) (sums g (length path) root x)
  walk_sums root x [] h = subst (λ (u : List ℕ). In 0 (sums g 0 root u)) h (root_in g root 0)
  walk_sums root x (y ∷ path) h = front_step (length path) (walk_length g y path) root y x h.0 (walk_sums y x path h.1)

  pub exact : (root x : List ℕ) (n : ℕ) → IsExact g root x n
  exact root x n = record { is_shortest = shortest; is_found = found }
    where
      shortest : dist g root x ≡ Some n → IsDistance g root x n
      shortest d = record {
        walk = sums_walk (length g.names) n root x (least_some (sums g (length g.names) root x) n d).among;
        shortest = λ path w.
            let b = bounded g root (length path) (walk_length g root path) x (walk_sums root x path w) in
            let s : Some n ≡ Some b.0 = sym d ∙ b.2 in
            let e : n ≡ b.0 = cc in
            omega (arith, e, b.1);
      }

      found : IsDistance g root x n → dist g root x ≡ Some n
      found h =
          let b = bounded g root (length h.walk.0) (walk_length g root h.walk.0) x (walk_sums root x h.walk.0 h.walk.1) in
          let w = sums_walk (length g.names) b.0 root x (least_some (sums g (length g.names) root x) b.0 b.2).among in
          let s = h.shortest w.0 w.1 in
          let e : b.0 ≡ n = omega (arith, s, w.2, b.1, h.walk.2) in
          b.2 ∙ ap Some e

  -- a walk reaches, and the distance is no longer
  pub walk_reaches : (root x : List ℕ) (path : List (List ℕ)) → IsWalk g root path x → (m : ℕ) × (m ≤ walk_length g root path) × (dist g root x ≡ Some m)
  walk_reaches root x path w = bounded g root (length path) (walk_length g root path) x (walk_sums root x path w)

  -- the distance is the length of some walk
  pub dist_walk : (root x : List ℕ) (n : ℕ) → dist g root x ≡ Some n → (path : List (List ℕ)) × IsWalk g root path x × (walk_length g root path ≡ n)
  dist_walk root x n d = sums_walk (length g.names) n root x (least_some (sums g (length g.names) root x) n d).among
