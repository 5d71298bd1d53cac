-- Distances that are right by themselves, from edge to edge, are those of shortest walks.
use Rattle.std.proofs.Common.{◌≡◌, ℕ, ◌+◌, ◌<◌, ◌≤◌, zero, suc, true, ◌&&◌, ◌==◌, List, Option, Some, None, inl, inr, length, map, refl, sym, ap, ◌∙◌, subst, arith}
use Rattle.std.proofs.lemmas.Bool.{cases_eq, cases_lt, and_parts, and_from, eq-eqb, eqb-true}
use Rattle.std.proofs.lemmas.List.{get_or_past}
use Rattle.zr_graph.specs.Record.{ids, has_edge}
use Rattle.zr_tree_parents.specs.Climb.{row}
use Rattle.zr_tree_parents.specs.Distance.{kept_at}
use Rattle.zr_tree_parents.specs.Search.{AreNearest, leads_to}
use Rattle.zr_tree.specs.Index.{EdgeTable, AreEdges, name}
use Rattle.zr_tree.specs.Search.{AreDistances}
use Rattle.zr_tree.specs.Tree.{dist}
use Rattle.zr_tree.specs.Walk.{Graph, graph_of, near, edge_length}
use Rattle.zr_lists.proofs.Finds.{In, any_in, in_any, in_filter, filter_in, map_in, in_map}
use Rattle.zr_tree.proofs.Indexed.{name_in, in_name, one_index, of_all, joined_back}
use Rattle.zr_tree.proofs.Paths.{graph_is}
use Rattle.zr_tree.proofs.Distances.{root_at_zero, step_back, step_on}

module _ (e : EdgeTable) (right : AreEdges e) where
  abbrev g : Graph
  g = graph_of e.records

  -- an edge of a row is one of the graph, and as long
  pub row_edge : (u x w : ℕ) → u < length e.records → leads_to (row e.rows u) x w ≡ true →
      (x < length e.records) × In (name e.records u) (near g (name e.records x)) × (w ≡ edge_length g (name e.records u) (name e.records x))
  row_edge u x w lt t =
      let f = any_in (λ n. n.index == x && n.weight == w) (row e.rows u) t in
      let both = and_parts (f.0.index == x) (f.0.weight == w) f.2 in
      let is_x = eqb-true f.0.index x both.0 in
      let is_w = eqb-true f.0.weight w both.1 in
      let inside : x < length e.records = subst (λ (z : ℕ). z < length e.records) is_x (of_all (λ n. n.index < length e.records) (row e.rows u) f.0 (right.within u lt) f.1) in
      let i = map_in (λ n. name e.records n.index) (row e.rows u) f.0 f.1 in
      let j : In (name e.records f.0.index) (near g (name e.records u)) = rw (right.neighbours u lt) at i in
      let edge : has_edge e.records (name e.records u) (name e.records x) ≡ true =
      ap (λ z. has_edge e.records (name e.records u) (name e.records z)) (sym is_x) ∙ (in_filter (has_edge e.records (name e.records u)) (ids e.records) (name e.records f.0.index) j).1 in
      let long = of_all (λ n. n.weight ≡ edge_length g (name e.records n.index) (name e.records u)) (row e.rows u) f.0 (right.lengths u lt) f.1 in (
        inside,
        filter_in (has_edge e.records (name e.records x)) (ids e.records) (name e.records u) (name_in e.records u lt) (joined_back e.records (name e.records u) (name e.records x) edge),
        sym is_w ∙ long ∙ ap (λ z. edge_length g (name e.records z) (name e.records u)) is_x ∙ (graph_is e.records right.ascending).as_long (name e.records x) (name e.records u),
      )

  -- and each edge of the graph is in a row
  pub edge_row : (u x : ℕ) → u < length e.records → x < length e.records → In (name e.records u) (near g (name e.records x)) →
      leads_to (row e.rows u) x (edge_length g (name e.records u) (name e.records x)) ≡ true
  edge_row u x a b i =
      let edge = joined_back e.records (name e.records x) (name e.records u) (in_filter (has_edge e.records (name e.records x)) (ids e.records) (name e.records u) i).1 in
      let j = filter_in (has_edge e.records (name e.records u)) (ids e.records) (name e.records x) (name_in e.records x b) edge in
      let k : In (name e.records x) (map (λ n. name e.records n.index) (row e.rows u)) = rw (right.neighbours u a) j in
      let f = in_map (λ n. name e.records n.index) (row e.rows u) (name e.records x) k in
      let inside = of_all (λ n. n.index < length e.records) (row e.rows u) f.0 (right.within u a) f.1 in
      let is_x : f.0.index ≡ x = one_index e.records f.0.index x right.ascending inside b f.2 in
      let long = of_all (λ n. n.weight ≡ edge_length g (name e.records n.index) (name e.records u)) (row e.rows u) f.0 (right.lengths u a) f.1 in
      let is_w : f.0.weight ≡ edge_length g (name e.records u) (name e.records x) =
      long ∙ ap (λ z. edge_length g (name e.records z) (name e.records u)) is_x ∙ (graph_is e.records right.ascending).as_long (name e.records x) (name e.records u) in
      in_any (λ n. n.index == x && n.weight == edge_length g (name e.records u) (name e.records x)) (row e.rows u) f.0 f.1
      (and_from (f.0.index == x) (f.0.weight == edge_length g (name e.records u) (name e.records x)) (eq-eqb f.0.index x is_x) (eq-eqb f.0.weight _ is_w))

  module _ (root : ℕ) (known : root < length e.records) (distances : List (Option ℕ)) (h : AreNearest e.rows root distances) where
    inside : (x n : ℕ) → kept_at distances x ≡ Some n → x < length e.records
    inside x n at = elim (cases_lt x (length distances)) [
      | inl lt ↦ omega (arith, lt, h.long, right.long)
      | inr ge ↦ absurd (let s : None ≡ Some n = sym (get_or_past distances x None ge) ∙ at in cc)
    ]

    -- what is kept is no less than the distance
    no_less : (k x n : ℕ) → n < k → kept_at distances x ≡ Some n → (m : ℕ) × (m ≤ n) × (dist g (name e.records root) (name e.records x) ≡ Some m)
    no_less zero x n lt at = absurd (omega arith)
    no_less (suc k) x n lt at = elim (h.over x n at) [
      | inl i ↦ (0, omega arith, ap (λ z. dist g (name e.records root) (name e.records z)) i ∙ root_at_zero g (name e.records root))
      | inr f ↦ (let edge = row_edge f.0 x f.2 (inside f.0 f.1 f.3) f.4 in
          let ih = no_less k f.0 f.1 (omega (arith, f.5, edge.2)) f.3 in
          let s = step_on g (name e.records root) ih.0 (name e.records f.0) (name e.records x) edge.1 ih.2 in
          (s.0, omega (arith, s.1, ih.1, f.5, edge.2), s.2))
    ]

    -- and no more
    no_more : (k x n : ℕ) → n < k → x < length e.records → dist g (name e.records root) (name e.records x) ≡ Some n → (m : ℕ) × (m ≤ n) × (kept_at distances x ≡ Some m)
    no_more zero x n lt here d = absurd (omega arith)
    no_more (suc k) x n lt here d = elim (cases_eq x root) [
      | inl i ↦ (0, omega arith, ap (kept_at distances) i ∙ h.at_root)
      | inr ne ↦ (let s = step_back g (name e.records root) n (name e.records x) d (λ same. ne (sym (one_index e.records root x right.ascending known here same))) in
          let u = in_name e.records s.0 (in_filter (has_edge e.records (name e.records x)) (ids e.records) s.0 s.2).0 in
          let d_u : dist g (name e.records root) (name e.records u.0) ≡ Some s.1 = ap (dist g (name e.records root)) u.2 ∙ s.3 in
          let near_u : In (name e.records u.0) (near g (name e.records x)) = subst (λ (z : List ℕ). In z (near g (name e.records x))) (sym u.2) s.2 in
          let sum : n ≡ s.1 + edge_length g (name e.records u.0) (name e.records x) = s.4 ∙ ap (λ (z : List ℕ). s.1 + edge_length g z (name e.records x)) (sym u.2) in
          let ih = no_more k u.0 s.1 (omega (arith, sum)) u.1 d_u in
          let r = h.no_shorter u.0 ih.0 x (edge_length g (name e.records u.0) (name e.records x)) ih.2 (edge_row u.0 x u.1 here near_u) in
          (r.0, omega (arith, r.1, ih.1, sum), r.2))
    ]

    pub are_distances : AreDistances e root distances
    are_distances = record { long = h.long ∙ right.long; exact = λ x lt. by x lt (kept_at distances x) refl (dist g (name e.records root) (name e.records x)) refl }
      where
        by : (x : ℕ) → x < length e.records → (o : Option ℕ) → kept_at distances x ≡ o → (p : Option ℕ) → dist g (name e.records root) (name e.records x) ≡ p → o ≡ p
        by x lt None a None b = refl
        by x lt None a (Some n) b = let f = no_more (suc n) x n (omega arith) lt b in absurd (let s : None ≡ Some f.0 = sym a ∙ f.2 in cc)
        by x lt (Some n) a None b = let f = no_less (suc n) x n (omega arith) a in absurd (let s : None ≡ Some f.0 = sym b ∙ f.2 in cc)
        by x lt (Some n) a (Some m) b =
            let f = no_less (suc n) x n (omega arith) a in
            let r = no_more (suc m) x m (omega arith) lt b in
            let s : Some m ≡ Some f.0 = sym b ∙ f.2 in
            let t : Some n ≡ Some r.0 = sym a ∙ r.2 in
            let i : m ≡ f.0 = cc in
            let j : n ≡ r.0 = cc in
            let q : n ≡ m = omega (arith, i, j, f.1, r.1) in
            ap Some q
