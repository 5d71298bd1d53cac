-- From the distances to parents, depths and jumps, by index and by name.
use Rattle.std.proofs.Common.{◌≡◌, ℕ, ◌+◌, ◌<◌, zero, suc, Bool, true, false, not, ◌&&◌, ◌==◌, List, [], ◌∷◌, ◌++◌, Option, Some, None, unwrap_or, ◌⊎◌, inl, inr, length, get_or, map, take, refl, sym, ap, ◌∙◌, subst, arith}
use Rattle.std.specs.List.{filter, find, range_with_len, slice_get}
use Rattle.std.specs.Option.{option_map, option_map_or}
use Rattle.std.proofs.lemmas.Bool.{false≢true, cases_eq, cases_lt, eq-eqb, eqb-true, ne_eqb, false_from_ne_true}
use Rattle.std.proofs.lemmas.List.{length-map, length-take-le, get_or-take, get_or_append_left, get_or_push, get_or_read}
use Rattle.std.proofs.lemmas.List.FromFn.{get_or-map-range_with_len, length-map-range_with_len}
use Rattle.zr_id.specs.Record.{RecordState}
use Rattle.zr_id.specs.Zid.{is_named}
use Rattle.zr_graph.specs.Record.{ids, has_edge}
use Rattle.zr_graph.proofs.Names.{same_is, same_refl}
use Rattle.zr_tree_parents.specs.Children.{is_child_index}
use Rattle.zr_tree_parents.specs.Climb.{at, climb, nearer, AreIndexes, AreJumps, row}
use Rattle.zr_tree_parents.specs.Distance.{kept_at, is_sum}
use Rattle.zr_tree_parents.specs.Depth.{depth_below, AreBehind, AreDepths}
use Rattle.zr_tree_parents.specs.Lists.{OnlyAdds}
use Rattle.zr_tree_parents.specs.Search.{has_index, IsOrder}
use Rattle.zr_tree_parents.specs.declared.row.Neighbour.{Neighbour}
use Rattle.zr_tree.specs.Hop.{AreTrees, AreWays, IsHop, IsTree, depth_of, parent_name}
use Rattle.zr_tree.specs.declared.tree.Hop.{Hop}
use Rattle.zr_tree.specs.declared.tree.TheConstants.{UNREACHED}
use Rattle.zr_tree.specs.Index.{EdgeTable, AreEdges, name}
use Rattle.zr_tree.specs.Search.{AreDistances}
use Rattle.zr_tree.specs.Tree.{dist, tree_depth, parent, below, is_child, children}
use Rattle.zr_tree.specs.Walk.{Graph, graph_of, edge_length}
use Rattle.zr_lists.proofs.Finds.{In, any_in, in_any, in_place, place_in, find_in, in_filter, find-map, same_find, same_filter, filter-filter, filter-map}
use Rattle.zr_tree.proofs.Branches.{parent_is, child_is, below_itself, below_parent}
use Rattle.zr_tree.proofs.Depths.{parent_near, parent_depth, reached_parent, root_depth, unreached_depth, depth_bounded}
use Rattle.zr_tree.proofs.Indexed.{of_all, one_index, joined_back}

module _ (e : EdgeTable) (right : AreEdges e) (root : ℕ) (distances : List (Option ℕ)) (known : AreDistances e root distances) where
  -- what tells the parent of a router
  abbrev test : ℕ → Neighbour → Bool
  test x n = is_sum (kept_at distances n.index) n.weight (kept_at distances x)

  heavy : (x : ℕ) → x < length e.records → (n : Neighbour) → In n (row e.rows x) → 0 < n.weight
  heavy x lt n i =
      let long = of_all (λ m. m.weight ≡ edge_length (graph_of e.records) (name e.records m.index) (name e.records x)) (row e.rows x) n (right.lengths x lt) i in
      omega (arith, long)

  -- no router is nearer than itself
  apart : (o : Option ℕ) (w : ℕ) → 0 < w → is_sum o w o ≡ true → ⊥
  apart (Some m) w lt h = let i : m + w ≡ m = eqb-true (m + w) m h in absurd (omega arith)
  apart None w lt h = false≢true h

  -- what the first nearer neighbour says of the parent
  by_find : (x : ℕ) → x < length e.records → (o : Option Neighbour) → find (test x) (row e.rows x) ≡ o →
      (option_map_or (λ n. n.index) o x < length e.records) × (option_map (λ n. name e.records n.index) o ≡ parent_name e.records x (option_map_or (λ n. n.index) o x))
  by_find x lt None f = (lt, sym (rw (eq-eqb x x refl) refl))
  by_find x lt (Some n) f =
      let g = find_in (test x) (row e.rows x) n f in
      let other : (n.index == x) ≡ false = ne_eqb n.index x (λ i. apart (kept_at distances x) n.weight (heavy x lt n g.0) (ap (λ (y : ℕ). is_sum (kept_at distances y) n.weight (kept_at distances x)) (sym i) ∙ g.1)) in
      (of_all (λ m. m.index < length e.records) (row e.rows x) n (right.within x lt) g.0, sym (rw other refl))

  parent_by_find : (x : ℕ) → x < length e.records →
      parent (graph_of e.records) (name e.records root) (name e.records x) ≡ option_map (λ n. name e.records n.index) (find (test x) (row e.rows x))
  parent_by_find x lt =
      let g : Graph = graph_of e.records in
      let by_name : List ℕ → Bool = λ y. is_sum (dist g (name e.records root) y) (edge_length g y (name e.records x)) (dist g (name e.records root) (name e.records x)) in
      ap (find by_name) (sym (right.neighbours x lt)) ∙ find-map by_name (λ n. name e.records n.index) (row e.rows x) ∙
      ap (option_map (λ n. name e.records n.index)) (same_find (λ n. by_name (name e.records n.index)) (test x) (row e.rows x)
      (λ n i.
      let l = of_all (λ m. m.index < length e.records) (row e.rows x) n (right.within x lt) i in
      let long = of_all (λ m. m.weight ≡ edge_length g (name e.records m.index) (name e.records x)) (row e.rows x) n (right.lengths x lt) i in
      rw (← known.exact n.index l, ← known.exact x lt, ← long) refl))

  pub parents_long : length (map (nearer e.rows distances) (range_with_len 0 (length e.rows))) ≡ length e.records
  parents_long = length-map-range_with_len (nearer e.rows distances) 0 (length e.rows) ∙ right.long

  parents_at : (x : ℕ) → x < length e.records → at (map (nearer e.rows distances) (range_with_len 0 (length e.rows))) x ≡ nearer e.rows distances x
  parents_at x lt = get_or-map-range_with_len (nearer e.rows distances) 0 (length e.rows) x x 0 (omega (arith, right.long)) (omega arith)

  pub parents_within : (x : ℕ) → x < length e.records → at (map (nearer e.rows distances) (range_with_len 0 (length e.rows))) x < length e.records
  parents_within x lt = rw (parents_at x lt) ((by_find x lt _ refl).0)

  pub parents_exact : (x : ℕ) → x < length e.records →
      parent (graph_of e.records) (name e.records root) (name e.records x) ≡ parent_name e.records x (at (map (nearer e.rows distances) (range_with_len 0 (length e.rows))) x)
  parents_exact x lt = rw (parents_at x lt) (parent_by_find x lt ∙ (by_find x lt _ refl).1)

  pub parents_indexes : AreIndexes (map (nearer e.rows distances) (range_with_len 0 (length e.rows)))
  parents_indexes = record { within = λ x lt. let n = parents_long in omega (arith, parents_within x (omega arith)) }

  -- ---- the order has each router behind its parent

  module _ (parents order : List ℕ) (within : (x : ℕ) → x < length e.records → at parents x < length e.records)
      (exact : (x : ℕ) → x < length e.records → parent (graph_of e.records) (name e.records root) (name e.records x) ≡ parent_name e.records x (at parents x)) (sorted : IsOrder distances order) where
    -- whose parent is another router is farther than it
    parent_apart : (x : ℕ) → x < length e.records → (at parents x ≡ x → ⊥) → parent (graph_of e.records) (name e.records root) (name e.records x) ≡ Some (name e.records (at parents x))
    parent_apart x lt ne = let t : (at parents x == x) ≡ false = ne_eqb (at parents x) x ne in exact x lt ∙ rw t refl

    pub parents_behind : AreBehind parents order
    parents_behind k lt = elim (cases_eq (at parents (get_or order k 0)) (get_or order k 0)) [ inl own ↦ inl own | inr ne ↦ inr (before ne) ]
      where
        here : get_or order k 0 < length e.records
        here = omega (arith, sorted.within k 0 lt, known.long)

        before : (at parents (get_or order k 0) ≡ get_or order k 0 → ⊥) → has_index (take k order) (at parents (get_or order k 0)) ≡ true
        before ne =
            let x : ℕ = get_or order k 0 in
            let p : ℕ = at parents x in
            let near = parent_near (graph_of e.records) (name e.records root) (name e.records x) (name e.records p) (parent_apart x here ne) in
            let at_p : kept_at distances p ≡ Some near.0 = known.exact p (within x here) ∙ near.1.from_parent in
            let at_x : kept_at distances x ≡ Some (near.0 + edge_length (graph_of e.records) (name e.records p) (name e.records x)) = known.exact x here ∙ near.1.to_child in
            let f = any_in (λ j. j == p) order (sorted.whole p near.0 at_p) in
            let l = in_place order f.0 0 f.1 in
            let is_p : get_or order l.0 0 ≡ p = l.2 ∙ eqb-true f.0 p f.2 in
            elim (cases_lt l.0 k) [
              | inl less ↦ (let long : l.0 < length (take k order) = omega (arith, length-take-le k order (omega arith), less) in
                  in_any (λ j. j == p) (take k order) (get_or (take k order) l.0 0) (place_in (take k order) l.0 0 long) (eq-eqb (get_or (take k order) l.0 0) p (get_or-take k order l.0 0 less ∙ is_p)))
              | inr ge ↦ (let le = sorted.ascending k l.0 _ near.0 ge l.1 at_x (ap (kept_at distances) is_p ∙ at_p) in absurd (omega (arith, le)))
            ]

    reached_exact : (depths : List (Option ℕ)) → AreDepths parents order depths → (b x n : ℕ) → n < b → x < length e.records → dist (graph_of e.records) (name e.records root) (name e.records x) ≡ Some n →
        kept_at depths x ≡ tree_depth (graph_of e.records) (name e.records root) (name e.records x)
    reached_exact depths h zero x n lt here d = absurd (omega arith)
    reached_exact depths h (suc b) x n lt here d =
        h.below x (sorted.whole x n (known.exact x here ∙ d)) ∙ by (cases_eq (at parents x) x) (λ m less at_p. reached_exact depths h b (at parents x) m less (within x here) at_p)
      where
        own_depth : (at parents x ≡ x) → (t : Bool) → is_named (name e.records root) (name e.records x) ≡ t → tree_depth (graph_of e.records) (name e.records root) (name e.records x) ≡ Some 0
        own_depth own true t = ap (tree_depth (graph_of e.records) (name e.records root)) (sym (same_is (name e.records root) (name e.records x) t)) ∙ root_depth (graph_of e.records) (name e.records root)
        own_depth own false t =
            let p = reached_parent (graph_of e.records) (name e.records root) (name e.records x) n d (λ i. false≢true (sym t ∙ ap (is_named (name e.records root)) (sym i) ∙ same_refl (name e.records root))) in
            let s : (at parents x == x) ≡ true = eq-eqb (at parents x) x own in
            let none : parent (graph_of e.records) (name e.records root) (name e.records x) ≡ None = exact x here ∙ rw s refl in
            let u : None ≡ Some p.0 = sym none ∙ p.1 in
            absurd (cc)

        by : (at parents x ≡ x) ⊎ (at parents x ≡ x → ⊥) →
            ((m : ℕ) → m < b → dist (graph_of e.records) (name e.records root) (name e.records (at parents x)) ≡ Some m → kept_at depths (at parents x) ≡ tree_depth (graph_of e.records) (name e.records root) (name e.records (at parents x))) →
            depth_below parents depths x ≡ tree_depth (graph_of e.records) (name e.records root) (name e.records x)
        by (inl own) ih =
            let s : (at parents x == x) ≡ true = eq-eqb (at parents x) x own in
            rw s (sym (own_depth own (is_named (name e.records root) (name e.records x)) refl))
        by (inr ne) ih =
            let s : (at parents x == x) ≡ false = ne_eqb (at parents x) x ne in
            let near = parent_near (graph_of e.records) (name e.records root) (name e.records x) (name e.records (at parents x)) (parent_apart x here ne) in
            let both : Some n ≡ Some (near.0 + edge_length (graph_of e.records) (name e.records (at parents x)) (name e.records x)) = sym d ∙ near.1.to_child in
            let sum : n ≡ near.0 + edge_length (graph_of e.records) (name e.records (at parents x)) (name e.records x) = cc in
            let deep = parent_depth (graph_of e.records) (name e.records root) (name e.records x) (name e.records (at parents x)) (parent_apart x here ne) in
            rw s (ap (option_map (λ k. suc k)) (ih near.0 (omega (arith, sum)) near.1.from_parent ∙ deep.1) ∙ sym deep.2)

    pub depths_exact : (depths : List (Option ℕ)) → AreDepths parents order depths → (x : ℕ) → x < length e.records →
        kept_at depths x ≡ tree_depth (graph_of e.records) (name e.records root) (name e.records x)
    depths_exact depths h x here = by (dist (graph_of e.records) (name e.records root) (name e.records x)) refl
      where
        by : (o : Option ℕ) → dist (graph_of e.records) (name e.records root) (name e.records x) ≡ o → kept_at depths x ≡ tree_depth (graph_of e.records) (name e.records root) (name e.records x)
        by None d =
            h.only x (false_from_ne_true _ (λ t. let f = sorted.reached x t in let s : None ≡ Some f.0 = sym d ∙ sym (known.exact x here) ∙ f.1 in cc))
            ∙ sym (unreached_depth (graph_of e.records) (name e.records root) (name e.records x) d)
        by (Some n) d = reached_exact depths h (suc n) x n (omega arith) here d

-- a way up by indexes is one by names
pub climb_above : (rs : List RecordState) (root : ℕ) (parents : List ℕ) →
    ((x : ℕ) → x < length rs → at parents x < length rs) →
    ((x : ℕ) → x < length rs → parent (graph_of rs) (name rs root) (name rs x) ≡ parent_name rs x (at parents x)) →
    (n x : ℕ) → x < length rs → below (graph_of rs) (name rs root) (name rs (climb parents n x)) (name rs x) ≡ true
climb_above rs root parents within exact zero x lt = below_itself (graph_of rs) (name rs root) (name rs x)
climb_above rs root parents within exact (suc n) x lt = by_parent (cases_eq (at parents x) x) (climb_above rs root parents within exact n (at parents x) (within x lt))
  where
    by_parent : (at parents x ≡ x) ⊎ (at parents x ≡ x → ⊥) → below (graph_of rs) (name rs root) (name rs (climb parents n (at parents x))) (name rs (at parents x)) ≡ true →
        below (graph_of rs) (name rs root) (name rs (climb parents n (at parents x))) (name rs x) ≡ true
    by_parent (inl i) ih =
        let P : ℕ → Type 0 = λ z. below (graph_of rs) (name rs root) (name rs (climb parents n (at parents x))) (name rs z) ≡ true in
        subst P i ih
    by_parent (inr ne) ih =
        let t : (at parents x == x) ≡ false = ne_eqb (at parents x) x ne in
        below_parent (graph_of rs) (name rs root) (name rs (climb parents n (at parents x))) (name rs x) (name rs (at parents x)) (exact x lt ∙ rw t refl) ih

pub ways_from : (e : EdgeTable) (right : AreEdges e) (root : ℕ) (distances depths : List (Option ℕ)) (order parents jumps : List ℕ) →
    AreDistances e root distances → IsOrder distances order → parents ≡ map (nearer e.rows distances) (range_with_len 0 (length e.rows)) → AreDepths parents order depths → AreJumps parents jumps →
    AreWays e.records root depths parents jumps
ways_from e right root distances depths order parents jumps known sorted is deep up =
    let long : length parents ≡ length e.records = ap length is ∙ parents_long e right root distances known in
    let within : (x : ℕ) → x < length e.records → at parents x < length e.records = λ x lt. rw is (parents_within e right root distances known x lt) in
    let exact : (x : ℕ) → x < length e.records → parent (graph_of e.records) (name e.records root) (name e.records x) ≡ parent_name e.records x (at parents x) =
    λ x lt. rw is (parents_exact e right root distances known x lt) in
    record {
      depths_long = deep.long ∙ long;
      parents_long = long;
      jumps_long = up.long ∙ long;
      depth = depths_exact e right root distances known parents order within exact sorted depths deep;
      parent_within = within;
      parent_is = exact;
      jump_within = λ x lt. rw (← long) (up.within x (rw long lt));
      jump_above = λ x lt.
          let u = up.up x (rw long lt) in
          let P : ℕ → Type 0 = λ z. below (graph_of e.records) (name e.records root) (name e.records z) (name e.records (at parents x)) ≡ true in
          subst P u.1 (climb_above e.records root parents within exact u.0 (at parents x) (within x lt));
    }

-- ---- children

module _ (e : EdgeTable) (right : AreEdges e) (root : ℕ) (parents : List ℕ)
    (within : (x : ℕ) → x < length e.records → at parents x < length e.records)
    (exact : (x : ℕ) → x < length e.records → parent (graph_of e.records) (name e.records root) (name e.records x) ≡ parent_name e.records x (at parents x)) where
  other_name : (i j : ℕ) → i < length e.records → j < length e.records → (i ≡ j → ⊥) → is_named (name e.records i) (name e.records j) ≡ false
  other_name i j a b ne = false_from_ne_true _ (λ t. ne (one_index e.records i j right.ascending a b (same_is _ _ t)))

  child_test : (x j : ℕ) → x < length e.records → j < length e.records →
      is_child (graph_of e.records) (name e.records root) (name e.records x) (name e.records j) ≡ is_child_index parents x j
  child_test x j a b = ap (λ o. option_map_or (λ p. is_named p (name e.records x)) o false) (exact j b) ∙ by_parent (cases_eq (at parents j) j) (cases_eq (at parents j) x)
    where
      by_parent : (at parents j ≡ j) ⊎ (at parents j ≡ j → ⊥) → (at parents j ≡ x) ⊎ (at parents j ≡ x → ⊥) →
          option_map_or (λ p. is_named p (name e.records x)) (parent_name e.records j (at parents j)) false ≡ (at parents j == x && not (j == x))
      by_parent (inl own) (inl i) =
          let t : (at parents j == j) ≡ true = eq-eqb _ _ own in
          let u : (at parents j == x) ≡ true = eq-eqb _ _ i in
          let v : (j == x) ≡ true = eq-eqb _ _ (sym own ∙ i) in
          rw (t, u, v) refl
      by_parent (inl own) (inr ne) =
          let t : (at parents j == j) ≡ true = eq-eqb _ _ own in
          let u : (at parents j == x) ≡ false = ne_eqb _ _ ne in
          rw (t, u) refl
      by_parent (inr other) (inl i) =
          let t : (at parents j == j) ≡ false = ne_eqb _ _ other in
          let u : (at parents j == x) ≡ true = eq-eqb _ _ i in
          let v : (j == x) ≡ false = ne_eqb _ _ (λ k. other (i ∙ sym k)) in
          let w : is_named (name e.records (at parents j)) (name e.records x) ≡ true = ap (λ z. is_named (name e.records z) (name e.records x)) i ∙ same_refl (name e.records x) in
          rw (t, u, v, w) refl
      by_parent (inr other) (inr ne) =
          let t : (at parents j == j) ≡ false = ne_eqb _ _ other in
          let u : (at parents j == x) ≡ false = ne_eqb _ _ ne in
          let w : is_named (name e.records (at parents j)) (name e.records x) ≡ false = other_name (at parents j) x (within j b) a ne in
          rw (t, u, w) refl

  pub children_are : (x : ℕ) → x < length e.records →
      map (λ n. name e.records n.index) (filter (λ n. is_child_index parents x n.index) (row e.rows x)) ≡ children (graph_of e.records) (name e.records root) (name e.records x)
  children_are x lt =
      let test : List ℕ → Bool = is_child (graph_of e.records) (name e.records root) (name e.records x) in
      ap (map (λ n. name e.records n.index)) (same_filter (λ n. is_child_index parents x n.index) (λ n. test (name e.records n.index)) (row e.rows x)
      (λ n i. sym (child_test x n.index lt (of_all (λ m. m.index < length e.records) (row e.rows x) n (right.within x lt) i))))
      ∙ sym (filter-map test (λ n. name e.records n.index) (row e.rows x))
      ∙ ap (filter test) (right.neighbours x lt)
      ∙ filter-filter test (has_edge e.records (name e.records x)) (ids e.records) joined
    where
      joined : (y : List ℕ) → In y (ids e.records) → is_child (graph_of e.records) (name e.records root) (name e.records x) y ≡ true → has_edge e.records (name e.records x) y ≡ true
      joined y i t =
          let p = child_is (graph_of e.records) (name e.records root) (name e.records x) y t in
          let q = parent_is (graph_of e.records) (name e.records root) y (name e.records x) p in
          joined_back e.records y (name e.records x) (in_filter (has_edge e.records y) (ids e.records) (name e.records x) q.1.neighbour).1

-- the number that stands for a depth
depth_is : (o : Option ℕ) → ((k : ℕ) → o ≡ Some k → k < UNREACHED) → depth_of (unwrap_or o UNREACHED) ≡ o
depth_is None h = refl
depth_is (Some k) h = let t : (k == UNREACHED) ≡ false = ne_eqb k UNREACHED (λ i. absurd (omega (arith, h k refl, i))) in rw t refl

pub hop_from : (e : EdgeTable) (right : AreEdges e) (root x : ℕ) (depths : List (Option ℕ)) (parents jumps : List ℕ) (lists : List (List (List ℕ))) (hop : Hop) (list : List (List ℕ)) →
    AreWays e.records root depths parents jumps → x < length e.records →
    hop.depth ≡ unwrap_or (kept_at depths x) UNREACHED → hop.parent ≡ at parents x → hop.jump ≡ at jumps x →
    slice_get lists hop.children ≡ Some list → list ≡ map (λ n. name e.records n.index) (filter (λ n. is_child_index parents x n.index) (row e.rows x)) →
    IsHop e.records root lists x hop
hop_from e right root x depths parents jumps lists hop list w lt d p j found is = record {
  depth = rw (d, w.depth x lt) (depth_is (tree_depth (graph_of e.records) (name e.records root) (name e.records x)) (λ k i.
      let l = depth_bounded (graph_of e.records) (name e.records root) (name e.records x) k i in
      omega (arith, l, right.small, length-map e.records (λ (r : RecordState). r.id))));
  parent_within = rw p (w.parent_within x lt);
  parent_is = rw p (w.parent_is x lt);
  jump_within = rw j (w.jump_within x lt);
  jump_above =
      let P : ℕ → Type 0 = λ z. below (graph_of e.records) (name e.records root) (name e.records z) (name e.records hop.parent) ≡ true in
      let Q : ℕ → Type 0 = λ z. below (graph_of e.records) (name e.records root) (name e.records (at jumps x)) (name e.records z) ≡ true in
      subst P (sym j) (subst Q (sym p) (w.jump_above x lt));
  children_are = found ∙ ap Some (is ∙ children_are e right root parents w.parent_within w.parent_is x lt);
}

-- a hop stays right when lists are added
pub hop_kept : (rs : List RecordState) (root x : ℕ) (old new : List (List (List ℕ))) (hop : Hop) → OnlyAdds old new → IsHop rs root old x hop → IsHop rs root new x hop
hop_kept rs root x old new hop keeps h = record {
  depth = h.depth;
  parent_within = h.parent_within;
  parent_is = h.parent_is;
  jump_within = h.jump_within;
  jump_above = h.jump_above;
  children_are = keeps _ _ h.children_are;
}

pub hops_more : (rs : List RecordState) (root x : ℕ) (old new : List (List (List ℕ))) (hops : List Hop) (hop : Hop) → OnlyAdds old new → length hops ≡ x →
    ((k : ℕ) (d : Hop) → k < x → IsHop rs root old k (get_or hops k d)) → IsHop rs root new x hop →
    (k : ℕ) (d : Hop) → k < x + 1 → IsHop rs root new k (get_or (hops ++ hop ∷ []) k d)
hops_more rs root x old new hops hop keeps long each here k d lt = elim (cases_lt k x) [
  | inl l ↦ (let n : k < length hops = omega (arith, long) in rw (get_or_append_left hops (hop ∷ []) d k n) (hop_kept rs root k old new (get_or hops k d) keeps (each k d l)))
  | inr g ↦ (let i : x ≡ k = omega arith in
      let P : ℕ → Type 0 = λ z. IsHop rs root new z hop in
      rw (get_or_push hops hop d k (long ∙ i)) (subst P i here))
]

-- what is kept of a router in the tree of a root
pub kept_hop : (rs : List RecordState) (names : List (List ℕ)) (trees : List (List Hop)) (lists : List (List (List ℕ))) (root x : ℕ) (hops : List Hop) (d : Hop) →
    AreTrees rs names trees lists → root < length rs → x < length rs → hops ≡ get_or trees root hops → IsHop rs root lists x (get_or hops x d)
kept_hop rs names trees lists root x hops d h a b at =
    let e : hops ≡ get_or trees root [] = get_or_read trees root hops (omega (arith, h.long)) at [] in
    rw e ((h.each root a).each x d b)

-- one tree more, and its lists
pub trees_more : (rs : List RecordState) (root : ℕ) (old new : List (List (List ℕ))) (trees : List (List Hop)) (tree : List Hop) → OnlyAdds old new → length trees ≡ root →
    ((r : ℕ) → r < root → IsTree rs r old (get_or trees r [])) → IsTree rs root new tree →
    (r : ℕ) → r < root + 1 → IsTree rs r new (get_or (trees ++ tree ∷ []) r [])
trees_more rs root old new trees tree keeps long each here r lt = elim (cases_lt r root) [
  | inl l ↦ (let n : r < length trees = omega (arith, long) in
      let h = each r l in
      rw (get_or_append_left trees (tree ∷ []) [] r n)
      (record { long = h.long; each = λ x d b. hop_kept rs r x old new (get_or (get_or trees r []) x d) keeps (h.each x d b) }))
  | inr g ↦ (let i : root ≡ r = omega arith in
      let P : ℕ → Type 0 = λ z. IsTree rs z new tree in
      rw (get_or_push trees tree [] r (long ∙ i)) (subst P i here))
]
