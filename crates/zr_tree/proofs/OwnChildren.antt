-- Distances are the same both ways, so the children of one router are told by the distances from it, from the child, and from the neighbours
-- of the child that come before it.
use Rattle.std.proofs.Common.{◌≡◌, ℕ, ◌<◌, ◌≤◌, zero, suc, Bool, true, false, cond, not, ◌&&◌, ◌||◌, ◌==◌, List, [], ◌∷◌, ◌++◌, Option, Some, None, Result, Ok, Err, IfOk, OnOk, All, inl, inr, length, get_or, map, take, drop, refl, sym, ap, ◌∙◌, subst, arith}
use Rattle.std.specs.List.{find, list_any, position, position_or_len, range_with_len}
use Rattle.std.specs.Option.{option_map_or}
use Rattle.std.proofs.lemmas.Bool.{false≢true, false_from_ne_true, eq-eqb, eqb-true}
use Rattle.std.proofs.Math.Seq.{drop-cons}
use Rattle.std.proofs.lemmas.Bool.Decides.{nat_tests}
use Rattle.std.proofs.lemmas.List.{length-append, length_push, length-take-le, get_or_push, get_or_append_left, get_or-take, map-append, take-append-drop}
use Rattle.std.proofs.lemmas.List.FromFn.{get_or-map-range_with_len}
use Rattle.std.proofs.lemmas.List.Quantifiers.{position-Some}
use Rattle.std.proofs.lemmas.List.Sums.{fails_before_first}
use Rattle.zr_id.specs.Record.{RecordState}
use Rattle.zr_id.specs.Zid.{is_named}
use Rattle.zr_graph.specs.Base.{BaseState}
use Rattle.zr_graph.specs.Record.{ids, has}
use Rattle.zr_graph.proofs.Names.{same_is, same_refl}
use Rattle.zr_tree_parents.specs.declared.row.Neighbour.{Neighbour}
use Rattle.zr_tree_parents.specs.Climb.{row}
use Rattle.zr_tree_parents.specs.Distance.{is_sum}
use Rattle.zr_tree.specs.OwnChildren.{is_first, AreFlags, IsFamily}
use Rattle.zr_tree.specs.Index.{EdgeTable, AreEdges, name}
use Rattle.zr_tree.specs.Laws.{IsGraph}
use Rattle.zr_tree.specs.Same.{HaveSameEdges}
use Rattle.zr_tree.specs.Searches.{is_searched, distance_kept, is_nearer, AreSearches, Searched}
use Rattle.zr_tree.specs.Tree.{dist, is_child}
use Rattle.zr_tree.specs.Walk.{Graph, graph_of, IsDistance, near, edge_length}
use Rattle.zr_tree.proofs.Branches.{parent_is, child_is}
use Rattle.zr_lists.proofs.Finds.{In, find_in, in_map, in_place, place_in, same_find}
use Rattle.zr_tree.proofs.Indexed.{of_all, one_index}
use Rattle.zr_tree.proofs.Paths.{exact, graph_is, walk_back}
use Rattle.zr_tree.proofs.Searched.{kept_is}
use Rattle.zr_tree.proofs.Stays.{as_long, ascending_still, child_stays, name_stays}
use Rattle.zr_tree.proofs.Unknown.{parent_unknown_at, parent_unknown_root}

-- ---- distances are the same both ways

module _ (g : Graph) (is : IsGraph g) where
  distance_back : (x z : List ℕ) (n : ℕ) → IsDistance g x z n → IsDistance g z x n
  distance_back x z n d =
      let w = walk_back g is x z d.walk.0 d.walk.1 in
      record {
        walk = (w.0, w.1, w.2 ∙ d.walk.2);
        shortest = λ path h. let v = walk_back g is z x path h in omega (arith, d.shortest v.0 v.1, v.2);
      }

  some_back : (x z : List ℕ) (n : ℕ) → dist g x z ≡ Some n → dist g z x ≡ Some n
  some_back x z n e = (exact g is z x n).is_found (distance_back x z n ((exact g is x z n).is_shortest e))

  pub dist_back : (x z : List ℕ) → dist g x z ≡ dist g z x
  dist_back x z = by (dist g x z) refl (dist g z x) refl
    where
      by : (o : Option ℕ) → dist g x z ≡ o → (p : Option ℕ) → dist g z x ≡ p → o ≡ p
      by None e None f = refl
      by None e (Some m) f = let s : None ≡ Some m = sym e ∙ some_back z x m f in absurd (cc)
      by (Some n) e p f = sym (some_back x z n e) ∙ f

-- ---- whether the first that passes is this one

module _ (p : List ℕ → Bool) (me : List ℕ) (after : List (List ℕ)) where
  none_behind : p me ≡ false → option_map_or (λ q. is_named q me) (find p after) false ≡ false
  none_behind fails = by (find p after) refl
    where
      by : (o : Option (List ℕ)) → find p after ≡ o → option_map_or (λ q. is_named q me) o false ≡ false
      by None e = refl
      by (Some z) e = false_from_ne_true _ (λ t. false≢true (sym fails ∙ ap p (sym (same_is z me t)) ∙ (find_in p after z e).1))

  named_first : (before : List (List ℕ)) → ((z : List ℕ) → In z before → is_named z me ≡ false) →
      option_map_or (λ q. is_named q me) (find p (before ++ me ∷ after)) false ≡ (p me && not (list_any p before))
  named_first [] apart = by (p me) refl
    where
      by : (t : Bool) → p me ≡ t → option_map_or (λ q. is_named q me) (cond t (Some me) (find p after)) false ≡ (t && true)
      by true e = same_refl me
      by false e = none_behind e
  named_first (z ∷ zs) apart = by (p z) (p me) (named_first zs (λ w i. apart w (inr i)))
    where
      by : (t u : Bool) → option_map_or (λ q. is_named q me) (find p (zs ++ me ∷ after)) false ≡ (u && not (list_any p zs)) →
          option_map_or (λ q. is_named q me) (cond t (Some z) (find p (zs ++ me ∷ after))) false ≡ (u && not (t || list_any p zs))
      by true true ih = apart z (inl refl)
      by true false ih = apart z (inl refl)
      by false u ih = ih

-- a router is nearer to a root than y by the edge to it
abbrev farther : Graph → List ℕ → List ℕ → List ℕ → Bool
farther g root y z = is_sum (dist g z root) (edge_length g z y) (dist g y root)

module _ (g : Graph) (is : IsGraph g) (root me y : List ℕ) (before after : List (List ℕ)) (split : near g y ≡ before ++ me ∷ after)
    (apart : (z : List ℕ) → In z before → is_named z me ≡ false) where
  child_by : is_child g root me y ≡ (farther g root y me && not (list_any (farther g root y) before))
  child_by =
      ap (λ o. option_map_or (λ q. is_named q me) o false)
      (same_find (λ z. is_sum (dist g root z) (edge_length g z y) (dist g root y)) (farther g root y) (near g y)
      (λ z i. ap (λ o. is_sum o (edge_length g z y) (dist g root y)) (dist_back g is root z) ∙ ap (λ o. is_sum (dist g z root) (edge_length g z y) o) (dist_back g is root y)))
      ∙ ap (λ zs. option_map_or (λ q. is_named q me) (find (farther g root y) zs) false) split
      ∙ named_first (farther g root y) me after before apart

-- ---- by index

module _ {X : Type 0} where
  taken_in : (k : ℕ) (xs : List X) (x : X) → In x (take k xs) → In x xs
  taken_in k [] x i = by k i
    where
      by : (k : ℕ) → In x (take k []) → ⊥
      by zero i = i
      by (suc k) i = i
  taken_in zero (y ∷ xs) x i = absurd i
  taken_in (suc k) (y ∷ xs) x (inl i) = inl i
  taken_in (suc k) (y ∷ xs) x (inr i) = inr (taken_in k xs x i)

module _ {X : Type 0} (P : X → Type 0) (xs : List X) where
  left_of : (ys : List X) → All P (xs ++ ys) → All P xs
  left_of ys all i d l = subst P (get_or_append_left xs ys d i l) (all i d (omega (arith, length-append xs ys, l)))

  last_of : (x : X) → All P (xs ++ x ∷ []) → P x
  last_of x all = subst P (get_or_push xs x x (length xs) refl) (all (length xs) x (omega (arith, length_push xs x)))

module _ {X : Type 0} (p : X → Bool) (xs : List X) where
  -- where there is no place no element passes
  none_place : position p xs ≡ None → (x : X) → In x xs → p x ≡ false
  none_place none x i =
      let f = in_place xs x x i in
      let le : length xs ≤ position_or_len p xs = grind (arith, nat_tests) in
      ap p (sym f.2) ∙ fails_before_first p xs f.0 x (omega (arith, f.1, le))

  -- none of those passes that stand before the place
  fails_before : (k : ℕ) → position p xs ≡ Some k → (x : X) → In x (take k xs) → p x ≡ false
  fails_before k found x i =
      let at = position-Some p xs k x found in
      let f = in_place (take k xs) x x i in
      let n : length (take k xs) ≡ k = length-take-le k xs (omega (arith, at.0)) in
      let lt : f.0 < k = omega (arith, f.1, n) in
      ap p (sym f.2 ∙ get_or-take k xs f.0 x lt) ∙ at.2 f.0 lt

abbrev none : Neighbour
none = record { index = 0; weight = 0 }

module _ (e : EdgeTable) (right : AreEdges e) (me y : ℕ) (known : me < length e.records) (here : y < length e.records) where
  abbrev test : Neighbour → Bool
  test n = n.index == me

  abbrev name_of : Neighbour → List ℕ
  name_of n = name e.records n.index

  -- who is no neighbour is no parent
  pub none_flagged : position (λ n. n.index == me) (row e.rows y) ≡ None → AreFlags e.records (name e.records me) y []
  none_flagged no_place root lt = sym (false_from_ne_true _ (λ t. no (in_map name_of (row e.rows y) (name e.records me) (beside t))))
    where
      beside : is_child (graph_of e.records) (name e.records root) (name e.records me) (name e.records y) ≡ true → In (name e.records me) (map name_of (row e.rows y))
      beside t =
          let p = parent_is (graph_of e.records) (name e.records root) (name e.records y) (name e.records me) (child_is (graph_of e.records) (name e.records root) (name e.records me) (name e.records y) t) in
          let P : List (List ℕ) → Type 0 = λ zs. In (name e.records me) zs in
          subst P (sym (right.neighbours y here)) p.1.neighbour

      no : (n : Neighbour) × In n (row e.rows y) × (name e.records n.index ≡ name e.records me) → ⊥
      no f =
          let same : f.0.index ≡ me = one_index e.records f.0.index me right.ascending (of_all (λ n. n.index < length e.records) (row e.rows y) f.0 (right.within y here) f.1) known f.2 in
          false≢true (sym (none_place test (row e.rows y) no_place f.0 f.1) ∙ eq-eqb f.0.index me same)

  module _ (k : ℕ) (found : position (λ n. n.index == me) (row e.rows y) ≡ Some k) where
    abbrev mine : Neighbour
    mine = get_or (row e.rows y) k none

    mine_in : In mine (row e.rows y)
    mine_in = place_in (row e.rows y) k none (position-Some test (row e.rows y) k none found).0

    mine_is : mine.index ≡ me
    mine_is = eqb-true _ me (position-Some test (row e.rows y) k none found).1

    split : near (graph_of e.records) (name e.records y) ≡ map name_of (take k (row e.rows y)) ++ name e.records me ∷ map name_of (drop (suc k) (row e.rows y))
    split =
        let at = position-Some test (row e.rows y) k none found in
        sym (right.neighbours y here)
        ∙ ap (map name_of) (sym (take-append-drop k (row e.rows y)) ∙ ap (λ ns. take k (row e.rows y) ++ ns) (drop-cons (row e.rows y) k none at.0))
        ∙ map-append name_of (take k (row e.rows y)) (mine ∷ drop (suc k) (row e.rows y))
        ∙ ap (λ z. map name_of (take k (row e.rows y)) ++ name e.records z ∷ map name_of (drop (suc k) (row e.rows y))) mine_is

    apart : (z : List ℕ) → In z (map name_of (take k (row e.rows y))) → is_named z (name e.records me) ≡ false
    apart z i = false_from_ne_true _ (λ t. no (in_map name_of (take k (row e.rows y)) z i) (same_is z (name e.records me) t))
      where
        no : (n : Neighbour) × In n (take k (row e.rows y)) × (name e.records n.index ≡ z) → z ≡ name e.records me → ⊥
        no f same =
            let lt : f.0.index < length e.records = of_all (λ n. n.index < length e.records) (row e.rows y) f.0 (right.within y here) (taken_in k (row e.rows y) f.0 f.1) in
            let e' : f.0.index ≡ me = one_index e.records f.0.index me right.ascending lt known (f.2 ∙ same) in
            false≢true (sym (fails_before test (row e.rows y) k found f.0 f.1) ∙ eq-eqb f.0.index me e')

    -- whoever was searched from is as near as the distances say
    module _ (searches : List (Option (List (Option ℕ)))) (are : AreSearches e searches) (from : is_searched searches y ≡ true) (root : ℕ) (lt : root < length e.records) where
      nearer_by : (n : Neighbour) → In n (row e.rows y) → is_searched searches n.index ≡ true →
          is_nearer searches n y root ≡ farther (graph_of e.records) (name e.records root) (name e.records y) (name_of n)
      nearer_by n i h =
          ap (λ o. is_sum o n.weight (distance_kept searches y root)) (kept_is e searches are n.index root h lt)
          ∙ ap (λ o. is_sum (dist (graph_of e.records) (name_of n) (name e.records root)) n.weight o) (kept_is e searches are y root from lt)
          ∙ ap (λ (w : ℕ). is_sum (dist (graph_of e.records) (name_of n) (name e.records root)) w (dist (graph_of e.records) (name e.records y) (name e.records root)))
          (of_all (λ m. m.weight ≡ edge_length (graph_of e.records) (name e.records m.index) (name e.records y)) (row e.rows y) n (right.lengths y here) i)

      any_nearer : (ns : List Neighbour) → ((n : Neighbour) → In n ns → In n (row e.rows y)) → All (λ z. is_searched searches z ≡ true) (map (λ n. n.index) ns) →
          list_any (λ n. is_nearer searches n y root) ns ≡ list_any (farther (graph_of e.records) (name e.records root) (name e.records y)) (map name_of ns)
      any_nearer [] inside all = refl
      any_nearer (n ∷ ns) inside all =
          ap (λ t. t || list_any (λ m. is_nearer searches m y root) ns) (nearer_by n (inside n (inl refl)) (all 0 0 (omega arith)))
          ∙ ap (λ t. farther (graph_of e.records) (name e.records root) (name e.records y) (name_of n) || t) (any_nearer ns (λ m i. inside m (inr i)) (λ i d l. all (suc i) d (omega (arith, l))))

    pub passed_flags : (before searches : List (Option (List (Option ℕ)))) (flags : List Bool) → Searched e before searches ((map (λ n. n.index) (take k (row e.rows y)) ++ mine.index ∷ []) ++ y ∷ []) →
        flags ≡ map (is_first searches mine (take k (row e.rows y)) y) (range_with_len 0 (length e.records)) → AreFlags e.records (name e.records me) y flags
    passed_flags before searches flags h is root lt =
        let others : List Neighbour = take k (row e.rows y) in
        let P : ℕ → Type 0 = λ z. is_searched searches z ≡ true in
        let last : is_searched searches y ≡ true = last_of P (map (λ n. n.index) others ++ mine.index ∷ []) y h.these in
        let rest : All P (map (λ n. n.index) others ++ mine.index ∷ []) = left_of P (map (λ n. n.index) others ++ mine.index ∷ []) (y ∷ []) h.these in
        ap (λ fs. get_or fs root false) is
        ∙ get_or-map-range_with_len (is_first searches mine others y) 0 (length e.records) root root false (omega (arith, lt)) (omega arith)
        ∙ ap (λ t. t && not (list_any (λ n. is_nearer searches n y root) others)) (nearer_by searches h.are last root lt mine mine_in (last_of P (map (λ n. n.index) others) mine.index rest))
        ∙ ap (λ z. farther (graph_of e.records) (name e.records root) (name e.records y) (name e.records z) && not (list_any (λ n. is_nearer searches n y root) others)) mine_is
        ∙ ap (λ t. farther (graph_of e.records) (name e.records root) (name e.records y) (name e.records me) && not t)
        (any_nearer searches h.are last root lt others (λ n i. taken_in k (row e.rows y) n i) (left_of P (map (λ n. n.index) others) (mine.index ∷ []) rest))
        ∙ sym (child_by (graph_of e.records) (graph_is e.records right.ascending) (name e.records root) (name e.records me) (name e.records y)
        (map name_of others) (map name_of (drop (suc k) (row e.rows y))) split apart)

    -- if they were worked out
    pub passed_all : {E : Type 0} (r : Result (List Bool) E) (before searches : List (Option (List (Option ℕ)))) → OnOk r (Searched e before searches ((map (λ n. n.index) (take k (row e.rows y)) ++ mine.index ∷ []) ++ y ∷ [])) →
        IfOk r (λ flags. flags ≡ map (is_first searches mine (take k (row e.rows y)) y) (range_with_len 0 (length e.records))) → IfOk r (λ flags. AreFlags e.records (name e.records me) y flags)
    passed_all (Ok flags) before searches h is = passed_flags before searches flags h is
    passed_all (Err error) before searches h is = h

-- ---- routers that the records don't know

-- a router that the records don't know is no child, and is in no tree
module _ (rs : List RecordState) (root me y : List ℕ) where
  pub unknown_child : has (ids rs) y ≡ false → is_child (graph_of rs) root me y ≡ false
  unknown_child h = ap (λ o. option_map_or (λ p. is_named p me) o false) (parent_unknown_at rs root y h)

  pub unknown_root : has (ids rs) root ≡ false → is_child (graph_of rs) root me y ≡ false
  unknown_root h = ap (λ o. option_map_or (λ p. is_named p me) o false) (parent_unknown_root rs root y h)

-- ---- where no edge comes or goes

pub family_stays : (b c : BaseState) (names : List (List ℕ)) (all : List (List Bool)) → b.me ≡ c.me → HaveSameEdges b.records c.records → IsFamily b names all → IsFamily c names all
family_stays b c names all own same h =
    let long : length b.records ≡ length c.records = as_long b.records c.records same in
    record {
      names_are = h.names_are ∙ same.names;
      ascending = ascending_still b.records c.records same;
      flags = record {
        long = h.flags.long ∙ long;
        each = λ y l root lt.
            h.flags.each y (omega (arith, long, l)) root (omega (arith, long, lt))
            ∙ child_stays b.records c.records same (name b.records root) b.me (name b.records y)
            ∙ ap (λ z. is_child (graph_of c.records) z b.me (name b.records y)) (name_stays b.records c.records same root)
            ∙ ap (λ z. is_child (graph_of c.records) (name c.records root) b.me z) (name_stays b.records c.records same y)
            ∙ ap (λ z. is_child (graph_of c.records) (name c.records root) z (name c.records y)) own;
      };
    }
