-- Where a world is settled and its routers are joined, the graph of each router is that of the world: each has the records of all routers
-- and of no other, and their edges are the links that are up at both ends.
use Rattle.std.proofs.Common.{◌≡◌, ◌≤◌, ◌+◌, max, Bool, true, false, cond, List, [], ◌∷◌, Option, Some, None, is_some, refl, sym, ap, ◌∙◌, arith}
use Rattle.std.specs.Prelude.{◌&&◌, ◌||◌}
use Rattle.std.specs.List.{list_all}
use Rattle.std.specs.Option.{option_map_or}
use Rattle.std.specs.Map.{lookup, keys_of}
use Rattle.std.specs.Cmp.Lexicographic.{slice_cmp}
use Rattle.std.specs.Ordering.{nat_cmp}
use Rattle.std.proofs.lemmas.Bool.{true≢false, false≢true, and_parts, and_from}
use Rattle.zr_id.specs.Zid.{is_named}
use Rattle.zr_id.specs.Record.{RecordState, linked_ids}
use Rattle.zr_graph.specs.Record.{ids, has, record_of, lists, has_edge, edge_weight, weight_given, IsAscending}
use Rattle.zr_graph.proofs.Names.{same_is}
use Rattle.zr_tree.specs.Walk.{IsWalk, graph_of}
use Rattle.zr_tree.specs.Tree.{dist, reached}
use Rattle.zr_tree.specs.Laws.{IsGraph}
use Rattle.zr_tree.proofs.Paths.{exact}
use Rattle.zr_lists.specs.Ascending.{at_key}
use Rattle.zr_lists.proofs.Same.{same}
use Rattle.zr_lists.proofs.Options.{not_there}
use Rattle.zr_lists.proofs.Order.{name_order}
use Rattle.zr_world_spec.specs.World.{RouterState, Ends, WorldState, end_weight, router_of, is_up, is_linked, is_settled}
use Rattle.zr_world_spec.specs.Joined.{linked_weight, graph, is_joined}
use Rattle.zr_world_spec.specs.Moments as moments
use Rattle.zr_world_spec.specs.Sound.{IsSound}
use Rattle.zr_world_spec.proofs.Keyed.{there}
use Rattle.zr_world_spec.proofs.Names.{names}
use Rattle.zr_world_spec.proofs.Lines.{at_some}
use Rattle.zr_law_settled.specs.Tables.{GraphsAreOne}
use Rattle.zr_law_settled.proofs.Spreading.{Name, own}
use Rattle.zr_law_settled.proofs.Records.{known}
use Rattle.zr_law_settled.proofs.Worlds.{there_in, knows, table_of, lane_of, Holds}
use Rattle.zr_law_settled.proofs.Keeping.{Stands, moments_hold}
use Rattle.zr_law_settled.proofs.Rest.{router_of_end, records_are, edges_are, weights_are}
use Rattle.zr_law_settled.proofs.Order.{Ascend, routers_ascend}

-- ---- names

-- a name is among the keys where a look-up finds it
key_there : {X : Type 0} (es : List (Name × X)) (x : Name) → has (keys_of es) x ≡ is_some (lookup (is_named x) es)
key_there [] x = refl
key_there (e ∷ es) x = ap (λ t. t || has (keys_of es) x) (names.symm e.0 x) ∙ by (is_named x e.0) (key_there es x)
  where
    by : (t : Bool) → has (keys_of es) x ≡ is_some (lookup (is_named x) es) → (t || has (keys_of es) x) ≡ is_some (cond t (Some e.1) (lookup (is_named x) es))
    by true ih = refl
    by false ih = ih

-- a record is there where its identifier is
pub id_there : (rs : List RecordState) (x : Name) → has (ids rs) x ≡ is_some (record_of rs x)
id_there [] x = refl
id_there (r ∷ rs) x = by (is_named r.id x) (id_there rs x)
  where
    by : (t : Bool) → has (ids rs) x ≡ is_some (record_of rs x) → (t || has (ids rs) x) ≡ is_some (cond t (Some r) (record_of rs x))
    by true ih = refl
    by false ih = ih

-- what is found among names is the name itself
pub name_found : (xs : List Name) (x : Name) → at_key (slice_cmp nat_cmp) (λ y. y) xs x ≡ cond (has xs x) (Some x) None
name_found [] x = refl
name_found (y ∷ ys) x = by (is_named y x) refl (name_found ys x)
  where
    by : (t : Bool) → is_named y x ≡ t → at_key (slice_cmp nat_cmp) (λ y. y) ys x ≡ cond (has ys x) (Some x) None →
        cond t (Some y) (at_key (slice_cmp nat_cmp) (λ y. y) ys x) ≡ cond (t || has ys x) (Some x) None
    by true e ih = ap (λ (z : Name). Some z) (same_is y x e)
    by false e ih = ih

-- what all names pass each of them passes
each_passes : (p : Name → Bool) (xs : List Name) (x : Name) → list_all p xs ≡ true → has xs x ≡ true → p x ≡ true
each_passes p [] x all h = absurd (false≢true h)
each_passes p (y ∷ ys) x all h = let parts = and_parts (p y) (list_all p ys) all in by (is_named y x) refl h parts.0 (each_passes p ys x parts.1)
  where
    by : (t : Bool) → is_named y x ≡ t → (t || has ys x) ≡ true → p y ≡ true → (has ys x ≡ true → p x ≡ true) → p x ≡ true
    by true e h k ih = ap p (sym (same_is y x e)) ∙ k
    by false e h k ih = ih h

-- ---- a settled world, and one whose routers are joined

-- the weight of a link has no direction
weight_back : (ends : Ends) (x y : Name) → linked_weight ends x y ≡ linked_weight ends y x
weight_back ends x y = by (is_up ends (x, y)) (is_up ends (y, x))
  where
    by : (s t : Bool) → cond (s && t) (max (end_weight ends (x, y)) (end_weight ends (y, x))) 0 ≡ cond (t && s) (max (end_weight ends (y, x)) (end_weight ends (x, y))) 0
    by true true = omega arith
    by true false = refl
    by false true = refl
    by false false = refl

-- the routers of a settled world and the links between them are a graph
module _ (w : WorldState) (sound : IsSound w) (h : Holds w) (settled : is_settled w ≡ true) (ascend : IsAscending (keys_of w.routers)) where
  pub is_graph : IsGraph (graph w)
  is_graph = record {
    ascending = ascend;
    known = λ x y linked. key_there w.routers x ∙ router_of_end w sound h settled x y (and_parts (is_up w.ends (x, y)) (is_up w.ends (y, x)) linked).0;
    both_ways = λ x y linked. let ups = and_parts (is_up w.ends (x, y)) (is_up w.ends (y, x)) linked in and_from (is_up w.ends (y, x)) (is_up w.ends (x, y)) ups.1 ups.0;
    as_long = λ x y. ap (λ n. max 1 n) (weight_back w.ends x y);
  }

module _ (w : WorldState) (sound : IsSound w) (h : Holds w) (settled : is_settled w ≡ true) (joined : is_joined w ≡ true) (ascend : IsAscending (keys_of w.routers)) where
  -- a walk leads from each router to each
  pub walk_to : (x z : Name) → there_in w x ≡ true → there_in w z ≡ true → (path : List Name) × IsWalk (graph w) x path z
  walk_to x z here other =
      let all = each_passes (λ x. list_all (λ y. reached (graph w) x y) (keys_of w.routers)) (keys_of w.routers) x joined (key_there w.routers x ∙ here) in
      let one : is_some (dist (graph w) x z) ≡ true = each_passes (λ y. reached (graph w) x y) (keys_of w.routers) z all (key_there w.routers z ∙ other) in
      let d = there (dist (graph w) x z) one in
      let walk = ((exact (graph w) (is_graph w sound h settled ascend) x z d.0).is_shortest d.1).walk in
      (walk.0, walk.1)

  module _ (x : Name) (r : RouterState) (found : router_of w.routers x ≡ Some r) where
    here : there_in w x ≡ true
    here = ap is_some found

    -- of a name that no router has, no record is known
    no_record : (z : Name) → there_in w z ≡ false → record_of r.node.base.records z ≡ None
    no_record z none = by (record_of r.node.base.records z) refl
      where
        number : (known (record_of r.node.base.records z)).number ≤ 0
        number =
            let mine : (table_of w x z).number ≡ (known (record_of r.node.base.records z)).number = ap (λ o. (knows o z).number) found in
            let least : own (lane_of w) z ≡ 0 = ap (λ o. (knows o z).number) (not_there (router_of w.routers z) none) in
            omega (arith, mine, least, (h.spreads.fits x z).0)

        by : (o : Option RecordState) → record_of r.node.base.records z ≡ o → o ≡ None
        by None e = refl
        by (Some q) e = let same : (known (record_of r.node.base.records z)).number ≡ q.seq + 1 = ap (λ o. (known o).number) e in absurd (omega (arith, number, same))

    record_there : (z : Name) (t : Bool) → there_in w z ≡ t → is_some (record_of r.node.base.records z) ≡ t
    record_there z false none = ap is_some (no_record z none)
    record_there z true other =
        let rz = there (router_of w.routers z) other in
        let walk = walk_to x z here other in
        ap is_some (records_are w sound h settled walk.0 x z r rz.0 found rz.1 walk.1)
        ∙ ap (λ m. is_some (record_of rz.0.node.base.records m)) (sym (sound.own z rz.0 rz.1))
        ∙ (h.in_order z rz.0 rz.1).own

    names_are : ids r.node.base.records ≡ keys_of w.routers
    names_are = same (slice_cmp nat_cmp) (λ y. y) name_order (ids r.node.base.records) (keys_of w.routers) (h.in_order x r found).ascending ascend (λ z.
        name_found (ids r.node.base.records) z
        ∙ ap (λ t. cond t (Some z) None) (id_there r.node.base.records z ∙ record_there z (there_in w z) refl ∙ sym (key_there w.routers z))
        ∙ sym (name_found (keys_of w.routers) z))

    pub edges_one : (y z : Name) → has_edge r.node.base.records y z ≡ is_linked w.ends y z
    edges_one y z = by (there_in w y) refl
      where
        by : (t : Bool) → there_in w y ≡ t → has_edge r.node.base.records y z ≡ is_linked w.ends y z
        by true other = let walk = walk_to x y here other in edges_are w sound h settled walk.0 x y z r found walk.1
        by false none = ap (λ o. option_map_or (λ q. has (linked_ids q.links) z) o false && lists r.node.base.records z y) (no_record y none) ∙ down (is_up w.ends (y, z)) refl
          where
            down : (t : Bool) → is_up w.ends (y, z) ≡ t → false ≡ (t && is_up w.ends (z, y))
            down true up = absurd (true≢false (sym (router_of_end w sound h settled y z up) ∙ none))
            down false up = refl

    weights_one : (y z : Name) → edge_weight r.node.base.records y z ≡ linked_weight w.ends y z
    weights_one y z = by (there_in w y) refl
      where
        by : (t : Bool) → there_in w y ≡ t → edge_weight r.node.base.records y z ≡ linked_weight w.ends y z
        by true other = let walk = walk_to x y here other in weights_are w sound h settled walk.0 x y z r found walk.1
        by false none =
            ap (λ t. cond t (max (weight_given r.node.base.records y z) (weight_given r.node.base.records z y)) 0) (edges_one y z ∙ down (is_up w.ends (y, z)) refl)
            ∙ sym (ap (λ t. cond t (max (end_weight w.ends (y, z)) (end_weight w.ends (z, y))) 0) (down (is_up w.ends (y, z)) refl))
          where
            down : (t : Bool) → is_up w.ends (y, z) ≡ t → (t && is_up w.ends (z, y)) ≡ false
            down true up = absurd (true≢false (sym (router_of_end w sound h settled y z up) ∙ none))
            down false up = refl

    pub graph_is_one : graph_of r.node.base.records ≡ graph w
    graph_is_one = λ i. record { names = names_are i; joined = λ y z. edges_one y z i; weight = λ y z. weights_one y z i }

pub graphs_are_one : GraphsAreOne
graphs_are_one acts m x r is settled joined found =
    let stands = at_some Stands (moments.reached acts) m is (moments_hold acts) in
    graph_is_one m.world stands.sound stands.holds settled joined (at_some Ascend (moments.reached acts) m is (routers_ascend acts)) x r found
