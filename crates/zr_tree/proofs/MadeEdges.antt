-- The records that make an edge make the edges that all make, so their trees are those of all.
use Rattle.std.proofs.Common.{◌≡◌, ℕ, max, Bool, true, false, cond, List, Option, Some, None, refl, sym, ap, ◌∙◌, subst}
use Rattle.std.specs.Option.{option_map_or}
use Rattle.std.specs.Cmp.Lexicographic.{slice_cmp}
use Rattle.std.specs.Ordering.{nat_cmp}
use Rattle.std.proofs.lemmas.Bool.{false≢true, and_parts, and_from}
use Rattle.std.proofs.lemmas.List.Kept.{IsStrictlySortedBy-filter}
use Rattle.zr_lists.proofs.Finds.{In, any_in, in_any, find_in, in_filter, in_map, in_place}
use Rattle.zr_lists.proofs.Sorted.{by_keys, keys_by}
use Rattle.zr_lists.proofs.Filters.{find_filter_there}
use Rattle.zr_id.specs.Record.{LinkedState, RecordState, linked_ids}
use Rattle.zr_id.specs.Zid.{is_named}
use Rattle.zr_graph.specs.Record.{ids, has, lists, record_of, has_edge, edge_weight, weight_given, weight_to, IsAscending}
use Rattle.zr_graph.proofs.Names.{same_is}
use Rattle.zr_graph.proofs.Places.{id_of}
use Rattle.zr_tree.specs.Laws.{HaveSameTrees}
use Rattle.zr_tree.specs.Linked.{linked, makes_edge, MakeEdgesOf}
use Rattle.zr_tree.specs.Same.{HaveSameEdges}
use Rattle.zr_tree.specs.Walk.{graph_of, edge_length}
use Rattle.zr_tree.proofs.Paths.{graph_is}
use Rattle.zr_tree.proofs.Rows.{record_there}
use Rattle.zr_tree.proofs.SameEdges.{same_trees}

-- ---- what is found among some of a list

-- ---- the records that make an edge

module _ (rs : List RecordState) (up : IsAscending (ids rs)) where
  -- a record among these is the one of its router
  own_record : (r : RecordState) → In r rs → record_of rs r.id ≡ Some r
  own_record r i =
      let f = in_place rs r r i in
      record_there rs f.0 r up f.1 (sym f.2)

  -- where two routers have an edge, the record of each makes one
  makes : (x y : List ℕ) (r : RecordState) → record_of rs x ≡ Some r → lists rs x y ≡ true → lists rs y x ≡ true → makes_edge rs r ≡ true
  makes x y r is there back =
      let named = same_is r.id x (find_in (λ z. is_named z.id x) rs r is).1 in
      let mine : has (linked_ids r.links) y ≡ true = sym (ap (λ (o : Option RecordState). option_map_or (λ (z : RecordState). has (linked_ids z.links) y) o false) is) ∙ there in
      let f = any_in (λ z. is_named z y) (linked_ids r.links) mine in
      let g = in_map (λ (l : LinkedState). l.id) r.links f.0 f.1 in
      let at : g.0.id ≡ y = g.2 ∙ same_is f.0 y f.2 in
      in_any (λ l. lists rs l.id r.id) r.links g.0 g.1 (ap (λ z. lists rs z r.id) at ∙ ap (λ z. lists rs y z) named ∙ back)

  -- so it is kept
  same_record : (x y : List ℕ) → lists rs x y ≡ true → lists rs y x ≡ true → record_of (linked rs) x ≡ record_of rs x
  same_record x y there back = by (record_of rs x) refl
    where
      by : (o : Option RecordState) → record_of rs x ≡ o → record_of (linked rs) x ≡ o
      by None e = absurd (false≢true (sym (ap (λ (o : Option RecordState). option_map_or (λ (z : RecordState). has (linked_ids z.links) y) o false) e) ∙ there))
      by (Some r) e = find_filter_there (λ z. is_named z.id x) (makes_edge rs) rs r e (makes x y r e there back)

  -- no other is
  listed_before : (x y : List ℕ) → lists (linked rs) x y ≡ true → lists rs x y ≡ true
  listed_before x y h = by (record_of (linked rs) x) refl h
    where
      by : (o : Option RecordState) → record_of (linked rs) x ≡ o → option_map_or (λ (z : RecordState). has (linked_ids z.links) y) o false ≡ true → lists rs x y ≡ true
      by None e g = absurd (false≢true g)
      by (Some r) e g =
          let f = find_in (λ z. is_named z.id x) (linked rs) r e in
          let i = in_filter (makes_edge rs) rs r f.0 in
          let is : record_of rs x ≡ Some r = ap (record_of rs) (sym (same_is r.id x f.1)) ∙ own_record r i.0 in
          ap (λ (o : Option RecordState). option_map_or (λ (z : RecordState). has (linked_ids z.links) y) o false) is ∙ g

  same_lists : (x y : List ℕ) → lists rs x y ≡ true → lists rs y x ≡ true → lists (linked rs) x y ≡ true
  same_lists x y there back = ap (λ (o : Option RecordState). option_map_or (λ (z : RecordState). has (linked_ids z.links) y) o false) (same_record x y there back) ∙ there

  same_edge : (x y : List ℕ) → has_edge (linked rs) x y ≡ has_edge rs x y
  same_edge x y = by (has_edge (linked rs) x y) refl (has_edge rs x y) refl
    where
      by : (a : Bool) → has_edge (linked rs) x y ≡ a → (b : Bool) → has_edge rs x y ≡ b → a ≡ b
      by true e true f = refl
      by false e false f = refl
      by true e false f =
          let both = and_parts (lists (linked rs) x y) (lists (linked rs) y x) e in
          absurd (false≢true (sym f ∙ and_from _ _ (listed_before x y both.0) (listed_before y x both.1)))
      by false e true f =
          let both = and_parts (lists rs x y) (lists rs y x) f in
          absurd (false≢true (sym e ∙ and_from _ _ (same_lists x y both.0 both.1) (same_lists y x both.1 both.0)))

  same_given : (x y z : List ℕ) → lists rs x y ≡ true → lists rs y x ≡ true → weight_given (linked rs) x z ≡ weight_given rs x z
  same_given x y z there back = ap (λ (o : Option RecordState). option_map_or (λ (r : RecordState). weight_to r.links z) o 0) (same_record x y there back)

  same_weight : (x y : List ℕ) → edge_weight (linked rs) x y ≡ edge_weight rs x y
  same_weight x y = ap (λ b. cond b (max (weight_given (linked rs) x y) (weight_given (linked rs) y x)) 0) (same_edge x y) ∙ by (has_edge rs x y) refl
    where
      by : (a : Bool) → has_edge rs x y ≡ a → cond a (max (weight_given (linked rs) x y) (weight_given (linked rs) y x)) 0 ≡ cond a (max (weight_given rs x y) (weight_given rs y x)) 0
      by false e = refl
      by true e =
          let both = and_parts (lists rs x y) (lists rs y x) e in
          ap (λ (n : ℕ). max n (weight_given (linked rs) y x)) (same_given x y y both.0 both.1) ∙ ap (λ (n : ℕ). max (weight_given rs x y) n) (same_given y x x both.1 both.0)

  pub linked_ascend : IsAscending (ids (linked rs))
  linked_ascend = keys_by (slice_cmp nat_cmp) id_of (linked rs) (IsStrictlySortedBy-filter _ (makes_edge rs) rs (by_keys (slice_cmp nat_cmp) id_of rs up))

  pub linked_make_edges : MakeEdgesOf (linked rs) rs
  linked_make_edges = record { some_ascend = linked_ascend; all_ascend = up; edges = same_edge; weights = same_weight }

-- ---- the trees

-- the edges are as long
lengths_are : (some all : List RecordState) → MakeEdgesOf some all → (x y : List ℕ) → edge_length (graph_of some) x y ≡ edge_length (graph_of all) x y
lengths_are some all h x y = ap (λ (n : ℕ). max 1 n) (h.weights x y)

pub trees_of_edges : (some all : List RecordState) → MakeEdgesOf some all → HaveSameTrees (graph_of some) (graph_of all)
trees_of_edges some all h =
    same_trees (graph_of some) (graph_of all) (graph_is some h.some_ascend) (graph_is all h.all_ascend) h.edges (λ x y t. lengths_are some all h x y)

-- they stay where the edges do
pub still_edges : (some old new : List RecordState) → MakeEdgesOf some old → HaveSameEdges old new → MakeEdgesOf some new
still_edges some old new h same = record {
  some_ascend = h.some_ascend;
  all_ascend = subst IsAscending same.names h.all_ascend;
  edges = λ x y. h.edges x y ∙ same.edges x y;
  weights = λ x y. h.weights x y ∙ same.weights x y;
}
