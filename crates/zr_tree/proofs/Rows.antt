-- The edges of a router, one link after the other.
use Rattle.std.proofs.Common.{◌≡◌, ℕ, ◌+◌, ◌<◌, ◌^◌, max, inl, inr, true, false, cond, List, [], ◌∷◌, ◌++◌, Option, Some, None, MatchOption, All, length, get_or, map, take, sym, ap, ◌∙◌, arith, append-nil}
use Rattle.std.specs.Cmp.Lexicographic.{slice_cmp, nat_list_cmp_total}
use Rattle.std.specs.List.{filter}
use Rattle.std.specs.Option.{option_map_or}
use Rattle.std.specs.Ordering.{nat_cmp}
use Rattle.std.proofs.lemmas.Bool.{false≢true, cases_order, and_from, and_parts}
use Rattle.std.proofs.lemmas.Cmp.{tied_itself}
use Rattle.std.proofs.lemmas.List.{get_or-map, get_or_default, length-map, map_push}
use Rattle.std.proofs.lemmas.List.Elements.{filter_more, All-append}
use Rattle.std.proofs.lemmas.List.Kept.{IsStrictlySortedBy-filter}
use Rattle.std.proofs.lemmas.Map.Keys.{Less-from_sorted}
use Rattle.std.proofs.lemmas.Option.{slice_get-get_or}
use Rattle.zr_id.specs.Record.{LinkedState, RecordState, linked_ids}
use Rattle.zr_id.specs.Zid.{is_named}
use Rattle.zr_graph.specs.Record.{ids, has, has_edge, lists, record_of, weight_given, weight_to, IsAscending}
use Rattle.zr_graph.proofs.Names.{same_is, same_refl, comes}
use Rattle.zr_graph.proofs.Places.{at_place}
use Rattle.zr_tree_parents.specs.declared.row.Neighbour.{Neighbour}
use Rattle.zr_tree.specs.Index.{name, LinksBack}
use Rattle.zr_tree.specs.Walk.{graph_of, near, edge_length}
use Rattle.zr_lists.proofs.Finds.{In, in_any, in_filter, filter_in, in_place, place_in, only_find}
use Rattle.zr_tree.proofs.Indexed.{joined_back}
use Rattle.zr_tree.proofs.Paths.{has_in, graph_is}
use Rattle.zr_tree.proofs.SameEdges.{same_list}

-- the record at an index is the one of its identifier
pub record_at : (rs : List RecordState) (i : ℕ) (d : RecordState) → IsAscending (ids rs) → i < length rs → record_of rs (get_or rs i d).id ≡ Some (get_or rs i d)
record_at rs i d up lt =
    let here = at_place rs (get_or rs i d).id i up lt (λ q.
    ap (λ (r : RecordState). slice_cmp nat_cmp r.id (get_or rs i d).id) (get_or_default rs i q d lt) ∙ tied_itself nat_list_cmp_total (get_or rs i d).id) in
    here.found ∙ slice_get-get_or rs i d lt

pub record_there : (rs : List RecordState) (i : ℕ) (r : RecordState) → IsAscending (ids rs) → i < length rs → r ≡ get_or rs i r → record_of rs r.id ≡ Some r
record_there rs i r up lt at = ap (λ (q : RecordState). record_of rs q.id) at ∙ record_at rs i r up lt ∙ ap Some (sym at)

pub name_at : (rs : List RecordState) (i : ℕ) (d : RecordState) → i < length rs → name rs i ≡ (get_or rs i d).id
name_at rs i d lt = get_or-map (λ (r : RecordState). r.id) rs i d [] lt

-- what the loop keeps: of the links so far, those whose routers list this one
pub record IsFront (rs : List RecordState) (x : List ℕ) (names : List (List ℕ)) (edges : List Neighbour) : Type 0 where
  pub named : map (λ n. name rs n.index) edges ≡ filter (λ y. lists rs y x) names
  pub within : All (λ n. n.index < length rs) edges
  pub lengths : All (λ n. n.weight ≡ edge_length (graph_of rs) (name rs n.index) x) edges
  pub weights : All (λ n. n.weight < 2 ^ 16) edges

alone : (P : Neighbour → Type 0) (n : Neighbour) → P n → All P (n ∷ [])
alone P n h k d lt = let z : k ≡ 0 = omega arith in rw z h

module _ (rs : List RecordState) (x : List ℕ) (names : List (List ℕ)) (k : ℕ) (edges : List Neighbour) (lt : k < length names) (h : IsFront rs x (take k names) edges)
    (link : LinkedState) (is : link.id ≡ get_or names k []) (mine : lists rs x link.id ≡ true) (own : weight_given rs x link.id ≡ link.weight) where
  pub front_more : (n : Neighbour) → LinksBack rs x link n → IsFront rs x (take (k + 1) names) (edges ++ n ∷ [])
  front_more n b = record {
    named =
        map_push (λ m. name rs m.index) edges n ∙ ap (λ ys. ys ++ name rs n.index ∷ []) h.named ∙ ap (λ z. filter (λ y. lists rs y x) (take k names) ++ z ∷ []) (b.named ∙ is)
        ∙ sym (filter_more (λ y. lists rs y x) names k [] lt ∙ ap (λ t. filter (λ y. lists rs y x) (take k names) ++ cond t (get_or names k [] ∷ []) []) (ap (λ z. lists rs z x) (sym is) ∙ b.listed));
    within = All-append (λ m. m.index < length rs) edges (n ∷ []) h.within (alone (λ m. m.index < length rs) n b.within);
    lengths = All-append (λ m. m.weight ≡ edge_length (graph_of rs) (name rs m.index) x) edges (n ∷ []) h.lengths (alone (λ m. m.weight ≡ edge_length (graph_of rs) (name rs m.index) x) n long);
    weights = All-append (λ m. m.weight < 2 ^ 16) edges (n ∷ []) h.weights (alone (λ m. m.weight < 2 ^ 16) n b.fits);
  }
    where
      as_given : (w a b c : ℕ) → 0 < w → w ≡ max a b → c ≡ a → w ≡ max 1 (max b c)
      as_given w a b c heavy e f = omega arith

      long : n.weight ≡ edge_length (graph_of rs) (name rs n.index) x
      long =
          as_given n.weight link.weight (weight_given rs link.id x) (weight_given rs x link.id) b.heavy b.greater own
          ∙ ap (λ t. max 1 (cond t (max (weight_given rs link.id x) (weight_given rs x link.id)) 0)) (sym (and_from (lists rs link.id x) (lists rs x link.id) b.listed mine))
          ∙ ap (λ z. edge_length (graph_of rs) z x) (sym b.named)

  pub front_same : lists rs (get_or names k []) x ≡ false → IsFront rs x (take (k + 1) names) edges
  front_same f = record {
    named = h.named ∙ sym (filter_more (λ y. lists rs y x) names k [] lt ∙ ap (λ t. filter (λ y. lists rs y x) (take k names) ++ cond t (get_or names k [] ∷ []) []) f ∙ append-nil _);
    within = h.within;
    lengths = h.lengths;
    weights = h.weights;
  }

  -- as the look-up of the link answers
  pub front_by : (o : Option Neighbour) → MatchOption o (lists rs link.id x ≡ false) (λ n. LinksBack rs x link n) →
      IsFront rs x (take (k + 1) names) (option_map_or (λ n. edges ++ n ∷ []) o edges)
  front_by None f = front_same (ap (λ z. lists rs z x) (sym is) ∙ f)
  front_by (Some n) b = front_more n b

-- each link of a record leads to a router of its own, so the first that leads there is this one
pub link_at : (links : List LinkedState) (k : ℕ) (d : LinkedState) → IsAscending (linked_ids links) → k < length links → weight_to links (get_or links k d).id ≡ (get_or links k d).weight
link_at links k d up lt =
    ap (λ (o : Option LinkedState). option_map_or (λ (l : LinkedState). l.weight) o 0)
    (only_find (λ l. is_named l.id (get_or links k d).id) links (get_or links k d) (place_in links k d lt) (same_refl (get_or links k d).id) only)
  where
    id_at : (i : ℕ) → i < length links → get_or (linked_ids links) i [] ≡ (get_or links i d).id
    id_at i l = get_or-map (λ (m : LinkedState). m.id) links i d [] l

    apart : (i j : ℕ) → i < j → j < length links → (get_or links i d).id ≡ (get_or links j d).id → ⊥
    apart i j less l e =
        let c = comes (get_or (linked_ids links) i []) (get_or (linked_ids links) j []) (Less-from_sorted (slice_cmp nat_cmp) (linked_ids links) i j [] up less (omega (arith, length-map links (λ (m : LinkedState). m.id)))) in
        false≢true (sym c.apart ∙ ap (is_named (get_or (linked_ids links) i [])) (sym (id_at i (omega arith) ∙ e ∙ sym (id_at j l))) ∙ same_refl (get_or (linked_ids links) i []))

    only : (z : LinkedState) → In z links → is_named z.id (get_or links k d).id ≡ true → z ≡ get_or links k d
    only z i t =
        let f = in_place links z d i in
        let e : (get_or links f.0 d).id ≡ (get_or links k d).id = ap (λ (m : LinkedState). m.id) f.2 ∙ same_is z.id (get_or links k d).id t in
        elim (cases_order f.0 k) [
          | inl s ↦ sym f.2 ∙ ap (λ (j : ℕ). get_or links j d) s
          | inr (inl l) ↦ absurd (apart f.0 k l lt e)
          | inr (inr l) ↦ absurd (apart k f.0 l f.1 (sym e))
        ]

-- the links whose routers list this one are its neighbours
pub row_is : (rs : List RecordState) (a : RecordState) (edges : List Neighbour) → IsAscending (ids rs) → record_of rs a.id ≡ Some a → IsAscending (linked_ids a.links) → IsFront rs a.id (linked_ids a.links) edges →
    map (λ n. name rs n.index) edges ≡ near (graph_of rs) a.id
row_is rs a edges up among sorted h =
    h.named ∙ same_list _ _ (IsStrictlySortedBy-filter _ _ (linked_ids a.links) sorted) (IsStrictlySortedBy-filter _ _ (ids rs) up) forth back
  where
    forth : (z : List ℕ) → In z (filter (λ y. lists rs y a.id) (linked_ids a.links)) → In z (near (graph_of rs) a.id)
    forth z i =
        let f = in_filter (λ y. lists rs y a.id) (linked_ids a.links) z i in
        let own : lists rs a.id z ≡ true = rw among (in_any (λ y. is_named y z) (linked_ids a.links) z f.0 (same_refl z)) in
        let edge : has_edge rs a.id z ≡ true = and_from _ _ own f.1 in
        filter_in (has_edge rs a.id) (ids rs) z (has_in (ids rs) z ((graph_is rs up).known z a.id (joined_back rs a.id z edge))) edge

    back : (z : List ℕ) → In z (near (graph_of rs) a.id) → In z (filter (λ y. lists rs y a.id) (linked_ids a.links))
    back z i =
        let f = in_filter (has_edge rs a.id) (ids rs) z i in
        let both = and_parts (lists rs a.id z) (lists rs z a.id) f.1 in
        let own : has (linked_ids a.links) z ≡ true = rw among at both.0 in
        filter_in (λ y. lists rs y a.id) (linked_ids a.links) z (has_in (linked_ids a.links) z own) both.1
