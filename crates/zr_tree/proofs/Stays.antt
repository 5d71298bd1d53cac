-- Where each record that comes in another's place keeps the edges, all edges stay, and the children with them.
use Rattle.std.proofs.Common.{◌≡◌, ℕ, ◌+◌, ◌<◌, max, Bool, true, false, cond, not, ◌&&◌, ◌||◌, ◌==◌, List, [], ◌∷◌, ◌++◌, Option, Some, None, ◌⊎◌, inl, inr, length, get_or, take, refl, sym, ap, ◌∙◌, subst, arith}
use Rattle.std.specs.List.{find}
use Rattle.std.specs.Option.{option_map_or}
use Rattle.std.proofs.lemmas.Bool.{true≢false, cases_Bool, cases_lt, and_parts, not-true, eqb-true, false_from_ne_true}
use Rattle.std.proofs.lemmas.List.{ext_get_or, get_or_default, get_or_read, length-map, take_more}
use Rattle.zr_lists.proofs.Elements.{passes_each}
use Rattle.zr_id.specs.Record.{LinkedState, RecordState, linked_ids}
use Rattle.zr_id.specs.Zid.{is_named}
use Rattle.zr_graph.specs.Record.{ids, has, has_edge, edge_weight, lists, record_of, weight_to, weight_given, IsAscending}
use Rattle.zr_graph.proofs.Names.{same_is}
use Rattle.zr_tree.specs.Index.{name}
use Rattle.zr_tree.specs.Laws.{IsGraph}
use Rattle.zr_tree.specs.Same.{HaveSameEdges, KeepsEdges, has_linked, makes_no_edge}
use Rattle.zr_tree.specs.Tree.{is_child}
use Rattle.zr_tree.specs.Walk.{graph_of, edge_length}
use Rattle.zr_lists.proofs.Finds.{In, any_in, in_any, in_find, find_in, in_map, map_in}
use Rattle.zr_tree.proofs.Indexed.{in_name, record_none}
use Rattle.zr_tree.proofs.Paths.{has_in, graph_is}
use Rattle.zr_tree.proofs.Rows.{record_at, name_at}
use Rattle.zr_tree.proofs.SameEdges.{same_child}

-- a link that the other record has not, with its weight, makes no edge
none_made : (rs : List RecordState) (r other : RecordState) (l : LinkedState) → makes_no_edge rs r other ≡ true → In l r.links → has_linked other.links l ≡ false → lists rs l.id r.id ≡ false
none_made rs r other l h mine theirs =
    let t = passes_each (λ m. has_linked other.links m || not (lists rs m.id r.id)) r.links l h mine in
    not-true _ (subst (λ (b : Bool). (b || not (lists rs l.id r.id)) ≡ true) theirs t)

-- the first link to a router
link_there : (links : List LinkedState) (y : List ℕ) → has (linked_ids links) y ≡ true → (l : LinkedState) × In l links × (l.id ≡ y) × (find (λ m. is_named m.id y) links ≡ Some l)
link_there links y h =
    let f = any_in (λ z. is_named z y) (linked_ids links) h in
    let g = in_map (λ (m : LinkedState). m.id) links f.0 f.1 in
    let t : is_named g.0.id y ≡ true = ap (λ z. is_named z y) g.2 ∙ f.2 in
    let r = in_find (λ m. is_named m.id y) links g.0 g.1 t in
    let i = find_in (λ m. is_named m.id y) links r.0 r.1 in
    (r.0, i.0, same_is r.0.id y i.1, r.1)

-- who has the link with its weight has one to that router, of the same weight
linked_there : (links : List LinkedState) (l : LinkedState) → has_linked links l ≡ true → (has (linked_ids links) l.id ≡ true) × (weight_to links l.id ≡ l.weight)
linked_there links l h = by (find (λ m. is_named m.id l.id) links) refl h
  where
    by : (o : Option LinkedState) → find (λ m. is_named m.id l.id) links ≡ o → option_map_or (λ m. m.weight == l.weight) o false ≡ true → (has (linked_ids links) l.id ≡ true) × (weight_to links l.id ≡ l.weight)
    by None e t = absurd (true≢false (sym t))
    by (Some m) e t =
        let i = find_in (λ q. is_named q.id l.id) links m e in (
          in_any (λ z. is_named z l.id) (linked_ids links) m.id (map_in (λ (q : LinkedState). q.id) links m i.0) i.1,
          ap (λ (o : Option LinkedState). option_map_or (λ (q : LinkedState). q.weight) o 0) e ∙ eqb-true m.weight l.weight t,
        )

-- one link more that is the same
pub same_more : (xs ys : List LinkedState) (i : ℕ) (a b : LinkedState) → i < length xs → length xs ≡ length ys → a ≡ get_or xs i a → b ≡ get_or ys i b →
    (is_named a.id b.id && a.weight == b.weight) ≡ true → take i xs ≡ take i ys → take (i + 1) xs ≡ take (i + 1) ys
same_more xs ys i a b lt long first second t h =
    let both = and_parts (is_named a.id b.id) (a.weight == b.weight) t in
    let e : a ≡ b = λ j. record { id = (same_is a.id b.id both.0) j; weight = (eqb-true a.weight b.weight both.1) j } in
    let less : i < length ys = omega (arith, long) in
    take_more xs i a lt ∙ ap (λ zs. zs ++ get_or xs i a ∷ []) h ∙ ap (λ z. take i ys ++ z ∷ []) (sym first ∙ e ∙ second ∙ get_or_default ys i b a less) ∙ sym (take_more ys i a less)

-- what the records say of one router's links, before and after
record Stay (old new : List RecordState) (x : List ℕ) : Type 0 where
  gained : (y : List ℕ) → lists new x y ≡ true → lists old x y ≡ false → lists new y x ≡ false
  lost : (y : List ℕ) → lists old x y ≡ true → lists new x y ≡ false → lists old y x ≡ false
  weighs : (y : List ℕ) → lists new x y ≡ true → lists new y x ≡ true → weight_given old x y ≡ weight_given new x y

listed_by : (rs : List RecordState) (x y : List ℕ) (o : Option RecordState) → record_of rs x ≡ o → lists rs x y ≡ option_map_or (λ (r : RecordState). has (linked_ids r.links) y) o false
listed_by rs x y o e = ap (λ (p : Option RecordState). option_map_or (λ (r : RecordState). has (linked_ids r.links) y) p false) e

given_by : (rs : List RecordState) (x y : List ℕ) (r : RecordState) → record_of rs x ≡ Some r → weight_given rs x y ≡ weight_to r.links y
given_by rs x y r e = ap (λ (p : Option RecordState). option_map_or (λ (q : RecordState). weight_to q.links y) p 0) e

module _ (old new : List RecordState) (x : List ℕ) where
  stay_by : (a b : RecordState) → a.id ≡ x → record_of old x ≡ Some a → record_of new x ≡ Some b → KeepsEdges old new a b → Stay old new x
  stay_by a b own before after k = record {
    gained = λ y t f. come y (sym (listed_by new x y (Some b) after) ∙ t) (sym (listed_by old x y (Some a) before) ∙ f) k.links;
    lost = λ y t f. go y (sym (listed_by old x y (Some a) before) ∙ t) (sym (listed_by new x y (Some b) after) ∙ f) k.links;
    weighs = λ y t back. given_by old x y a before ∙ same_weight y (sym (listed_by new x y (Some b) after) ∙ t) back k.links ∙ sym (given_by new x y b after);
  }
    where
      -- a link to a router to which the other has none
      apart : (other : List LinkedState) (l : LinkedState) (y : List ℕ) → l.id ≡ y → has (linked_ids other) y ≡ false → has_linked other l ≡ false
      apart other l y e f = false_from_ne_true _ (λ t. true≢false (sym (ap (has (linked_ids other)) (sym e) ∙ (linked_there other l t).0) ∙ f))

      come : (y : List ℕ) → has (linked_ids b.links) y ≡ true → has (linked_ids a.links) y ≡ false →
          (a.links ≡ b.links) ⊎ ((makes_no_edge new b a ≡ true) × (makes_no_edge old a b ≡ true)) → lists new y x ≡ false
      come y t f (inl e) = absurd (true≢false (sym t ∙ ap (λ ls. has (linked_ids ls) y) (sym e) ∙ f))
      come y t f (inr h) =
          let l = link_there b.links y t in
          ap (λ z. lists new y z) (sym own ∙ k.same) ∙ ap (λ z. lists new z b.id) (sym l.2) ∙ none_made new b a l.0 h.0 l.1 (apart a.links l.0 y l.2 f)

      go : (y : List ℕ) → has (linked_ids a.links) y ≡ true → has (linked_ids b.links) y ≡ false →
          (a.links ≡ b.links) ⊎ ((makes_no_edge new b a ≡ true) × (makes_no_edge old a b ≡ true)) → lists old y x ≡ false
      go y t f (inl e) = absurd (true≢false (sym t ∙ ap (λ ls. has (linked_ids ls) y) e ∙ f))
      go y t f (inr h) =
          let l = link_there a.links y t in
          ap (λ z. lists old y z) (sym own) ∙ ap (λ z. lists old z a.id) (sym l.2) ∙ none_made old a b l.0 h.1 l.1 (apart b.links l.0 y l.2 f)

      same_weight : (y : List ℕ) → has (linked_ids b.links) y ≡ true → lists new y x ≡ true →
          (a.links ≡ b.links) ⊎ ((makes_no_edge new b a ≡ true) × (makes_no_edge old a b ≡ true)) → weight_to a.links y ≡ weight_to b.links y
      same_weight y t back (inl e) = ap (λ ls. weight_to ls y) e
      same_weight y t back (inr h) =
          let l = link_there b.links y t in
          let theirs : weight_to b.links y ≡ l.0.weight = ap (λ (o : Option LinkedState). option_map_or (λ (q : LinkedState). q.weight) o 0) l.3 in
          elim (cases_Bool (has_linked a.links l.0)) [
            | inl s ↦ ap (weight_to a.links) (sym l.2) ∙ (linked_there a.links l.0 s).1 ∙ sym theirs
            | inr s ↦ (let none : lists new y x ≡ false = ap (λ z. lists new y z) (sym own ∙ k.same) ∙ ap (λ z. lists new z b.id) (sym l.2) ∙ none_made new b a l.0 h.0 l.1 s in
                absurd (true≢false (sym back ∙ none)))
          ]

  stay_none : record_of old x ≡ None → record_of new x ≡ None → Stay old new x
  stay_none before after = record {
    gained = λ y t f. absurd (true≢false (sym t ∙ listed_by new x y None after));
    lost = λ y t f. absurd (true≢false (sym t ∙ listed_by old x y None before));
    weighs = λ y t back. absurd (true≢false (sym t ∙ listed_by new x y None after));
  }

-- an edge that comes or goes is listed anew, or no more
edge_by : (p q s t : Bool) → (s ≡ true → p ≡ false → t ≡ false) → (p ≡ true → s ≡ false → q ≡ false) → (t ≡ true → q ≡ false → s ≡ false) → (q ≡ true → t ≡ false → p ≡ false) →
    (p && q) ≡ (s && t)
edge_by true true true true a b c d = refl
edge_by true true true false a b c d = absurd (true≢false (d refl refl))
edge_by true false true true a b c d = absurd (true≢false (c refl refl))
edge_by true false true false a b c d = refl
edge_by true q false t a b c d = b refl refl
edge_by false q true t a b c d = sym (a refl refl)
edge_by false q false t a b c d = refl

-- what one record more keeps
pub each_more : (old new : List RecordState) (i : ℕ) (a b : RecordState) → i < length old → length old ≡ length new → a ≡ get_or old i a → b ≡ get_or new i b → KeepsEdges old new a b →
    ((k : ℕ) (d : RecordState) → k < i → KeepsEdges old new (get_or old k d) (get_or new k d)) → (k : ℕ) (d : RecordState) → k < i + 1 → KeepsEdges old new (get_or old k d) (get_or new k d)
each_more old new i a b lt long first second here each k d less = elim (cases_lt k i) [
  | inl l ↦ each k d l
  | inr g ↦ (let e : i ≡ k = omega arith in
      subst (λ (z : ℕ). KeepsEdges old new (get_or old z d) (get_or new z d)) e
      (subst (λ (r : RecordState). KeepsEdges old new r (get_or new i d)) (get_or_read old i a lt first d)
      (subst (λ (r : RecordState). KeepsEdges old new a r) (get_or_read new i b (omega (arith, long, lt)) second d) here)))
]

unknown : RecordState
unknown = record { id = []; seq = 0; links = [] }

module _ (old new : List RecordState) (up : IsAscending (ids old)) (above : IsAscending (ids new)) (long : length old ≡ length new)
    (each : (i : ℕ) (d : RecordState) → i < length old → KeepsEdges old new (get_or old i d) (get_or new i d)) where
  same_names : ids old ≡ ids new
  same_names =
      let m : length (ids old) ≡ length old = length-map old (λ (r : RecordState). r.id) in
      let n : length (ids new) ≡ length new = length-map new (λ (r : RecordState). r.id) in
      ext_get_or [] (ids old) (ids new) (m ∙ long ∙ sym n) (λ i lt.
      let here : i < length old = omega (arith, m) in
      name_at old i unknown here ∙ (each i unknown here).same ∙ sym (name_at new i unknown (omega (arith, long))))

  router_stays : (x : List ℕ) → Stay old new x
  router_stays x = elim (cases_Bool (has (ids old) x)) [
    | inl t ↦ (let f = in_name old x (has_in (ids old) x t) in
        let here : f.0 < length new = omega (arith, f.1, long) in
        let own : (get_or old f.0 unknown).id ≡ x = sym (name_at old f.0 unknown f.1) ∙ f.2 in
        let own' : (get_or new f.0 unknown).id ≡ x = sym (each f.0 unknown f.1).same ∙ own in
        stay_by old new x (get_or old f.0 unknown) (get_or new f.0 unknown) own
        (ap (λ z. record_of old z) (sym own) ∙ record_at old f.0 unknown up f.1) (ap (λ z. record_of new z) (sym own') ∙ record_at new f.0 unknown above here) (each f.0 unknown f.1))
    | inr t ↦ stay_none old new x (record_none old x t) (record_none new x (ap (λ ns. has ns x) (sym same_names) ∙ t))
  ]

  pub edges_stay : HaveSameEdges old new
  edges_stay = record { ascending = up; names = same_names; edges = same_edge; weights = same_weight }
    where
      same_edge : (x y : List ℕ) → has_edge old x y ≡ has_edge new x y
      same_edge x y =
          let a = router_stays x in
          let b = router_stays y in
          edge_by (lists old x y) (lists old y x) (lists new x y) (lists new y x) (a.gained y) (a.lost y) (b.gained x) (b.lost x)

      same_weight : (x y : List ℕ) → edge_weight old x y ≡ edge_weight new x y
      same_weight x y = by (has_edge old x y) refl (has_edge new x y) refl (sym (same_edge x y))
        where
          by : (t : Bool) → has_edge old x y ≡ t → (u : Bool) → has_edge new x y ≡ u → u ≡ has_edge old x y →
              cond t (max (weight_given old x y) (weight_given old y x)) 0 ≡ cond u (max (weight_given new x y) (weight_given new y x)) 0
          by true e true f g =
              let both = and_parts (lists new x y) (lists new y x) f in
              ap (λ (w : ℕ). max w (weight_given old y x)) ((router_stays x).weighs y both.0 both.1) ∙ ap (max (weight_given new x y)) ((router_stays y).weighs x both.1 both.0)
          by true e false f g = absurd (true≢false (sym (g ∙ e)))
          by false e true f g = absurd (true≢false (g ∙ e))
          by false e false f g = refl

-- ---- trees

module _ (old new : List RecordState) (same : HaveSameEdges old new) where
  pub ascending_still : IsAscending (ids new)
  ascending_still = subst (λ (ns : List (List ℕ)). IsAscending ns) same.names same.ascending

  pub as_long : length old ≡ length new
  as_long = sym (length-map old (λ (r : RecordState). r.id)) ∙ ap length same.names ∙ length-map new (λ (r : RecordState). r.id)

  pub name_stays : (i : ℕ) → name old i ≡ name new i
  name_stays i = ap (λ ns. get_or ns i []) same.names

  is_graph : IsGraph (graph_of old)
  is_graph = graph_is old same.ascending

  is_graph_still : IsGraph (graph_of new)
  is_graph_still = graph_is new ascending_still

  as_long_still : (x y : List ℕ) → has_edge old x y ≡ true → edge_length (graph_of old) x y ≡ edge_length (graph_of new) x y
  as_long_still x y t = ap (max 1) (same.weights x y)

  -- each child stays one
  pub child_stays : (root x y : List ℕ) → is_child (graph_of old) root x y ≡ is_child (graph_of new) root x y
  child_stays root x y = same_child (graph_of old) (graph_of new) is_graph is_graph_still same.edges as_long_still root x y
