-- The record that a look-up of a link's router finds.
use Rattle.std.proofs.Common.{◌≡◌, ℕ, ◌<◌, ◌^◌, max, false, List, [], Option, Some, length, get_or, sym, ap, ◌∙◌, arith}
use Rattle.std.specs.Option.{option_map_or}
use Rattle.std.proofs.lemmas.List.{length-map}
use Rattle.zr_id.specs.Record.{LinkedState, RecordState, linked_ids}
use Rattle.zr_graph.specs.Record.{ids, has, lists, record_of, weight_to, IsAscending}
use Rattle.zr_tree_parents.specs.declared.row.Neighbour.{Neighbour}
use Rattle.zr_tree.specs.Index.{name, IsGiven, LinksBack}
use Rattle.zr_tree.proofs.Indexed.{record_none}
use Rattle.zr_tree.proofs.Rows.{name_at, record_there}

module _ (rs : List RecordState) (names : List (List ℕ)) (from : List ℕ) (link : LinkedState) (is : names ≡ ids rs) where
  -- who has no record lists nobody
  pub not_known : has names link.id ≡ false → lists rs link.id from ≡ false
  not_known h = ap (λ (o : Option RecordState). option_map_or (λ (q : RecordState). has (linked_ids q.links) from) o false) (record_none rs link.id (ap (λ ns. has ns link.id) (sym is) ∙ h))

  module _ (up : IsAscending (ids rs)) (i : ℕ) (r : RecordState) (lt : i < length names) (here : get_or names i [] ≡ link.id) (at : r ≡ get_or rs i r) where
    inside : i < length rs
    inside = omega (arith, lt, ap length is, length-map rs (λ (q : RecordState). q.id))

    is_to : name rs i ≡ link.id
    is_to = ap (λ ns. get_or ns i []) (sym is) ∙ here

    found : record_of rs link.id ≡ Some r
    found = ap (λ z. record_of rs z) (sym is_to ∙ name_at rs i r inside ∙ ap (λ (q : RecordState). q.id) (sym at)) ∙ record_there rs i r up inside at

    lists_as : lists rs link.id from ≡ has (linked_ids r.links) from
    lists_as = ap (λ (o : Option RecordState). option_map_or (λ (q : RecordState). has (linked_ids q.links) from) o false) found

    pub links_back : (given : ℕ) → IsGiven r.links from given → (n : Neighbour) → n.index ≡ i → n.weight ≡ max link.weight given → n.weight < 2 ^ 16 → LinksBack rs from link n
    links_back given g n e w fits = record {
      within = omega (arith, e, inside);
      named = ap (name rs) e ∙ is_to;
      listed = lists_as ∙ g.listed;
      heavy = omega (arith, w, g.heavy);
      greater = w ∙ ap (max link.weight) (g.is ∙ sym (ap (λ (o : Option RecordState). option_map_or (λ (q : RecordState). weight_to q.links from) o 0) found));
      fits = fits;
    }

    pub links_not : has (linked_ids r.links) from ≡ false → lists rs link.id from ≡ false
    links_not h = lists_as ∙ h
