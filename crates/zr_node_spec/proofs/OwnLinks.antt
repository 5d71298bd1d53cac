-- The own links with one more and with one less: they are links of a record still, lead where they led, and weigh what they weighed.
use Rattle.std.proofs.Common.{◌≡◌, ℕ, ◌+◌, ◌<◌, ◌≤◌, ◌^◌, ◌||◌, ◌&&◌, Bool, true, false, cond, List, [], ◌∷◌, Option, Some, None, Ordering, Less, Equal, Greater, suc, not, length, length-append, arith, refl, sym, ap, ◌∙◌}
use Rattle.std.specs.Cmp.Lexicographic.{slice_cmp, nat_list_cmp_total}
use Rattle.std.specs.List.{filter}
use Rattle.std.specs.Option.{option_map_or}
use Rattle.std.specs.Ordering.{nat_cmp, is_lt, ordering_reverse}
use Rattle.std.proofs.lemmas.Bool.{lt-ltb}
use Rattle.std.proofs.lemmas.Map.Keys.{sorted_head, sorted_tail}
use Rattle.zr_id.specs.Record.{LinkedState, linked_ids, are_links, are_in_order, may_follow, is_before}
use Rattle.zr_id.specs.Zid.{is_named}
use Rattle.zr_graph.specs.Record.{has, weight_to, IsAscending}
use Rattle.zr_node_spec.specs.Table.{with_linked, without_linked}
use Rattle.zr_tree.proofs.Links.{AreBehind, AreOthers, Parts, parts_of_links}
use Rattle.zr_lists.specs.Ascending.{at_key, has_key}
use Rattle.zr_lists.proofs.Each.{All-filter, All-mapped, All-unmapped}
use Rattle.zr_lists.proofs.Filters.{filter_shorter}
use Rattle.zr_lists.proofs.Order.{name_order}
use Rattle.zr_lists.proofs.Puts.{All-put, ascending_put, ascending_without as without_by_key, at-put, at-without, has-put, has-without}
use Rattle.zr_lists.proofs.Sorted.{by_keys, keys_by}

abbrev id_of : LinkedState → List ℕ
id_of l = l.id

in_order_from : (own : List ℕ) (last : Option (List ℕ)) (links : List LinkedState) → IsAscending (linked_ids links) → AreOthers own (linked_ids links) → AreBehind last (linked_ids links)
    → are_in_order own last links ≡ true
in_order_from own last [] up others behind = refl
in_order_from own last (l ∷ links) up others behind =
    rw (first last behind) (in_order_from own (Some l.id) links (sorted_tail _ l.id (linked_ids links) up) others.1 (sorted_head _ l.id (linked_ids links) up))
  where
    first : (last : Option (List ℕ)) → AreBehind last (linked_ids (l ∷ links)) → may_follow own last l.id ≡ true
    first None b = rw others.0 refl
    first (Some last) b = rw (others.0, ap is_lt b.0) refl

links_of_parts : (own : List ℕ) (links : List LinkedState) → Parts own (linked_ids links) → length links < 2 ^ 16 → are_links own links ≡ true
links_of_parts own links p few = rw (lt-ltb (length links) (2 ^ 16) few) (in_order_from own None links p.ascending p.others tt)

-- of the links below one and those above it there are no more than there are links
two_shorter : (id : List ℕ) (links : List LinkedState) → length (filter (λ k. is_before k.id id) links) + length (filter (λ k. is_before id k.id) links) ≤ length links
two_shorter id [] = omega arith
two_shorter id (l ∷ links) = by (slice_cmp nat_cmp l.id id) refl (two_shorter id links)
  where
    above : List LinkedState
    above = filter (λ k. is_before id k.id) links

    below : List LinkedState
    below = filter (λ k. is_before k.id id) links

    back : slice_cmp nat_cmp id l.id ≡ ordering_reverse (slice_cmp nat_cmp l.id id)
    back = nat_list_cmp_total.antisymm id l.id

    by : (o : Ordering) → slice_cmp nat_cmp l.id id ≡ o → length below + length above ≤ length links
        → length (cond (is_lt o) (l ∷ below) below) + length (cond (is_lt (slice_cmp nat_cmp id l.id)) (l ∷ above) above) ≤ suc (length links)
    by Less e ih = rw (back, e) (omega arith)
    by Equal e ih = rw (back, e) (omega arith)
    by Greater e ih = rw (back, e) (omega arith)

-- they ascend still
pub ascending_with : (links : List LinkedState) (l : LinkedState) → IsAscending (linked_ids links) → IsAscending (linked_ids (with_linked links l))
ascending_with links l up = keys_by (slice_cmp nat_cmp) id_of (with_linked links l) (ascending_put (slice_cmp nat_cmp) id_of name_order links l (by_keys (slice_cmp nat_cmp) id_of links up))

pub ascending_without : (links : List LinkedState) (id : List ℕ) → IsAscending (linked_ids links) → IsAscending (linked_ids (without_linked links id))
ascending_without links id up =
    keys_by (slice_cmp nat_cmp) id_of (without_linked links id) (without_by_key (slice_cmp nat_cmp) id_of name_order links id (by_keys (slice_cmp nat_cmp) id_of links up))

-- one more
pub are_links-with_linked : (own : List ℕ) (links : List LinkedState) (l : LinkedState) → are_links own links ≡ true → is_named own l.id ≡ false → length links < 65535
    → are_links own (with_linked links l) ≡ true
are_links-with_linked own links l h other few =
    let p = (parts_of_links own links h).0 in
    let below = filter (λ k. is_before k.id l.id) links in
    let above = filter (λ k. is_before l.id k.id) links in
    links_of_parts own (with_linked links l)
    (record {
      ascending = ascending_with links l p.ascending;
      others =
          All-mapped (λ y. is_named own y ≡ false) id_of (with_linked links l)
          (All-put (slice_cmp nat_cmp) id_of name_order (λ k. is_named own k.id ≡ false) links l (All-unmapped (λ y. is_named own y ≡ false) id_of links p.others) other);
    })
    (let n = two_shorter l.id links in let m : length (with_linked links l) ≡ length below + suc (length above) = length-append below (l ∷ above) in omega arith)

-- one less
pub are_links-without_linked : (own : List ℕ) (links : List LinkedState) (id : List ℕ) → are_links own links ≡ true → are_links own (without_linked links id) ≡ true
are_links-without_linked own links id h =
    let p = parts_of_links own links h in
    links_of_parts own (without_linked links id)
    (record {
      ascending = ascending_without links id p.0.ascending;
      others =
          All-mapped (λ y. is_named own y ≡ false) id_of (without_linked links id)
          (All-filter (λ k. not (is_named k.id id)) (λ k. is_named own k.id ≡ false) links (All-unmapped (λ y. is_named own y ≡ false) id_of links p.0.others));
    })
    (let s = filter_shorter (λ (k : LinkedState). not (is_named k.id id)) links in omega (arith, p.1))

-- ---- where they lead

has_ids : (links : List LinkedState) (y : List ℕ) → has (linked_ids links) y ≡ has_key (slice_cmp nat_cmp) id_of links y
has_ids [] y = refl
has_ids (l ∷ links) y = ap (λ b. is_named l.id y || b) (has_ids links y)

-- with one more they lead to its router too
pub has_with : (links : List LinkedState) (l : LinkedState) (y : List ℕ) → has (linked_ids (with_linked links l)) y ≡ cond (is_named l.id y) true (has (linked_ids links) y)
has_with links l y = has_ids (with_linked links l) y ∙ has-put (slice_cmp nat_cmp) id_of name_order links l y ∙ by (is_named l.id y)
  where
    by : (b : Bool) → (b || has_key (slice_cmp nat_cmp) id_of links y) ≡ cond b true (has (linked_ids links) y)
    by true = refl
    by false = sym (has_ids links y)

-- and without that to a router no more to it
pub has_without : (links : List LinkedState) (id y : List ℕ) → has (linked_ids (without_linked links id)) y ≡ cond (is_named id y) false (has (linked_ids links) y)
has_without links id y = has_ids (without_linked links id) y ∙ has-without (slice_cmp nat_cmp) id_of name_order links id y ∙ by (is_named id y)
  where
    by : (b : Bool) → (not b && has_key (slice_cmp nat_cmp) id_of links y) ≡ cond b false (has (linked_ids links) y)
    by true = refl
    by false = sym (has_ids links y)

-- ---- what they weigh

-- the new link weighs what it weighs, and each other one as before
pub weight_with : (links : List LinkedState) (l : LinkedState) (y : List ℕ) → weight_to (with_linked links l) y ≡ cond (is_named l.id y) l.weight (weight_to links y)
weight_with links l y = ap (λ (o : Option LinkedState). option_map_or (λ (k : LinkedState). k.weight) o 0) (at-put (slice_cmp nat_cmp) id_of name_order links l y) ∙ by (is_named l.id y)
  where
    by : (b : Bool) → option_map_or (λ (k : LinkedState). k.weight) (cond b (Some l) (at_key (slice_cmp nat_cmp) id_of links y)) 0 ≡ cond b l.weight (weight_to links y)
    by true = refl
    by false = refl

-- a link that goes weighs nothing, and each other one what it did
pub weight_without : (links : List LinkedState) (id y : List ℕ) → weight_to (without_linked links id) y ≡ cond (is_named id y) 0 (weight_to links y)
weight_without links id y = ap (λ (o : Option LinkedState). option_map_or (λ (k : LinkedState). k.weight) o 0) (at-without (slice_cmp nat_cmp) id_of name_order links id y) ∙ by (is_named id y)
  where
    by : (b : Bool) → option_map_or (λ (k : LinkedState). k.weight) (cond b None (at_key (slice_cmp nat_cmp) id_of links y)) 0 ≡ cond b 0 (weight_to links y)
    by true = refl
    by false = refl
