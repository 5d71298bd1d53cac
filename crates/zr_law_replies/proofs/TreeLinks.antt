-- The neighbours of the links over which a router passes a request on, where each link is the one of its number and the one to its neighbour.
use Rattle.std.proofs.Common.{◌≡◌, ℕ, Bool, true, false, cond, List, [], ◌∷◌, Some, refl, sym, ap, ◌∙◌}
use Rattle.std.specs.Prelude.{map, filter}
use Rattle.std.specs.List.{AllByRecursion, cons_option, list_any}
use Rattle.std.specs.Option.{option_map}
use Rattle.zr_id.specs.Zid.{is_named}
use Rattle.zr_lists.proofs.Finds.{any_in, in_any, in_map, map_in, in_filter, filter_in, find_in}
use Rattle.zr_lists.proofs.Elements.{each_in}
use Rattle.zr_msg.specs.declared.peer.LinkPeer.{LinkPeer}
use Rattle.zr_node_spec.specs.Tables.{link_at, link_to}
use Rattle.zr_world_spec.specs.Sound.{AreUnique}
use Rattle.zr_world_spec.proofs.Names.{same_name}
use Rattle.zr_law_replies.specs.Trees.{neighbours_of}

pub neighbours_are : (links ls : List LinkPeer) (test : LinkPeer → Bool) → AllByRecursion (λ l. link_at links l.link.0 ≡ Some l) ls →
    neighbours_of links (map (λ l. l.link) (filter test ls)) ≡ map (λ l. l.peer.id) (filter test ls)
neighbours_are links [] test h = refl
neighbours_are links (l ∷ ls) test h = by (test l) (neighbours_are links ls test h.1)
  where
    by : (b : Bool) → neighbours_of links (map (λ k. k.link) (filter test ls)) ≡ map (λ k. k.peer.id) (filter test ls) →
        neighbours_of links (map (λ k. k.link) (cond b (l ∷ filter test ls) (filter test ls))) ≡ map (λ k. k.peer.id) (cond b (l ∷ filter test ls) (filter test ls))
    by true ih = ap (λ o. cons_option (option_map (λ (k : LinkPeer). k.peer.id) o) (neighbours_of links (map (λ (k : LinkPeer). k.link) (filter test ls)))) h.0 ∙ ap (λ z. l.peer.id ∷ z) ih
    by false ih = ih

module _ (links : List LinkPeer) (unique : AreUnique links) (test : LinkPeer → Bool) (name : List ℕ) where
  -- one of them has a link that passes the test
  pub neighbour_link : list_any (λ z. is_named z name) (neighbours_of links (map (λ l. l.link) (filter test links))) ≡ true → (k : LinkPeer) × (link_to links name ≡ Some k) × (test k ≡ true)
  neighbour_link h =
      let z = any_in (λ z. is_named z name) (map (λ (l : LinkPeer). l.peer.id) (filter test links)) (ap (list_any (λ z. is_named z name)) (sym (neighbours_are links links test unique.numbers)) ∙ h) in
      let k = in_map (λ (l : LinkPeer). l.peer.id) (filter test links) z.0 z.1 in
      let f = in_filter test links k.0 k.1 in
      let id_is : k.0.peer.id ≡ name = k.2 ∙ same_name z.0 name z.2 in
      (k.0, ap (link_to links) (sym id_is) ∙ each_in (λ (l : LinkPeer). link_to links l.peer.id ≡ Some l) links k.0 unique.names f.0, f.1)

  -- and who has one is one of them
  pub link_neighbour : (k : LinkPeer) → link_to links name ≡ Some k → test k ≡ true → list_any (λ z. is_named z name) (neighbours_of links (map (λ l. l.link) (filter test links))) ≡ true
  link_neighbour k found passes =
      let f = find_in (λ (l : LinkPeer). is_named l.peer.id name) links k found in
      ap (list_any (λ z. is_named z name)) (neighbours_are links links test unique.numbers)
      ∙ in_any (λ z. is_named z name) (map (λ (l : LinkPeer). l.peer.id) (filter test links)) k.peer.id (map_in (λ (l : LinkPeer). l.peer.id) (filter test links) k (filter_in test links k f.0 passes)) f.1
