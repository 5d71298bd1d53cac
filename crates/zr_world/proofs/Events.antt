-- The events that come to the routers of a sound world may come, and leave each router's links unique.
use Rattle.std.proofs.Common.{◌≡◌, ℕ, Bool, true, false, List, Option, Some, None, refl, sym, ap, ◌∙◌}
use Rattle.std.specs.Prelude.{◌||◌, is_some}
use Rattle.std.specs.Option.{option_map, option_map_or}
use Rattle.std.proofs.lemmas.Bool.{false≢true}
use Rattle.zr_lists.proofs.Options.{not_there}
use Rattle.zr_id.specs.Zid.{is_named}
use Rattle.zr_id.specs.declared.link.LinkNo.{LinkNo}
use Rattle.zr_msg.specs.declared.event.Event.{Event}
use Rattle.zr_msg.specs.declared.event.Event.TheVariants.{Up, Down, From}
use Rattle.zr_msg.specs.Peer.{PeerState}
use Rattle.zr_node_spec.specs.Event.{IsFresh, MayCome}
use Rattle.zr_node_spec.specs.Tables.{link_at, link_to, free_link}
use Rattle.zr_node_spec.specs.State.{NodeState, new_link}
use Rattle.zr_msg.specs.declared.peer.LinkPeer.{LinkPeer}
use Rattle.zr_node_spec.specs.Table.{after}
use Rattle.zr_node_spec.proofs.FreeLink.{free_is_free}
use Rattle.zr_world_spec.specs.World.{EndState, RouterState, WorldState, router_of, client_of, is_taken, end_of, is_up}
use Rattle.zr_world_spec.specs.Sound.{AreUnique, IsSound}
use Rattle.zr_world_spec.proofs.Fits.{up_is_there}
use Rattle.zr_world_spec.proofs.Names.{names, same_name}
use Rattle.zr_world_spec.proofs.Links.{numbered_link, unique_with, unique_without}
use Rattle.zr_world_spec.proofs.Nodes.{peers_from}

-- ---- links stay unique

pub unique_after : (node : NodeState) (event : Event) → AreUnique node.links → MayCome node event → AreUnique (after node event).links
unique_after node (Up link peer) h may = unique_with node.links (new_link link peer) h may.number may.name
unique_after node (Down link) h may = unique_without node.links h link.0
unique_after node (From link msg) h may = (peers_from node link.0 msg h).0

-- ---- what may come

module _ (w : WorldState) (sound : IsSound w) (x : List ℕ) (r : RouterState) (found : router_of w.routers x ≡ Some r) where
  -- an end that is down has no link
  pub no_link : (y : List ℕ) → is_up w.ends (x, y) ≡ false → link_to r.node.links y ≡ None
  no_link y down = not_there (link_to r.node.links y) (sound.links x y r found ∙ down)

  -- a link to a neighbour may come up where the end is down
  pub fresh : (peer : PeerState) → is_up w.ends (x, peer.id) ≡ false → is_named x peer.id ≡ false → IsFresh r.node (record { 0 = free_link r.node.links }) peer
  fresh peer down apart = record {
    number = free_is_free r.node.links;
    name = no_link peer.id down;
    other = ap (is_named peer.id) (sound.own x r found) ∙ names.symm peer.id x ∙ apart;
  }

  -- the link to a neighbour is that of its number
  pub has_link : (y : List ℕ) (l : LinkPeer) → link_to r.node.links y ≡ Some l → is_some (link_at r.node.links l.link.0) ≡ true
  has_link y l e = ap is_some (numbered_link r.node.links (sound.unique x r found) y l e)

  -- a link is that of a neighbour who is there
  pub known : (y : List ℕ) (l : LinkPeer) → link_to r.node.links y ≡ Some l → is_taken w y ≡ true
  known y l e = sound.neighbours x y (up_is_there (end_of w.ends (x, y)) (sym (sound.links x y r found) ∙ ap is_some e))

  -- where there is no link, the end is down
  pub down_there : (y : List ℕ) → link_to r.node.links y ≡ None → is_up w.ends (x, y) ≡ false
  down_there y e = sym (sound.links x y r found) ∙ ap is_some e

  -- a new client has no end, and is not the router
  pub fresh_client : (peer : PeerState) → is_taken w peer.id ≡ false → IsFresh r.node (record { 0 = free_link r.node.links }) peer
  fresh_client peer new = fresh peer (down (end_of w.ends (x, peer.id)) refl) (apart (is_named x peer.id) refl)
    where
      down : (o : Option EndState) → end_of w.ends (x, peer.id) ≡ o → option_map_or (λ s. s.up) o false ≡ false
      down None e = refl
      down (Some s) e = absurd (false≢true (sym new ∙ sound.neighbours x peer.id (ap is_some e)))

      apart : (b : Bool) → is_named x peer.id ≡ b → b ≡ false
      apart false e = refl
      apart true e = absurd (false≢true (sym new ∙ ap (λ z. is_taken w z) (sym (same_name x peer.id e)) ∙ ap (λ (o : Option RouterState). is_some o || is_some (client_of w.clients x)) found))

-- a number that a look-up found is that of the link that it found
pub link_found : (o : Option LinkPeer) (link : LinkNo) → Some link ≡ option_map (λ l. l.link) o → (l : LinkPeer) × (o ≡ Some l) × (l.link ≡ link)
link_found None link h = absurd (cc)
link_found (Some l) link h = let same : l.link ≡ link = cc in (l, refl, same)

pub no_link_found : (o : Option LinkPeer) → None ≡ option_map (λ l. l.link) o → o ≡ None
no_link_found None h = refl
no_link_found (Some l) h = absurd (cc)
