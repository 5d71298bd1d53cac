-- A router hears of an event: the links to clients whose links are unbroken stay, but for those that the event is about, and each link stays the one
-- of its number.
use Rattle.std.proofs.Common.{◌≡◌, true, false, cond, not, Option, Some, None, is_some, refl, sym, ap, ◌∙◌, subst}
use Rattle.std.specs.Prelude.{◌==◌}
use Rattle.std.specs.Option.{option_map_or}
use Rattle.std.proofs.lemmas.Bool.{true≢false, false_from_ne_true, eqb-true}
use Rattle.zr_lists.proofs.Options.{not_there}
use Rattle.zr_id.specs.Zid.{is_named}
use Rattle.zr_id.specs.declared.link.LinkNo.{LinkNo}
use Rattle.zr_graph.proofs.Names.{same_is, same_refl}
use Rattle.zr_msg.specs.declared.msg.Msg.{Msg}
use Rattle.zr_msg.specs.declared.event.Event.TheVariants.{Down, From}
use Rattle.zr_msg.specs.declared.peer.LinkPeer.{LinkPeer}
use Rattle.zr_msg.specs.Peer.{PeerState}
use Rattle.zr_node_spec.specs.Tables.{is_router, link_at, link_to, free_link, leads_to_client}
use Rattle.zr_node_spec.specs.State.{new_link}
use Rattle.zr_node_spec.specs.Table.{after}
use Rattle.zr_node_spec.proofs.FreeLink.{free_is_free}
use Rattle.zr_node_spec.proofs.LinksStay.{links_from}
use Rattle.zr_world_spec.specs.World.{RouterState, EndState, ClientState, WorldState, router_of, client_of, end_of, is_unbroken, is_up, is_taken}
use Rattle.zr_world_spec.specs.Acts.{up_event}
use Rattle.zr_world_spec.specs.Sound.{AreUnique, IsSound}
use Rattle.zr_world_spec.proofs.Links.{link_to_with, link_to_apart, unique_with, unique_without, named_link, numbered_link}
use Rattle.zr_law_settled.proofs.Spreading.{Name}
use Rattle.zr_law_settled.proofs.Quiet.{no_end, passes_there}
use Rattle.zr_law_settled.proofs.Moving.{up_at, unbroken_at}
use Rattle.zr_law_settled.proofs.ClientRows.{ClientsHold}

module _ (w : WorldState) (sound : IsSound w) (h : ClientsHold w) (a : Name) (r : RouterState) (found : router_of w.routers a ≡ Some r) where
  -- a link to a client is one by its number
  pub leads_to_it : (c : Name) (s : ClientState) → client_of w.clients c ≡ Some s → (l : LinkPeer) → link_to r.node.links c ≡ Some l → leads_to_client r.node.links l.link.0 ≡ true
  leads_to_it c s client l to =
      ap (λ (o : Option LinkPeer). option_map_or (λ k. not (is_router k.peer.role)) o false) (numbered_link r.node.links (sound.unique a r found) c l to)
      ∙ ap not (sound.roles a c r l found to ∙ h.apart c s client)

  -- the router's end to a client is that of its home
  pub its_end : (name c : Name) (t : ClientState) → client_of w.clients c ≡ Some t → is_named name c ≡ true → (s : EndState) → end_of w.ends (a, name) ≡ Some s → end_of w.ends (t.router, c) ≡ Some s
  its_end name c t client same s there =
      let here : end_of w.ends (a, c) ≡ Some s = ap (λ (y : Name). end_of w.ends (a, y)) (sym (same_is name c same)) ∙ there in
      ap (λ (x : Name). end_of w.ends (x, c)) (h.homes a c t client (ap is_some here)) ∙ here

  -- an end that is down, or whose link is broken, is none of a client whose link is unbroken
  pub not_down : (name : Name) (s : EndState) → end_of w.ends (a, name) ≡ Some s → s.up ≡ false → (c : Name) (t : ClientState) → client_of w.clients c ≡ Some t → is_unbroken w.ends (t.router, c) ≡ true → is_named name c ≡ false
  not_down name s there down c t client whole = false_from_ne_true (is_named name c) (λ same.
      true≢false (sym (h.ups t.router c t client whole) ∙ ap up_at (its_end name c t client same s there) ∙ down))

  pub not_cut : (name : Name) (s : EndState) → end_of w.ends (a, name) ≡ Some s → s.unbroken ≡ false → (c : Name) (t : ClientState) → client_of w.clients c ≡ Some t → is_unbroken w.ends (t.router, c) ≡ true → is_named name c ≡ false
  not_cut name s there cut c t client whole = false_from_ne_true (is_named name c) (λ same. true≢false (sym whole ∙ ap unbroken_at (its_end name c t client same s there) ∙ cut))

  -- there is no link to a neighbour whose end is down, nor to one whose name is new
  pub no_link_down : (name : Name) (s : EndState) → end_of w.ends (a, name) ≡ Some s → s.up ≡ false → link_to r.node.links name ≡ None
  no_link_down name s there down = not_there (link_to r.node.links name) (sound.links a name r found ∙ ap up_at there ∙ down)

  pub no_link_new : (name : Name) → is_taken w name ≡ false → link_to r.node.links name ≡ None
  no_link_new name free = not_there (link_to r.node.links name)
      (sound.links a name r found ∙ false_from_ne_true (is_up w.ends (a, name)) (λ u. no_end w sound name free a (passes_there (λ q. q.up) w.ends (a, name) u)))

  -- the links to two neighbours have two numbers
  pub links_apart : (b c : Name) (k l : LinkPeer) → link_to r.node.links b ≡ Some k → link_to r.node.links c ≡ Some l → is_named b c ≡ false → (k.link.0 == l.link.0) ≡ false
  links_apart b c k l to_b to_c other = false_from_ne_true (k.link.0 == l.link.0) (λ e.
      let one : Some k ≡ Some l = sym (numbered_link r.node.links (sound.unique a r found) b k to_b) ∙ ap (link_at r.node.links) (eqb-true k.link.0 l.link.0 e)
      ∙ numbered_link r.node.links (sound.unique a r found) c l to_c in
      let same : k ≡ l = cc in
      true≢false (sym (same_refl b) ∙ ap (is_named b) (sym (named_link r.node.links b k to_b) ∙ ap (λ (q : LinkPeer). q.peer.id) same ∙ named_link r.node.links c l to_c) ∙ other))

  -- ---- the links then

  module _ (peer : PeerState) (none : link_to r.node.links peer.id ≡ None) where
    pub up_links : (c : Name) → link_to (after r.node (up_event r peer)).links c ≡ cond (is_named peer.id c) (Some (new_link (record { 0 = free_link r.node.links }) peer)) (link_to r.node.links c)
    up_links c = link_to_with r.node.links (new_link (record { 0 = free_link r.node.links }) peer) (sound.unique a r found) (free_is_free r.node.links) none c

    pub up_unique : AreUnique (after r.node (up_event r peer)).links
    up_unique = unique_with r.node.links (new_link (record { 0 = free_link r.node.links }) peer) (sound.unique a r found) (free_is_free r.node.links) none

  pub down_links : (name : Name) (j : LinkPeer) → link_to r.node.links name ≡ Some j → (c : Name) → link_to (after r.node (Down j.link)).links c ≡ cond (is_named name c) None (link_to r.node.links c)
  down_links name j linked c = link_to_apart r.node.links (sound.unique a r found) j.link.0 name j linked refl c

  pub down_unique : (j : LinkPeer) → AreUnique (after r.node (Down j.link)).links
  down_unique j = unique_without r.node.links (sound.unique a r found) j.link.0

  pub from_unique : (link : LinkNo) (msg : Msg) → AreUnique (after r.node (From link msg)).links
  from_unique link msg = subst AreUnique (sym (links_from r.node link msg)) (sound.unique a r found)
