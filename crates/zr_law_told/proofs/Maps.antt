-- What routers keep of what they told their clients, at each moment to which acts lead (`told_maps_are_heard`).
use Rattle.std.proofs.Common.{◌≡◌, ℕ, true, false, not, List, [], ◌++◌, map, Option, Some, None, is_some, refl, sym, ap, ◌∙◌, subst}
use Rattle.std.specs.Prelude.{◌||◌}
use Rattle.std.specs.Option.{option_map, option_map_or}
use Rattle.std.proofs.lemmas.Bool.{false≢true, not-true, eqb-true}
use Rattle.zr_lists.proofs.Elements.{each_in}
use Rattle.zr_lists.proofs.Finds.{find_in}
use Rattle.zr_msg.specs.declared.peer.LinkPeer.{LinkPeer}
use Rattle.zr_node_spec.specs.Tables.{is_router, is_link, link_at, link_to, leads_to_client}
use Rattle.zr_told_spec.specs.Laws.{Agrees}
use Rattle.zr_told_spec.specs.Rows.{map_on}
use Rattle.zr_told_spec.specs.Told.{heard as leave}
use Rattle.zr_world_spec.specs.World.{Tagged, RouterState, EndState, ClientState, WorldState, router_of, client_of, end_of}
use Rattle.zr_world_spec.specs.Moments.{Numbered, Moment, reached}
use Rattle.zr_world_spec.specs.Sound.{IsSound}
use Rattle.zr_world_spec.proofs.Lines.{at_some}
use Rattle.zr_law_settled.proofs.Spreading.{Name}
use Rattle.zr_law_settled.proofs.Quiet.{passes_there}
use Rattle.zr_law_settled.proofs.Worlds.{queue_at}
use Rattle.zr_law_told.specs.Maps.{put_for, put_on, ToldMapsAreHeard}
use Rattle.zr_law_told.proofs.Readings.{told_of, msgs_in, waits, told_by}
use Rattle.zr_law_told.proofs.Informed.{Informed, informed}

module _ (acts : List Numbered) (m : Moment) (is : reached acts ≡ Some m) (x : Name) (r : RouterState) (found : router_of m.world.routers x ≡ Some r) where
  abbrev w : WorldState
  w = m.world

  i : Informed acts m
  i = at_some (Informed acts) (reached acts) m is (informed acts)

  sound : IsSound w
  sound = i.goes.sound

  -- a link that leads to no router leads to a client of this router
  its_client : (l : LinkPeer) → link_to r.node.links l.peer.id ≡ Some l → is_router l.peer.role ≡ false → (s : ClientState) × (client_of w.clients l.peer.id ≡ Some s) × (s.router ≡ x)
  its_client l linked role = by (client_of w.clients l.peer.id) refl
    where
      here : is_some (end_of w.ends (x, l.peer.id)) ≡ true
      here = passes_there (λ s. s.up) w.ends (x, l.peer.id) (sym (sound.links x l.peer.id r found) ∙ ap is_some linked)

      no_router : is_some (router_of w.routers l.peer.id) ≡ false
      no_router = sym (sound.roles x l.peer.id r l found linked) ∙ role

      there : is_some (client_of w.clients l.peer.id) ≡ true
      there = ap (λ b. b || is_some (client_of w.clients l.peer.id)) (sym no_router) ∙ sound.neighbours x l.peer.id here

      by : (o : Option ClientState) → client_of w.clients l.peer.id ≡ o → (s : ClientState) × (client_of w.clients l.peer.id ≡ Some s) × (s.router ≡ x)
      by None e = absurd (false≢true (sym (ap is_some e) ∙ there))
      by (Some s) e = (s, e, i.goes.clients.homes x l.peer.id s e here)

  put_is : (c : Name) → told_by m.report c ++ waits w.ends x c ≡ put_for m x c
  put_is c = ap (λ z. told_by m.report c ++ z) (by (end_of w.ends (x, c)))
    where
      by : (o : Option EndState) → msgs_in (queue_at o) ≡ option_map_or (λ (s : EndState). map (λ (y : Tagged). y.msg) s.queue) o []
      by None = refl
      by (Some s) = refl

  told_is : (l : LinkPeer) → link_to r.node.links l.peer.id ≡ Some l → is_router l.peer.role ≡ false → Agrees (map_on r.told l.link.0) (leave (put_for m x l.peer.id))
  told_is l linked role =
      let c = its_client l linked role in
      subst (λ z. Agrees (map_on r.told l.link.0) (leave z)) (put_is l.peer.id)
      (subst (λ (y : Name). Agrees (map_on r.told l.link.0) (leave (told_by m.report l.peer.id ++ waits w.ends y l.peer.id))) c.2
      (i.told.agrees l.peer.id c.0 c.1 (map_on r.told l.link.0)
      (ap (λ o. told_of o l.peer.id) (ap (λ (y : Name). router_of w.routers y) c.2 ∙ found) ∙ ap (option_map (λ (j : LinkPeer). map_on r.told j.link.0)) linked)))

  maps_agree : (k : ℕ) → leads_to_client r.node.links k ≡ true → Agrees (map_on r.told k) (leave (put_on m x r.node.links k))
  maps_agree k leads = by (link_at r.node.links k) refl leads
    where
      by : (o : Option LinkPeer) → link_at r.node.links k ≡ o → option_map_or (λ l. not (is_router l.peer.role)) o false ≡ true →
          Agrees (map_on r.told k) (leave (option_map_or (λ (l : LinkPeer). put_for m x l.peer.id) o []))
      by None e h = absurd (false≢true h)
      by (Some l) e h =
          let j = find_in (is_link k) r.node.links l e in
          let linked : link_to r.node.links l.peer.id ≡ Some l = each_in _ r.node.links l (sound.unique x r found).names j.0 in
          subst (λ n. Agrees (map_on r.told n) (leave (put_for m x l.peer.id))) (eqb-true l.link.0 k j.1) (told_is l linked (not-true (is_router l.peer.role) h))

  none_else : (k : ℕ) → leads_to_client r.node.links k ≡ false → map_on r.told k ≡ []
  none_else k apart = (i.told.routers x r found).forgotten k apart

pub told_maps_are_heard : ToldMapsAreHeard
told_maps_are_heard acts m x r is found = record { clients = maps_agree acts m is x r found; nothing_else = none_else acts m is x r found }
