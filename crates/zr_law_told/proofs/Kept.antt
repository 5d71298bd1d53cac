-- A router keeps interests of the links that lead to its clients alone (`AreKept`), and each event leaves it so.
use Rattle.std.proofs.Common.{◌≡◌, ℕ, Bool, true, false, cond, not, List, [], Option, Some, None, refl, sym, ap, ◌∙◌}
use Rattle.std.specs.Prelude.{◌==◌, ◌&&◌}
use Rattle.std.proofs.lemmas.Bool.{true≢false, false_from_ne_true, eqb-true}
use Rattle.zr_id.specs.declared.link.LinkNo.{LinkNo}
use Rattle.zr_lists.proofs.Finds.{find_in}
use Rattle.zr_lists.proofs.Numbers.{turned}
use Rattle.zr_msg.specs.declared.event.Event.TheVariants.{Down, From}
use Rattle.zr_msg.specs.declared.msg.Msg.{Msg}
use Rattle.zr_msg.specs.declared.peer.LinkPeer.{LinkPeer}
use Rattle.zr_msg.specs.Peer.{PeerState}
use Rattle.zr_local.specs.Clients.{interests_on}
use Rattle.zr_node_spec.specs.Tables.{is_link, link_at, link_to, free_link, leads_to_client}
use Rattle.zr_node_spec.specs.State.{NodeState, new_link}
use Rattle.zr_node_spec.specs.Table.{without_link, after}
use Rattle.zr_node_spec.proofs.FreeLink.{free_is_free}
use Rattle.zr_node_spec.proofs.LinksStay.{links_from}
use Rattle.zr_node_spec.proofs.Links.{is_client}
use Rattle.zr_world_spec.specs.World.{RouterState}
use Rattle.zr_world_spec.specs.Acts.{up_event}
use Rattle.zr_world_spec.specs.Sound.{AreUnique}
use Rattle.zr_world_spec.proofs.Links.{kept, link_at_with, link_at_without}
use Rattle.zr_law_told.proofs.Interests.{heard_there, down_is}

abbrev pub AreKept : NodeState → Type 0
AreKept n = (k : ℕ) → leads_to_client n.links k ≡ false → interests_on n.clients k ≡ []

module _ (r : RouterState) (unique : AreUnique r.node.links) (h : AreKept r.node) where
  pub up_kept : (peer : PeerState) → link_to r.node.links peer.id ≡ None → AreKept (after r.node (up_event r peer))
  up_kept peer none k away = by (link.link.0 == k) refl
    where
      link : LinkPeer
      link = new_link (record { 0 = free_link r.node.links }) peer

      by : (b : Bool) → (link.link.0 == k) ≡ b → interests_on r.node.clients k ≡ []
      by true e = h k (ap (λ n. is_client (link_at r.node.links n)) (sym (eqb-true link.link.0 k e)) ∙ ap is_client (free_is_free r.node.links))
      by false e = h k (sym (ap is_client (link_at_with r.node.links link unique (free_is_free r.node.links) none k ∙ ap (λ b. cond b (Some link) (link_at r.node.links k)) e)) ∙ away)

  pub down_kept : (link : LinkNo) → AreKept (after r.node (Down link))
  down_kept link k away = down_is r.node link k ∙ by (leads_to_client r.node.links link.0) refl (link.0 == k) refl
    where
      -- the link of another number stays
      other : (link.0 == k) ≡ false → leads_to_client (without_link r.node.links link.0) k ≡ leads_to_client r.node.links k
      other e = ap is_client (link_at_without r.node.links unique link.0 k) ∙ at (link_at r.node.links k) refl
        where
          at : (o : Option LinkPeer) → link_at r.node.links k ≡ o → is_client (kept (λ l. not (is_link link.0 l)) o) ≡ is_client o
          at None f = refl
          at (Some l) f =
              let number : l.link.0 ≡ k = eqb-true l.link.0 k (find_in (is_link k) r.node.links l f).1 in
              ap (λ b. is_client (cond (not b) (Some l) None)) (ap (λ n. n == link.0) number ∙ turned link.0 k e)

      by : (b : Bool) → leads_to_client r.node.links link.0 ≡ b → (c : Bool) → (link.0 == k) ≡ c → cond (b && c) [] (interests_on r.node.clients k) ≡ []
      by true e true f = refl
      by true e false f = h k (sym (other f) ∙ away)
      by false e true f = h k (ap (leads_to_client r.node.links) (sym (eqb-true link.0 k f)) ∙ e)
      by false e false f = h k (sym (other f) ∙ away)

  pub from_kept : (link : LinkNo) (msg : Msg) → AreKept (after r.node (From link msg))
  from_kept link msg k away =
      heard_there r.node link k (λ leads. false_from_ne_true (link.0 == k) (λ e. true≢false (sym leads ∙ ap (leads_to_client r.node.links) (eqb-true link.0 k e) ∙ gone))) msg ∙ h k gone
    where
      gone : leads_to_client r.node.links k ≡ false
      gone = ap (λ (ls : List LinkPeer). leads_to_client ls k) (sym (links_from r.node link msg)) ∙ away
