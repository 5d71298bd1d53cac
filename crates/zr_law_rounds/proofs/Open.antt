-- Where a world is settled, each link of a router is that of an end that is up and unbroken, and the neighbour has an end to the router exactly where it is one.
use Rattle.std.proofs.Common.{◌≡◌, ℕ, Bool, true, false, not, List, Option, Some, None, refl, sym, ap, ◌∙◌}
use Rattle.std.specs.Prelude.{◌&&◌, ◌||◌, is_some}
use Rattle.std.specs.Option.{option_map_or}
use Rattle.std.proofs.lemmas.Bool.{false≢true, and_parts, and_from}
use Rattle.zr_lists.proofs.Finds.{find_in}
use Rattle.zr_lists.proofs.Elements.{each_in}
use Rattle.zr_msg.specs.declared.peer.LinkPeer.{LinkPeer}
use Rattle.zr_node_spec.specs.Tables.{is_link, is_router, link_at, link_to}
use Rattle.zr_world_spec.specs.World.{Tagged, RouterState, EndState, End, WorldState, router_of, end_of, is_up, is_met, is_calm_end, is_settled, turned}
use Rattle.zr_world_spec.specs.Sound.{IsSound}
use Rattle.zr_world_spec.proofs.Ends.{end_passes}
use Rattle.zr_world_spec.proofs.Links.{named_link}
use Rattle.zr_world_spec.proofs.Fits.{up_is_there}
use Rattle.zr_law_fan.specs.Samples.{Handling, Taking, can_go}

pub record IsOpen (w : WorldState) (x : List ℕ) (l : LinkPeer) : Type 0 where
  pub end : EndState
  pub there : end_of w.ends (x, l.peer.id) ≡ Some end
  pub up : end.up ≡ true
  pub unbroken : end.unbroken ≡ true
  pub turned : is_some (end_of w.ends (l.peer.id, x)) ≡ is_router l.peer.role
  pub router : is_some (router_of w.routers l.peer.id) ≡ is_router l.peer.role

module _ (w : WorldState) (sound : IsSound w) (settled : is_settled w ≡ true) (x : List ℕ) (r : RouterState) (found : router_of w.routers x ≡ Some r) where
  -- an end that is up
  there_up : (e : End) (o : Option EndState) → end_of w.ends e ≡ o → option_map_or (λ s. s.up) o false ≡ true → (s : EndState) × (end_of w.ends e ≡ Some s) × (s.up ≡ true)
  there_up e None is up = absurd (false≢true up)
  there_up e (Some s) is up = (s, is, up)

  pub met : (e : End) (s : EndState) → end_of w.ends e ≡ Some s → s.up ≡ true → (s.unbroken && (not (is_some (router_of w.routers e.1)) || is_up w.ends (turned e))) ≡ true
  met e s there up =
      let passes = end_passes (λ z. is_met w z.0 z.1 && is_calm_end z.1) w.ends e s settled there in
      let one = (and_parts (is_met w e s) (is_calm_end s) passes).0 in
      sym (ap (λ b. not b || (s.unbroken && (not (is_some (router_of w.routers e.1)) || is_up w.ends (turned e)))) up) ∙ one

  -- the neighbour's own end
  pub turned_is : (y : List ℕ) (b c : Bool) → is_some (router_of w.routers y) ≡ b → is_some (end_of w.ends (y, x)) ≡ c → (not (is_some (router_of w.routers y)) || is_up w.ends (y, x)) ≡ true → c ≡ b
  turned_is y true true k e up = refl
  turned_is y true false k e up =
      let is : is_up w.ends (y, x) ≡ true = sym (ap (λ b. not b || is_up w.ends (y, x)) k) ∙ up in
      absurd (false≢true (sym e ∙ up_is_there (end_of w.ends (y, x)) is))
  turned_is y false true k e up = absurd (false≢true (sym k ∙ sound.routers y x e))
  turned_is y false false k e up = refl

  pub named_open : (y : List ℕ) (l : LinkPeer) → link_to r.node.links y ≡ Some l → l.peer.id ≡ y → IsOpen w x l
  named_open y l linked name =
      let up : is_up w.ends (x, y) ≡ true = sym (sound.links x y r found) ∙ ap is_some linked in
      let at = there_up (x, y) (end_of w.ends (x, y)) refl up in
      let whole = met (x, y) at.0 at.1 at.2 in
      let parts = and_parts at.0.unbroken (not (is_some (router_of w.routers y)) || is_up w.ends (y, x)) whole in
      let role : is_some (router_of w.routers y) ≡ is_router l.peer.role = sym (sound.roles x y r l found linked) in
      record {
        end = at.0;
        there = ap (λ z. end_of w.ends (x, z)) name ∙ at.1;
        up = at.2;
        unbroken = parts.0;
        turned = ap (λ z. is_some (end_of w.ends (z, x))) name ∙ turned_is y (is_some (router_of w.routers y)) (is_some (end_of w.ends (y, x))) refl refl parts.1 ∙ role;
        router = ap (λ z. is_some (router_of w.routers z)) name ∙ role;
      }

  pub to_open : (y : List ℕ) (l : LinkPeer) → link_to r.node.links y ≡ Some l → IsOpen w x l
  to_open y l linked = named_open y l linked (named_link r.node.links y l linked)

  pub at_open : (number : ℕ) (l : LinkPeer) → link_at r.node.links number ≡ Some l → IsOpen w x l
  at_open number l linked =
      named_open l.peer.id l (each_in _ r.node.links l (sound.unique x r found).names (find_in (is_link number) r.node.links l linked).0) refl

-- a message may be handled there, and may be taken there
pub can_handle_there : (w : WorldState) (x : List ℕ) (l : LinkPeer) (m : Tagged) → IsOpen w x l → can_go w (Handling (x, l.peer.id) m) ≡ true
can_handle_there w x l m ready = ap (λ o. option_map_or (λ s. s.up) o false) ready.there ∙ ready.up

pub can_take_there : (w : WorldState) (x : List ℕ) (l : LinkPeer) (m : Tagged) → IsOpen w x l → can_go w (Taking (x, l.peer.id) m) ≡ true
can_take_there w x l m ready = ap (λ o. option_map_or (λ s. s.up && s.unbroken) o false) ready.there ∙ and_from ready.end.up ready.end.unbroken ready.up ready.unbroken
