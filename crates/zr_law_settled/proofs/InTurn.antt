-- What is oldest on a wire comes in turn (`in_turn`): what a client takes back is there, and a change that a router tells has no gap before it, since
-- what waits on a wire between routers waits on that of an unbroken link. That requests find free numbers is a premise here.
use Rattle.std.proofs.Common.{◌≡◌, ℕ, Bool, true, false, not, List, ◌∷◌, ◌++◌, Some, is_some, refl, sym, ap, ◌∙◌, subst}
use Rattle.std.specs.Prelude.{◌||◌}
use Rattle.std.specs.Option.{option_map_or}
use Rattle.std.proofs.lemmas.Bool.{true≢false, not-true}
use Rattle.zr_lists.proofs.Finds.{In}
use Rattle.zr_msg.specs.declared.decl.Decl.{Decl}
use Rattle.zr_msg.specs.declared.msg.Msg.{Msg}
use Rattle.zr_msg.specs.declared.msg.Msg.TheVariants.{Sub, Unsub, Token, Untoken, Able, Unable, Interest, EndInterest, ToldSub, ToldAble, ToldUnsub, ToldToken, ToldUntoken, ToldUnable, ToldEnd, Push, Request, Response, Final, State, Step, Snap}
use Rattle.zr_msg.specs.declared.peer.LinkPeer.{LinkPeer}
use Rattle.zr_log.specs.Known.{is_gap}
use Rattle.zr_node_spec.specs.Tables.{is_router, link_to, leads_to_router, leads_to_client}
use Rattle.zr_world_spec.specs.World.{Tagged, RouterState, ClientState, EndState, WorldState, router_of, client_of, end_of, is_empty, is_unbroken, wire_at}
use Rattle.zr_world_spec.specs.Sound.{IsSound}
use Rattle.zr_world_spec.proofs.Keyed.{there}
use Rattle.zr_law_settled.specs.Events.{RequestsAreTaken}
use Rattle.zr_law_settled.proofs.Spreading.{Name}
use Rattle.zr_law_settled.proofs.Links.{AreKnown, linked_to, is_at, leads_is}
use Rattle.zr_law_settled.proofs.Worlds.{there_in, queue_at, notes}
use Rattle.zr_law_settled.proofs.Changes.{links_known}
use Rattle.zr_law_settled.proofs.Logs.{knows_logs, logs_of}
use Rattle.zr_law_settled.proofs.Values.{brings}
use Rattle.zr_law_settled.proofs.ClientRows.{ClientsHold}
use Rattle.zr_law_settled.proofs.Asked.{unsub_taken, unable_taken, untoken_taken}
use Rattle.zr_law_settled.proofs.Gaps.{Gapless, first_fits}
use Rattle.zr_law_settled.proofs.GapKeeping.{GapsHold}
use Rattle.zr_law_settled.proofs.Orderly.{Orderly, has_wire}
use Rattle.zr_law_settled.proofs.Weights.{IsInTurn}

-- the oldest change on the wire from a router over an unbroken link has no gap before it
no_gap : (w : WorldState) → GapsHold w → (x b : Name) (r : RouterState) → router_of w.routers x ≡ Some r → there_in w b ≡ true → (e : EndState) → end_of w.ends (x, b) ≡ Some e → is_unbroken w.ends (b, x) ≡ true →
    (source : Name) (number : ℕ) (added : Bool) (decl : Decl) (tag : ℕ) (xs : List Tagged) → e.wire ≡ record { msg = Step source number added decl; tag = tag } ∷ xs → is_gap r.node.known source number ≡ false
no_gap w g x b r found router e at_end whole source number added decl tag xs front =
    first_fits r.node source number (record { added = added; decl = decl }) (notes brings xs ++ notes brings (queue_at (end_of w.ends (b, x))))
    (subst (λ n. Gapless source n (notes brings (record { msg = Step source number added decl; tag = tag } ∷ xs) ++ notes brings (queue_at (end_of w.ends (b, x))))) (ap (λ o. (knows_logs o source).number) found)
    (subst (λ ws. Gapless source (logs_of w x source).number (notes brings ws ++ notes brings (queue_at (end_of w.ends (b, x))))) (ap wire_at at_end ∙ front)
    (g.gapless b x source router (ap is_some found) whole)))

module _ (w : WorldState) (sound : IsSound w) (orderly : Orderly w) (clients : ClientsHold w) (gaps : GapsHold w) (requests : RequestsAreTaken w) (x y : Name) (r : RouterState) (found : router_of w.routers x ≡ Some r)
    (e : EndState) (at_end : end_of w.ends (x, y) ≡ Some e) (l : LinkPeer) (linked : link_to r.node.links y ≡ Some l) (tag : ℕ) (xs : List Tagged) where
  links : AreKnown (there_in w) r.node.links
  links = links_known w sound x r found

  it : In l r.node.links × (l.peer.id ≡ y)
  it = linked_to r.node.links y l linked

  -- a link leads to a router where its neighbour is one, and else to a client
  from_router : leads_to_router r.node.links l.link.0 ≡ true → there_in w y ≡ true
  from_router leads = sym (leads_is (there_in w) r.node.links links l it.0 ∙ ap (there_in w) it.1) ∙ leads

  from_client : leads_to_client r.node.links l.link.0 ≡ true → (s : ClientState) × (client_of w.clients y ≡ Some s)
  from_client leads = there (client_of w.clients y) (sym (ap (λ b. b || is_some (client_of w.clients y)) none) ∙ sound.neighbours x y (ap is_some at_end))
    where
      role : leads_to_client r.node.links l.link.0 ≡ not (there_in w y)
      role = ap (λ o. option_map_or (λ j. not (is_router j.peer.role)) o false) (is_at (there_in w) r.node.links links l it.0) ∙ ap not (links.roles l it.0 ∙ ap (there_in w) it.1)

      none : there_in w y ≡ false
      none = not-true (there_in w y) (sym role ∙ leads)

  -- a wire on which something waits is that of an unbroken link
  unbroken : (m : Tagged) → e.wire ≡ m ∷ xs → there_in w y ≡ true → is_unbroken w.ends (y, x) ≡ true
  unbroken m front router = sym (orderly.both_ends (x, y) (ap is_some found) router) ∙ by (is_unbroken w.ends (x, y)) refl
    where
      by : (b : Bool) → is_unbroken w.ends (x, y) ≡ b → b ≡ true
      by true whole = refl
      by false cut = absurd (true≢false (sym (ap has_wire at_end ∙ ap (λ ws. not (is_empty ws)) front) ∙ orderly.broken_links (x, y) cut))

  pub in_turn : (msg : Msg) → e.wire ≡ record { msg = msg; tag = tag } ∷ xs → IsInTurn r.node l.link.0 msg
  in_turn (Sub id key) front = tt
  in_turn (Unsub id) front = λ leads. let c = from_client leads in unsub_taken w clients x y r c.0 l found c.1 linked e at_end tag xs id front
  in_turn (Token id key) front = tt
  in_turn (Untoken id) front = λ leads. let c = from_client leads in untoken_taken w clients x y r c.0 l found c.1 linked e at_end tag xs id front
  in_turn (Able id key complete) front = tt
  in_turn (Unable id) front = λ leads. let c = from_client leads in unable_taken w clients x y r c.0 l found c.1 linked e at_end tag xs id front
  in_turn (Interest id current future kinds key aggregate) front = tt
  in_turn (EndInterest id) front = tt
  in_turn (ToldSub id key interest) front = tt
  in_turn (ToldToken id key interest) front = tt
  in_turn (ToldAble id key complete interest) front = tt
  in_turn (ToldUnsub id) front = tt
  in_turn (ToldUntoken id) front = tt
  in_turn (ToldUnable id) front = tt
  in_turn (ToldEnd interest) front = tt
  in_turn (Push tree content) front = tt
  in_turn (Request tree id target content) front = requests x y r l e found linked at_end tree id target content tag xs front
  in_turn (Response id content) front = tt
  in_turn (Final id extras) front = tt
  in_turn (State told) front = tt
  in_turn (Step source number added decl) front = λ leads.
      let router = from_router leads in
      no_gap w gaps x y r found router e at_end (unbroken (record { msg = Step source number added decl; tag = tag }) front router) source number added decl tag xs front
  in_turn (Snap source number ds) front = tt
