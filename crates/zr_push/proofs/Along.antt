-- A sample along a route is, on the link of each number, what the definition of routing says.
use Rattle.std.proofs.Common.{◌≡◌, ℕ, Bool, cond, List, [], ◌∷◌, ◌++◌, Option, Some, None, map, filter, refl, sym, ap, ◌∙◌}
use Rattle.std.specs.Option.{option_map_or}
use Rattle.zr_id.specs.declared.link.LinkNo.{LinkNo}
use Rattle.zr_msg.specs.declared.content.Parts.{Parts}
use Rattle.zr_msg.specs.declared.msg.Msg.{Msg}
use Rattle.zr_msg.specs.declared.msg.Msg.TheVariants.{Push}
use Rattle.zr_msg.specs.declared.peer.LinkPeer.{LinkPeer}
use Rattle.zr_msg.specs.declared.peer.Role.{Role}
use Rattle.zr_msg.specs.declared.peer.Role.TheVariants.{Client, Router}
use Rattle.zr_node_spec.specs.Queries.{tree_for}
use Rattle.zr_node_spec.specs.Samples.{push_to, push_on, push_along, tree_by, tree_of, sends_push}
use Rattle.zr_node_spec.specs.Tables.{TableState, AreNumbered, link_at}
use Rattle.zr_node_spec.specs.Event.{on_link, Tells, TellsPrefix}
use Rattle.zr_lists.specs.Prefix.{IsPrefixBehind}
use Rattle.zr_node_spec.proofs.Told.{tells_list, tells_prefix}
use Rattle.zr_push_sought.specs.declared.sought.Sought.TheVariants.{Subscribers}
use Rattle.zr_push.specs.Route.{push_for, route_of, sent_along}
use Rattle.zr_push.specs.declared.route.RouteLink.{RouteLink}
use Rattle.zr_push.proofs.Stops.{is_told, told_stops, kept_at, on_kept, told_each}

module _ (t : TableState) (from : ℕ) (tree : List ℕ) (content : Parts) where
  abbrev goes : LinkPeer → Bool
  goes l = is_told t from tree Subscribers content.key l l.peer.role

  abbrev said : LinkPeer → Msg
  said l = Push (tree_for tree l.peer.role) content

  one_link : (l : LinkPeer) (r : Role) → cond (is_told t from tree Subscribers content.key l r) (Push (tree_for tree r) content ∷ []) [] ≡ push_to t from tree content l r
  one_link l Client = refl
  one_link l Router = refl

  at_link : (o : Option LinkPeer) → option_map_or (λ l. kept_at goes said l) o [] ≡ push_on t from tree content o
  at_link None = refl
  at_link (Some l) = one_link l l.peer.role

  pub on_route : AreNumbered t.links → (to : LinkNo) → on_link to (sent_along (route_of t tree Subscribers content.key) from tree content) ≡ push_along t from (Some tree) content to.0
  on_route up to =
      ap (λ ss. on_link to (map (λ s. push_for tree content s) ss)) (told_stops t from tree Subscribers content.key)
      ∙ ap (λ xs. on_link to xs) (told_each (λ n r. Push (tree_for tree r) content) (filter goes t.links))
      ∙ on_kept goes said t.links up to
      ∙ at_link (link_at t.links to.0)

-- a sample of a link in the tree that it stays in
pub pushed : (t : TableState) (from : LinkPeer) (named tree : Option (List ℕ)) (content : Parts) → link_at t.links from.link.0 ≡ Some from → tree ≡ tree_by t from from.peer.role named
    → (n : ℕ) → push_along t from.link.0 tree content n ≡ sends_push t from.link.0 named content n
pushed t from named tree content at e n =
    ap (λ o. push_along t from.link.0 o content n) e ∙ ap (λ l. push_along t from.link.0 (tree_of t l named) content n) (sym at)

-- where these stops are the route in the tree that it stays in
module _ (t : TableState) (from : LinkPeer) (named : Option (List ℕ)) (tree : List ℕ) (content : Parts) (up : AreNumbered t.links) (at : link_at t.links from.link.0 ≡ Some from)
    (stays : Some tree ≡ tree_by t from from.peer.role named) (stops : List RouteLink) (is : stops ≡ route_of t tree Subscribers content.key) where
  sent : (to : LinkNo) → on_link to (sent_along stops from.link.0 tree content) ≡ sends_push t from.link.0 named content to.0
  sent to = ap (λ ss. on_link to (sent_along ss from.link.0 tree content)) is ∙ on_route t from.link.0 tree content up to ∙ pushed t from named (Some tree) content at stays to.0

  pub along_tells : (before now : List (LinkNo × Msg)) → now ≡ before ++ sent_along stops from.link.0 tree content → Tells (sends_push t from.link.0 named content) before now
  along_tells before now e = tells_list (sends_push t from.link.0 named content) before (sent_along stops from.link.0 tree content) now sent e

  pub along_prefix : (before now : List (LinkNo × Msg)) → IsPrefixBehind before (sent_along stops from.link.0 tree content) now → TellsPrefix (sends_push t from.link.0 named content) before now
  along_prefix before now h = tells_prefix (sends_push t from.link.0 named content) before (sent_along stops from.link.0 tree content) now sent h
