-- A request along its route is, on the link of each number, what the definition of routing says, and it is pending there as that says.
use Rattle.std.proofs.Common.{◌≡◌, ℕ, ◌<◌, arith, Bool, true, List, [], ◌∷◌, ◌++◌, append-nil, suc, length, Option, map, filter, refl, sym, ap, ◌∙◌}
use Rattle.std.specs.List.{list_any}
use Rattle.zr_id.specs.declared.link.LinkNo.{LinkNo}
use Rattle.zr_msg.specs.declared.content.Parts.{Parts}
use Rattle.zr_msg.specs.declared.msg.Msg.{Msg}
use Rattle.zr_msg.specs.declared.msg.Msg.TheVariants.{Request}
use Rattle.zr_msg.specs.declared.msg.Target.{Target}
use Rattle.zr_msg.specs.declared.msg.Target.TheVariants.{Best, All, Complete}
use Rattle.zr_msg.specs.declared.peer.LinkPeer.{LinkPeer}
use Rattle.zr_msg.specs.declared.peer.Role.{Role}
use Rattle.zr_msg.specs.declared.peer.Role.TheVariants.{Client, Router}
use Rattle.zr_pend_spec.specs.Pending.{begun, differ, free_number, is_full, opened}
use Rattle.zr_pend_spec.specs.Row.{RowState}
use Rattle.zr_pend_spec.specs.declared.branch.Asker.{Asker}
use Rattle.zr_pend_spec.specs.declared.branch.Branch.{Branch}
use Rattle.zr_push.specs.declared.route.RouteLink.{RouteLink}
use Rattle.zr_push.specs.Route.{stop_at, route_of, stops_from}
use Rattle.zr_push_sought.specs.Sought.{sought_by}
use Rattle.zr_push.proofs.Stops.{kept_same, is_told, told_stops, on_kept, told_each}
use Rattle.zr_pend_spec.specs.Held.{GatheringState}
use Rattle.zr_node_spec.specs.Queries.{gathering_if, is_asked, links_along, asked_links, tree_for, request_along, final_at_once, has_no_number, sends_request, after_request, asked_over}
use Rattle.zr_node_spec.specs.Tables.{TableState, AreNumbered}
use Rattle.zr_node_spec.specs.Event.{on_link, Tells, TellsPrefix}
use Rattle.zr_lists.specs.Prefix.{IsPrefixBehind}
use Rattle.zr_node_spec.proofs.Told.{tells_list, tells_prefix}
use Rattle.zr_node_spec.proofs.Apart.{kept_differ}
use Rattle.zr_query.specs.Asking.{IsRouteOf, links_of, asked_of, request_for, each_asked, all_asked, sent_by}
use Rattle.zr_query.proofs.Told.{ended_at_once}

-- ---- the links of a route

-- the links over which a request goes on
abbrev kept_links : TableState → ℕ → List ℕ → Target → List ℕ → List LinkPeer
kept_links t from tree target key = filter (λ l. is_asked t from tree target key l l.peer.role) t.links

-- what is sought is what can answer
told_asked : (t : TableState) (from : ℕ) (tree : List ℕ) (target : Target) (key : List ℕ) (l : LinkPeer) (r : Role) → is_told t from tree (sought_by target) key l r ≡ is_asked t from tree target key l r
told_asked t from tree Best key l Client = refl
told_asked t from tree Best key l Router = refl
told_asked t from tree All key l Client = refl
told_asked t from tree All key l Router = refl
told_asked t from tree Complete key l Client = refl
told_asked t from tree Complete key l Router = refl

stops_are_kept : (t : TableState) (from : ℕ) (tree : List ℕ) (target : Target) (key : List ℕ) (stops : List RouteLink) → stops ≡ route_of t tree (sought_by target) key →
    stops_from stops from ≡ map (λ l. stop_at l) (kept_links t from tree target key)
stops_are_kept t from tree target key stops e =
    ap (λ ss. stops_from ss from) e
    ∙ told_stops t from tree (sought_by target) key
    ∙ ap (λ ls. map (λ l. stop_at l) ls)
    (kept_same (λ l. is_told t from tree (sought_by target) key l l.peer.role) (λ l. is_asked t from tree target key l l.peer.role) t.links (λ l. told_asked t from tree target key l l.peer.role))

links_kept : (links : List LinkPeer) → links_of (map (λ l. stop_at l) links) ≡ map (λ l. l.link) links
links_kept [] = refl
links_kept (l ∷ links) = ap (λ ls. l.link ∷ ls) (links_kept links)

pub asked_is : (t : TableState) (from : ℕ) (named : Option (List ℕ)) (tree : List ℕ) (target : Target) (key : List ℕ) (stops : List RouteLink) → IsRouteOf t from named tree target key stops →
    asked_of stops from ≡ asked_links t from named target key
asked_is t from named tree target key stops h =
    ap (λ ss. links_of ss) (stops_are_kept t from tree target key stops h.stops_are)
    ∙ links_kept (kept_links t from tree target key)
    ∙ ap (λ o. links_along t from o target key) (sym h.stays)

-- ---- numbers

pub numbered_is : (rows : List RowState) (tree : List ℕ) (target : Target) (content : Parts) (stops : List RouteLink) →
    each_asked tree target content stops (map (λ (b : Branch). b.number) (opened rows (links_of stops))) ≡ all_asked rows tree target content stops
numbered_is rows tree target content [] = refl
numbered_is rows tree target content (s ∷ stops) = ap (λ xs. request_for tree target content s (free_number s.link rows) ∷ xs) (numbered_is rows tree target content stops)

-- where the numbers are those that the links are given
pub asked_all : (rows : List RowState) (tree : List ℕ) (target : Target) (content : Parts) (stops : List RouteLink) (links : List LinkNo) (numbers : List ℕ) → links ≡ links_of stops →
    numbers ≡ map (λ (b : Branch). b.number) (opened rows links) → each_asked tree target content stops numbers ≡ all_asked rows tree target content stops
asked_all rows tree target content stops links numbers e f =
    ap (λ ns. each_asked tree target content stops ns) (f ∙ ap (λ ls. map (λ (b : Branch). b.number) (opened rows ls)) e) ∙ numbered_is rows tree target content stops

pub as_many : (rows : List RowState) (stops : List RouteLink) → length (map (λ (b : Branch). b.number) (opened rows (links_of stops))) ≡ length stops
as_many rows [] = refl
as_many rows (s ∷ stops) = ap (λ n. suc n) (as_many rows stops)

pub some_links : (stops : List RouteLink) → length (links_of stops) ≡ length stops
some_links [] = refl
some_links (s ∷ stops) = ap (λ n. suc n) (some_links stops)

-- ---- whether there is a stop

pub none_is : (stops : List RouteLink) → length stops ≡ 0 → stops ≡ []
none_is [] h = refl
none_is (s ∷ stops) h = absurd (omega arith)

pub some_sent : (rows : List RowState) (from : Asker) (tree : List ℕ) (target : Target) (content : Parts) (stops : List RouteLink) → 0 < length stops →
    all_asked rows tree target content stops ≡ sent_by rows from tree target content stops
some_sent rows from tree target content [] h = absurd (omega arith)
some_sent rows from tree target content (s ∷ stops) h = refl

pub some_begun : (rows : List RowState) (from : Asker) (stops : List RouteLink) → 0 < length stops → begun rows from (links_of stops) ≡ asked_over rows from (links_of stops)
some_begun rows from [] h = absurd (omega arith)
some_begun rows from (s ∷ stops) h = refl

-- ---- what is sent

module _ (t : TableState) (rows : List RowState) (from : Asker) (tree : List ℕ) (target : Target) (content : Parts) where
  abbrev said : LinkPeer → Msg
  said l = Request (tree_for tree l.peer.role) (free_number l.link rows) target content

  -- to each of these links, or a final at once where there is none
  sent_kept : (links : List LinkPeer) (to : LinkNo) → on_link to (sent_by rows from tree target content (map (λ l. stop_at l) links))
      ≡ final_at_once from.link.0 from.number (map (λ l. l.link) links) to.0 ++ on_link to (map (λ l. (l.link, said l)) links)
  sent_kept [] to = ended_at_once from to ∙ sym (append-nil (final_at_once from.link.0 from.number [] to.0))
  sent_kept (l ∷ links) to = ap (λ xs. on_link to xs) (told_each (λ n r. Request (tree_for tree r) (free_number n rows) target content) (l ∷ links))

  pub sent_is : (named : Option (List ℕ)) (stops : List RouteLink) → IsRouteOf t from.link.0 named tree target content.key stops → (to : LinkNo)
      → on_link to (sent_by rows from tree target content (stops_from stops from.link.0)) ≡ sends_request t rows from.link.0 named from.number target content to.0
  sent_is named stops h to =
      ap (λ ss. on_link to (sent_by rows from tree target content ss)) (stops_are_kept t from.link.0 tree target content.key stops h.stops_are)
      ∙ sent_kept (kept_links t from.link.0 tree target content.key) to
      ∙ ap (λ ms. final_at_once from.link.0 from.number (map (λ l. l.link) (kept_links t from.link.0 tree target content.key)) to.0 ++ ms)
      (on_kept (λ l. is_asked t from.link.0 tree target content.key l l.peer.role) said t.links h.numbered to)
      ∙ ap (λ o. final_at_once from.link.0 from.number (links_along t from.link.0 o target content.key) to.0 ++ request_along t rows from.link.0 o target content to.0) (sym h.stays)

  -- what is said of these stops, where they are those of the route but for the asker, is said of the table
  module _ (named : Option (List ℕ)) (stops kept : List RouteLink) (h : IsRouteOf t from.link.0 named tree target content.key stops) (e : kept ≡ stops_from stops from.link.0) where
    on_each : (to : LinkNo) → on_link to (sent_by rows from tree target content kept) ≡ sends_request t rows from.link.0 named from.number target content to.0
    on_each to = ap (λ ss. on_link to (sent_by rows from tree target content ss)) e ∙ sent_is named stops h to

    pub request_told : (before now : List (LinkNo × Msg)) → now ≡ before ++ sent_by rows from tree target content kept → Tells (sends_request t rows from.link.0 named from.number target content) before now
    request_told before now k = tells_list _ _ _ _ on_each k

    pub request_prefix : (before now : List (LinkNo × Msg)) → IsPrefixBehind before (sent_by rows from tree target content kept) now → TellsPrefix (sends_request t rows from.link.0 named from.number target content) before now
    request_prefix before now k = tells_prefix _ _ _ _ on_each k

    links_are : links_of kept ≡ asked_links t from.link.0 named target content.key
    links_are = ap (λ ss. links_of ss) e ∙ asked_is t from.link.0 named tree target content.key stops h

    pub pending_is : (now : List RowState) → now ≡ asked_over rows from (links_of kept) → now ≡ after_request t rows from.link.0 named from.number target content.key
    pending_is now k = k ∙ ap (λ ls. asked_over rows from ls) links_are

    pub gathered_is : (held now : List GatheringState) (latest : Bool) → now ≡ gathering_if held latest from (links_of kept) → now ≡ gathering_if held latest from (asked_links t from.link.0 named target content.key)
    gathered_is held now latest k = k ∙ ap (λ ls. gathering_if held latest from ls) links_are

    pub room_is : (b : Bool) → list_any (λ l. is_full l rows) (links_of kept) ≡ b → has_no_number rows (asked_links t from.link.0 named target content.key) ≡ b
    room_is b k = ap (λ ls. has_no_number rows ls) (sym links_are) ∙ k

-- ---- the links of a route differ

pub route_differs : (t : TableState) (from : ℕ) (tree : List ℕ) (target : Target) (key : List ℕ) (stops : List RouteLink) → AreNumbered t.links → stops ≡ route_of t tree (sought_by target) key → differ (asked_of stops from) ≡ true
route_differs t from tree target key stops up e =
    ap (λ ss. differ (links_of ss)) (stops_are_kept t from tree target key stops e)
    ∙ ap (λ ls. differ ls) (links_kept (kept_links t from tree target key))
    ∙ kept_differ (λ l. is_asked t from tree target key l l.peer.role) t.links up
