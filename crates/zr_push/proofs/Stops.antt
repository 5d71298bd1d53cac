-- The stops of a route, and what is told to them: on the link of each number, what is told to the link of that number if it is on the route.
use Rattle.std.proofs.Common.{◌≡◌, ℕ, ◌==◌, ◌&&◌, not, Bool, true, false, cond, List, [], ◌∷◌, Option, Some, None, map, filter, refl, sym, ap, ◌∙◌}
use Rattle.std.specs.Option.{option_map_or}
use Rattle.std.proofs.lemmas.Bool.{eqb-true}
use Rattle.zr_graph.specs.Record.{has}
use Rattle.zr_id.specs.declared.link.LinkNo.{LinkNo}
use Rattle.zr_msg.specs.declared.msg.Msg.{Msg}
use Rattle.zr_msg.specs.declared.peer.LinkPeer.{LinkPeer}
use Rattle.zr_msg.specs.declared.peer.Role.{Role}
use Rattle.zr_msg.specs.declared.peer.Role.TheVariants.{Client, Router}
use Rattle.zr_node_spec.specs.Tables.{TableState, AreNumbered, link_at}
use Rattle.zr_node_spec.specs.Event.{on_link}
use Rattle.zr_node_spec.proofs.Links.{none_behind, ascending_behind}
use Rattle.zr_push.specs.declared.route.RouteLink.{RouteLink}
use Rattle.zr_push_sought.specs.declared.sought.Sought.{Sought}
use Rattle.zr_push_sought.specs.Sought.{has_declared, leads_to}
use Rattle.zr_push.specs.Route.{is_on_route, is_stop, stop_at, route_of, goes_on, stops_from}

-- tests that answer the same keep the same
pub kept_same : (p q : LinkPeer → Bool) (links : List LinkPeer) → ((l : LinkPeer) → p l ≡ q l) → filter p links ≡ filter q links
kept_same p q [] h = refl
kept_same p q (l ∷ links) h = by (p l) (q l) (h l) (kept_same p q links h)
  where
    by : (a b : Bool) → a ≡ b → filter p links ≡ filter q links → cond a (l ∷ filter p links) (filter p links) ≡ cond b (l ∷ filter q links) (filter q links)
    by true true e ih = ap (λ ls. l ∷ ls) ih
    by true false e ih = cc
    by false true e ih = cc
    by false false e ih = ih

-- where these neighbours are those on the way, a link is a stop where it is on the route
pub stops_same : (t : TableState) (hops : List (List ℕ)) (tree : List ℕ) (sought : Sought) (key : List ℕ) → ((name : List ℕ) → has hops name ≡ leads_to t tree sought key name)
    → map (λ l. stop_at l) (filter (λ l. is_stop t hops sought key l l.peer.role) t.links) ≡ route_of t tree sought key
stops_same t hops tree sought key h =
    ap (λ ls. map (λ l. stop_at l) ls) (kept_same (λ l. is_stop t hops sought key l l.peer.role) (λ l. is_on_route t tree sought key l l.peer.role) t.links (λ l. one l l.peer.role))
  where
    one : (l : LinkPeer) (r : Role) → is_stop t hops sought key l r ≡ is_on_route t tree sought key l r
    one l Client = refl
    one l Router = h l.peer.id

-- ---- what goes on from a link

-- what has come over a link goes on over another one
abbrev pub is_told : TableState → ℕ → List ℕ → Sought → List ℕ → LinkPeer → Role → Bool
is_told t from tree sought key l Client = not (l.link.0 == from) && has_declared t.rows l.link.0 sought key
is_told t from tree sought key l Router = leads_to t tree sought key l.peer.id

-- a test of the stops is one of the links
kept_stops : (p : LinkPeer → Bool) (g : RouteLink → Bool) (links : List LinkPeer) → filter g (map (λ l. stop_at l) (filter p links)) ≡ map (λ l. stop_at l) (filter (λ l. g (stop_at l) && p l) links)
kept_stops p g [] = refl
kept_stops p g (l ∷ links) = by (p l) (g (stop_at l)) refl (kept_stops p g links)
  where
    rest : List LinkPeer
    rest = filter (λ k. g (stop_at k) && p k) links

    by : (a b : Bool) → g (stop_at l) ≡ b → filter g (map (λ k. stop_at k) (filter p links)) ≡ map (λ k. stop_at k) rest
        → filter g (map (λ k. stop_at k) (cond a (l ∷ filter p links) (filter p links))) ≡ map (λ k. stop_at k) (cond (b && a) (l ∷ rest) rest)
    by true true e ih = rw e (ap (λ ss. stop_at l ∷ ss) ih)
    by true false e ih = rw e ih
    by false true e ih = ih
    by false false e ih = ih

pub told_stops : (t : TableState) (from : ℕ) (tree : List ℕ) (sought : Sought) (key : List ℕ) → stops_from (route_of t tree sought key) from ≡ map (λ l. stop_at l) (filter (λ l. is_told t from tree sought key l l.peer.role) t.links)
told_stops t from tree sought key =
    kept_stops (λ l. is_on_route t tree sought key l l.peer.role) (λ s. goes_on from s s.role) t.links
    ∙ ap (λ ls. map (λ l. stop_at l) ls)
    (kept_same (λ l. goes_on from (stop_at l) l.peer.role && is_on_route t tree sought key l l.peer.role) (λ l. is_told t from tree sought key l l.peer.role) t.links (λ l. one l l.peer.role))
  where
    one : (l : LinkPeer) (r : Role) → (goes_on from (stop_at l) r && is_on_route t tree sought key l r) ≡ is_told t from tree sought key l r
    one l Client = refl
    one l Router = refl

-- ---- what is told

-- a message of its own for each link that a test keeps
abbrev pub each_kept : (LinkPeer → Bool) → (LinkPeer → Msg) → List LinkPeer → List (LinkNo × Msg)
each_kept test said links = map (λ l. (l.link, said l)) (filter test links)

-- is told to the link of a number
abbrev pub kept_at : (LinkPeer → Bool) → (LinkPeer → Msg) → LinkPeer → List Msg
kept_at test said l = cond (test l) (said l ∷ []) []

pub on_kept : (test : LinkPeer → Bool) (said : LinkPeer → Msg) (links : List LinkPeer) → AreNumbered links → (to : LinkNo)
    → on_link to (each_kept test said links) ≡ option_map_or (λ l. kept_at test said l) (link_at links to.0) []
on_kept test said [] up to = refl
on_kept test said (l ∷ links) up to = by (test l) (l.link.0 == to.0) refl refl (on_kept test said links (ascending_behind l links up) to)
  where
    at : Option LinkPeer → List Msg
    at o = option_map_or (λ k. kept_at test said k) o []

    by : (t b : Bool) → test l ≡ t → (l.link.0 == to.0) ≡ b → on_link to (each_kept test said links) ≡ at (link_at links to.0)
        → on_link to (map (λ k. (k.link, said k)) (cond t (l ∷ filter test links) (filter test links))) ≡ at (cond b (Some l) (link_at links to.0))
    by t true p e ih = last t p (ih ∙ ap at none)
      where
        none : link_at links to.0 ≡ None
        none = ap (λ n. link_at links n) (sym (eqb-true l.link.0 to.0 e)) ∙ none_behind l links up

        last : (t : Bool) → test l ≡ t → on_link to (each_kept test said links) ≡ [] → on_link to (map (λ k. (k.link, said k)) (cond t (l ∷ filter test links) (filter test links))) ≡ kept_at test said l
        last true p h = rw (p, e) (ap (λ ms. said l ∷ ms) h)
        last false p h = rw p h
    by true false p e ih = rw e ih
    by false false p e ih = ih

-- what is told to the stops is told to their links
pub told_each : (said : LinkNo → Role → Msg) (links : List LinkPeer) →
    map {B = LinkNo × Msg} (λ (s : RouteLink). (s.link, said s.link s.role)) (map (λ l. stop_at l) links) ≡ map {B = LinkNo × Msg} (λ l. (l.link, said l.link l.peer.role)) links
told_each said [] = refl
told_each said (l ∷ links) = ap (λ xs. (l.link, said l.link l.peer.role) ∷ xs) (told_each said links)
