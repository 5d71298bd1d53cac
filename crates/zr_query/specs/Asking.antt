-- The route of a request, and the request along it.
use Rattle.std.specs.Prelude.{◌≡◌, ℕ, List, [], ◌∷◌, map, Option, Some}
use Rattle.zr_id.specs.declared.link.LinkNo.{LinkNo}
use Rattle.zr_msg.specs.Extras.{no_extras}
use Rattle.zr_msg.specs.declared.content.Parts.{Parts}
use Rattle.zr_msg.specs.declared.msg.Msg.{Msg}
use Rattle.zr_msg.specs.declared.msg.Msg.TheVariants.{Request}
use Rattle.zr_msg.specs.declared.msg.Target.{Target}
use Rattle.zr_pend_spec.specs.Pending.{free_number}
use Rattle.zr_pend_spec.specs.Row.{RowState}
use Rattle.zr_pend_spec.specs.declared.branch.Asker.{Asker}
use Rattle.zr_push.specs.declared.route.RouteLink.{RouteLink}
use Rattle.zr_push.specs.Route.{route_of, stops_from}
use Rattle.zr_push_sought.specs.Sought.{sought_by}
use Rattle.zr_node_spec.specs.Queries.{tree_for}
use Rattle.zr_node_spec.specs.Samples.{tree_of}
use Rattle.zr_node_spec.specs.Tables.{TableState, AreNumbered, link_at}
use Rattle.zr_query.specs.Answering.{final_sent}

-- these stops are the route of a request that comes over a link, naming a tree or none, and stays in a tree
pub record IsRouteOf (t : TableState) (from : ℕ) (named : Option (List ℕ)) (tree : List ℕ) (target : Target) (key : List ℕ) (stops : List RouteLink) : Type 0 where
  pub numbered : AreNumbered t.links
  pub stays : tree_of t (link_at t.links from) named ≡ Some tree
  pub stops_are : stops ≡ route_of t tree (sought_by target) key

-- the links of stops, and those over which a request goes on that came over a link
abbrev pub links_of : List RouteLink → List LinkNo
links_of stops = map (λ s. s.link) stops

abbrev pub asked_of : List RouteLink → ℕ → List LinkNo
asked_of stops from = links_of (stops_from stops from)

-- a request for a stop, under its number there
abbrev pub request_for : List ℕ → Target → Parts → RouteLink → ℕ → LinkNo × Msg
request_for tree target content s number = (s.link, Request (tree_for tree s.role) number target content)

-- one for each stop, where these are the numbers
abbrev pub each_asked : List ℕ → Target → Parts → List RouteLink → List ℕ → List (LinkNo × Msg)
each_asked tree target content [] numbers = []
each_asked tree target content (s ∷ stops) [] = []
each_asked tree target content (s ∷ stops) (n ∷ numbers) = request_for tree target content s n ∷ each_asked tree target content stops numbers

-- one for each stop, where these requests are pending
abbrev pub all_asked : List RowState → List ℕ → Target → Parts → List RouteLink → List (LinkNo × Msg)
all_asked rows tree target content stops = map (λ s. request_for tree target content s (free_number s.link rows)) stops

-- and a final for who asked where there is no stop
abbrev pub sent_by : List RowState → Asker → List ℕ → Target → Parts → List RouteLink → List (LinkNo × Msg)
sent_by rows from tree target content [] = final_sent no_extras from ∷ []
sent_by rows from tree target content (s ∷ stops) = all_asked rows tree target content (s ∷ stops)
