use Rattle.std.proofs.Common.{◌≡◌, ℕ, List, Option, Some, Err, sym, ap, ◌∙◌}
use Rattle.std.proofs.lemmas.Result.{err_from_is_err_and}
use Rattle.zr_msg.specs.declared.msg.Target.{Target}
use Rattle.zr_push.specs.Route.{route_of}
use Rattle.zr_push_sought.specs.Sought.{sought_by}
use Rattle.zr_push.specs.declared.route.RouteLink.{RouteLink}
use Rattle.zr_push_sought.specs.declared.sought.Sought.{Sought}
use Rattle.zr_query.specs.Asking.{IsRouteOf}
use Rattle.zr_node_spec.specs.Samples.{tree_of}
use Rattle.zr_node_spec.specs.Tables.{TableState, AreNumbered, link_at}
use Rattle.zr_node.proofs.Retold.{all_told}
use Rattle.zr_query.proofs.OnRoute.{route_differs}
use Rattle.zr_query.proofs.Told.{nothing_yet}
use Rattle.zr_node.proofs.Requests.{is_route}
use Rattle.zr_node.proofs.asking.request_along.Goals as goal

-- the route of what a request seeks is its route, in the tree that it stays in
is_route_of : (t : TableState) (from : ℕ) (named : Option (List ℕ)) (tree : List ℕ) (target : Target) (sought : Sought) (key own_key : List ℕ) (stops : List RouteLink) → AreNumbered t.links
    → tree_of t (link_at t.links from) named ≡ Some tree → stops ≡ route_of t tree sought key → sought ≡ sought_by target → key ≡ own_key → IsRouteOf t from named tree target own_key stops
is_route_of t from named tree target sought key own_key stops up at e f g = record { numbered = up; stays = at; stops_are = is_route t tree target sought key own_key stops e f g }

pub request-requires-clause-apart : goal.request-requires-clause-apart
request-requires-clause-apart c =
    route_differs c.args.tables.now c.args.from.link.0 c.args.tree c.args.target c.args.content.now.key c.in-Some.route.now c.requires.numbered
    (is_route c.args.tables.now c.args.tree c.args.target c.sought_by-sought.result c.key-key.result.now c.args.content.now.key c.in-Some.route.now (c.in-Some.ensures c.args.tables.now c.requires.routes)
    c.sought_by-sought.ensures c.key-key.ensures)

pub request-requires-2-clause-apart : goal.request-requires-2-clause-apart
request-requires-2-clause-apart c =
    route_differs c.args.tables.now c.args.from.link.0 c.args.tree c.args.target c.args.content.now.key c.in_ok-route.route c.requires.numbered
    (is_route c.args.tables.now c.args.tree c.args.target c.sought_by-sought.result c.key-key.result.now c.args.content.now.key c.in_ok-route.route c.in_ok-route.ensures.route c.sought_by-sought.ensures c.key-key.ensures)

pub returns-in-Some-clause-sends : goal.returns-in-Some-clause-sends
returns-in-Some-clause-sends c = λ named at.
    c.request.ensures.sends c.args.tables.now named
    (is_route_of c.args.tables.now c.args.from.link.0 named c.args.tree c.args.target c.sought_by-sought.result c.key-key.result.now c.args.content.now.key c.in-Some.route.now c.requires.numbered at
    (c.in-Some.ensures c.args.tables.now c.requires.routes) c.sought_by-sought.ensures c.key-key.ensures)

pub returns-in-Some-clause-rows : goal.returns-in-Some-clause-rows
returns-in-Some-clause-rows c = λ named at.
    c.request.ensures.rows c.args.tables.now named
    (is_route_of c.args.tables.now c.args.from.link.0 named c.args.tree c.args.target c.sought_by-sought.result c.key-key.result.now c.args.content.now.key c.in-Some.route.now c.requires.numbered at
    (c.in-Some.ensures c.args.tables.now c.requires.routes) c.sought_by-sought.ensures c.key-key.ensures)

pub returns-in-Some-clause-held : goal.returns-in-Some-clause-held
returns-in-Some-clause-held c = λ named at.
    c.request.ensures.held c.args.tables.now named
    (is_route_of c.args.tables.now c.args.from.link.0 named c.args.tree c.args.target c.sought_by-sought.result c.key-key.result.now c.args.content.now.key c.in-Some.route.now c.requires.numbered at
    (c.in-Some.ensures c.args.tables.now c.requires.routes) c.sought_by-sought.ensures c.key-key.ensures)

pub returns-in-Some-clause-room : goal.returns-in-Some-clause-room
returns-in-Some-clause-room c = λ named at.
    c.request.ensures.room c.args.tables.now named
    (is_route_of c.args.tables.now c.args.from.link.0 named c.args.tree c.args.target c.sought_by-sought.result c.key-key.result.now c.args.content.now.key c.in-Some.route.now c.requires.numbered at
    (c.in-Some.ensures c.args.tables.now c.requires.routes) c.sought_by-sought.ensures c.key-key.ensures)

pub returns-in-Some-clause-prefix : goal.returns-in-Some-clause-prefix
returns-in-Some-clause-prefix c = λ named at.
    c.request.ensures.prefix c.args.tables.now named
    (is_route_of c.args.tables.now c.args.from.link.0 named c.args.tree c.args.target c.sought_by-sought.result c.key-key.result.now c.args.content.now.key c.in-Some.route.now c.requires.numbered at
    (c.in-Some.ensures c.args.tables.now c.requires.routes) c.sought_by-sought.ensures c.key-key.ensures)

pub returns-in-Some-clause-full : goal.returns-in-Some-clause-full
returns-in-Some-clause-full c = λ named at.
    c.request.ensures.full c.args.tables.now named
    (is_route_of c.args.tables.now c.args.from.link.0 named c.args.tree c.args.target c.sought_by-sought.result c.key-key.result.now c.args.content.now.key c.in-Some.route.now c.requires.numbered at
    (c.in-Some.ensures c.args.tables.now c.requires.routes) c.sought_by-sought.ensures c.key-key.ensures)

pub returns-clause-sends : goal.returns-clause-sends
returns-clause-sends c = λ named at.
    c.in_ok-request.ensures.sends c.args.tables.now named
    (is_route_of c.args.tables.now c.args.from.link.0 named c.args.tree c.args.target c.sought_by-sought.result c.key-key.result.now c.args.content.now.key c.in_ok-route.route c.requires.numbered at
    c.in_ok-route.ensures.route c.sought_by-sought.ensures c.key-key.ensures)

pub returns-clause-rows : goal.returns-clause-rows
returns-clause-rows c = λ named at.
    c.in_ok-request.ensures.rows c.args.tables.now named
    (is_route_of c.args.tables.now c.args.from.link.0 named c.args.tree c.args.target c.sought_by-sought.result c.key-key.result.now c.args.content.now.key c.in_ok-route.route c.requires.numbered at
    c.in_ok-route.ensures.route c.sought_by-sought.ensures c.key-key.ensures)

pub returns-clause-held : goal.returns-clause-held
returns-clause-held c = λ named at.
    c.in_ok-request.ensures.held c.args.tables.now named
    (is_route_of c.args.tables.now c.args.from.link.0 named c.args.tree c.args.target c.sought_by-sought.result c.key-key.result.now c.args.content.now.key c.in_ok-route.route c.requires.numbered at
    c.in_ok-route.ensures.route c.sought_by-sought.ensures c.key-key.ensures)

pub returns-clause-room : goal.returns-clause-room
returns-clause-room c = λ named at.
    c.in_ok-request.ensures.room c.args.tables.now named
    (is_route_of c.args.tables.now c.args.from.link.0 named c.args.tree c.args.target c.sought_by-sought.result c.key-key.result.now c.args.content.now.key c.in_ok-route.route c.requires.numbered at
    c.in_ok-route.ensures.route c.sought_by-sought.ensures c.key-key.ensures)

pub returns-in_err-route-clause-prefix : goal.returns-in_err-route-clause-prefix
returns-in_err-route-clause-prefix c = λ named at.
    let p = err_from_is_err_and c.from_residual.result c.from_residual.ensures.1 in
    rw p.1 (nothing_yet _ _)

pub returns-in_err-remember-clause-prefix : goal.returns-in_err-remember-clause-prefix
returns-in_err-remember-clause-prefix c = λ named at.
    let p = err_from_is_err_and c.from_residual-in_err-remember.result c.from_residual-in_err-remember.ensures.1 in
    rw p.1 (all_told _ _ _ (c.in_ok-request.ensures.sends c.args.tables.now named
    (is_route_of c.args.tables.now c.args.from.link.0 named c.args.tree c.args.target c.sought_by-sought.result c.key-key.result.now c.args.content.now.key c.in_ok-route.route c.requires.numbered at
    c.in_ok-route.ensures.route c.sought_by-sought.ensures c.key-key.ensures)))

pub returns-in_err-request-clause-prefix : goal.returns-in_err-request-clause-prefix
returns-in_err-request-clause-prefix c = λ named at.
    let p = err_from_is_err_and c.from_residual-in_err-request.result c.from_residual-in_err-request.ensures.1 in
    rw p.1 (c.in_err-request.ensures.prefix c.args.tables.now named
    (is_route_of c.args.tables.now c.args.from.link.0 named c.args.tree c.args.target c.sought_by-sought.result c.key-key.result.now c.args.content.now.key c.in_ok-route.route c.requires.numbered at
    c.in_ok-route.ensures.route c.sought_by-sought.ensures c.key-key.ensures))

pub returns-in_err-request-clause-full : goal.returns-in_err-request-clause-full
returns-in_err-request-clause-full c = λ named at worn.
    let p = err_from_is_err_and c.from_residual-in_err-request.result c.from_residual-in_err-request.ensures.1 in
    c.in_err-request.ensures.full c.args.tables.now named
    (is_route_of c.args.tables.now c.args.from.link.0 named c.args.tree c.args.target c.sought_by-sought.result c.key-key.result.now c.args.content.now.key c.in_ok-route.route c.requires.numbered at
    c.in_ok-route.ensures.route c.sought_by-sought.ensures c.key-key.ensures)
    (sym (p.1 ∙ ap Err p.2) ∙ worn)
