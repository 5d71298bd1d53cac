use Rattle.std.proofs.Common.{◌≡◌, true, length, sym, ap, ◌∙◌, rules}
use Rattle.std.specs.Prelude.{◌==◌, filter, not}
use Rattle.std.specs.Map.{keys_of}
use Rattle.std.specs.Vec.{vec_len}
use Rattle.zr_id.specs.Zid.{is_named}
use Rattle.zr_graph.specs.Record.{has}
use Rattle.zr_world.specs.State.{state_of}
use Rattle.zr_world.proofs.Searching.{is_graph, begun, first_has}
use Rattle.zr_world.proofs.tables.WorldTables.is_joined.Given.{Over}
use Rattle.zr_world.proofs.tables.WorldTables.is_joined.Goals as goal

root_there : (g : Over) (c : goal.After-leave_out g) → has (keys_of c.args.self.now.routers.entries) c.index-root.result.now ≡ true
root_there g c =
    let long : length c.in_ok-others.others.items ≡ vec_len c.in_ok-others.others = search rules in
    rw (← c.in_ok-others.ensures.names) (first_has c.in_ok-others.others.items c.index-root.result.now c.index-root.result.now
    (ap (λ n. n == 0) long ∙ sym c.is_empty.ensures ∙ c.if-is_empty.false) c.index-root.ensures)

pub are_found-requires-clause-graph : goal.are_found-requires-clause-graph
are_found-requires-clause-graph g c = is_graph (state_of c.args.self.now) c.requires c.router_names.ensures.ordered

pub are_found-requires-clause-there : goal.are_found-requires-clause-there
are_found-requires-clause-there g c = root_there g c

pub are_found-requires-clause-begun : goal.are_found-requires-clause-begun
are_found-requires-clause-begun g c =
    let left : c.leave_out.new.names.items ≡ filter (λ y. not (is_named y c.index-root.result.now)) (keys_of c.args.self.now.routers.entries) =
    c.leave_out.ensures ∙ ap (λ z. filter (λ y. not (is_named y c.index-root.result.now)) z) c.in_ok-others.ensures.names in
    rw left (begun (state_of c.args.self.now) (is_graph (state_of c.args.self.now) c.requires c.router_names.ensures.ordered) c.index-root.result.now (root_there g c))
