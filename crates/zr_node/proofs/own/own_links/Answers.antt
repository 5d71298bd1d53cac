use Rattle.std.proofs.Common.{◌≡◌, true, sym, subst}
use Rattle.zr_id.specs.Record.{are_links}
use Rattle.zr_id.specs.Zid.{is_named}
use Rattle.zr_graph.proofs.Names.{same_is}
use Rattle.zr_node_spec.proofs.Links.{find_passes}
use Rattle.zr_node.proofs.own.own_links.Goals as goal

pub returns-in-Some-clause-in_order : goal.returns-in-Some-clause-in_order
returns-in-Some-clause-in_order c =
    let me = c.args.base.now.me in
    let named = find_passes (λ r. is_named r.id me) c.args.base.now.records c.in-Some.own.now (sym c.in-Some.ensures) in
    rw c.links.ensures.value (subst (λ x. are_links x c.in-Some.own.now.links ≡ true) (same_is c.in-Some.own.now.id me named) c.links.ensures.in_order)
