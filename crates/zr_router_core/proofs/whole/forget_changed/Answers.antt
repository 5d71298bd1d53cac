use Rattle.std.proofs.Common.{sym, ◌∙◌}
use Rattle.zr_node_spec.specs.Table.{after}
use Rattle.zr_router_core.proofs.Lasting.{lasting}
use Rattle.zr_router_core.proofs.whole.forget_changed.Goals as goal

pub returns-then-not-changes_interests : goal.returns-then-not-changes_interests
returns-then-not-changes_interests c = lasting c.args.node.now c.args.event.now c.args.interested.now (sym c.changes_interests.ensures ∙ c.if-not-changes_interests.true) c.requires

pub returns : goal.returns
returns c = record { before = c.clear.ensures c.args.node.now.clients; later = c.clear.ensures (after c.args.node.now c.args.event.now).clients }
