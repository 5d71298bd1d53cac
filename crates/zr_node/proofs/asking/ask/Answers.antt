use Rattle.std.proofs.Common.{◌≡◌, ℕ, List, Option, Some, sym, ap, ◌∙◌}
use Rattle.zr_msg.specs.declared.peer.LinkPeer.{LinkPeer}
use Rattle.zr_node_spec.specs.Samples.{tree_of}
use Rattle.zr_node_spec.specs.Tables.{TableState, link_at}
use Rattle.zr_node.proofs.asking.ask.Goals as goal

-- the tree that was found for the link is that of the link of the number
stays : (t : TableState) (from : ℕ) (link : Option LinkPeer) (named : Option (List ℕ)) (tree : List ℕ) → link_at t.links from ≡ link → Some tree ≡ tree_of t link named → tree_of t (link_at t.links from) named ≡ Some tree
stays t from link named tree at found = ap (λ (l : Option LinkPeer). tree_of t l named) at ∙ sym found

pub returns-in-Some-clause-sends : goal.returns-in-Some-clause-sends
returns-in-Some-clause-sends c = c.request_along.ensures.sends c.args.named (stays c.args.tables.now c.args.from.link.0 c.args.link c.args.named c.in-Some.tree c.requires.at c.in-Some.ensures)

pub returns-in-Some-clause-rows : goal.returns-in-Some-clause-rows
returns-in-Some-clause-rows c = c.request_along.ensures.rows c.args.named (stays c.args.tables.now c.args.from.link.0 c.args.link c.args.named c.in-Some.tree c.requires.at c.in-Some.ensures)

pub returns-in-Some-clause-room : goal.returns-in-Some-clause-room
returns-in-Some-clause-room c = c.request_along.ensures.room c.args.named (stays c.args.tables.now c.args.from.link.0 c.args.link c.args.named c.in-Some.tree c.requires.at c.in-Some.ensures)

pub returns-in-Some-clause-full : goal.returns-in-Some-clause-full
returns-in-Some-clause-full c = c.request_along.ensures.full c.args.named (stays c.args.tables.now c.args.from.link.0 c.args.link c.args.named c.in-Some.tree c.requires.at c.in-Some.ensures)

pub returns-in-Some-clause-prefix : goal.returns-in-Some-clause-prefix
returns-in-Some-clause-prefix c = c.request_along.ensures.prefix c.args.named (stays c.args.tables.now c.args.from.link.0 c.args.link c.args.named c.in-Some.tree c.requires.at c.in-Some.ensures)
