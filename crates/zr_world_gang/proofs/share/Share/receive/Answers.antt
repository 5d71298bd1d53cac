use Rattle.std.proofs.Common.{◌≡◌, List, [], ◌∷◌, ◌++◌, Some, sym, ap, subst}
use Rattle.std.specs.List.{concat}
use Rattle.zr_msg.specs.declared.peer.LinkPeer.{LinkPeer}
use Rattle.zr_node_spec.specs.Tables.{link_to}
use Rattle.zr_world_gang.specs.declared.message.Waiting.{Waiting}
use Rattle.zr_world_gang.specs.Shares.{ShareState, MayBeHandled, with_input}
use Rattle.zr_world_gang.proofs.Steps.{received, may_more}
use Rattle.zr_world_gang.proofs.share.Share.receive.Goals as goal

pub invariant_of-self-2 : goal.invariant_of-self-2
invariant_of-self-2 c =
    subst (λ (z : List Waiting). MayBeHandled c.self.inside.hub z) (sym c.in_ok-push.ensures.items)
    (may_more c.self.inside.hub c.self.inside.input.items (record { from = c.in-Some.link; name = c.args.from; msg = c.args.msg; tag = c.args.tag }) c.self.invariant c.requires
    (sym c.in-Some.ensures))

pub returns : goal.returns
returns c =
    let s : ShareState = record { name = c.self.inside.name; hub = c.self.inside.hub; input = c.self.inside.input.items; output = c.self.inside.output.items; handled = c.self.inside.handled; taken = c.self.inside.taken; sent = c.self.inside.sent; lines = c.self.inside.lines; text = concat c.self.inside.lines; kinds = c.self.inside.kinds } in
    let now : ShareState = with_input s c.push.new.self.items in
    subst (λ (z : ShareState). (l : LinkPeer) × (link_to z.hub.node.links c.args.from ≡ Some l) × (now ≡ with_input z (z.input ++ record { from = l.link; name = c.args.from; msg = c.args.msg; tag = c.args.tag } ∷ []))) c.self.view_is
    (received s now c.args.from c.args.msg c.args.tag c.in-Some.link (sym c.in-Some.ensures) (ap (with_input s) c.in_ok-push.ensures.items))
