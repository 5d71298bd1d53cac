use Rattle.std.proofs.Common.{ℕ, List, Some, ap, sym, subst, arith, ◌∙◌}
use Rattle.std.specs.BTreeMap.{Updates}
use Rattle.std.specs.Cmp.Lexicographic.{slice_cmp}
use Rattle.std.specs.Ordering.{nat_cmp}
use Rattle.zr_graph.proofs.Names.{same_refl}
use Rattle.zr_id.specs.Zid.{is_named}
use Rattle.zr_msg.specs.declared.peer.LinkPeer.{LinkPeer}
use Rattle.zr_node.proofs.Hints.{found_at, hinted_here}
use Rattle.zr_node.proofs.links.hints_of.Goals as goal

pub loop-link-preserved : goal.loop-link-preserved
loop-link-preserved c =
    let name : List ℕ = c.link-item.result.peer.id in
    hinted_here c.loop-link.numbers c.hint.new.numbers c.args.links.now name c.link-item.result.link c.loop-link.invariant
    (subst (λ (l : LinkPeer). Updates (slice_cmp nat_cmp) c.loop-link.numbers c.hint.new.numbers l.peer.id (Some l.link)) c.link.view_is c.in_ok-hint.ensures.ok)
    (found_at (λ l. is_named l.peer.id name) c.args.links.now c.loop-link.link-index c.link-item.result (omega arith) (ap (λ (l : LinkPeer). is_named l.peer.id name) (sym c.link-item.is) ∙ same_refl name))
