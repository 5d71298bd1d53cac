use Rattle.std.proofs.Common.{List, ap, sym, subst, ◌∙◌}
use Rattle.zr_graph.specs.Base.{BaseState}
use Rattle.zr_log.specs.Known.{KnownState}
use Rattle.zr_msg.specs.declared.peer.LinkPeer.{LinkPeer}
use Rattle.zr_node_spec.specs.Event.{AreLinks}
use Rattle.zr_node_spec.specs.Tables.{TableState}
use Rattle.zr_node_spec.proofs.AreLinks.{no_links}
use Rattle.zr_push_sought.specs.Pairs.{declared_by}
use Rattle.zr_node.proofs.node.Node.new.Goals as goal

pub invariant_of-result : goal.invariant_of-result
invariant_of-result c =
    let now : TableState = record { links = c.new-2.result; base = c.in_ok-base.base; rows = c.new-3.result.rows; clients = c.new-3.result.clients; known = c.new-4.result } in
    record {
      links = subst (λ (ls : List LinkPeer). AreLinks c.in_ok-base.base.me ls) (sym c.new-2.ensures) (no_links c.in_ok-base.base.me);
      own = ap (λ (k : KnownState). k.me) c.new-4.ensures ∙ sym (ap (λ (b : BaseState). b.me) c.in_ok-base.ensures);
      family = tt;
      trees = tt;
      holders = c.new-6.ensures (declared_by now);
      routes = c.new-7.ensures now;
    }
