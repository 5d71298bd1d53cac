use Rattle.std.proofs.Common.{ap, ◌∙◌}
use Rattle.zr_graph.specs.Base.{BaseState}
use Rattle.zr_node_spec.specs.Tables.{TableState}
use Rattle.zr_node_spec.proofs.OwnName.{me_record}
use Rattle.zr_node.proofs.Remembering.{whole_anew}
use Rattle.zr_node.proofs.node.Node.keep.Goals as goal

pub invariant_of-self-in-Newer : goal.invariant_of-self-in-Newer
invariant_of-self-in-Newer c =
    let before : TableState = record { links = c.self.inside.links; base = c.self.inside.base; rows = c.self.inside.local.rows; clients = c.self.inside.local.clients; known = c.self.inside.known } in
    whole_anew before c.accept.new.self c.forget.new.family c.forget.new.trees c.self.inside.holders c.forget.new.routes (ap (λ (b : BaseState). b.me) c.in_ok-accept.ensures.base ∙ me_record c.self.inside.base c.args.told.now) c.self.invariant.links c.self.invariant.own c.forget.ensures.family c.forget.ensures.trees c.self.invariant.holders c.forget.ensures.routes
