use Rattle.std.proofs.Common.{sym, ◌∙◌}
use Rattle.zr_node_spec.proofs.OwnLinks.{are_links-without_linked}
use Rattle.zr_node.proofs.Answers.{not_refused}
use Rattle.zr_node.proofs.own.part.Goals as goal

pub change-requires : goal.change-requires
change-requires c =
    rw (c.as_slice.ensures.value, c.in_ok-links.ensures)
    (are_links-without_linked c.args.base.now.me c.own_links.result.now c.args.id.now c.own_links.ensures.in_order)

pub returns-clause-worn : goal.returns-clause-worn
returns-clause-worn c = rw (sym c.is_worn.ensures ∙ c.if-is_worn.false) (not_refused c.args.base.now c.change.result (sym c.is_worn.ensures ∙ c.if-is_worn.false) c.change.ensures.worn)
