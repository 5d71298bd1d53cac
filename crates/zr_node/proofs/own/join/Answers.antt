use Rattle.std.proofs.Common.{◌≡◌, ◌<◌, List, OnOk, length, sym, ap, subst, ◌∙◌}
use Rattle.std.proofs.lemmas.Bool.{leb-false}
use Rattle.zr_id.specs.Record.{LinkedState}
use Rattle.zr_graph.specs.Base.{relinked}
use Rattle.zr_node_spec.specs.Table.{with_linked, own_links}
use Rattle.zr_node_spec.proofs.AreLinks.{named_back}
use Rattle.zr_node_spec.proofs.OwnLinks.{are_links-with_linked}
use Rattle.zr_node.proofs.Answers.{not_refused}
use Rattle.zr_node.proofs.own.join.Goals as goal

pub change-requires : goal.change-requires
change-requires c =
    let few : length (own_links c.args.base.now) < 65535 = leb-false 65535 (length (own_links c.args.base.now)) (sym c.is_full.ensures ∙ c.if-is_full.false) in
    rw (c.as_slice.ensures.value, c.in_ok-links.ensures)
    (are_links-with_linked c.args.base.now.me c.own_links.result.now c.args.link.now c.own_links.ensures.in_order
    (named_back c.args.link.now.id c.args.base.now.me c.requires)
    (rw c.own_links.ensures.value few))

pub returns-clause-ok : goal.returns-clause-ok
returns-clause-ok c =
    subst (λ (links : List LinkedState). OnOk c.change.result (c.change.new.self ≡ relinked c.args.base.now links))
    (c.as_slice.ensures.value ∙ c.in_ok-links.ensures ∙ ap (λ links. with_linked links c.args.link.now) c.own_links.ensures.value) c.change.ensures.ok

pub returns-clause-worn : goal.returns-clause-worn
returns-clause-worn c =
    rw (sym c.is_worn.ensures ∙ c.if-is_worn.false, sym c.is_full.ensures ∙ c.if-is_full.false)
    (not_refused c.args.base.now c.change.result (sym c.is_worn.ensures ∙ c.if-is_worn.false) c.change.ensures.worn)
