use Rattle.std.proofs.Common.{◌≡◌, max, [], get_or, refl, sym, ap, ◌∙◌}
use Rattle.zr_id.specs.Record.{LinkedState}
use Rattle.zr_graph.specs.Record.{has}
use Rattle.zr_tree.proofs.Linked.{not_known, links_back, links_not}
use Rattle.zr_tree.proofs.edges.linked_back.Goals as goal

pub returns-in_err-index : goal.returns-in_err-index
returns-in_err-index c =
    rw c.from_residual.ensures (not_known c.args.records.now c.args.names.now c.args.from c.args.link.now c.requires.names (ap (λ (l : LinkedState). has c.args.names.now l.id) (sym c.link.view_is) ∙ c.in_err-index.ensures))

pub returns-in_err-given : goal.returns-in_err-given
returns-in_err-given c =
    let here : get_or c.args.names.now c.in_ok-index.index [] ≡ c.args.link.now.id = c.in_ok-index.ensures.1 ∙ ap (λ (l : LinkedState). l.id) c.link.view_is in
    rw c.from_residual-in_err-given.ensures
    (links_not c.args.records.now c.args.names.now c.args.from c.args.link.now c.requires.names c.requires.ascending c.in_ok-index.index c.index-records-index.result c.in_ok-index.ensures.0 here c.index-records-index.is c.in_err-given.ensures)

pub returns : goal.returns
returns c =
    let here : get_or c.args.names.now c.in_ok-index.index [] ≡ c.args.link.now.id = c.in_ok-index.ensures.1 ∙ ap (λ (l : LinkedState). l.id) c.link.view_is in
    links_back c.args.records.now c.args.names.now c.args.from c.args.link.now c.requires.names c.requires.ascending c.in_ok-index.index c.index-records-index.result c.in_ok-index.ensures.0 here c.index-records-index.is
    c.in_ok-given.given c.in_ok-given.ensures (record { index = c.in_ok-index.index; weight = c.max.result }) refl (c.max.ensures ∙ ap (λ (l : LinkedState). max l.weight c.in_ok-given.given) c.link.view_is) c.max.type_inv
