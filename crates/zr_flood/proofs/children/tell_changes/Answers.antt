use Rattle.std.proofs.Common.{ap, ◌∙◌}
use Rattle.std.proofs.lemmas.Result.{err_from_is_err_and, on_ok_weaker, on_err_weaker}
use Rattle.zr_node_spec.specs.Changes.{changes_of}
use Rattle.zr_node_spec.specs.Event.{on_link}
use Rattle.zr_lists.proofs.Prefixes.{nothing_said}
use Rattle.zr_node_spec.proofs.Told.{tells_list, tells_prefix}
use Rattle.zr_flood.proofs.OnChildren.{own_passed, on_changes}
use Rattle.zr_flood.proofs.children.tell_changes.Goals as goal

pub returns-in_err-to-clause-err : goal.returns-in_err-to-clause-err
returns-in_err-to-clause-err c = λ t same up e.
    let p = err_from_is_err_and c.from_residual.result c.from_residual.ensures.1 in
    rw p.1 (tells_prefix _ _ _ _ (on_changes t (changes_of c.args.changes.now.gone.items c.args.changes.now.came.items) up) (nothing_said _ _))

pub returns-clause-ok : goal.returns-clause-ok
returns-clause-ok c = λ t same up e.
    on_ok_weaker _
    (tells_list _ _ _ _ (λ to.
    ap (λ xs. on_link to xs)
    (own_passed t c.args.links.now c.args.family.now same c.me-me.result c.args.number c.deref.result.now c.in_ok-to.to.items (changes_of c.args.changes.now.gone.items c.args.changes.now.came.items) c.deref.ensures.value c.in_ok-to.ensures c.me-me.ensures e)
    ∙ on_changes t (changes_of c.args.changes.now.gone.items c.args.changes.now.came.items) up to))
    c.tell_both.ensures.ok

pub returns-clause-err : goal.returns-clause-err
returns-clause-err c = λ t same up e.
    on_err_weaker _
    (tells_prefix _ _ _ _ (λ to.
    ap (λ xs. on_link to xs)
    (own_passed t c.args.links.now c.args.family.now same c.me-me.result c.args.number c.deref.result.now c.in_ok-to.to.items (changes_of c.args.changes.now.gone.items c.args.changes.now.came.items) c.deref.ensures.value c.in_ok-to.ensures c.me-me.ensures e)
    ∙ on_changes t (changes_of c.args.changes.now.gone.items c.args.changes.now.came.items) up to))
    c.tell_both.ensures.err
