use Rattle.std.proofs.Common.{refl, ap, ◌∙◌}
use Rattle.std.proofs.lemmas.Result.{on_ok_weaker, on_err_weaker}
use Rattle.zr_node_spec.specs.Event.{on_link}
use Rattle.zr_node_spec.proofs.Told.{tells_list, tells_prefix}
use Rattle.zr_flood.proofs.OnChildren.{passed, on_step, on_snap}
use Rattle.zr_flood.proofs.children.pass_on.Goals as goal

pub returns-clause-step : goal.returns-clause-step
returns-clause-step c = λ t from number k same up leads next is.
    on_ok_weaker _
    (tells_list _ _ _ _ (λ to. ap (λ xs. on_link to xs) (passed t c.args.links.now c.args.family.now same c.args.source _ _ c.args.msg.now _ refl refl is) ∙ on_step t from c.args.source number k up leads next to))
    c.tell_children.ensures.ok

pub returns-clause-step_prefix : goal.returns-clause-step_prefix
returns-clause-step_prefix c = λ t from number k same up leads next is.
    on_err_weaker _
    (tells_prefix _ _ _ _ (λ to. ap (λ xs. on_link to xs) (passed t c.args.links.now c.args.family.now same c.args.source _ _ c.args.msg.now _ refl refl is) ∙ on_step t from c.args.source number k up leads next to))
    c.tell_children.ensures.err

pub returns-clause-snap : goal.returns-clause-snap
returns-clause-snap c = λ t from number ds same up leads newer is.
    on_ok_weaker _
    (tells_list _ _ _ _ (λ to. ap (λ xs. on_link to xs) (passed t c.args.links.now c.args.family.now same c.args.source _ _ c.args.msg.now _ refl refl is) ∙ on_snap t from c.args.source number ds up leads newer to))
    c.tell_children.ensures.ok

pub returns-clause-snap_prefix : goal.returns-clause-snap_prefix
returns-clause-snap_prefix c = λ t from number ds same up leads newer is.
    on_err_weaker _
    (tells_prefix _ _ _ _ (λ to. ap (λ xs. on_link to xs) (passed t c.args.links.now c.args.family.now same c.args.source _ _ c.args.msg.now _ refl refl is) ∙ on_snap t from c.args.source number ds up leads newer to))
    c.tell_children.ensures.err
