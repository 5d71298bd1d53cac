use Rattle.std.proofs.Common.{◌≡◌, List, cond, refl, sym, ap, subst, ◌∙◌}
use Rattle.zr_graph.specs.Base.{is_newer, after_record}
use Rattle.zr_graph.specs.declared.base.Accepted.TheVariants.{Newer, Old}
use Rattle.zr_id.specs.Record.{RecordState}
use Rattle.zr_node_spec.specs.Snapshots.{sends_snapshots}
use Rattle.zr_node_spec.specs.Event.{AreLinks, Tells, TellsPrefix}
use Rattle.zr_node_spec.specs.State.{NodeState, tables}
use Rattle.zr_node_spec.specs.Table.{with_base, base_told}
use Rattle.zr_node.specs.Steps.{told_part, news_to}
use Rattle.zr_node.specs.declared.failure.NodeFailure.TheVariants.{NoMemory}
use Rattle.zr_node.proofs.Accepted.{told_by_client, told_again, told_newer, told_me, still_of, record_part, record_first, older_is, newer_is}
use Rattle.zr_node.proofs.Done.{failed, nothing_sent, first_failed, then_prefix, then_told}
use Rattle.zr_node.proofs.Ups.{news_told}
use Rattle.zr_node.proofs.node.Node.accept.Goals as goal

pub returns-then-not-leads_to_router : goal.returns-then-not-leads_to_router
returns-then-not-leads_to_router c = told_by_client c.args.self.now c.args.link.0 c.args.told.now c.args.out.now.items (sym c.leads_to_router.ensures ∙ c.if-not-leads_to_router.true)

pub returns-in_err-keep : goal.returns-in_err-keep
returns-in_err-keep c = nothing_sent (told_part c.args.self.now c.args.link.0 c.args.told.now) c.from_residual-in_err-keep.result c.keep.new.self c.args.out.now.items c.from_residual-in_err-keep.ensures.1 refl

pub returns-in-Old : goal.returns-in-Old
returns-in-Old c =
    told_again c.args.self.now c.args.link.0 c.args.told.now c.take_before.new.self c.keep.new.self c.put_back.new.self c.args.out.now.items (sym c.leads_to_router.ensures ∙ c.if-not-leads_to_router.false) c.in_ok-before.ensures.same (subst (λ (r : RecordState). c.keep.new.self ≡ with_base c.take_before.new.self (after_record c.take_before.new.self.base r)) c.get.ensures c.in_ok-keep.ensures.state) c.put_back.ensures
    (older_is _ (subst (λ (r : RecordState). Old ≡ cond (is_newer c.take_before.new.self.base r) Newer Old) c.get.ensures (sym c.in-Old.is ∙ c.in_ok-keep.ensures.answer)))

pub returns-in_err-flood_newer-in-Newer : goal.returns-in_err-flood_newer-in-Newer
returns-in_err-flood_newer-in-Newer c =
    failed (told_part c.args.self.now c.args.link.0 c.args.told.now) NoMemory c.from_residual-in_err-flood_newer-in-Newer.result c.keep.new.self c.args.out.now.items c.flood_newer.new.out.items c.from_residual-in_err-flood_newer-in-Newer.ensures.1
    (first_failed (record_part c.args.self.now c.args.link.0 c.args.told.now) (told_part c.args.self.now c.args.link.0 c.args.told.now) (λ to. news_to c.args.self.now (with_base c.args.self.now (base_told c.args.self.now c.args.link.0 c.args.told.now)) to) (record_first c.args.self.now c.args.link.0 c.args.told.now) NoMemory c.keep.new.self c.args.out.now.items c.flood_newer.new.out.items
    (record { late = refl; sends = c.in_err-flood_newer-in-Newer.ensures.err c.args.self.now (still_of c.args.self.now c.args.link.0 c.args.told.now c.take_before.new.self c.keep.new.self c.as_slice.result.now c.in_ok-before.ensures.same (subst (λ (r : RecordState). c.keep.new.self ≡ with_base c.take_before.new.self (after_record c.take_before.new.self.base r)) c.get.ensures c.in_ok-keep.ensures.state) (subst (λ (m : NodeState). AreLinks m.base.me m.links) c.self.view_is c.self.invariant.links) (c.as_slice.ensures.value ∙ ap (λ (m : NodeState). m.links) c.self.view_is)) (sym c.leads_to_router.ensures ∙ c.if-not-leads_to_router.false) (ap (λ (m : NodeState). is_newer m.base c.args.told.now) (sym c.in_ok-before.ensures.same) ∙ newer_is _ (subst (λ (r : RecordState). Newer ≡ cond (is_newer c.take_before.new.self.base r) Newer Old) c.get.ensures (sym c.in-Newer.is ∙ c.in_ok-keep.ensures.answer))) }))

pub returns-in_err-tell_new_children-in-Newer : goal.returns-in_err-tell_new_children-in-Newer
returns-in_err-tell_new_children-in-Newer c =
    failed (told_part c.args.self.now c.args.link.0 c.args.told.now) NoMemory c.from_residual-in_err-tell_new_children-in-Newer.result c.tell_new_children.new.self c.args.out.now.items c.tell_new_children.new.out.items c.from_residual-in_err-tell_new_children-in-Newer.ensures.1
    (then_prefix (record_part c.args.self.now c.args.link.0 c.args.told.now) (told_part c.args.self.now c.args.link.0 c.args.told.now) (λ to. news_to c.args.self.now (with_base c.args.self.now (base_told c.args.self.now c.args.link.0 c.args.told.now)) to) (record_first c.args.self.now c.args.link.0 c.args.told.now) c.keep.new.self c.args.out.now.items c.flood_newer.new.out.items c.tell_new_children.new.out.items (record { allowed = refl; state = told_newer c.args.self.now c.args.link.0 c.args.told.now c.take_before.new.self c.keep.new.self (sym c.leads_to_router.ensures ∙ c.if-not-leads_to_router.false) c.in_ok-before.ensures.same (subst (λ (r : RecordState). c.keep.new.self ≡ with_base c.take_before.new.self (after_record c.take_before.new.self.base r)) c.get.ensures c.in_ok-keep.ensures.state); sends = c.in_ok-flood_newer-in-Newer.ensures.ok c.args.self.now (still_of c.args.self.now c.args.link.0 c.args.told.now c.take_before.new.self c.keep.new.self c.as_slice.result.now c.in_ok-before.ensures.same (subst (λ (r : RecordState). c.keep.new.self ≡ with_base c.take_before.new.self (after_record c.take_before.new.self.base r)) c.get.ensures c.in_ok-keep.ensures.state) (subst (λ (m : NodeState). AreLinks m.base.me m.links) c.self.view_is c.self.invariant.links) (c.as_slice.ensures.value ∙ ap (λ (m : NodeState). m.links) c.self.view_is)) (sym c.leads_to_router.ensures ∙ c.if-not-leads_to_router.false) (ap (λ (m : NodeState). is_newer m.base c.args.told.now) (sym c.in_ok-before.ensures.same) ∙ newer_is _ (subst (λ (r : RecordState). Newer ≡ cond (is_newer c.take_before.new.self.base r) Newer Old) c.get.ensures (sym c.in-Newer.is ∙ c.in_ok-keep.ensures.answer))) })
    (news_told (λ (m : NodeState) (records : List RecordState). TellsPrefix (sends_snapshots (tables m) records) c.flood_newer.new.out.items c.tell_new_children.new.out.items) c.args.self.now c.keep.new.self (with_base c.args.self.now (base_told c.args.self.now c.args.link.0 c.args.told.now)) c.in_ok-before.before.family
    (told_newer c.args.self.now c.args.link.0 c.args.told.now c.take_before.new.self c.keep.new.self (sym c.leads_to_router.ensures ∙ c.if-not-leads_to_router.false) c.in_ok-before.ensures.same (subst (λ (r : RecordState). c.keep.new.self ≡ with_base c.take_before.new.self (after_record c.take_before.new.self.base r)) c.get.ensures c.in_ok-keep.ensures.state)) refl c.in_ok-before.ensures.children c.in_ok-before.ensures.none (told_me c.args.self.now c.args.link.0 c.args.told.now) c.in_err-tell_new_children-in-Newer.ensures.prefix))

pub returns-in_ok-tell_new_children-in-Newer : goal.returns-in_ok-tell_new_children-in-Newer
returns-in_ok-tell_new_children-in-Newer c =
    then_told (record_part c.args.self.now c.args.link.0 c.args.told.now) (told_part c.args.self.now c.args.link.0 c.args.told.now) (λ to. news_to c.args.self.now (with_base c.args.self.now (base_told c.args.self.now c.args.link.0 c.args.told.now)) to) (record_first c.args.self.now c.args.link.0 c.args.told.now) c.keep.new.self c.tell_new_children.new.self c.args.out.now.items c.flood_newer.new.out.items c.tell_new_children.new.out.items (record { allowed = refl; state = told_newer c.args.self.now c.args.link.0 c.args.told.now c.take_before.new.self c.keep.new.self (sym c.leads_to_router.ensures ∙ c.if-not-leads_to_router.false) c.in_ok-before.ensures.same (subst (λ (r : RecordState). c.keep.new.self ≡ with_base c.take_before.new.self (after_record c.take_before.new.self.base r)) c.get.ensures c.in_ok-keep.ensures.state); sends = c.in_ok-flood_newer-in-Newer.ensures.ok c.args.self.now (still_of c.args.self.now c.args.link.0 c.args.told.now c.take_before.new.self c.keep.new.self c.as_slice.result.now c.in_ok-before.ensures.same (subst (λ (r : RecordState). c.keep.new.self ≡ with_base c.take_before.new.self (after_record c.take_before.new.self.base r)) c.get.ensures c.in_ok-keep.ensures.state) (subst (λ (m : NodeState). AreLinks m.base.me m.links) c.self.view_is c.self.invariant.links) (c.as_slice.ensures.value ∙ ap (λ (m : NodeState). m.links) c.self.view_is)) (sym c.leads_to_router.ensures ∙ c.if-not-leads_to_router.false) (ap (λ (m : NodeState). is_newer m.base c.args.told.now) (sym c.in_ok-before.ensures.same) ∙ newer_is _ (subst (λ (r : RecordState). Newer ≡ cond (is_newer c.take_before.new.self.base r) Newer Old) c.get.ensures (sym c.in-Newer.is ∙ c.in_ok-keep.ensures.answer))) })
    (news_told (λ (m : NodeState) (records : List RecordState). Tells (sends_snapshots (tables m) records) c.flood_newer.new.out.items c.tell_new_children.new.out.items) c.args.self.now c.keep.new.self (with_base c.args.self.now (base_told c.args.self.now c.args.link.0 c.args.told.now)) c.in_ok-before.before.family
    (told_newer c.args.self.now c.args.link.0 c.args.told.now c.take_before.new.self c.keep.new.self (sym c.leads_to_router.ensures ∙ c.if-not-leads_to_router.false) c.in_ok-before.ensures.same (subst (λ (r : RecordState). c.keep.new.self ≡ with_base c.take_before.new.self (after_record c.take_before.new.self.base r)) c.get.ensures c.in_ok-keep.ensures.state)) refl c.in_ok-before.ensures.children c.in_ok-before.ensures.none (told_me c.args.self.now c.args.link.0 c.args.told.now) c.in_ok-tell_new_children-in-Newer.ensures.sends)
    (c.in_ok-tell_new_children-in-Newer.ensures.same ∙ told_newer c.args.self.now c.args.link.0 c.args.told.now c.take_before.new.self c.keep.new.self (sym c.leads_to_router.ensures ∙ c.if-not-leads_to_router.false) c.in_ok-before.ensures.same (subst (λ (r : RecordState). c.keep.new.self ≡ with_base c.take_before.new.self (after_record c.take_before.new.self.base r)) c.get.ensures c.in_ok-keep.ensures.state))

pub returns-in_err-before : goal.returns-in_err-before
returns-in_err-before c = nothing_sent (told_part c.args.self.now c.args.link.0 c.args.told.now) c.from_residual.result _ c.args.out.now.items c.from_residual.ensures.1 refl
