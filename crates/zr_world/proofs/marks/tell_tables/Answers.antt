use Rattle.std.proofs.Common.{◌≡◌, ◌++◌, List, ap, ◌∙◌, subst}
use Rattle.std.proofs.lemmas.Result.{on_ok_weaker, on_err_weaker}
use Rattle.zr_graph.specs.Base.{BaseState}
use Rattle.zr_log.specs.Known.{KnownState}
use Rattle.zr_log.specs.declared.log.Log.{Log}
use Rattle.zr_lists.specs.Prefix.{IsPrefixBehind}
use Rattle.zr_lists.proofs.Prefixes.{first_prefix, second_prefix, both_said}
use Rattle.zr_world_spec.specs.Acts.{shown_base}
use Rattle.zr_world.specs.Show.{source_lines}
use Rattle.zr_world.proofs.Show.{err_by}
use Rattle.zr_world.proofs.marks.tell_tables.Goals as goal

pub returns-in_err-tell_base-clause-err : goal.returns-in_err-tell_base-clause-err
returns-in_err-tell_base-clause-err c = err_by c.from_residual.result
    (first_prefix c.args.report.now.items (shown_base c.args.hub.now.node.base) (source_lines c.args.hub.now.node.known.logs) c.tell_base.new.report.items
    (subst (λ (b : BaseState). IsPrefixBehind c.args.report.now.items (shown_base b) c.tell_base.new.report.items) c.base.ensures c.in_err-tell_base.ensures.err))

pub returns-clause-told : goal.returns-clause-told
returns-clause-told c =
    let logs : c.logs.result.now ≡ c.args.hub.now.node.known.logs = c.logs.ensures.value ∙ ap (λ (k : KnownState). k.logs) c.known.ensures in
    on_ok_weaker c.tell_sources.result
    (λ f. both_said c.args.report.now.items (shown_base c.args.hub.now.node.base) (source_lines c.args.hub.now.node.known.logs) c.tell_base.new.report.items c.tell_sources.new.report.items
    (subst (λ (b : BaseState). c.tell_base.new.report.items ≡ c.args.report.now.items ++ shown_base b) c.base.ensures c.in_ok-tell_base.ensures.told)
    (subst (λ (z : List Log). c.tell_sources.new.report.items ≡ c.tell_base.new.report.items ++ source_lines z) logs f))
    c.tell_sources.ensures.told

pub returns-clause-err : goal.returns-clause-err
returns-clause-err c =
    let logs : c.logs.result.now ≡ c.args.hub.now.node.known.logs = c.logs.ensures.value ∙ ap (λ (k : KnownState). k.logs) c.known.ensures in
    on_err_weaker c.tell_sources.result
    (λ h. second_prefix c.args.report.now.items (shown_base c.args.hub.now.node.base) (source_lines c.args.hub.now.node.known.logs) c.tell_base.new.report.items c.tell_sources.new.report.items
    (subst (λ (b : BaseState). c.tell_base.new.report.items ≡ c.args.report.now.items ++ shown_base b) c.base.ensures c.in_ok-tell_base.ensures.told)
    (subst (λ (z : List Log). IsPrefixBehind c.tell_base.new.report.items (source_lines z) c.tell_sources.new.report.items) logs h))
    c.tell_sources.ensures.err
