use Rattle.std.proofs.Common.{◌≡◌, [], ◌∷◌, ◌++◌, Some, Err, sym, ap, ◌∙◌, subst, rules}
use Rattle.std.proofs.lemmas.Result.{err_from_is_err_and}
use Rattle.zr_script_spec.specs.declared.report.ReportLine.TheVariants.{Show}
use Rattle.zr_lists.specs.Prefix.{IsPrefixBehind}
use Rattle.zr_lists.proofs.Prefixes.{second_prefix, both_said}
use Rattle.zr_told_spec.specs.Hub.{HubState}
use Rattle.zr_world_spec.specs.World.{router_of}
use Rattle.zr_world_spec.specs.Acts.{shown, show_step}
use Rattle.zr_world.specs.Living.{lines_of}
use Rattle.zr_world.specs.State.{state_of}
use Rattle.zr_world.proofs.Moving.{show_is, applied, ran_out, no_lines}
use Rattle.zr_world.proofs.tables.WorldTables.show.Goals as goal

pub returns-in_err-push : goal.returns-in_err-push
returns-in_err-push g c =
    let w = state_of c.args.self.now in
    let p = err_from_is_err_and c.from_residual.result c.from_residual.ensures.1 in
    ran_out c.from_residual.result (show_step w c.args.router) w _ c.args.report.now.items c.push.new.self.items (p.1 ∙ ap Err p.2)
    (rw c.in_err-push.ensures.items (no_lines c.args.report.now.items (lines_of (show_step w c.args.router))))

pub returns-in_err-tell_tables : goal.returns-in_err-tell_tables
returns-in_err-tell_tables g c =
    let w = state_of c.args.self.now in
    let er : router_of (state_of c.args.self.now).routers c.args.router ≡ Some c.in-Some.r.now = search rules in
    let p = err_from_is_err_and c.from_residual-in_err-tell_tables.result c.from_residual-in_err-tell_tables.ensures.1 in
    let begin : IsPrefixBehind c.push.new.self.items (shown c.in-Some.r.now.node) c.tell_tables.new.report.items =
    subst (λ (h : HubState). IsPrefixBehind c.push.new.self.items (shown h.node) c.tell_tables.new.report.items) c.hub.ensures c.in_err-tell_tables.ensures.err in
    ran_out c.from_residual-in_err-tell_tables.result (show_step w c.args.router) w _ c.args.report.now.items c.tell_tables.new.report.items (p.1 ∙ ap Err p.2)
    (subst (λ z. IsPrefixBehind c.args.report.now.items (lines_of z) c.tell_tables.new.report.items) (sym (show_is w c.args.router c.in-Some.r.now er))
    (second_prefix c.args.report.now.items (Show c.args.router ∷ []) (shown c.in-Some.r.now.node) c.push.new.self.items c.tell_tables.new.report.items c.in_ok-push.ensures.items begin))

pub returns : goal.returns
returns g c =
    let w = state_of c.args.self.now in
    let er : router_of (state_of c.args.self.now).routers c.args.router ≡ Some c.in-Some.r.now = search rules in
    let told : c.tell_tables.new.report.items ≡ c.push.new.self.items ++ shown c.in-Some.r.now.node =
    subst (λ (h : HubState). c.tell_tables.new.report.items ≡ c.push.new.self.items ++ shown h.node) c.hub.ensures c.in_ok-tell_tables.ensures.told in
    applied (show_step w c.args.router) (Show c.args.router ∷ shown c.in-Some.r.now.node) w w c.args.report.now.items c.tell_tables.new.report.items
    (show_is w c.args.router c.in-Some.r.now er)
    (both_said c.args.report.now.items (Show c.args.router ∷ []) (shown c.in-Some.r.now.node) c.push.new.self.items c.tell_tables.new.report.items c.in_ok-push.ensures.items told)
