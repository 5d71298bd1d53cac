use Rattle.std.proofs.Common.{◌≡◌, List, ap, ◌∙◌, subst, arith}
use Rattle.std.specs.List.{AllByRecursion, concat, flat_map}
use Rattle.zr_orders.specs.Ranked.{ranked}
use Rattle.zr_script_spec.specs.declared.report.ReportLine.TheVariants.{Fanned}
use Rattle.zr_world_gang.specs.Shares.{ShareState}
use Rattle.zr_law_rounds.specs.Told.{IsTold, kinds_in}
use Rattle.zr_world_rounds.proofs.Telling.{few_are, line_is}
use Rattle.zr_world_rounds.proofs.told.told.Goals as goal

pub returns-clause-line : goal.returns-clause-line
returns-clause-line g c =
    let told = c.turn_tells.ensures c.args.shares.items c.in_ok-shares.shares.items c.in_ok-shares.ensures in
    let lines =
    subst (λ (z : List ShareState). AllByRecursion (λ s. IsTold s) z → c.in_ok-lines.lines.items ≡ concat (ranked (flat_map (λ s. s.lines) z))) c.deref-2.ensures.value c.in_ok-lines.ensures
    in
    ap (λ t. Fanned t c.in_ok-steps.steps c.in_ok-kinds.kinds) c.new.ensures
    ∙ line_is c.args.shares.items c.in_ok-shares.shares.items c.in_ok-lines.lines.items c.in_ok-kinds.kinds c.in_ok-sum.field-0 c.in_ok-steps.steps told lines
    (c.in_ok-kinds.ensures ∙ ap kinds_in c.deref.ensures.value) c.in_ok-sum.ensures c.in_ok-steps.ensures

pub returns-clause-few : goal.returns-clause-few
returns-clause-few g c =
    few_are c.args.shares.items c.in_ok-kinds.kinds c.in_ok-sum.field-0 c.in_ok-steps.steps (c.in_ok-kinds.ensures ∙ ap kinds_in c.deref.ensures.value) c.in_ok-sum.ensures c.in_ok-steps.ensures (omega arith)

pub returns-clause-stay : goal.returns-clause-stay
returns-clause-stay g c = (c.turn_tells.ensures c.args.shares.items c.in_ok-shares.shares.items c.in_ok-shares.ensures).stay
