use Rattle.std.proofs.Common.{List, ◌++◌, sym, ap, subst, ◌∙◌}
use Rattle.zr_local.specs.declared.row.Row.{Row}
use Rattle.zr_node.specs.Holding.{rows_but}
use Rattle.zr_node.proofs.HeldAfter.{untouched}
use Rattle.zr_push_sought.specs.Holders.{HoldJust}
use Rattle.zr_push_sought.specs.Pairs.{of_clients, of_sources}
use Rattle.zr_node.proofs.holding.apply.Goals as goal

pub returns-clause-holders : goal.returns-clause-holders
returns-clause-holders c = λ me logs just.
    let same = ap (rows_but c.args.local.now.rows) c.touched_by-place.ensures ∙ untouched c.apply-done.result c.args.local.now c.apply-done.new.local c.args.asked c.take.ensures.in_order c.apply-done.ensures.value c.apply-done.ensures.unchanged
    ∙ ap (rows_but c.apply-done.new.local.rows) (sym c.touched_by-place.ensures) in
    c.put.ensures (of_sources me logs)
    (subst (λ (rows : List Row). HoldJust (of_clients rows ++ of_sources me logs) c.take.new.holders) same (c.take.ensures.holders (of_sources me logs) just))
