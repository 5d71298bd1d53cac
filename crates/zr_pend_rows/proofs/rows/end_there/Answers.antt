use Rattle.std.proofs.Common.{◌≡◌, true, sym, ap, ◌∙◌}
use Rattle.std.specs.Map.{values_of}
use Rattle.zr_pend_spec.specs.Row.{has}
use Rattle.zr_pend_rows.proofs.Placed.{found, row_ended, row_final}
use Rattle.zr_pend_rows.proofs.rows.end_there.Goals as goal

pub returns-clause-asker : goal.returns-clause-asker
returns-clause-asker c =
    let b = c.args.branch in
    let f = found _ (λ r. has b r ≡ true) c.requires.has in
    c.final_at-asker.ensures f.value f.is ∙ sym (row_final c.args.rows.now.entries c.args.place b f.value f.is f.holds c.requires.distinct)

pub returns-clause-rows : goal.returns-clause-rows
returns-clause-rows c =
    let b = c.args.branch in
    let f = found _ (λ r. has b r ≡ true) c.requires.has in
    ap values_of (c.end_in_row.ensures f.value f.is) ∙ row_ended c.args.rows.now.entries c.args.place b f.value f.is f.holds c.requires.distinct
