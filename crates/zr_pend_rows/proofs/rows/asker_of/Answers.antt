use Rattle.std.proofs.Common.{◌≡◌, true, sym, ap, ◌∙◌}
use Rattle.std.specs.Option.{option_and_then}
use Rattle.zr_pend_spec.specs.Row.{RowState, has}
use Rattle.zr_pend_rows.proofs.Placed.{found, row_asker}
use Rattle.zr_pend_rows.proofs.rows.asker_of.Goals as goal

pub returns-in-Some : goal.returns-in-Some
returns-in-Some c =
    let b = c.args.branch in
    let f = found _ (λ r. has b r ≡ true) c.in-Some.ensures.has in
    c.asker_at.ensures ∙ ap (λ o. option_and_then (λ (r : RowState). r.asker) o) f.is
    ∙ sym (row_asker c.args.rows.now.entries c.in-Some.place b f.value f.is f.holds c.requires.sound)
