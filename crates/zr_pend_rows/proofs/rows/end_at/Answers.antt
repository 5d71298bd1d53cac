use Rattle.std.proofs.Common.{◌≡◌, true, false, sym, ap, ◌∙◌}
use Rattle.std.specs.Map.{values_of}
use Rattle.std.specs.Option.{option_and_then, option_map_or}
use Rattle.zr_pend_spec.specs.Row.{RowState, has, is_last}
use Rattle.zr_pend_rows.proofs.Placed.{found, gone_final, left_final, row_gone, row_left}
use Rattle.zr_pend_rows.proofs.rows.end_at.Goals as goal

pub returns-then-is_last_at-clause-asker : goal.returns-then-is_last_at-clause-asker
returns-then-is_last_at-clause-asker c =
    let b = c.args.branch in
    let f = found _ (λ r. has b r ≡ true) c.requires.has in
    let last : is_last b f.value ≡ true = sym (c.is_last_at.ensures ∙ ap (λ o. option_map_or (is_last b) o false) f.is) ∙ c.if-is_last_at.true in
    c.take_row.ensures.asker ∙ ap (λ o. option_and_then (λ (r : RowState). r.asker) o) f.is
    ∙ sym (gone_final c.args.rows.now.entries c.args.place b f.value f.is f.holds c.requires.sound last)

pub returns-then-is_last_at-clause-rows : goal.returns-then-is_last_at-clause-rows
returns-then-is_last_at-clause-rows c =
    let b = c.args.branch in
    let f = found _ (λ r. has b r ≡ true) c.requires.has in
    let last : is_last b f.value ≡ true = sym (c.is_last_at.ensures ∙ ap (λ o. option_map_or (is_last b) o false) f.is) ∙ c.if-is_last_at.true in
    ap values_of c.take_row.ensures.rows ∙ row_gone c.args.rows.now.entries c.args.place b f.value f.is f.holds c.requires.sound last

pub returns-clause-asker : goal.returns-clause-asker
returns-clause-asker c =
    let b = c.args.branch in
    let f = found _ (λ r. has b r ≡ true) c.requires.has in
    let more : is_last b f.value ≡ false = sym (c.is_last_at.ensures ∙ ap (λ o. option_map_or (is_last b) o false) f.is) ∙ c.if-is_last_at.false in
    sym (left_final c.args.rows.now.entries c.args.place b f.value f.is f.holds c.requires.sound more)

pub returns-clause-rows : goal.returns-clause-rows
returns-clause-rows c =
    let b = c.args.branch in
    let f = found _ (λ r. has b r ≡ true) c.requires.has in
    let more : is_last b f.value ≡ false = sym (c.is_last_at.ensures ∙ ap (λ o. option_map_or (is_last b) o false) f.is) ∙ c.if-is_last_at.false in
    ap values_of (c.end_in_row.ensures f.value f.is) ∙ row_left c.args.rows.now.entries c.args.place b f.value f.is f.holds c.requires.sound more
