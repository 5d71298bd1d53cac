use Rattle.std.proofs.Common.{◌+◌, ◌≤◌, drop, length, sym, ap, ◌∙◌, arith}
use Rattle.std.specs.Prelude.{◌||◌}
use Rattle.std.proofs.Math.ListN.{drop_of_length-le}
use Rattle.zr_told_spec.specs.Rows.{is_touched}
use Rattle.zr_told.proofs.Changed.{next_left}
use Rattle.zr_told.proofs.touched.is_touched.Goals as goal

pub returns-then-one_fits : goal.returns-then-one_fits
returns-then-one_fits c =
    let q = next_left c.args.places.now c.loop-place.place-index c.place-item.result c.loop-place-test.true c.place-item.is in
    ap (λ b. b || is_touched (drop (c.loop-place.place-index + 1) c.args.places.now) c.args.interests.now) (sym c.if-one_fits.true ∙ c.one_fits.ensures)
    ∙ ap (λ z. is_touched z c.args.interests.now) (sym q)
    ∙ c.loop-place.invariant

pub loop-place-preserved : goal.loop-place-preserved
loop-place-preserved c =
    let q = next_left c.args.places.now c.loop-place.place-index c.place-item.result c.loop-place-test.true c.place-item.is in
    ap (λ b. b || is_touched (drop (c.loop-place.place-index + 1) c.args.places.now) c.args.interests.now) (sym c.if-one_fits.false ∙ c.one_fits.ensures)
    ∙ ap (λ z. is_touched z c.args.interests.now) (sym q)
    ∙ c.loop-place.invariant

pub returns : goal.returns
returns c =
    let l : length c.args.places.now ≤ c.loop-place.place-index = omega arith in
    ap (λ z. is_touched z c.args.interests.now) (sym (drop_of_length-le c.args.places.now l)) ∙ c.loop-place.invariant
