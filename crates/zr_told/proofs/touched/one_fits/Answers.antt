use Rattle.std.proofs.Common.{◌+◌, ◌≤◌, drop, length, sym, ap, ◌∙◌, arith}
use Rattle.std.specs.Prelude.{◌||◌}
use Rattle.std.specs.List.{list_any}
use Rattle.std.proofs.Math.ListN.{drop_of_length-le}
use Rattle.zr_told_spec.specs.Wanted.{fits}
use Rattle.zr_told.proofs.Changed.{next_left}
use Rattle.zr_told.proofs.touched.one_fits.Goals as goal

pub returns-then-fits : goal.returns-then-fits
returns-then-fits c =
    let q = next_left c.args.interests.now c.loop-interest.interest-index c.interest-item.result c.loop-interest-test.true c.interest-item.is in
    ap (λ b. b || list_any (λ i. fits i c.args.place.now) (drop (c.loop-interest.interest-index + 1) c.args.interests.now)) (sym c.if-fits.true ∙ c.fits.ensures)
    ∙ ap (λ z. list_any (λ i. fits i c.args.place.now) z) (sym q)
    ∙ c.loop-interest.invariant

pub loop-interest-preserved : goal.loop-interest-preserved
loop-interest-preserved c =
    let q = next_left c.args.interests.now c.loop-interest.interest-index c.interest-item.result c.loop-interest-test.true c.interest-item.is in
    ap (λ b. b || list_any (λ i. fits i c.args.place.now) (drop (c.loop-interest.interest-index + 1) c.args.interests.now)) (sym c.if-fits.false ∙ c.fits.ensures)
    ∙ ap (λ z. list_any (λ i. fits i c.args.place.now) z) (sym q)
    ∙ c.loop-interest.invariant

pub returns : goal.returns
returns c =
    let l : length c.args.interests.now ≤ c.loop-interest.interest-index = omega arith in
    ap (λ z. list_any (λ i. fits i c.args.place.now) z) (sym (drop_of_length-le c.args.interests.now l)) ∙ c.loop-interest.invariant
