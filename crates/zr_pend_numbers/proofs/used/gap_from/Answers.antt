use Rattle.std.proofs.Common.{◌≡◌, ◌+◌, ◌-◌, ◌/◌, get_or, sym, ◌∙◌, arith}
use Rattle.std.proofs.lemmas.List.{get_or_default}
use Rattle.zr_pend_numbers.proofs.Rising.{all_before, gap_is_free, lower_half, upper_half}
use Rattle.zr_pend_numbers.proofs.used.gap_from.Goals as goal

pub halves-preserved-then-index-middle : goal.halves-preserved-then-index-middle
halves-preserved-then-index-middle c =
    let middle = c.halves.from + c.halves.left / 2 in
    let here : get_or c.args.numbers.now.items middle 0 ≡ c.index.result.now = get_or_default c.args.numbers.now.items middle 0 c.index.result.now (omega (arith, c.halves-test.true, c.halves.invariant.2)) ∙ sym c.index.ensures in
    upper_half c.args.numbers.now.items c.args.first c.halves.from c.halves.left (c.halves.left / 2) c.requires.up c.requires.above c.halves.invariant.1 (omega (arith, c.halves-test.true)) c.halves.invariant.2 (here ∙ c.if-index-middle.true)
    c.halves.invariant.0

pub halves-preserved : goal.halves-preserved
halves-preserved c =
    let middle = c.halves.from + c.halves.left / 2 in
    let here : get_or c.args.numbers.now.items middle 0 ≡ c.index.result.now = get_or_default c.args.numbers.now.items middle 0 c.index.result.now (omega (arith, c.halves-test.true, c.halves.invariant.2)) ∙ sym c.index.ensures in
    lower_half c.args.numbers.now.items c.args.first c.halves.from c.halves.left (c.halves.left / 2) c.requires.up c.requires.above c.halves.invariant.1 (omega (arith, c.halves-test.true)) c.halves.invariant.2 (λ e. c.if-index-middle.false (sym here ∙ e))
    c.halves.invariant.0

pub returns-clause-free : goal.returns-clause-free
returns-clause-free c =
    gap_is_free c.args.numbers.now.items c.args.first c.halves.from (c.halves.from + c.halves.left) (c.halves.from - c.args.first + 1) (omega (arith, c.halves-test.false)) c.halves.invariant.1 (omega (arith, c.halves.invariant.1))
    c.requires.below c.halves.invariant.0

pub returns-clause-least : goal.returns-clause-least
returns-clause-least c = λ k up lt.
    all_before c.args.numbers.now.items c.args.first c.halves.from (c.halves.from + c.halves.left) (c.halves.from - c.args.first + 1) k (omega (arith, c.halves.invariant.2)) (omega (arith, c.halves.invariant.1)) up lt
    c.halves.invariant.0
