use Rattle.std.proofs.Common.{◌-◌, ◌*◌, ◌+◌, ◌^◌, ◌<◌, ◌≤◌, length, get_or, refl, arith}
use Rattle.zr_top_words.proofs.Digits.{too_large}
use Rattle.zr_top_words.proofs.number.value.Goals as goal

pub returns-then-n-from : goal.returns-then-n-from
returns-then-n-from c =
    let lt : c.loop-b.b-index < length c.args.word.now = omega arith in
    let large : 2 ^ 64 ≤ c.loop-b.n * 10 + (get_or c.args.word.now c.loop-b.b-index 0 - 48) = omega arith in
    rw (too_large c.loop-b.n c.loop-b.b-index c.args.word.now lt large c.loop-b.invariant.1) refl
