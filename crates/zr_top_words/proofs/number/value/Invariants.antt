-- The digits that are left, from the value so far, make the whole value.
use Rattle.std.proofs.Common.{◌≡◌, ◌+◌, ◌-◌, ◌*◌, ◌<◌, ◌^◌, drop}
use Rattle.std.specs.List.{fold}
use Rattle.zr_script_spec.specs.Words.{value_of}
use Rattle.zr_top_words.proofs.number.value.Given as goal

abbrev pub invariant-loop-b : goal.invariant-loop-b
invariant-loop-b l = (l.n < 2 ^ 64) × (fold (λ n b. n * 10 + (b - 48)) l.n (drop l.b-index l.word) ≡ value_of l.word)
