use Rattle.std.proofs.Common.{◌<◌, ◌*◌, ◌+◌, sym, ◌∙◌, arith}
use Rattle.std.proofs.lemmas.List.Quantifiers.{position-Some}
use Rattle.zr_world_ends.proofs.Bits.{is_some_word, is_above, marked_there, none_before, none_marked}
use Rattle.zr_world_ends.proofs.marks.first.Goals as goal

pub lowest-bit-requires : goal.lowest-bit-requires
lowest-bit-requires c = is_above _ (position-Some is_some_word c.args.words.now c.in-Some.at 0 (sym c.first_word.ensures ∙ c.in-Some.is)).1

pub overflow_mul-result : goal.overflow_mul-result
overflow_mul-result c =
    let below : c.in-Some.at * 64 + c.lowest-bit.result < c.args.places =
    c.requires _ (marked_there c.args.words.now c.in-Some.at c.lowest-bit.result c.lowest-bit.ensures.within c.lowest-bit.ensures.is_set) in
    omega (arith, below, c.ranges.places)

pub overflow_add-result : goal.overflow_add-result
overflow_add-result c =
    let below : c.in-Some.at * 64 + c.lowest-bit.result < c.args.places =
    c.requires _ (marked_there c.args.words.now c.in-Some.at c.lowest-bit.result c.lowest-bit.ensures.within c.lowest-bit.ensures.is_set) in
    omega (arith, below, c.ranges.places)

pub returns-in-Some-clause-marked : goal.returns-in-Some-clause-marked
returns-in-Some-clause-marked c = marked_there c.args.words.now c.in-Some.at c.lowest-bit.result c.lowest-bit.ensures.within c.lowest-bit.ensures.is_set

pub returns-in-Some-clause-least : goal.returns-in-Some-clause-least
returns-in-Some-clause-least c =
    none_before c.args.words.now c.in-Some.at c.lowest-bit.result c.lowest-bit.ensures.within (sym c.first_word.ensures ∙ c.in-Some.is) c.lowest-bit.ensures.least

pub returns-in-None-clause-none : goal.returns-in-None-clause-none
returns-in-None-clause-none c = none_marked c.args.words.now (sym c.first_word.ensures ∙ c.in-None.is)
