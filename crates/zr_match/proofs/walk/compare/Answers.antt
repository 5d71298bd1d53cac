use Rattle.std.proofs.Common.{◌∙◌, sym, arith}
use Rattle.std.proofs.lemmas.List.{length-take-le}
use Rattle.zr_key.proofs.Plain.{plain_prefix_fits}
use Rattle.zr_match.proofs.Start.{texts_differ, skip_rest}
use Rattle.zr_match.proofs.walk.compare.Goals as goal

pub slice_bounds-ne-end : goal.slice_bounds-ne-end
slice_bounds-ne-end c =
    let fits = plain_prefix_fits c.args.first.now in
    sym (length-take-le c.args.plain c.args.first.now (omega arith))

pub slice_bounds-ne-end-2 : goal.slice_bounds-ne-end-2
slice_bounds-ne-end-2 c =
    let fits = plain_prefix_fits c.args.second.now in
    sym (length-take-le c.args.plain c.args.second.now (omega arith))

pub returns-then-ne : goal.returns-then-ne
returns-then-ne c =
    sym (texts_differ c.args.expands c.args.first.now c.args.second.now c.args.plain c.requires.first_plain c.requires.second_plain (sym c.ne.ensures ∙ c.if-ne.true) c.requires.first_is c.requires.second_is)

pub compare_from-requires-clause-first_is : goal.compare_from-requires-clause-first_is
compare_from-requires-clause-first_is c =
    (skip_rest c.args.first.now c.args.second.now c.args.plain c.chunk_start-start.result c.requires.first_plain (sym c.ne.ensures ∙ c.if-ne.false)
    c.chunk_start-start.ensures.before c.chunk_start-start.ensures.behind c.requires.first_is c.requires.second_is).first_is

pub compare_from-requires-clause-second_is : goal.compare_from-requires-clause-second_is
compare_from-requires-clause-second_is c =
    (skip_rest c.args.first.now c.args.second.now c.args.plain c.chunk_start-start.result c.requires.first_plain (sym c.ne.ensures ∙ c.if-ne.false)
    c.chunk_start-start.ensures.before c.chunk_start-start.ensures.behind c.requires.first_is c.requires.second_is).second_is

pub returns : goal.returns
returns c =
    c.compare_from.ensures
    ∙ (skip_rest c.args.first.now c.args.second.now c.args.plain c.chunk_start-start.result c.requires.first_plain (sym c.ne.ensures ∙ c.if-ne.false)
    c.chunk_start-start.ensures.before c.chunk_start-start.ensures.behind c.requires.first_is c.requires.second_is).same c.args.expands
