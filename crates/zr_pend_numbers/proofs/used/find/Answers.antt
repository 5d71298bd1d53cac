use Rattle.zr_pend_numbers.proofs.Rising.{found_here, found_within, gap_before, gap_behind, gap_within}
use Rattle.zr_pend_numbers.proofs.used.find.Goals as goal

pub returns-clause-within : goal.returns-clause-within
returns-clause-within c = found_within c.args.numbers.now.items c.args.number c.requires c.binary_search.result c.binary_search.ensures.position

pub returns-clause-here : goal.returns-clause-here
returns-clause-here c = found_here c.args.numbers.now.items c.args.number c.requires c.binary_search.result c.binary_search.ensures.position

pub returns-clause-gap : goal.returns-clause-gap
returns-clause-gap c = gap_within c.args.numbers.now.items c.args.number c.requires c.binary_search.result c.binary_search.ensures.position

pub returns-clause-below : goal.returns-clause-below
returns-clause-below c = gap_behind c.args.numbers.now.items c.args.number c.requires c.binary_search.result c.binary_search.ensures.position

pub returns-clause-above : goal.returns-clause-above
returns-clause-above c = gap_before c.args.numbers.now.items c.args.number c.requires c.binary_search.result c.binary_search.ensures.position
