-- What is left to declare is left to be said and leads to the same end, and the ids that are left fit.
use Rattle.std.proofs.Common.{◌≡◌, drop}
use Rattle.std.specs.List.{fold}
use Rattle.zr_lists.proofs.Prefixes.{IsSoFar}
use Rattle.zr_told.specs.Plan.{fit}
use Rattle.zr_told_spec.specs.Rows.{most_id, sent_on}
use Rattle.zr_told_spec.specs.Told.{declared, entered}
use Rattle.zr_told.proofs.book.Book.declare_all.Given as goal

abbrev pub invariant-loop-wanted : goal.invariant-loop-wanted
invariant-loop-wanted l =
    (fold entered l.self (drop l.wanted-index l.fresh) ≡ fold entered l.fn.self l.fresh)
    × IsSoFar l.fn.out.items (sent_on l.link (declared l.interest l.fn.self l.fresh)) l.out.items (sent_on l.link (declared l.interest l.self (drop l.wanted-index l.fresh)))
    × fit most_id l.self (drop l.wanted-index l.fresh)
