use Rattle.std.proofs.Common.{◌≡◌, List, [], get_or, length, sym, ap, ◌∙◌, arith}
use Rattle.std.proofs.lemmas.List.{get_or_read}
use Rattle.std.proofs.lemmas.Result.{IfOk-weaker}
use Rattle.zr_tree_parents.specs.declared.row.Neighbour.{Neighbour}
use Rattle.zr_tree_parents.specs.Climb.{row}
use Rattle.zr_tree.proofs.OwnChildren.{none_flagged, passed_all}
use Rattle.zr_tree.proofs.flags.flags_of.Goals as goal

pub returns-in-Some-clause-flags : goal.returns-in-Some-clause-flags
returns-in-Some-clause-flags c =
    let e = c.args.edges.now in
    let right = c.rows.ensures.right in
    let here : c.neighbours-neighbours.result.now ≡ row e.rows c.args.child =
    c.neighbours-neighbours.ensures ∙ get_or_read c.rows.result.now c.args.child c.index-rows-child.result (omega (arith, c.requires.child, right.long, ap length c.rows.ensures.value)) c.index-rows-child.is [] ∙ ap (λ (rs : List (List Neighbour)). get_or rs c.args.child []) c.rows.ensures.value in
    passed_all e right c.args.me c.args.child c.requires.me c.requires.child c.in-Some.place (rw here at (sym c.place_of.ensures ∙ c.in-Some.is)) c.passed.result c.args.searches.now c.passed.new.searches (rw here at c.passed.ensures.searched) (rw here at c.passed.ensures.flags)

pub returns-in-Some-clause-searches : goal.returns-in-Some-clause-searches
returns-in-Some-clause-searches c = IfOk-weaker c.passed.result _ _ (λ flags h. h.are) c.passed.ensures.searched

pub returns-in-None-clause-flags : goal.returns-in-None-clause-flags
returns-in-None-clause-flags c =
    let e = c.args.edges.now in
    let right = c.rows.ensures.right in
    let here : c.neighbours-neighbours.result.now ≡ row e.rows c.args.child =
    c.neighbours-neighbours.ensures ∙ get_or_read c.rows.result.now c.args.child c.index-rows-child.result (omega (arith, c.requires.child, right.long, ap length c.rows.ensures.value)) c.index-rows-child.is [] ∙ ap (λ (rs : List (List Neighbour)). get_or rs c.args.child []) c.rows.ensures.value in
    rw c.new.ensures.items (none_flagged e right c.args.me c.args.child c.requires.me c.requires.child (rw here at (sym c.place_of.ensures ∙ c.in-None.is)))
