use Rattle.std.proofs.Common.{◌≡◌, ◌<◌, [], length, refl, sym, ◌∙◌, arith}
use Rattle.std.proofs.lemmas.List.{get_or_read}
use Rattle.std.proofs.lemmas.List.FromFn.{map-range_with_len_more}
use Rattle.zr_tree_parents.specs.Climb.{nearer, row}
use Rattle.zr_tree_parents.proofs.parents.parents_of.Goals as goal

pub nearer_of-requires-clause-within : goal.nearer_of-requires-clause-within
nearer_of-requires-clause-within c k d lt =
    let e : c.neighbours-neighbours.result.now ≡ row c.args.rows.now c.loop-x.x = c.neighbours-neighbours.ensures ∙ get_or_read c.args.rows.now c.loop-x.x c.index-rows-x.result c.loop-x-test.true c.index-rows-x.is [] in
    let lt' : k < length (row c.args.rows.now c.loop-x.x) = rw (← e) lt in
    rw e (omega (arith, c.requires.within c.loop-x.x c.loop-x-test.true k d lt', c.requires.long))

pub loop-x-preserved : goal.loop-x-preserved
loop-x-preserved c =
    let e : c.neighbours-neighbours.result.now ≡ row c.args.rows.now c.loop-x.x = c.neighbours-neighbours.ensures ∙ get_or_read c.args.rows.now c.loop-x.x c.index-rows-x.result c.loop-x-test.true c.index-rows-x.is [] in
    let r : c.nearer_of.result ≡ nearer c.args.rows.now c.args.distances.now c.loop-x.x = rw (c.nearer_of.ensures, e) refl in
    c.in_ok-push.ensures.items ∙ rw (r, c.loop-x.invariant) refl ∙ sym (map-range_with_len_more (nearer c.args.rows.now c.args.distances.now) 0 c.loop-x.x c.loop-x.x (omega arith))
