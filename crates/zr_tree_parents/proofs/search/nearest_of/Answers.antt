use Rattle.std.proofs.Common.{◌≡◌, take, sym, arith}
use Rattle.std.proofs.lemmas.List.{take_all}
use Rattle.zr_tree_parents.proofs.Nearer.{best_none, best_stays, best_now}
use Rattle.zr_tree_parents.proofs.search.nearest_of.Goals as goal
use Rattle.zr_tree_parents.proofs.search.nearest_of.Goals.{in-Some+then-is_nearer, in-Some+else-is_nearer, in_default}

pub loop-place-preserved : goal.loop-place-preserved
loop-place-preserved c =
    elim c.match-distances-x.branch [
      | in-Some+then-is_nearer w ↦
          rw w.best-is (best_now c.args.distances.now c.args.found.now c.loop-place.place c.loop-place-test.true c.loop-place.best w.in-Some.distance w.in-Some.is (sym w.if-is_nearer.ensures) c.loop-place.invariant)
      | in-Some+else-is_nearer w ↦
          rw w.best-is (best_stays c.args.distances.now c.args.found.now c.loop-place.place c.loop-place-test.true c.loop-place.best w.in-Some.distance w.in-Some.is (sym w.if-is_nearer.ensures) c.loop-place.invariant)
      | in_default w ↦ rw w.best-is (best_none c.args.distances.now c.args.found.now c.loop-place.place c.loop-place-test.true c.loop-place.best w.in_default.is c.loop-place.invariant)
    ]

pub returns : goal.returns
returns c =
    let e : take c.loop-place.place c.args.found.now ≡ c.args.found.now = take_all c.loop-place.place c.args.found.now (omega arith) in
    rw e at c.loop-place.invariant
