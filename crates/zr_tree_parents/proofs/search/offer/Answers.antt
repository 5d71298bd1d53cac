use Rattle.std.proofs.Common.{◌<◌, length, get_or, arith}
use Rattle.zr_tree_parents.specs.declared.row.Neighbour.{Neighbour}
use Rattle.zr_tree_parents.proofs.Offered.{offers_none, offers_new, offers_nearer, offers_no_nearer, offers_next}
use Rattle.zr_tree_parents.proofs.search.offer.Goals as goal
use Rattle.zr_tree_parents.proofs.search.offer.Goals.{in-None+in_ok-push-in-None, in-Some+then-offered-known, in-Some+else-offered-known}

pub loop-n-init : goal.loop-n-init
loop-n-init c = offers_none c.args.distances.now c.args.found.now.items c.args.distance

pub loop-n-preserved : goal.loop-n-preserved
loop-n-preserved c =
    let none : Neighbour = record { index = 0; weight = 0 } in
    let n : Neighbour = get_or c.args.neighbours.now c.loop-n.n-index none in
    let inside : n.index < length c.args.distances.now = c.requires.within c.loop-n.n-index none c.loop-n-test.true in
    let lt : n.index < length c.loop-n.distances = omega (arith, inside, c.loop-n.auto.distances) in
    elim c.match-distances-n.branch [
      | in-None+in_ok-push-in-None w ↦
          rw (w.distances-is, w.found-is, c.from.ensures, w.in_ok-push-in-None.ensures.items) (offers_next _ _ _ _ _ _ c.args.neighbours.now c.loop-n.n-index none c.args.distance c.loop-n-test.true c.loop-n.invariant
          (offers_new c.loop-n.distances c.loop-n.found.items n c.args.distance lt w.in-None.is))
      | in-Some+then-offered-known w ↦
          rw (w.distances-is, w.found-is, c.from.ensures) (offers_next _ _ _ _ _ _ c.args.neighbours.now c.loop-n.n-index none c.args.distance c.loop-n-test.true c.loop-n.invariant
          (offers_nearer c.loop-n.distances c.loop-n.found.items n c.args.distance lt w.in-Some.known w.in-Some.is (omega (arith, w.if-offered-known.true, c.from.ensures))))
      | in-Some+else-offered-known w ↦
          rw (w.distances-is, w.found-is) (offers_next _ _ _ _ _ _ c.args.neighbours.now c.loop-n.n-index none c.args.distance c.loop-n-test.true c.loop-n.invariant
          (offers_no_nearer c.loop-n.distances c.loop-n.found.items n c.args.distance w.in-Some.known w.in-Some.is (omega (arith, w.if-offered-known.false, c.from.ensures))))
    ]
