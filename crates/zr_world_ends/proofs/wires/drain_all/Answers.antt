use Rattle.std.proofs.Common.{◌≡◌, [], ◌∷◌, ◌++◌, sym, ap, ◌∙◌, subst, rules, arith}
use Rattle.std.proofs.lemmas.Grind.{common_steps}
use Rattle.std.specs.Vec.Iter.{into_iter_items}
use Rattle.zr_world_spec.specs.World.{EndState, Ends}
use Rattle.zr_world_ends.specs.Carried.{Drains}
use Rattle.zr_world_ends.specs.Kept.{KeptEnds}
use Rattle.zr_world_ends.proofs.Draining.{Draining, draining_all, draining_more, draining_none}
use Rattle.zr_world_ends.proofs.wires.drain_all.Goals as goal

pub loop-router-init : goal.loop-router-init
loop-router-init g c =
    subst (λ (z : Ends). Draining (g.C.Carrier.wire c.args.carrier.now) c.args.ends.items z (g.C.Carrier.wire c.args.carrier.now) (into_iter_items c.into_iter-router-iterator.result)) (sym c.new-drained.ensures.items)
    (draining_none (g.C.Carrier.wire c.args.carrier.now) c.args.ends.items (into_iter_items c.into_iter-router-iterator.result) c.into_iter-router-iterator.ensures.into_iter_gives.0)

pub loop-router-preserved : goal.loop-router-preserved
loop-router-preserved g c =
    let now = g.C.Carrier.wire c.loop-router.carrier in
    let new = g.C.Carrier.wire c.drain.new.carrier in
    let rest : KeptEnds = into_iter_items c.next.new.self in
    let one : c.push.new.self.items ≡ c.loop-router.drained.items ++ ((c.in-Some.router, c.in-Some.neighbour), c.new.result) ∷ [] = c.in_ok-push.ensures.items in
    subst (λ (z : Ends). Draining (g.C.Carrier.wire c.args.carrier.now) c.args.ends.items z new rest)
    (sym (one ∙ ap (λ (s : EndState). c.loop-router.drained.items ++ ((c.in-Some.router, c.in-Some.neighbour), s) ∷ []) c.new.ensures))
    (draining_more (g.C.Carrier.wire c.args.carrier.now) c.args.ends.items c.loop-router.drained.items now new rest (c.in-Some.router, c.in-Some.neighbour) c.in-Some.end c.in_ok-wire.wire.items c.requires.carried
    (subst (λ (z : KeptEnds). Draining (g.C.Carrier.wire c.args.carrier.now) c.args.ends.items c.loop-router.drained.items now z) c.in-Some.ensures.steps.0 c.loop-router.invariant)
    (subst (λ n. Drains (c.in-Some.router, c.in-Some.neighbour) n c.in_ok-wire.wire.items now new) c.sent_count.ensures c.in_ok-wire.ensures))

pub returns-clause-drained : goal.returns-clause-drained
returns-clause-drained g c =
    let none : into_iter_items c.loop-router.router-iterator ≡ [] = first_of (search rules, grind (arith, common_steps)) in
    (draining_all (g.C.Carrier.wire c.args.carrier.now) c.args.ends.items c.loop-router.drained.items (g.C.Carrier.wire c.loop-router.carrier) (into_iter_items c.loop-router.router-iterator) none c.loop-router.invariant).0

pub returns-clause-wires : goal.returns-clause-wires
returns-clause-wires g c =
    let none : into_iter_items c.loop-router.router-iterator ≡ [] = first_of (search rules, grind (arith, common_steps)) in
    (draining_all (g.C.Carrier.wire c.args.carrier.now) c.args.ends.items c.loop-router.drained.items (g.C.Carrier.wire c.loop-router.carrier) (into_iter_items c.loop-router.router-iterator) none c.loop-router.invariant).1
