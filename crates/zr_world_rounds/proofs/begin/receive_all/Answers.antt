use Rattle.std.proofs.Common.{◌≡◌, [], ◌∷◌, subst, rules, arith}
use Rattle.std.proofs.lemmas.Grind.{common_steps}
use Rattle.std.specs.Vec.Iter.{into_iter_items}
use Rattle.zr_law_fan.specs.Samples.{Handling, tagged}
use Rattle.zr_law_rounds.specs.Told.{HaveCome, nothing}
use Rattle.zr_world_spec.specs.World.{Tagged}
use Rattle.zr_world_rounds.proofs.Coming.{wait_begun, waits_one, all_wait}
use Rattle.zr_world_rounds.proofs.begin.receive_all.Goals as goal

pub loop-x-init : goal.loop-x-init
loop-x-init c = wait_begun (c.args.router, c.args.neighbour) c.args.wire.items _ c.args.shares.now c.into_iter-x-iterator.ensures.into_iter_gives.1

pub loop-x-preserved : goal.loop-x-preserved
loop-x-preserved c =
    waits_one (c.args.router, c.args.neighbour) c.args.wire.items (into_iter_items c.loop-x.x-iterator) (into_iter_items c.next.new.self) c.in-Some.x c.args.shares.now c.loop-x.shares c.receive.new.shares c.loop-x.invariant
    c.in-Some.ensures.steps.0 (subst (λ (z : Tagged). HaveCome (Handling (c.args.router, c.args.neighbour) (tagged z.tag z.msg) ∷ []) nothing c.loop-x.shares c.receive.new.shares) c.x.view_is c.in_ok-receive.ensures)

pub returns : goal.returns
returns c =
    let none : into_iter_items c.loop-x.x-iterator ≡ [] = first_of (search rules, grind (arith, common_steps)) in
    all_wait (c.args.router, c.args.neighbour) c.args.wire.items (into_iter_items c.loop-x.x-iterator) c.args.shares.now c.loop-x.shares c.loop-x.invariant none
