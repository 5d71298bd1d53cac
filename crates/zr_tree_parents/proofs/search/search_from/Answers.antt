use Rattle.std.proofs.Common.{◌≡◌, ℕ, ◌+◌, ◌<◌, [], ◌++◌, None, length, get_or, take, drop, replicate, ap, ◌∙◌, rules, arith, All}
use Rattle.std.specs.List.{swap_remove}
use Rattle.std.proofs.lemmas.List.{get_or_read, take_at, get_or_default}
use Rattle.zr_tree_parents.specs.Climb.{row}
use Rattle.zr_tree_parents.specs.Distance.{kept_at}
use Rattle.zr_tree_parents.specs.Search.{IsNearest, Offers}
use Rattle.zr_tree_parents.proofs.Settling.{settling_first, settling_next, are_nearest, is_order}
use Rattle.zr_tree_parents.proofs.search.search_from.Goals as goal

pub loop-place-init : goal.loop-place-init
loop-place-init c =
    let none : c.in_ok-distances.distances.items ≡ replicate (length c.args.rows.now) None = c.in_ok-distances.ensures.items_if_clones_equal (λ y h. search rules) in
    rw (none, c.in_ok-order.ensures.items, c.in_ok-found.ensures.items) (settling_first c.args.rows.now c.args.root c.requires.root)

pub offer-requires-clause-within : goal.offer-requires-clause-within
offer-requires-clause-within c k d lt =
    let u : ℕ = c.swap_remove-next.result in
    let nearest : IsNearest c.loop-place.found.items c.loop-place.distances.items c.in-Some.field-0.place c.in-Some.field-0.distance = rw (c.deref.ensures.value, c.deref-in-loop-place.ensures.value) at c.in-Some.ensures in
    let known : u < length c.args.rows.now =
    omega (arith, c.loop-place.invariant.long, c.loop-place.invariant.found_within c.in-Some.field-0.place u nearest.within, c.swap_remove-next.ensures.value) in
    let e : c.neighbours.result.now ≡ row c.args.rows.now u = c.neighbours.ensures ∙ get_or_read c.args.rows.now u c.index-rows-next.result known c.index-rows-next.is [] in
    let lt' : k < length (row c.args.rows.now u) = rw (← e) lt in
    rw e (omega (arith, c.requires.within u known k d lt', c.loop-place.invariant.long, ap length c.deref_mut.ensures.value))

pub loop-place-preserved : goal.loop-place-preserved
loop-place-preserved c =
    let u : ℕ = c.swap_remove-next.result in
    let found = c.loop-place.found.items in
    let distances = c.loop-place.distances.items in
    let nearest : IsNearest found distances c.in-Some.field-0.place c.in-Some.field-0.distance = rw (c.deref.ensures.value, c.deref-in-loop-place.ensures.value) at c.in-Some.ensures in
    let is_u : u ≡ get_or found c.in-Some.field-0.place 0 = c.swap_remove-next.ensures.value ∙ get_or_default found c.in-Some.field-0.place u 0 nearest.within in
    let known : u < length c.args.rows.now =
    omega (arith, c.loop-place.invariant.long, c.loop-place.invariant.found_within c.in-Some.field-0.place u nearest.within, c.swap_remove-next.ensures.value) in
    let e : c.neighbours.result.now ≡ row c.args.rows.now u = c.neighbours.ensures ∙ get_or_read c.args.rows.now u c.index-rows-next.result known c.index-rows-next.is [] in
    let offers : Offers distances c.offer.new.distances (swap_remove found c.in-Some.field-0.place u) c.offer.new.found.items (row c.args.rows.now u) c.in-Some.field-0.distance =
    rw (c.deref_mut.ensures.value, c.swap_remove-next.ensures.items, e) at c.in_ok-offer.ensures in
    let back : take c.loop-place.distances.len (c.offer.new.distances ++ drop (length c.offer.new.distances) distances) ≡ c.offer.new.distances = take_at _ _ _ (omega (arith, c.offer.auto.distances, c.deref_mut.ensures.len)) in
    let long : length c.offer.new.distances ≡ length distances = omega (arith, c.offer.auto.distances, ap length c.deref_mut.ensures.value) in
    let fewer : length (swap_remove found c.in-Some.field-0.place u) + 1 ≡ length found = omega (arith, ap length c.swap_remove-next.ensures.items, c.swap_remove-next.ensures.len) in
    rw (c.in_ok-push.ensures.items, back) (settling_next c.args.rows.now c.args.root c.loop-place.order.items found distances c.loop-place.invariant c.in-Some.field-0.place c.in-Some.field-0.distance u nearest is_u fewer
    c.offer.new.distances c.offer.new.found.items long offers (c.requires.within u known) (c.requires.weights u known))

pub returns-clause-distances : goal.returns-clause-distances
returns-clause-distances c =
    let none : All (λ x. kept_at c.loop-place.distances.items x ≡ None) c.loop-place.found.items = rw (c.deref.ensures.value, c.deref-in-loop-place.ensures.value) at c.in_default.ensures in
    are_nearest c.args.rows.now c.args.root c.loop-place.order.items c.loop-place.found.items c.loop-place.distances.items c.loop-place.invariant none

pub returns-clause-order : goal.returns-clause-order
returns-clause-order c =
    let none : All (λ x. kept_at c.loop-place.distances.items x ≡ None) c.loop-place.found.items = rw (c.deref.ensures.value, c.deref-in-loop-place.ensures.value) at c.in_default.ensures in
    is_order c.args.rows.now c.args.root c.loop-place.order.items c.loop-place.found.items c.loop-place.distances.items c.loop-place.invariant none
