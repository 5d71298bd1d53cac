use Rattle.std.proofs.Common.{◌≡◌, List, ℕ, [], ◌∷◌, ◌++◌, sym, ap, ◌∙◌, subst, rules, arith}
use Rattle.std.proofs.lemmas.Grind.{common_steps}
use Rattle.zr_world_gang.specs.Shares.{ShareState, new_share}
use Rattle.zr_world_spec.specs.World.{Routers}
use Rattle.zr_world.proofs.Fanning.{AreTaking, none_taken, one_taken, all_taken}
use Rattle.zr_world.proofs.fan.shares_of.Goals as goal

pub loop-name-init : goal.loop-name-init
loop-name-init c =
    let rs = c.args.routers.entries in
    let it = c.into_iter-name-iterator.result in
    subst (λ (ss : List ShareState). AreTaking rs it ss c.new-weights.result.items) (sym c.new-shares.ensures.items)
    (subst (λ (ns : List ℕ). AreTaking rs it [] ns) (sym c.new-weights.ensures.items)
    (subst (λ (z : Routers). AreTaking rs z [] []) (sym c.into_iter-name-iterator.ensures.into_iter_gives.0) (none_taken rs)))

pub loop-name-preserved : goal.loop-name-preserved
loop-name-preserved c =
    let rs = c.args.routers.entries in
    let left = c.next.new.self in
    let ss : List ShareState = c.loop-name.shares.items in
    let ns : List ℕ = c.loop-name.weights.items in
    let s : ShareState = new_share c.in-Some.name c.into_parts-hub.result.0 in
    let one = one_taken rs c.loop-name.name-iterator left c.in-Some.name c.in-Some.router c.into_parts-hub.result.0 c.into_parts-hub.result.1 ss ns c.loop-name.invariant c.in-Some.ensures.steps
    c.into_parts-hub.ensures.hub c.into_parts-hub.ensures.weight (c.is_calm.ensures.calm c.if-not-is_calm.false)
    in
    let shares = c.in_ok-push.ensures.items ∙ ap (λ (z : ShareState). ss ++ z ∷ []) c.new.ensures in
    subst (λ (z : List ShareState). AreTaking rs left z c.push-in-loop-name.new.self.items) (sym shares) (subst (λ (z : List ℕ). AreTaking rs left (ss ++ s ∷ []) z) (sym c.in_ok-push-2.ensures.items) one)

pub returns : goal.returns
returns c =
    let none : c.loop-name.name-iterator ≡ [] = first_of (search rules, grind (arith, common_steps)) in
    all_taken c.args.routers.entries c.loop-name.shares.items c.loop-name.weights.items c.into_iter-name-iterator.ensures.into_iter_gives.5
    (subst (λ (z : Routers). AreTaking c.args.routers.entries z c.loop-name.shares.items c.loop-name.weights.items) none c.loop-name.invariant)
