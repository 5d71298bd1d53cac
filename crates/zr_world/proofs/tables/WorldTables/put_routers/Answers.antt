use Rattle.std.proofs.Common.{◌≡◌, List, ℕ, [], ◌∷◌, refl, sym, ap, ◌∙◌, subst, rules, arith}
use Rattle.std.specs.BTreeMap.{insert_entry}
use Rattle.std.specs.Cmp.Lexicographic.{slice_cmp}
use Rattle.std.specs.Ordering.{nat_cmp}
use Rattle.std.specs.Vec.Iter.{into_iter_items}
use Rattle.std.proofs.lemmas.Grind.{common_steps}
use Rattle.zr_told_spec.specs.Hub.{HubState}
use Rattle.zr_world_gang.specs.Shares.{ShareState}
use Rattle.zr_world_spec.specs.World.{Routers, WorldState, with_routers}
use Rattle.zr_world.specs.State.{state_of}
use Rattle.zr_world.proofs.Fanning.{ArePut, none_put, one_put, all_put, router_with}
use Rattle.zr_world.proofs.tables.WorldTables.put_routers.Goals as goal

pub loop-share-init : goal.loop-share-init
loop-share-init g c =
    let ss = into_iter_items c.into_iter-share-iterator.result in
    let ns = into_iter_items c.into_iter-weights.result in (
      λ rs of.
          subst (λ (z : Routers). ArePut rs z ss ns) (sym c.requires.none)
          (subst (λ (z : List ShareState). ArePut rs [] z ns) (sym c.into_iter-share-iterator.ensures.into_iter_gives.0)
          (subst (λ (z : List ℕ). ArePut rs [] c.args.shares.items z) (sym c.into_iter-weights.ensures.rest) (none_put rs c.args.shares.items c.args.weights.items of))),
      refl,
    )

pub loop-share-preserved : goal.loop-share-preserved
loop-share-preserved g c =
    let now : Routers = c.loop-share.self.routers.entries in
    let s : ShareState = c.in-Some.share in
    let left = into_iter_items c.next.new.self in
    let ns = into_iter_items c.next-in-loop-share.new.self in
    let weight = c.in-Some-next.weight in
    let name : c.name-name.result ≡ s.name = c.name-name.ensures in
    let hub : c.into_hub.result ≡ s.hub = c.into_hub.ensures in
    let router = c.from_parts-router.ensures ∙ ap (λ (h : HubState). router_with h weight) hub in
    let put = c.in_ok-insert.ensures.entries ∙ (λ i. insert_entry (slice_cmp nat_cmp) now (name i) (router i)) in (
      λ rs of.
          let h = subst (λ (z : List ShareState). ArePut rs now z (into_iter_items c.loop-share.weights)) c.in-Some.ensures.steps.0 (c.loop-share.invariant.0 rs of) in
          let k = subst (λ (z : List ℕ). ArePut rs now (s ∷ left) z) c.in-Some-next.ensures.items h in
          subst (λ (z : Routers). ArePut rs z left ns) (sym put) (one_put rs now s left weight ns k),
      ap (λ (z : WorldState). with_routers z c.insert.new.self.entries) c.loop-share.invariant.1,
    )

pub returns : goal.returns
returns g c =
    let now : Routers = c.loop-share.self.routers.entries in
    let ns = into_iter_items c.loop-share.weights in
    let none : into_iter_items c.loop-share.share-iterator ≡ [] = first_of (search rules, grind (arith, common_steps)) in
    λ rs of.
    c.loop-share.invariant.1
    ∙ ap (λ (z : Routers). with_routers (state_of c.args.self.now) z) (all_put rs now ns (subst (λ (z : List ShareState). ArePut rs now z ns) none (c.loop-share.invariant.0 rs of)))
