use Rattle.std.proofs.Common.{◌≡◌, ◌+◌, ◌≤◌, ◌∷◌, drop, get_or, length, Err, Some, None, arith, sym, ap, subst, ◌∙◌, List, ℕ}
use Rattle.std.proofs.Math.ListN.{drop_of_length-le}
use Rattle.std.proofs.lemmas.List.{at_drop_more}
use Rattle.std.proofs.lemmas.Map.Keys.{sorted_tail}
use Rattle.std.proofs.lemmas.Result.{err_from_is_err_and}
use Rattle.std.specs.List.Sorted.{IsStrictlySortedBy}
use Rattle.std.specs.Option.{option_copied, option_map_or}
use Rattle.std.specs.Ordering.{nat_cmp}
use Rattle.zr_lists.proofs.Elements.{each_in}
use Rattle.zr_local.specs.declared.interest.ClientInterests.{ClientInterests}
use Rattle.zr_told_spec.specs.Rows.{AreFew, IsAsWantedBut, map_on, others}
use Rattle.zr_told.specs.Plan.{plan_on, told_plan}
use Rattle.zr_told.specs.declared.error.ToldError.TheVariants.{Worn}
use Rattle.zr_told.proofs.Among.{found_in, left_end, left_first, left_none, left_of, touched_alone}
use Rattle.zr_told.proofs.Changed.{ArePlanned, all_planned, err_or, one_planned, worn_there}
use Rattle.zr_told.proofs.Clients.{all_listed, each_client, told_among, told_among_all}
use Rattle.zr_told.proofs.told.Told.plans_at.Goals as goal
use Rattle.zr_told.proofs.told.Told.plans_at.Goals.{in-Some+in_ok-plan+in_ok-put_plan, in_default}

pub loop-link-init : goal.loop-link-init
loop-link-init c = (
  rw c.new-plans.ensures.items
      (touched_alone c.args.places.now c.args.tables.now c.args.self.now c.args.links.now (subst AreFew c.self.view_is c.self.invariant) c.args.clients.now c.requires.by_link c.requires.found.among
      (each_client c.args.places.now c.args.tables.now c.args.clients.now c.args.self.now c.requires.by_link c.requires.before)),
  c.requires.found.ascend,
)

pub plan_at-requires : goal.plan_at-requires
plan_at-requires c =
    each_in (λ (d : ClientInterests). IsAsWantedBut c.args.places.now (others c.args.tables.now d.link.0) d.interests (map_on c.args.self.now d.link.0)) c.args.clients.now c.in-Some.client.now
    (each_client c.args.places.now c.args.tables.now c.args.clients.now c.args.self.now c.requires.by_link c.requires.before)
    (found_in c.args.places.now (get_or c.args.links.now c.loop-link.link-index 0) c.args.clients.now c.in-Some.client.now (sym c.touched_on.ensures ∙ ap option_copied c.in-Some.is))

pub returns-in_err-plan-clause-worn : goal.returns-in_err-plan-clause-worn
returns-in_err-plan-clause-worn c = λ e.
    let p = err_from_is_err_and c.from_residual.result c.from_residual.ensures.1 in
    let ks = drop (c.loop-link.link-index + 1) c.args.links.now in
    let q = at_drop_more (λ (z : List ℕ). z) c.args.links.now c.loop-link.link-index 0 c.loop-link-test.true in
    let up = subst (λ (z : List ℕ). IsStrictlySortedBy nat_cmp z) q c.loop-link.invariant.1 in
    worn_there c.args.tables.now c.args.clients.now c.args.self.now c.loop-link.plans.items c.in-Some.client.now (left_of c.args.places.now ks c.args.clients.now) _
    (ap (λ (z : List ℕ). left_of c.args.places.now z c.args.clients.now) q
    ∙ left_first c.args.places.now (get_or c.args.links.now c.loop-link.link-index 0) ks up c.args.clients.now c.requires.by_link c.in-Some.client.now (sym c.touched_on.ensures ∙ ap option_copied c.in-Some.is))
    c.loop-link.invariant.0 (c.in_err-plan.ensures.worn (ap (λ z. Err z) (sym p.2 ∙ ap (λ z. err_or Worn z) (sym p.1 ∙ e))))

pub loop-link-preserved : goal.loop-link-preserved
loop-link-preserved c =
    let t = c.args.tables.now in
    let cs = c.args.clients.now in
    let qs = c.args.places.now in
    let k = get_or c.args.links.now c.loop-link.link-index 0 in
    let ks = drop (c.loop-link.link-index + 1) c.args.links.now in
    let q = at_drop_more (λ (z : List ℕ). z) c.args.links.now c.loop-link.link-index 0 c.loop-link-test.true in
    let up = subst (λ (z : List ℕ). IsStrictlySortedBy nat_cmp z) q c.loop-link.invariant.1 in
    let a = subst (λ (z : List ℕ). ArePlanned t cs c.args.self.now c.loop-link.plans.items (left_of qs z cs)) q c.loop-link.invariant.0 in
    elim c.match-touched_on.branch [
      | in-Some+in_ok-plan+in_ok-put_plan w ↦ (
        rw (w.plans-is, w.in_ok-put_plan.ensures)
            (one_planned t cs c.args.self.now c.loop-link.plans.items w.in-Some.client.now (left_of qs ks cs) w.in_ok-plan.plan w.in_ok-plan.ensures.plan w.in_ok-plan.ensures.ids
            (subst (λ (z : List ClientInterests). ArePlanned t cs c.args.self.now c.loop-link.plans.items z) (left_first qs k ks up cs c.requires.by_link w.in-Some.client.now (sym c.touched_on.ensures ∙ ap option_copied w.in-Some.is)) a)),
        sorted_tail nat_cmp k ks up,
      )
      | in_default w ↦ (
        rw w.plans-is
            (subst (λ (z : List ClientInterests). ArePlanned t cs c.args.self.now c.loop-link.plans.items z) (left_none qs k ks up cs c.requires.by_link (sym c.touched_on.ensures ∙ ap option_copied w.in_default.is)) a),
        sorted_tail nat_cmp k ks up,
      )
    ]

pub returns-clause-ascend : goal.returns-clause-ascend
returns-clause-ascend c =
    let l : length c.args.links.now ≤ c.loop-link.link-index = omega arith in
    let n = ap (λ (z : List ℕ). left_of c.args.places.now z c.args.clients.now) (drop_of_length-le c.args.links.now l) ∙ left_end c.args.places.now c.args.clients.now in
    (all_planned c.args.tables.now c.args.clients.now c.args.self.now c.loop-link.plans.items _ n c.loop-link.invariant.0).ascend

pub returns-clause-last : goal.returns-clause-last
returns-clause-last c = c.loop-link.invariant.0.last

pub returns-clause-tells : goal.returns-clause-tells
returns-clause-tells c =
    let l : length c.args.links.now ≤ c.loop-link.link-index = omega arith in
    let n = ap (λ (z : List ℕ). left_of c.args.places.now z c.args.clients.now) (drop_of_length-le c.args.links.now l) ∙ left_end c.args.places.now c.args.clients.now in
    (all_planned c.args.tables.now c.args.clients.now c.args.self.now c.loop-link.plans.items _ n c.loop-link.invariant.0).tells

pub returns-clause-ids : goal.returns-clause-ids
returns-clause-ids c =
    let l : length c.args.links.now ≤ c.loop-link.link-index = omega arith in
    let n = ap (λ (z : List ℕ). left_of c.args.places.now z c.args.clients.now) (drop_of_length-le c.args.links.now l) ∙ left_end c.args.places.now c.args.clients.now in
    (all_planned c.args.tables.now c.args.clients.now c.args.self.now c.loop-link.plans.items _ n c.loop-link.invariant.0).ids

pub returns-clause-told : goal.returns-clause-told
returns-clause-told c =
    let l : length c.args.links.now ≤ c.loop-link.link-index = omega arith in
    let n = ap (λ (z : List ℕ). left_of c.args.places.now z c.args.clients.now) (drop_of_length-le c.args.links.now l) ∙ left_end c.args.places.now c.args.clients.now in
    λ k.
    ap (λ z. option_map_or (told_plan c.args.self.now) (plan_on c.loop-link.plans.items k) (told_among c.args.tables.now z c.args.self.now k)) (sym n)
    ∙ c.loop-link.invariant.0.told k
    ∙ told_among_all c.args.tables.now c.args.clients.now c.args.self.now (all_listed c.args.places.now c.args.tables.now c.args.clients.now c.args.self.now c.requires.before) k
