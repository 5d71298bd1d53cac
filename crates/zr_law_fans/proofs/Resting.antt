-- Where a world of a script is settled, each message under way can go, also after some steps: so where no step is possible nothing is under way.
use Rattle.std.proofs.Common.{◌≡◌, ℕ, Bool, true, false, cond, not, List, [], ◌∷◌, map, Some, None, Ok, Err, inl, inr, refl, sym, ap, ◌∙◌}
use Rattle.std.specs.Prelude.{◌&&◌, is_some, filter, IfOk}
use Rattle.std.specs.List.{AllByRecursion, reduce}
use Rattle.std.specs.Option.{option_map_or}
use Rattle.std.proofs.lemmas.Bool.{and_from}
use Rattle.std.proofs.Math.Bool.{and-false}
use Rattle.zr_lists.proofs.Finds.{In}
use Rattle.zr_lists.proofs.Elements.{none_both, none_mapped}
use Rattle.zr_orders.proofs.Passes.{append_pass}
use Rattle.zr_script_spec.specs.declared.command.Act.{Act}
use Rattle.zr_script_spec.specs.Step.{◌>>=◌}
use Rattle.zr_world_spec.specs.World.{Tagged, EndState, End, Ends, WorldState, router_of, end_of, turned, is_empty}
use Rattle.zr_world_spec.specs.Acts.{Outcome, outcome}
use Rattle.zr_world_spec.specs.Next.{Done, lesser, can_handle, can_take, ends_where, step_at, next, all_done}
use Rattle.zr_world_spec.specs.Sound.{IsSound}
use Rattle.zr_world_spec.proofs.Ends.{end_found}
use Rattle.zr_world_spec.proofs.Sound.{said_first}
use Rattle.zr_law_settled.proofs.Orderly.{Orderly}
use Rattle.zr_law_settled.proofs.Goes.{Goes, goes_on}
use Rattle.zr_law_settled.proofs.UpEnds.{IsMet, receiver_up, taker_up}
use Rattle.zr_law_fan.specs.Samples.{Move, Handling, Taking, at_end, under_way, can_go, IsSameBut}
use Rattle.zr_law_fan.proofs.Running.{flags_same}
use Rattle.zr_law_fan.proofs.Ending.{rests}

-- ---- ends that are up

-- what a settled world shows of ends holds in the same world but for what waits
pub met_same : (w v : WorldState) → IsSameBut w v → IsMet w → IsMet v
met_same w v same h e up =
    let old = h e (sym (flags_same w v same (λ s. s.up) (λ s. refl) e) ∙ up) in (
      flags_same w v same (λ s. s.unbroken) (λ s. refl) e ∙ old.0,
      λ there. flags_same w v same (λ s. s.up) (λ s. refl) (turned e) ∙ old.1 (ap (λ rs. is_some (router_of rs e.1)) (sym same.routers) ∙ there),
    )

module _ (w : WorldState) (sound : IsSound w) (orderly : Orderly w) (met_all : IsMet w) where
  -- ---- each message can go

  abbrev GoOn : List Move → Type 0
  GoOn ms = AllByRecursion (λ m. can_go w m ≡ true) ms

  handlings : (e : End) (ms : List Tagged) → option_map_or (λ s. s.up) (end_of w.ends e) false ≡ true → GoOn (map (λ m. Handling e m) ms)
  handlings e [] up = tt
  handlings e (m ∷ ms) up = (up, handlings e ms up)

  takings : (e : End) (ms : List Tagged) → option_map_or (λ s. s.up && s.unbroken) (end_of w.ends e) false ≡ true → GoOn (map (λ m. Taking e m) ms)
  takings e [] up = tt
  takings e (m ∷ ms) up = (up, takings e ms up)

  on_wire : (e : End) (s : EndState) → end_of w.ends e ≡ Some s → (ms : List Tagged) → s.wire ≡ ms → GoOn (map (λ m. Handling e m) ms)
  on_wire e s found [] is = tt
  on_wire e s found (m ∷ ms) is =
      handlings e (m ∷ ms) (ap (λ o. option_map_or (λ z. z.up) o false) found ∙ receiver_up w sound orderly met_all e s found (ap is_empty is))

  in_queue : (e : End) (s : EndState) → end_of w.ends e ≡ Some s → (ms : List Tagged) → s.queue ≡ ms → GoOn (map (λ m. Taking e m) ms)
  in_queue e s found [] is = tt
  in_queue e s found (m ∷ ms) is =
      let ups = taker_up w sound orderly met_all e s found (ap is_empty is) in
      takings e (m ∷ ms) (ap (λ o. option_map_or (λ z. z.up && z.unbroken) o false) found ∙ and_from s.up s.unbroken ups.0 ups.1)

  at_ends : (es : Ends) → ((e : End × EndState) → In e es → In e w.ends) → GoOn (under_way es)
  at_ends [] here = tt
  at_ends (e ∷ es) here =
      let found = end_found w.ends e sound.in_order (here e (inl refl)) in
      append_pass (can_go w) (at_end e.0 e.1) (under_way es)
      (append_pass (can_go w) (map (λ m. Handling e.0 m) e.1.wire) (map (λ m. Taking e.0 m) e.1.queue) (on_wire e.0 e.1 found e.1.wire refl) (in_queue e.0 e.1 found e.1.queue refl))
      (at_ends es (λ z i. here z (inr i)))

  -- where no step is possible nothing is under way
  pub rested : next w ≡ None → under_way w.ends ≡ []
  rested none = rests w sound.in_order none (at_ends w.ends (λ e i. i))

-- ---- what each act keeps, several do

pub all_go : (w : WorldState) (line : ℕ) (several : List Act) → Goes w → IfOk (all_done w line several) (λ x. Goes x.1)
all_go w line [] g = g
all_go w line (act ∷ more) g = by (outcome w line act) (goes_on w line act g) (λ v k. all_go v line more k)
  where
    by : (o : Outcome) → IfOk o (λ x. Goes x.1) → ((v : WorldState) → Goes v → IfOk (all_done v line more) (λ x. Goes x.1)) →
        IfOk (o >>= (λ x. all_done x.1 line more >>= said_first x.0)) (λ x. Goes x.1)
    by (Err e) k ih = tt
    by (Ok x) k ih = at (all_done x.1 line more) (ih x.1 k)
      where
        at : (d : Done) → IfOk d (λ x. Goes x.1) → IfOk (d >>= said_first x.0) (λ x. Goes x.1)
        at (Err e) m = tt
        at (Ok y) m = m

-- ---- where nothing is under way no step is possible

no_ends : (test : EndState → Bool) → ((s : EndState) → s.wire ≡ [] → s.queue ≡ [] → test s ≡ false) → (es : Ends) → under_way es ≡ [] → ends_where test es ≡ []
no_ends test idle [] none = refl
no_ends test idle (e ∷ es) none =
    let parts = none_both (at_end e.0 e.1) (under_way es) none in
    let both = none_both (map (λ m. Handling e.0 m) e.1.wire) (map (λ m. Taking e.0 m) e.1.queue) parts.0 in
    ap (λ b. map (λ (x : End × EndState). x.0) (cond b (e ∷ filter (λ x. test x.1) es) (filter (λ x. test x.1) es)))
    (idle e.1 (none_mapped (λ m. Handling e.0 m) e.1.wire both.0) (none_mapped (λ m. Taking e.0 m) e.1.queue both.1))
    ∙ no_ends test idle es parts.1

pub no_step : (w : WorldState) → under_way w.ends ≡ [] → next w ≡ None
no_step w none =
    λ i. step_at (reduce lesser (no_ends can_handle (λ s wire queue. handles s.up s wire) w.ends none i)) (reduce lesser (no_ends can_take (λ s wire queue. takes (s.up && s.unbroken) s queue) w.ends none i))
  where
    handles : (b : Bool) (s : EndState) → s.wire ≡ [] → (b && not (is_empty s.wire)) ≡ false
    handles b s wire = ap (λ ws. b && not (is_empty ws)) wire ∙ and-false b

    takes : (b : Bool) (s : EndState) → s.queue ≡ [] → (b && not (is_empty s.queue)) ≡ false
    takes b s queue = ap (λ ws. b && not (is_empty ws)) queue ∙ and-false b
