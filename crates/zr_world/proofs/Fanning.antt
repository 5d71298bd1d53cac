-- A fan is what its tests and its steps come to.
use Rattle.std.proofs.Common.{◌≡◌, ℕ, ◌<◌, ◌≤◌, Bool, true, false, cond, not, List, [], ◌∷◌, ◌++◌, Option, Some, None, Result, Ok, Err, map, refl, sym, ap, ◌∙◌, subst, append_assoc, append-nil, arith}
use Rattle.std.specs.Prelude.{◌||◌, min, nat_lt, IfOk, OnErr}
use Rattle.std.specs.BTreeMap.{insert_entry}
use Rattle.std.specs.List.{AllByRecursion}
use Rattle.std.specs.List.Sorted.{IsStrictlySortedBy}
use Rattle.std.specs.Map.{keys_of}
use Rattle.std.specs.Option.{option_map_or}
use Rattle.std.specs.Ordering.{match_ordering, nat_cmp, ordering_reverse}
use Rattle.std.specs.Cmp.Lexicographic.{slice_cmp}
use Rattle.std.specs.declared.cmp.Ordering.TheVariants.{Less, Greater}
use Rattle.std.proofs.lemmas.Bool.{false≢true, ltb-true, ltb-false, lt-ltb, le-ltb}
use Rattle.std.proofs.lemmas.Cmp.{nat_list_cmp_total}
use Rattle.std.proofs.lemmas.List.{map-append}
use Rattle.zr_lists.proofs.Each.{All-append}
use Rattle.zr_id.specs.Zid.{is_named}
use Rattle.zr_msg.specs.declared.event.Event.TheVariants.{From}
use Rattle.zr_msg.specs.declared.msg.Msg.TheVariants.{Push}
use Rattle.zr_msg.specs.declared.peer.LinkPeer.{LinkPeer}
use Rattle.zr_node_spec.specs.State.{tables}
use Rattle.zr_node_spec.specs.Table.{after}
use Rattle.zr_node_spec.specs.Tables.{link_to}
use Rattle.zr_told_spec.specs.Hub.{HubState, sends_told}
use Rattle.zr_told_spec.specs.Rows.{map_on}
use Rattle.zr_script_spec.specs.declared.error.ScriptError.{ScriptError}
use Rattle.zr_script_spec.specs.declared.error.ScriptError.TheVariants.{NotSettled, NotSamples, Limit, NoMemory}
use Rattle.zr_script_spec.specs.declared.report.ReportLine.{ReportLine}
use Rattle.zr_script_spec.specs.Step.{◌>>=◌}
use Rattle.zr_router_core.specs.Calm.{IsCalm, IsCalmWith}
use Rattle.zr_world_spec.specs.World.{Ends, RouterState, Routers, WorldState, is_settled, router_of, with_ends, with_routers}
use Rattle.zr_world_spec.specs.Acts.{hub_of, unless}
use Rattle.zr_world_spec.specs.Fan.{are_samples, are_many, are_long}
use Rattle.zr_world_spec.specs.Next.{Done, fan_done, fan_step}
use Rattle.zr_world_spec.specs.Sound.{IsSound}
use Rattle.zr_law_fan.specs.Samples.{IsCalm as WorldIsCalm, IsCalmRouter, emptied, quieted}
use Rattle.zr_law_rounds.specs.Told.{MayFan, Stay}
use Rattle.zr_law_rounds.proofs.Beginning.{new_names}
use Rattle.zr_world_gang.specs.Shares.{ShareState, new_share}
use Rattle.zr_world.specs.Fanned.{AreOf, AreTaken, MayBegin}
use Rattle.zr_world.specs.Steps.{AppliesTo}

-- ---- its tests

pub fan_unsettled : (w : WorldState) (line : ℕ) → is_settled w ≡ false → fan_step w line ≡ Err NotSettled
unfolding fan_step
fan_unsettled w line h = ap (λ a. unless (not a) NotSettled >>= (λ u. unless (not (are_samples w)) NotSamples >>= (λ v. unless (are_many w || are_long w) Limit >>= (λ z. fan_done line w)))) h

pub fan_unfit : (w : WorldState) (line : ℕ) → is_settled w ≡ true → are_samples w ≡ false → fan_step w line ≡ Err NotSamples
unfolding fan_step
fan_unfit w line h k =
    ap (λ a. unless (not a) NotSettled >>= (λ u. unless (not (are_samples w)) NotSamples >>= (λ v. unless (are_many w || are_long w) Limit >>= (λ z. fan_done line w)))) h
    ∙ ap (λ b. unless (not b) NotSamples >>= (λ v. unless (are_many w || are_long w) Limit >>= (λ z. fan_done line w))) k

pub fan_judged : (w : WorldState) (line : ℕ) (b : Bool) → is_settled w ≡ true → are_samples w ≡ true → (are_many w || are_long w) ≡ b → fan_step w line ≡ (unless b Limit >>= (λ z. fan_done line w))
unfolding fan_step
fan_judged w line b h k m =
    ap (λ a. unless (not a) NotSettled >>= (λ u. unless (not (are_samples w)) NotSamples >>= (λ v. unless (are_many w || are_long w) Limit >>= (λ z. fan_done line w)))) h
    ∙ ap (λ b. unless (not b) NotSamples >>= (λ v. unless (are_many w || are_long w) Limit >>= (λ z. fan_done line w))) k
    ∙ ap (λ c. unless c Limit >>= (λ z. fan_done line w)) m

pub fan_too_much : (w : WorldState) (line : ℕ) → is_settled w ≡ true → are_samples w ≡ true → (are_many w || are_long w) ≡ true → fan_step w line ≡ Err Limit
fan_too_much w line h k m = fan_judged w line true h k m

pub fan_goes : (w v : WorldState) (line : ℕ) (l : ReportLine) → MayBegin w → fan_done line w ≡ Ok (l ∷ [], v) → fan_step w line ≡ Ok (l ∷ [], v)
fan_goes w v line l j done = fan_judged w line false j.0 j.1 j.2 ∙ done

-- where memory alone may fail there is no limit
pub no_limit : (r : Result (Unit {0}) ScriptError) → OnErr r (r ≡ Err NoMemory) → r ≡ Err Limit → ⊥
no_limit (Ok u) h e = cc
no_limit (Err x) h e = cc

-- a number that stands still at the largest is above what is below that where the number is
pub above_capped : (n sum most : ℕ) → n < most → nat_lt n (min sum most) ≡ nat_lt n sum
above_capped n sum most below = by (nat_lt n sum) refl
  where
    by : (b : Bool) → nat_lt n sum ≡ b → nat_lt n (min sum most) ≡ b
    by true e =
        let h : n < sum = ltb-true n sum e in
        lt-ltb n (min sum most) (omega arith)
    by false e =
        let h : sum ≤ n = ltb-false n sum e in
        le-ltb n (min sum most) (omega arith)

-- ---- its routers

-- a sample leaves a router as it is, as the router with its clients says of itself
calm_router : (r : RouterState) → IsCalm (hub_of r) → IsCalmRouter r
calm_router r calm l tree content =
    let quiet = calm l tree content in
    record {
      stays = λ i. record { node = r.node; told = (quiet.stays i).told; weight = r.weight };
      silent = λ name. by quiet (link_to r.node.links name);
      taken = quiet.taken;
    }
  where
    by : IsCalmWith (hub_of r) l (Push tree content) → (o : Option LinkPeer) →
        option_map_or (λ k. sends_told (tables (after r.node (From l (Push tree content)))) (map_on r.told k.link.0) (From l (Push tree content)) k.link.0) o [] ≡ []
    by quiet None = refl
    by quiet (Some k) = quiet.silent k.link.0

pub calm_world : (w : WorldState) → AllByRecursion (λ e. IsCalmRouter e.1) w.routers → WorldIsCalm w
calm_world w all x r found = each w.routers all found
  where
    by : (b : Bool) (e : List ℕ × RouterState) (rs : Routers) → IsCalmRouter e.1 → (router_of rs x ≡ Some r → IsCalmRouter r) → cond b (Some e.1) (router_of rs x) ≡ Some r → IsCalmRouter r
    by true e rs here rest h = let same : e.1 ≡ r = cc in subst IsCalmRouter same here
    by false e rs here rest h = rest h

    each : (rs : Routers) → AllByRecursion (λ e. IsCalmRouter e.1) rs → router_of rs x ≡ Some r → IsCalmRouter r
    each [] all h = absurd (cc)
    each (e ∷ rs) all h = by (is_named x e.0) e rs all.0 (λ k. each rs all.1 k) h

-- ---- its routers are taken

-- some are taken, the others left
pub record AreTaking (rs left : Routers) (ss : List ShareState) (ns : List ℕ) : Type 0 where
  pub before : Routers
  pub whole : rs ≡ before ++ left
  pub shares : ss ≡ map (λ e. new_share e.0 (hub_of e.1)) before
  pub weights : ns ≡ map (λ e. e.1.weight) before
  pub calm : AllByRecursion (λ e. IsCalmRouter e.1) before

pub none_taken : (rs : Routers) → AreTaking rs rs [] []
none_taken rs = record { before = []; whole = refl; shares = refl; weights = refl; calm = tt }

pub one_taken : (rs left more : Routers) (name : List ℕ) (r : RouterState) (hub : HubState) (weight : ℕ) (ss : List ShareState) (weights : List ℕ) → AreTaking rs left ss weights → left ≡ (name, r) ∷ more →
    hub ≡ hub_of r → weight ≡ r.weight → IsCalm hub → AreTaking rs more (ss ++ new_share name hub ∷ []) (weights ++ weight ∷ [])
one_taken rs left more name r hub weight ss weights h front is heavy calm = record {
  before = h.before ++ (name, r) ∷ [];
  whole = h.whole ∙ ap (λ z. h.before ++ z) front ∙ sym (append_assoc h.before ((name, r) ∷ []) more);
  shares = (λ i. h.shares i ++ new_share name (is i) ∷ []) ∙ sym (map-append (λ e. new_share e.0 (hub_of e.1)) h.before ((name, r) ∷ []));
  weights = (λ i. h.weights i ++ heavy i ∷ []) ∙ sym (map-append (λ e. e.1.weight) h.before ((name, r) ∷ []));
  calm = All-append (λ e. IsCalmRouter e.1) h.before ((name, r) ∷ []) h.calm (calm_router r (subst IsCalm is calm), tt);
}

pub all_taken : (rs : Routers) (ss : List ShareState) (weights : List ℕ) → IsStrictlySortedBy (slice_cmp nat_cmp) (keys_of rs) → AreTaking rs [] ss weights → AreTaken rs ss weights
all_taken rs ss weights order h =
    let whole : h.before ≡ rs = sym (h.whole ∙ append-nil h.before) in
    let shares : ss ≡ map (λ e. new_share e.0 (hub_of e.1)) rs = h.shares ∙ ap (map (λ e. new_share e.0 (hub_of e.1))) whole in
    record {
      of = record {
        in_order = order;
        names = ap (map (λ (s : ShareState). s.name)) shares ∙ new_names rs;
        hubs = ap (map (λ (s : ShareState). s.hub)) shares ∙ new_hubs rs;
        weights = h.weights ∙ ap (map (λ e. e.1.weight)) whole;
      };
      new = shares;
      calm = subst (AllByRecursion (λ e. IsCalmRouter e.1)) whole h.calm;
    }
  where
    new_hubs : (es : Routers) → map (λ s. s.hub) (map (λ e. new_share e.0 (hub_of e.1)) es) ≡ map (λ e. hub_of e.1) es
    new_hubs [] = refl
    new_hubs (e ∷ es) = ap (λ l. hub_of e.1 ∷ l) (new_hubs es)

-- what holds is so whatever a call gives
pub whatever : {X E : Type 0} (r : Result X E) (P : Type 0) → P → IfOk r (λ x. P)
whatever (Ok x) P p = p
whatever (Err e) P p = tt

-- ---- its routers again

-- the router of these parts
abbrev pub router_with : HubState → ℕ → RouterState
router_with hub weight = record { node = hub.node; told = hub.told; weight = weight }

all_at : (P : List ℕ → Type 0) (es after : Routers) (r : List ℕ × RouterState) → AllByRecursion P (keys_of (es ++ r ∷ after)) → P r.0
all_at P [] after r h = h.0
all_at P (e ∷ es) after r h = all_at P es after r h.1

-- names stand behind those before them
above : (before after : Routers) (r : List ℕ × RouterState) → IsStrictlySortedBy (slice_cmp nat_cmp) (keys_of (before ++ r ∷ after)) → AllByRecursion (λ e. slice_cmp nat_cmp r.0 e.0 ≡ Greater) before
unfolding IsStrictlySortedBy
above [] after r h = tt
above (e ∷ es) after r h = (
  nat_list_cmp_total.antisymm r.0 e.0 ∙ ap ordering_reverse (all_at (λ y. slice_cmp nat_cmp e.0 y ≡ Less) es after r h.0),
  above es after r h.1,
)

put_last : (es : Routers) (r : List ℕ × RouterState) → AllByRecursion (λ e. slice_cmp nat_cmp r.0 e.0 ≡ Greater) es → insert_entry (slice_cmp nat_cmp) es r.0 r.1 ≡ es ++ r ∷ []
put_last [] r all = refl
put_last (e ∷ es) r all = ap (λ o. match_ordering o (r ∷ e ∷ es) ((e.0, r.1) ∷ es) (e ∷ insert_entry (slice_cmp nat_cmp) es r.0 r.1)) all.0 ∙ ap (λ l. e ∷ l) (put_last es r all.1)

-- some routers are there again, and the shares of the others are left
pub record ArePut (rs now : Routers) (ss : List ShareState) (ns : List ℕ) : Type 0 where
  pub after : Routers
  pub whole : rs ≡ now ++ after
  pub in_order : IsStrictlySortedBy (slice_cmp nat_cmp) (keys_of rs)
  pub names : map (λ s. s.name) ss ≡ keys_of after
  pub hubs : map (λ s. s.hub) ss ≡ map (λ e. hub_of e.1) after
  pub weights : ns ≡ map (λ e. e.1.weight) after

pub none_put : (rs : Routers) (ss : List ShareState) (weights : List ℕ) → AreOf rs ss weights → ArePut rs [] ss weights
none_put rs ss weights of = record { after = rs; whole = refl; in_order = of.in_order; names = of.names; hubs = of.hubs; weights = of.weights }

pub one_put : (rs now : Routers) (s : ShareState) (ss : List ShareState) (weight : ℕ) (weights : List ℕ) → ArePut rs now (s ∷ ss) (weight ∷ weights) →
    ArePut rs (insert_entry (slice_cmp nat_cmp) now s.name (router_with s.hub weight)) ss weights
one_put rs now s ss weight weights h = by h.after h.whole h.names h.hubs h.weights
  where
    by : (left : Routers) → rs ≡ now ++ left → map (λ z. z.name) (s ∷ ss) ≡ keys_of left → map (λ z. z.hub) (s ∷ ss) ≡ map (λ e. hub_of e.1) left → weight ∷ weights ≡ map (λ e. e.1.weight) left →
        ArePut rs (insert_entry (slice_cmp nat_cmp) now s.name (router_with s.hub weight)) ss weights
    by [] whole names hubs weigh = absurd (cc)
    by (r ∷ left) whole names hubs weigh =
        let name : s.name ≡ r.0 = cc in
        let hub : s.hub ≡ hub_of r.1 = cc in
        let heavy : weight ≡ r.1.weight = cc in
        let value : record { node = s.hub.node; told = s.hub.told; weight = weight } ≡ r.1 = λ i. record { node = (hub i).node; told = (hub i).told; weight = heavy i } in
        let order = subst (λ z. IsStrictlySortedBy (slice_cmp nat_cmp) (keys_of z)) whole h.in_order in
        let is : insert_entry (slice_cmp nat_cmp) now s.name (router_with s.hub weight) ≡ now ++ r ∷ [] =
        (λ i. insert_entry (slice_cmp nat_cmp) now (name i) (value i)) ∙ put_last now r (above now left r order)
        in
        record {
          after = left;
          whole = whole ∙ sym (append_assoc now (r ∷ []) left) ∙ ap (λ z. z ++ left) (sym is);
          in_order = h.in_order;
          names = cc;
          hubs = cc;
          weights = cc;
        }

pub all_put : (rs now : Routers) (weights : List ℕ) → ArePut rs now [] weights → now ≡ rs
all_put rs now weights h = by h.after h.whole h.names
  where
    by : (left : Routers) → rs ≡ now ++ left → [] ≡ keys_of left → now ≡ rs
    by [] whole names = sym (whole ∙ append-nil now)
    by (r ∷ left) whole names = absurd (cc)

-- ---- a fan through the shares of its routers

may_fan : (w : WorldState) (ss : List ShareState) (weights : List ℕ) → IsSound w → MayBegin w → AreTaken w.routers ss weights → MayFan w ss
may_fan w ss weights sound may taken = record {
  sound = sound;
  settled = may.0;
  samples = may.1;
  calm = calm_world w taken.calm;
  in_order = taken.of.in_order;
  shares = taken.new;
}

of_stayed : (rs : Routers) (ss ts : List ShareState) (weights : List ℕ) → AreOf rs ss weights → Stay ss ts → AreOf rs ts weights
of_stayed rs ss ts weights of stay = record { in_order = of.in_order; names = stay.0 ∙ of.names; hubs = stay.1 ∙ of.hubs; weights = of.weights }

-- its routers are taken, what waits at its ends goes through their shares, and they come back
pub fan_by_shares : (w taken idle after : WorldState) (ss ts : List ShareState) (weights : List ℕ) (ends : Ends) (line : ℕ) (l : ReportLine) → IsSound w → MayBegin w → AreTaken w.routers ss weights →
    taken ≡ with_routers w [] → ends ≡ taken.ends → idle ≡ with_ends taken (emptied taken.ends) →
    ((x : WorldState) → MayFan x ss → ends ≡ x.ends → (n : ℕ) → fan_done n x ≡ Ok (l ∷ [], quieted x)) → ((x : WorldState) → MayFan x ss → ends ≡ x.ends → Stay ss ts) →
    ((rs : Routers) → AreOf rs ts weights → after ≡ with_routers idle rs) → fan_done line w ≡ Ok (l ∷ [], after)
fan_by_shares w taken idle after ss ts weights ends line l sound may of bare_of waits quiet done stay put =
    let fits = may_fan w ss weights sound may of in
    let from = waits ∙ ap (λ (z : WorldState). z.ends) bare_of in
    let back = put w.routers (of_stayed w.routers ss ts weights of.of (stay w fits from)) in
    let same = quiet ∙ ap (λ (z : WorldState). with_ends z (emptied z.ends)) bare_of in
    done w fits from line
    ∙ ap (λ (z : WorldState). Ok (l ∷ [], z)) (sym (back ∙ ap (λ (z : WorldState). with_routers z w.routers) same))
