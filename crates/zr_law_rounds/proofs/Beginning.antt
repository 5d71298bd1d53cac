-- How shares go on: from the start, where an end begins, where messages pass, and by a round.
use Rattle.std.proofs.Common.{◌≡◌, ℕ, ◌+◌, Bool, true, false, cond, List, [], ◌∷◌, ◌++◌, map, Some, refl, sym, ap, ◌∙◌, subst, arith}
use Rattle.std.specs.Prelude.{◌&&◌, ◌||◌, is_some}
use Rattle.std.specs.List.{AllByRecursion, flat_map, list_all, list_any}
use Rattle.std.specs.Map.{keys_of, lookup}
use Rattle.std.specs.Option.{option_map_or}
use Rattle.std.proofs.lemmas.Bool.{and_from, and_parts}
use Rattle.std.proofs.lemmas.Cmp.{nat_list_cmp_total}
use Rattle.zr_lists.proofs.Elements.{in_each}
use Rattle.zr_orders.specs.Bag.{weigh, AreSame, Goes}
use Rattle.zr_orders.proofs.Bag.{weigh-append}
use Rattle.zr_orders.proofs.Passes.{append_pass, weigh-map}
use Rattle.zr_id.specs.Zid.{is_named}
use Rattle.zr_script_spec.specs.declared.report.ReportLine.TheVariants.{Taken}
use Rattle.zr_script_spec.specs.Report.{line_text}
use Rattle.zr_world_spec.specs.World.{Tagged, EndState, End, Ends, Routers, WorldState, router_of, end_of, is_empty, is_idle, is_settled, turned}
use Rattle.zr_world_spec.specs.Acts.{hub_of}
use Rattle.zr_world_spec.specs.Fan.{are_samples, is_sample, waiting_at}
use Rattle.zr_world_spec.specs.Sound.{IsSound}
use Rattle.zr_world_spec.proofs.Ends.{end_found, none_there}
use Rattle.zr_world_spec.proofs.Keyed.{entry_found, there as some_there}
use Rattle.zr_world_spec.proofs.Names.{same_name}
use Rattle.zr_law_fan.specs.Samples.{Move, Handling, Taking, at_end, under_way, next_moves, can_go, msg_of, AreSamples}
use Rattle.zr_world_gang.specs.Shares.{ShareState, new_share}
use Rattle.zr_law_rounds.specs.Rounds.{waits, Weights, told_by, line_weight, IsOf, HaveMoved}
use Rattle.zr_law_rounds.specs.Told.{HaveGone, HaveCome, HasBegun, Stay, MayFan, AreBeginning, AreUnderWay, went, went_weighs, StartGoes, EndGoes, AllHaveBegun, PassGoes, RoundGoes}
use Rattle.zr_law_rounds.proofs.Going.{goes_from, goes_to, goes_both, goes_beside, all_go}
use Rattle.zr_law_rounds.proofs.Open.{met, turned_is}
use Rattle.zr_law_rounds.proofs.Over.{of_same}
use Rattle.zr_law_rounds.proofs.Shares.{all_go_on}

-- ---- the routers of shares

pub stay_both : (ss ts us : List ShareState) → Stay ss ts → Stay ts us → Stay ss us
stay_both ss ts us a b = (b.0 ∙ a.0, b.1 ∙ a.1)

of_stay : (w : WorldState) (ss ts : List ShareState) → Stay ss ts → AllByRecursion (λ s. IsOf w s) ss → AllByRecursion (λ s. IsOf w s) ts
of_stay w [] [] stay of = tt
of_stay w [] (t ∷ ts) stay of = let e = stay.0 in absurd (cc)
of_stay w (s ∷ ss) [] stay of = let e = stay.0 in absurd (cc)
of_stay w (s ∷ ss) (t ∷ ts) stay of =
    let e = stay.0 in
    let k = stay.1 in
    let name : t.name ≡ s.name = cc in
    let hub : t.hub ≡ s.hub = cc in
    let names : map (λ (z : ShareState). z.name) ts ≡ map (λ (z : ShareState). z.name) ss = cc in
    let hubs : map (λ (z : ShareState). z.hub) ts ≡ map (λ (z : ShareState). z.hub) ss = cc in
    (of_same w s t name hub of.0, of_stay w ss ts (names, hubs) of.1)

abbrev new_shares : Routers → List ShareState
new_shares rs = map (λ e. new_share e.0 (hub_of e.1)) rs

pub new_names : (rs : Routers) → map (λ s. s.name) (new_shares rs) ≡ keys_of rs
new_names [] = refl
new_names (r ∷ rs) = ap (λ l. r.0 ∷ l) (new_names rs)

of_new : (w : WorldState) (rs : Routers) → AllByRecursion (λ e. router_of w.routers e.0 ≡ Some e.1) rs → AllByRecursion (λ s. IsOf w s) (new_shares rs)
of_new w [] found = tt
of_new w (r ∷ rs) found = (record { router = r.1; there = found.0; hub = refl }, of_new w rs found.1)

of_may : (w : WorldState) (ss : List ShareState) → MayFan w ss → AllByRecursion (λ s. IsOf w s) ss
of_may w ss may =
    subst (λ z. AllByRecursion (λ s. IsOf w s) z) (sym may.shares)
    (of_new w w.routers (in_each (λ e. router_of w.routers e.0 ≡ Some e.1) w.routers (λ e i. entry_found nat_list_cmp_total same_name w.routers e may.in_order i)))

-- a share is that of this router, where it is one
known : (rs : Routers) (y : List ℕ) → is_some (router_of rs y) ≡ list_any (λ k. is_named y k) (keys_of rs)
known [] y = refl
known (r ∷ rs) y = by (is_named y r.0) (known rs y)
  where
    by : (b : Bool) → is_some (router_of rs y) ≡ list_any (λ k. is_named y k) (keys_of rs) → is_some (cond b (Some r.1) (router_of rs y)) ≡ (b || list_any (λ k. is_named y k) (keys_of rs))
    by true h = refl
    by false h = h

named : (ss : List ShareState) (y : List ℕ) → list_any (λ s. is_named y s.name) ss ≡ list_any (λ k. is_named y k) (map (λ s. s.name) ss)
named [] y = refl
named (s ∷ ss) y = ap (λ b. is_named y s.name || b) (named ss y)

among : (w : WorldState) (new ss : List ShareState) → MayFan w new → Stay new ss → (y : List ℕ) → list_any (λ s. is_named y s.name) ss ≡ is_some (router_of w.routers y)
among w new ss may stay y =
    named ss y ∙ ap (λ z. list_any (λ k. is_named y k) z) (stay.0 ∙ ap (λ z. map (λ (s : ShareState). s.name) z) may.shares ∙ new_names w.routers) ∙ sym (known w.routers y)

-- ---- what waits are samples

both_pass : (p : Tagged → Bool) (xs ys : List Tagged) → list_all p (xs ++ ys) ≡ true → (list_all p xs ≡ true) × (list_all p ys ≡ true)
both_pass p [] ys h = (refl, h)
both_pass p (x ∷ xs) ys h =
    let a = and_parts (p x) (list_all p (xs ++ ys)) h in
    let rest = both_pass p xs ys a.1 in
    (and_from (p x) (list_all p xs) a.0 rest.0, rest.1)

abbrev is_move_of : Move → Bool
is_move_of m = is_sample (msg_of m)

moved_pass : (f : Tagged → Move) → ((m : Tagged) → msg_of (f m) ≡ m.msg) → (ms : List Tagged) → list_all (λ m. is_sample m.msg) ms ≡ true → AllByRecursion (λ m. is_move_of m ≡ true) (map f ms)
moved_pass f same [] h = tt
moved_pass f same (m ∷ ms) h =
    let a = and_parts (is_sample m.msg) (list_all (λ m. is_sample m.msg) ms) h in
    (ap is_sample (same m) ∙ a.0, moved_pass f same ms a.1)

under_way_pass : (es : Ends) → list_all (λ e. list_all (λ m. is_sample m.msg) (waiting_at e.1)) es ≡ true → AllByRecursion (λ m. is_move_of m ≡ true) (under_way es)
under_way_pass [] h = tt
under_way_pass (e ∷ es) h =
    let a = and_parts (list_all (λ m. is_sample m.msg) (waiting_at e.1)) (list_all (λ e. list_all (λ m. is_sample m.msg) (waiting_at e.1)) es) h in
    let b = both_pass (λ m. is_sample m.msg) e.1.wire e.1.queue a.0 in
    append_pass is_move_of (at_end e.0 e.1) (under_way es)
    (append_pass is_move_of (map (λ m. Handling e.0 m) e.1.wire) (map (λ m. Taking e.0 m) e.1.queue) (moved_pass (λ m. Handling e.0 m) (λ m. refl) e.1.wire b.0) (moved_pass (λ m. Taking e.0 m) (λ m. refl) e.1.queue b.1))
    (under_way_pass es a.1)

pub samples_are : (w : WorldState) → are_samples w ≡ true → AreSamples w
samples_are w h = under_way_pass w.ends h

-- ---- the start

new_waits : (rs : Routers) → waits (new_shares rs) ≡ []
new_waits [] = refl
new_waits (r ∷ rs) = new_waits rs

new_told : (f : Weights) (rs : Routers) → told_by f (new_shares rs) ≡ 0
new_told f [] = refl
new_told f (r ∷ rs) = let rest = new_told f rs in omega (arith, rest)

pub start_goes : StartGoes
start_goes w ss may = record {
  may = may;
  stay = (refl, refl);
  found = in_each (λ x. end_of w.ends x.0 ≡ Some x.1) w.ends (λ x i. end_found w.ends x may.sound.in_order i);
  gone = record {
    moved = [];
    goes = λ f.
        let none = ap (weigh f) (ap waits may.shares ∙ new_waits w.routers) in
        let both = weigh-append f (waits ss) (under_way w.ends) in
        omega (arith, none, both);
    can = tt;
    told = λ f. ap (told_by f) may.shares ∙ new_told f w.routers;
  };
}

-- ---- messages pass, and a round

pub pass_goes : PassGoes
pass_goes w ss ts u come = record {
  sound = u.sound;
  settled = u.settled;
  samples = u.samples;
  calm = u.calm;
  of = of_stay w ss ts come.stay u.of;
  gone = record {
    moved = u.gone.moved;
    goes = goes_to (next_moves w) (under_way w.ends) u.gone.moved (waits ss ++ []) (waits ts ++ []) u.gone.goes
        (λ f.
        let one = weigh-append f (waits ss) [] in
        let two = weigh-append f (waits ts) [] in
        let same = come.waits_are f in
        omega (arith, one, two, same));
    can = u.gone.can;
    told = λ f. let one = come.told_are f in let two = u.gone.told f in omega (arith, one, two);
  };
}

pub round_goes : RoundGoes
round_goes w ss ts u may done =
    let round : HaveMoved w ss ts = all_go_on w u.sound u.settled u.calm ss ts u.of may done in (
      record {
        sound = u.sound;
        settled = u.settled;
        samples = u.samples;
        calm = u.calm;
        of = of_stay w ss ts (round.names, round.hubs) u.of;
        gone = record {
          moved = u.gone.moved ++ round.moved;
          goes = goes_both (next_moves w) (under_way w.ends) u.gone.moved (waits ss ++ []) round.moved (waits ts ++ []) u.gone.goes (goes_beside (next_moves w) (waits ss) round.moved (waits ts) [] round.goes);
          can = append_pass (can_go w) u.gone.moved round.moved u.gone.can round.can;
          told = λ f.
              let one = u.gone.told f in
              let two = round.told f in
              let both = weigh-append (line_weight w f) u.gone.moved round.moved in
              omega (arith, one, two, both);
        };
      },
      (round.names, round.hubs),
    )

-- ---- an end begins

module _ (w : WorldState) (e : End) (s : EndState) (there : end_of w.ends e ≡ Some s) (up : s.up ≡ true) (whole : s.unbroken ≡ true) where
  abbrev takings : List Tagged → List Move
  takings ms = map (λ m. Taking e m) ms

  can_take : (m : Tagged) → can_go w (Taking e m) ≡ true
  can_take m = ap (λ o. option_map_or (λ z. z.up && z.unbroken) o false) there ∙ and_from s.up s.unbroken up whole

  all_can : (ms : List Tagged) → AllByRecursion (λ m. can_go w m ≡ true) (takings ms)
  all_can [] = tt
  all_can (m ∷ ms) = (can_take m, all_can ms)

  -- what those that were taken become
  abbrev behind : Bool → List Tagged → List Move
  behind b ms = cond b (map (λ m. Handling (turned e) m) ms) []

  become : (b : Bool) → is_some (end_of w.ends (turned e)) ≡ b → (f : Move → ℕ) (ms : List Tagged) → weigh f (flat_map (next_moves w) (takings ms)) ≡ weigh f (behind b ms)
  become true k f [] = refl
  become false k f [] = refl
  become b k f (m ∷ ms) = by b k (become b k f ms)
    where
      by : (c : Bool) → is_some (end_of w.ends (turned e)) ≡ c → weigh f (flat_map (next_moves w) (takings ms)) ≡ weigh f (behind c ms) →
          weigh f (next_moves w (Taking e m) ++ flat_map (next_moves w) (takings ms)) ≡ weigh f (behind c (m ∷ ms))
      by true k ih =
          let one = weigh-append f (next_moves w (Taking e m)) (flat_map (next_moves w) (takings ms)) in
          let is = ap (λ z. weigh f (cond z (Handling (turned e) m ∷ []) [])) k in
          omega (arith, one, is, ih)
      by false k ih =
          let one = weigh-append f (next_moves w (Taking e m)) (flat_map (next_moves w) (takings ms)) in
          let is = ap (λ z. weigh f (cond z (Handling (turned e) m ∷ []) [])) k in
          omega (arith, one, is, ih)

  tell : (f : Weights) (ms : List Tagged) →
      weigh (line_weight w f) (takings ms)
      ≡ weigh (λ m. cond (is_some (router_of w.routers e.1)) (f.taken (line_text (Taken e.0 e.1 m.msg m.tag))) (f.sent (line_text (Taken e.0 e.1 m.msg m.tag)))) ms
  tell f ms = weigh-map (line_weight w f) (λ m. Taking e m) ms

abbrev wires : End → EndState → List Move
wires e s = map (λ m. Handling e m) s.wire

abbrev takes : End → EndState → List Move
takes e s = map (λ m. Taking e m) s.queue

-- what those that were taken became
abbrev went_on : WorldState → End → EndState → List Move
went_on w e s = cond (is_some (router_of w.routers e.1)) (map (λ m. Handling (turned e) m) s.queue) []

-- what waits at an end that is up and unbroken
up_goes : (w : WorldState) (e : End) (s : EndState) (rest : Ends) (ss ts : List ShareState) → end_of w.ends e ≡ Some s → s.up ≡ true → s.unbroken ≡ true →
    is_some (router_of w.routers e.1) ≡ is_some (end_of w.ends (turned e)) → HaveGone w ss ((e, s) ∷ rest) →
    HaveCome (map (λ m. Handling e m) s.wire ++ went (is_some (router_of w.routers e.1)) e s.queue) (went_weighs (is_some (router_of w.routers e.1)) e s.queue) ss ts → HaveGone w ts rest
up_goes w e s rest ss ts there up whole same gone begun = record {
  moved = gone.moved ++ takes e s;
  goes =
      goes_both (next_moves w) (under_way w.ends) gone.moved (waits ss ++ ((wires e s ++ takes e s) ++ under_way rest)) (takes e s) (waits ts ++ under_way rest) gone.goes
      (goes_to (next_moves w) (waits ss ++ ((wires e s ++ takes e s) ++ under_way rest)) (takes e s) (flat_map (next_moves w) (takes e s) ++ (wires e s ++ (waits ss ++ under_way rest))) (waits ts ++ under_way rest)
      (goes_from (next_moves w) (takes e s ++ (wires e s ++ (waits ss ++ under_way rest))) (waits ss ++ ((wires e s ++ takes e s) ++ under_way rest)) (takes e s)
      (flat_map (next_moves w) (takes e s) ++ (wires e s ++ (waits ss ++ under_way rest))) first (all_go (next_moves w) (takes e s) (wires e s ++ (waits ss ++ under_way rest)))) last);
  can = append_pass (can_go w) gone.moved (takes e s) gone.can (all_can w e s there up whole s.queue);
  told = λ f.
      let one = gone.told f in
      let two = begun.told_are f in
      let three = tell w e s there up whole f s.queue in
      let both = weigh-append (line_weight w f) gone.moved (takes e s) in
      omega (arith, one, two, three, both);
}
  where
    first : AreSame (takes e s ++ (wires e s ++ (waits ss ++ under_way rest))) (waits ss ++ ((wires e s ++ takes e s) ++ under_way rest))
    first f =
        let one = weigh-append f (takes e s) (wires e s ++ (waits ss ++ under_way rest)) in
        let two = weigh-append f (wires e s) (waits ss ++ under_way rest) in
        let three = weigh-append f (waits ss) (under_way rest) in
        let four = weigh-append f (waits ss) ((wires e s ++ takes e s) ++ under_way rest) in
        let five = weigh-append f (wires e s ++ takes e s) (under_way rest) in
        let six = weigh-append f (wires e s) (takes e s) in
        omega (arith, one, two, three, four, five, six)

    last : AreSame (flat_map (next_moves w) (takes e s) ++ (wires e s ++ (waits ss ++ under_way rest))) (waits ts ++ under_way rest)
    last f =
        let one = weigh-append f (flat_map (next_moves w) (takes e s)) (wires e s ++ (waits ss ++ under_way rest)) in
        let two = weigh-append f (wires e s) (waits ss ++ under_way rest) in
        let three = weigh-append f (waits ss) (under_way rest) in
        let four = weigh-append f (waits ts) (under_way rest) in
        let five = begun.waits_are f in
        let six = weigh-append f (wires e s ++ went_on w e s) (waits ss) in
        let seven = weigh-append f (wires e s) (went_on w e s) in
        let eight = become w e s there up whole (is_some (router_of w.routers e.1)) (sym same) f s.queue in
        omega (arith, one, two, three, four, five, six, seven, eight)

pub none_went : (b : Bool) (e : End) → went b e [] ≡ []
none_went true e = refl
none_went false e = refl

idle_goes : (w : WorldState) (b : Bool) (e : End) (s : EndState) (rest : Ends) (ss ts : List ShareState) → s.wire ≡ [] → s.queue ≡ [] → HaveGone w ss ((e, s) ∷ rest) →
    HaveCome (map (λ m. Handling e m) s.wire ++ went b e s.queue) (went_weighs b e s.queue) ss ts → HaveGone w ts rest
idle_goes w b e s rest ss ts wire queue gone come = record {
  moved = gone.moved;
  goes = goes_to (next_moves w) (under_way w.ends) gone.moved (waits ss ++ ((wires e s ++ takes e s) ++ under_way rest)) (waits ts ++ under_way rest) gone.goes
      (λ f.
      let one = weigh-append f (waits ss) ((wires e s ++ takes e s) ++ under_way rest) in
      let two = weigh-append f (wires e s ++ takes e s) (under_way rest) in
      let three = weigh-append f (wires e s) (takes e s) in
      let four = ap (λ ms. weigh f (map (λ m. Handling e m) ms)) wire in
      let five = ap (λ ms. weigh f (map (λ m. Taking e m) ms)) queue in
      let six = weigh-append f (waits ts) (under_way rest) in
      let seven = come.waits_are f in
      let eight = weigh-append f (wires e s ++ went b e s.queue) (waits ss) in
      let nine = weigh-append f (wires e s) (went b e s.queue) in
      let ten = ap (λ ms. weigh f (went b e ms)) queue ∙ ap (weigh f) (none_went b e) in
      omega (arith, one, two, three, four, five, six, seven, eight, nine, ten));
  can = gone.can;
  told = λ f.
      let one = come.told_are f in
      let two = gone.told f in
      let none = ap (λ ms. went_weighs b e ms f) queue in
      omega (arith, one, two, none);
}

-- an end that is up is unbroken, and its neighbour has an end exactly where it is a router
open_end : (w : WorldState) → IsSound w → is_settled w ≡ true → (e : End) (s : EndState) → end_of w.ends e ≡ Some s → s.up ≡ true →
    (s.unbroken ≡ true) × (is_some (router_of w.routers e.1) ≡ is_some (end_of w.ends (turned e)))
open_end w sound settled e s there up =
    let r = some_there (router_of w.routers e.0) (sound.routers e.0 e.1 (ap is_some there)) in
    let whole = met w sound settled e.0 r.0 r.1 e s there up in
    let parts = and_parts s.unbroken _ whole in
    (parts.0, sym (turned_is w sound settled e.0 r.0 r.1 e.1 (is_some (router_of w.routers e.1)) (is_some (end_of w.ends (e.1, e.0))) refl refl parts.1))

pub end_goes : EndGoes
end_goes w new ss ts e s rest h begun = record { may = h.may; stay = stay_both new ss ts h.stay begun.come.stay; found = h.found.1; gone = by (is_idle s) refl }
  where
    come : HaveCome (map (λ m. Handling e m) s.wire ++ went (is_some (router_of w.routers e.1)) e s.queue) (went_weighs (is_some (router_of w.routers e.1)) e s.queue) ss ts
    come = subst (λ b. HaveCome (map (λ m. Handling e m) s.wire ++ went b e s.queue) (went_weighs b e s.queue) ss ts) (among w new ss h.may h.stay e.1) begun.come

    by : (b : Bool) → is_idle s ≡ b → HaveGone w ts rest
    by true idle =
        let parts = and_parts (is_empty s.wire) (is_empty s.queue) idle in
        idle_goes w (is_some (router_of w.routers e.1)) e s rest ss ts (none_there s.wire parts.0) (none_there s.queue parts.1) h.gone come
    by false waiting =
        let up = begun.up waiting in
        let met_is = open_end w h.may.sound h.may.settled e s h.found.0 up in
        up_goes w e s rest ss ts h.found.0 up met_is.0 met_is.1 h.gone come

pub all_have_begun : AllHaveBegun
all_have_begun w new ss h = record {
  sound = h.may.sound;
  settled = h.may.settled;
  samples = h.may.samples;
  calm = h.may.calm;
  of = of_stay w new ss h.stay (of_may w new h.may);
  gone = h.gone;
}
