-- A fan tells just the moves that samples make in any other order. The steps of the fan are moves too (`runs_move`), and none is refused. What it has
-- moved, and what it left under way, is among the others' moves (`parts_fit`): so it had steps left, and nothing is left that can go.
use Rattle.std.proofs.Common.{◌≡◌, ℕ, zero, suc, ◌+◌, ◌≤◌, Bool, true, false, cond, List, [], ◌∷◌, ◌++◌, map, length, Option, Some, None, Ok, Err, inl, inr, refl, sym, ap, ◌∙◌, subst, arith}
use Rattle.std.specs.Prelude.{is_some, is_ok, not, IfOk}
use Rattle.std.specs.List.{AllByRecursion, concat, count_by}
use Rattle.std.specs.List.Sorted.{IsStrictlySortedBy}
use Rattle.std.specs.Map.{keys_of}
use Rattle.std.proofs.lemmas.Bool.{false≢true}
use Rattle.zr_msg.specs.declared.event.Event.TheVariants.{From}
use Rattle.zr_msg.specs.declared.msg.Msg.{Msg}
use Rattle.zr_msg.specs.declared.msg.Msg.TheVariants.{Push}
use Rattle.zr_orders.specs.Bag.{weigh, AreSame, Goes}
use Rattle.zr_orders.proofs.Bag.{orders_are_one, parts_fit}
use Rattle.zr_orders.proofs.Passes.{fails, none_fails, all_pass, same_map, weigh-one}
use Rattle.zr_orders.proofs.Ranked.{sorted_alike, weigh_sum}
use Rattle.zr_script_spec.specs.declared.command.Act.{Act}
use Rattle.zr_script_spec.specs.declared.command.Act.TheVariants as a
use Rattle.zr_script_spec.specs.declared.report.ReportLine.{ReportLine}
use Rattle.zr_script_spec.specs.declared.report.ReportLine.TheVariants.{Fanned}
use Rattle.zr_script_spec.specs.Report.{line_text}
use Rattle.zr_script_spec.specs.Step.{◌>>=◌}
use Rattle.zr_world_spec.specs.World.{Tagged, EndState, End, Ends, Routers, WorldState, end_cmp, is_end, router_of, end_of}
use Rattle.zr_world_spec.specs.Acts.{Outcome, refuses_of, outcome}
use Rattle.zr_world_spec.specs.Fan.{is_sample, is_handled, is_taken_to, most_fan_steps, fanned}
use Rattle.zr_world_spec.specs.Moments.{is_step}
use Rattle.zr_world_spec.specs.Next.{Done, can_handle, can_take, first_where, step_at, next, with_more, world_after, run_steps, all_done, fan_steps, fan_done}
use Rattle.zr_world_spec.specs.Sound.{IsSound, AllAreTaken}
use Rattle.zr_world_spec.proofs.Lines.{all_steps}
use Rattle.zr_world_spec.proofs.Sound.{act_keeps, next_goes, said_first}
use Rattle.zr_law_fan.specs.Samples.{Move, Handling, Taking, at_end, under_way, line_of, msg_of, next_moves, can_go, quieted, IsCalm, AreSamples, HaveMoved}
use Rattle.zr_law_fan.specs.Plain.{HaveGone, FanIsPlain}
use Rattle.zr_law_fan.proofs.Running.{all_same, samples_go, keys_same, world_is, runs_move}
use Rattle.zr_law_fan.proofs.Ending.{HasEnded, run_ends, rests}

-- ---- the same lines tell the same

weigh_count : {X : Type 0} (p : X → Bool) (xs : List X) → count_by p xs ≡ weigh (λ x. cond (p x) 1 0) xs
weigh_count p xs = sym (weigh_sum (λ x. cond (p x) 1 0) xs)

same_count : {X : Type 0} (p : X → Bool) (xs ys : List X) → AreSame xs ys → count_by p xs ≡ count_by p ys
same_count p xs ys same = weigh_count p xs ∙ same (λ x. cond (p x) 1 0) ∙ sym (weigh_count p ys)

pub fanned_same : (routers : Routers) (xs ys : List ReportLine) → AreSame xs ys → fanned routers xs ≡ fanned routers ys
fanned_same routers xs ys same =
    let texts = sorted_alike ReportLine line_text xs ys same in
    let long : length xs ≡ length ys = sym (weigh-one xs) ∙ same (λ x. 1) ∙ weigh-one ys in
    let one = same_count is_handled xs ys same in
    let two = same_count (is_taken_to (λ to. is_some (router_of routers to))) xs ys same in
    let three = same_count (is_taken_to (λ to. not (is_some (router_of routers to)))) xs ys same in
    λ i. Fanned (concat (texts i)) (long i) (record { handled = one i; taken = two i; sent = three i })

-- ---- no step is refused

record IsOn (v : WorldState) : Type 0 where
  sound : IsSound v
  calm : IsCalm v
  samples : AreSamples v

keeps : (v : WorldState) (line : ℕ) (act : Act) → is_step act ≡ true → IsOn v → IfOk (outcome v line act) (λ x. IsOn x.1)
keeps v line act step h = by (outcome v line act) (act_keeps v line act h.sound) (samples_go v h.sound h.calm h.samples line act step)
  where
    by : (o : Outcome) → IfOk o (λ x. IsSound x.1) → IfOk o (λ x. IsCalm x.1 × AreSamples x.1) → IfOk o (λ x. IsOn x.1)
    by (Err e) a b = tt
    by (Ok x) a b = record { sound = a; calm = b.0; samples = b.1 }

taken : (v : WorldState) → IsOn v → AllAreTaken v
taken v h x y r s l m more er es up first number = by m.msg (waits_here v (x, y) s es m more first h.samples)
  where
    by : (msg : Msg) → is_sample msg ≡ true → refuses_of r (From l msg) ≡ None
    by (Push tree content) e = (h.calm x r er l tree content).taken
    by other e = absurd (false≢true e)

    waits_here : (u : WorldState) (q : End) (t : EndState) → end_of u.ends q ≡ Some t → (n : Tagged) (ns : List Tagged) → t.wire ≡ n ∷ ns → AreSamples u → is_sample n.msg ≡ true
    waits_here u q t found n ns front all = in_ends u.ends found all
      where
        rest_of : (xs ys : List Move) → AllByRecursion (λ z. is_sample (msg_of z) ≡ true) (xs ++ ys) → AllByRecursion (λ z. is_sample (msg_of z) ≡ true) ys
        rest_of [] ys k = k
        rest_of (z ∷ xs) ys k = rest_of xs ys k.1

        in_ends : (es : Ends) → end_of es q ≡ Some t → AllByRecursion (λ z. is_sample (msg_of z) ≡ true) (under_way es) → is_sample n.msg ≡ true
        in_ends [] f k = absurd (false≢true (ap is_some f))
        in_ends (e ∷ es) f k = at (is_end q e.0) f (in_ends es)
          where
            at : (b : Bool) → cond b (Some e.1) (end_of es q) ≡ Some t → (end_of es q ≡ Some t → AllByRecursion (λ z. is_sample (msg_of z) ≡ true) (under_way es) → is_sample n.msg ≡ true) → is_sample n.msg ≡ true
            at true g ih =
                let one : e.1 ≡ t = cc in
                (subst (λ (ws : List Tagged). AllByRecursion (λ z. is_sample (msg_of z) ≡ true) ((map (λ z. Handling e.0 z) ws ++ map (λ z. Taking e.0 z) e.1.queue) ++ under_way es)) (ap (λ (z : EndState). z.wire) one ∙ front) k).0
            at false g ih = ih g (rest_of (at_end e.0 e.1) (under_way es) k)

next_steps : (v : WorldState) (step : Act) → next v ≡ Some step → is_step step ≡ true
next_steps v step found = by (first_where can_handle v.ends) (first_where can_take v.ends) found
  where
    by : (o t : Option End) → step_at o t ≡ Some step → is_step step ≡ true
    by (Some e) t k = let same : a.Handle e.0 e.1 ≡ step = cc in ap is_step (sym same)
    by None (Some e) k = let same : a.Take e.0 e.1 ≡ step = cc in ap is_step (sym same)
    by None None k = absurd (false≢true (ap is_some k))

goes_on : (line n : ℕ) (v : WorldState) → IsOn v → is_ok (all_done v line (run_steps line n v)) ≡ true
unfolding run_steps
goes_on line zero v h = refl
goes_on line (suc n) v h = by (next v) refl (goes_on line n)
  where
    by : (o : Option Act) → next v ≡ o → ((u : WorldState) → IsOn u → is_ok (all_done u line (run_steps line n u)) ≡ true) →
        is_ok (all_done v line (with_more o (λ step. run_steps line n (world_after v (outcome v line step))))) ≡ true
    by None e ih = refl
    by (Some step) e ih = at (outcome v line step) (next_goes v line step h.sound (taken v h) e) (keeps v line step (next_steps v step e) h)
      where
        at : (o : Outcome) → is_ok o ≡ true → IfOk o (λ x. IsOn x.1) → is_ok (o >>= (λ x. all_done x.1 line (run_steps line n (world_after v o)) >>= (said_first x.0))) ≡ true
        at (Err e) k m = absurd (false≢true k)
        at (Ok x) k m = last (all_done x.1 line (run_steps line n x.1)) (ih x.1 m)
          where
            last : (d : Done) → is_ok d ≡ true → is_ok (d >>= (said_first x.0)) ≡ true
            last (Ok y) k = refl
            last (Err e) k = absurd (false≢true k)

-- ---- all of it

emptied_by : {X : Type 0} (xs : List X) → length xs ≡ 0 → xs ≡ []
emptied_by [] h = refl
emptied_by (x ∷ xs) h = absurd (omega (arith, h))

module _ (w : WorldState) (sound : IsSound w) (moved : List Move) (gone : HaveGone w moved) (acts : List Act) (x : List ReportLine × WorldState)
    (h : HaveMoved w x.1 x.0 acts) (ends : HasEnded most_fan_steps acts x) where
  abbrev rest : List Move
  rest = under_way x.1.ends

  fits : (f : Move → ℕ) → weigh f h.moved + weigh f rest ≤ weigh f moved
  fits = parts_fit Move (next_moves w) (under_way w.ends) moved h.moved rest gone.goes h.goes

  none_fail : weigh (fails (can_go w)) rest ≡ 0
  none_fail = let a = fits (fails (can_go w)) in let b = none_fails (can_go w) moved gone.can in omega (arith, a, b)

  can_rest : AllByRecursion (λ m. can_go x.1 m ≡ true) rest
  can_rest = all_same w x.1 h.same rest (all_pass (can_go w) rest none_fail)

  sorted : IsStrictlySortedBy end_cmp (keys_of x.1.ends)
  sorted = subst (IsStrictlySortedBy end_cmp) (sym (keys_same w x.1 h.same)) sound.in_order

  nothing : rest ≡ []
  nothing = ended ends
    where
      ended : HasEnded most_fan_steps acts x → rest ≡ []
      ended (inl none) = rests x.1 sorted none can_rest
      ended (inr whole) =
          let all = fits (λ m. 1) in
          let one = weigh-one h.moved in
          let two = weigh-one rest in
          let three = weigh-one moved in
          let few = gone.few in
          let many = h.as_many in
          emptied_by rest (omega (arith, all, one, two, three, few, many, whole))

  same : AreSame h.moved moved
  same = orders_are_one Move (next_moves w) (under_way w.ends) h.moved moved (subst (λ z. Goes (next_moves w) (under_way w.ends) h.moved z) nothing h.goes) gone.goes

  lines_are : fanned x.1.routers x.0 ≡ fanned w.routers (map line_of moved)
  lines_are = (λ i. fanned (h.same.routers i) (h.lines_are i)) ∙ fanned_same w.routers (map line_of h.moved) (map line_of moved) (same_map line_of h.moved moved same)

  left : x.1 ≡ quieted w
  left = world_is w x.1 h.same nothing

pub fan_is_plain : FanIsPlain
unfolding fan_done
fan_is_plain w sound calm samples line moved gone =
    by (all_done w line acts) (goes_on line most_fan_steps w (record { sound = sound; calm = calm; samples = samples }))
    (runs_move w sound calm samples line acts (all_steps line most_fan_steps w)) (run_ends line most_fan_steps w)
  where
    acts : List Act
    acts = fan_steps line w

    tells : List ReportLine × WorldState → Done
    tells x = Ok (fanned x.1.routers x.0 ∷ [], x.1)

    by : (d : Done) → is_ok d ≡ true → IfOk d (λ x. HaveMoved w x.1 x.0 acts) → IfOk d (HasEnded most_fan_steps acts) →
        (d >>= tells) ≡ Ok (fanned w.routers (map line_of moved) ∷ [], quieted w)
    by (Err e) goes h ends = absurd (false≢true goes)
    by (Ok x) goes h ends = λ i. Ok (lines_are w sound moved gone acts x h ends i ∷ [], left w sound moved gone acts x h ends i)
