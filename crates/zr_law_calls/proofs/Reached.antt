-- Which worlds calls of fit acts lead to: the empty one, and from each such world that which a fit act, counted steps or a fan leave. Each world to
-- which calls lead is sound (`reached_sound`), and its routers take what may come (`reached_takes`, `reached_waiting`).
use Rattle.std.proofs.Common.{◌≡◌, ◌≤◌, ◌<◌, ◌+◌, ℕ, cond, List, [], ◌∷◌, ◌++◌, Option, Some, None, Result, Ok, Err, refl, sym, ap, ◌∙◌, subst, arith}
use Rattle.std.specs.Prelude.{IfOk, IfSome}
use Rattle.std.specs.List.{fold}
use Rattle.std.specs.Option.{option_and_then}
use Rattle.std.proofs.lemmas.List.Sums.{fold-append}
use Rattle.zr_id.specs.declared.link.LinkNo.{LinkNo}
use Rattle.zr_msg.specs.declared.event.Event.TheVariants.{From}
use Rattle.zr_script_spec.specs.declared.command.Act.{Act}
use Rattle.zr_script_spec.specs.declared.command.Command.TheVariants as c
use Rattle.zr_script_spec.specs.declared.error.ScriptError.{ScriptError}
use Rattle.zr_script_spec.specs.declared.report.ReportLine.{ReportLine}
use Rattle.zr_world_spec.specs.World.{WorldState, empty_world, end_of}
use Rattle.zr_world_spec.specs.Acts.{Outcome, outcome, refuses_of}
use Rattle.zr_world_spec.specs.Next.{Done, book_step, fan_step}
use Rattle.zr_world_spec.specs.Sound.{IsSound, AllAreTaken}
use Rattle.zr_world_spec.proofs.Cases.{number_found}
use Rattle.zr_world_spec.proofs.Links.{named_link, numbered_link}
use Rattle.zr_world_spec.proofs.Next.{one_fan}
use Rattle.zr_world_spec.proofs.Sound.{act_keeps, book_keeps, applied_keeps, empty_sound}
use Rattle.zr_law_settled.specs.Events.{EventsAreTaken}
use Rattle.zr_law_numbers.specs.Calls.{Call, Apply, Book, Fan, left_by, counted_by, call_made, led, is_apply, applied_in, most_commands}
use Rattle.zr_law_numbers.proofs.EveryWorld.{worlds_go}
use Rattle.zr_lists.proofs.Each.{All-append}
use Rattle.zr_law_calls.specs.Fitting.{IsFit}
use Rattle.zr_law_calls.specs.Reached.{IsFitCall, IsFitReached, IsReached}

-- ---- one call more

led_more : (calls : List Call) (call : Call) (w v : WorldState) → led calls ≡ Some w → call_made w call ≡ Some v → led (calls ++ call ∷ []) ≡ Some v
led_more calls call w v leads made =
    fold-append (λ (o : Option WorldState) call. option_and_then (λ u. call_made u call) o) (Some empty_world) calls (call ∷ [])
    ∙ ap (λ o. option_and_then (λ u. call_made u call) o) leads ∙ made

applied_more : (calls : List Call) (call : Call) → applied_in (calls ++ call ∷ []) ≡ applied_in calls + cond (is_apply call) 1 0
applied_more calls call = fold-append (λ (n : ℕ) call. n + cond (is_apply call) 1 0) 0 calls (call ∷ [])

pub reached_first : IsFitReached empty_world 0
unfolding IsFitReached
reached_first = ([], refl, refl, omega arith, tt)

pub reached_applied : (w : WorldState) (n line : ℕ) (act : Act) (x : List ReportLine × WorldState) → IsFitReached w n → IsFit act → n < most_commands → outcome w line act ≡ Ok x → IsFitReached x.1 (n + 1)
unfolding IsFitReached
reached_applied w n line act x h fit room e = (
  h.0 ++ Apply line act ∷ [],
  led_more h.0 (Apply line act) w x.1 h.1 (ap left_by e),
  applied_more h.0 (Apply line act) ∙ ap (λ z. z + 1) h.2,
  omega (arith, room),
  All-append IsFitCall h.0 (Apply line act ∷ []) h.4 (fit, tt),
)

pub reached_booked : (w v : WorldState) (n steps : ℕ) → IsFitReached w n → book_step w steps ≡ Ok v → IsFitReached v n
unfolding IsFitReached
reached_booked w v n steps h e =
    let same : applied_in (h.0 ++ Book steps ∷ []) ≡ applied_in h.0 + 0 = applied_more h.0 (Book steps) in
    let count : applied_in (h.0 ++ Book steps ∷ []) ≡ n = omega (arith, same, h.2) in
    (h.0 ++ Book steps ∷ [], led_more h.0 (Book steps) w v h.1 (ap counted_by e), count, h.3, All-append IsFitCall h.0 (Book steps ∷ []) h.4 (tt, tt))

pub reached_fanned : (w : WorldState) (n line : ℕ) (x : List ReportLine × WorldState) → IsFitReached w n → fan_step w line ≡ Ok x → IsFitReached x.1 n
unfolding IsFitReached
reached_fanned w n line x h e =
    let same : applied_in (h.0 ++ Fan line ∷ []) ≡ applied_in h.0 + 0 = applied_more h.0 (Fan line) in
    let count : applied_in (h.0 ++ Fan line ∷ []) ≡ n = omega (arith, same, h.2) in
    (h.0 ++ Fan line ∷ [], led_more h.0 (Fan line) w x.1 h.1 (ap left_by e), count, h.3, All-append IsFitCall h.0 (Fan line ∷ []) h.4 (tt, tt))

-- ---- what holds of these worlds

-- which acts they apply is left out
pub fit_reached : (w : WorldState) (n : ℕ) → IsFitReached w n → IsReached w n
unfolding IsFitReached IsReached
fit_reached w n h = (h.0, h.1, h.2, h.3)

call_sound : (o : Option WorldState) (call : Call) → IfSome o IsSound → IfSome (option_and_then (λ w. call_made w call) o) IsSound
call_sound None call h = tt
call_sound (Some w) (Apply line act) h = by (outcome w line act) (act_keeps w line act h)
  where
    by : (o : Outcome) → IfOk o (λ x. IsSound x.1) → IfSome (left_by o) IsSound
    by (Err e) g = tt
    by (Ok x) g = g
call_sound (Some w) (Book steps) h = by (book_step w steps) (book_keeps w steps h)
  where
    by : (o : Result WorldState ScriptError) → IfOk o IsSound → IfSome (counted_by o) IsSound
    by (Err e) g = tt
    by (Ok x) g = g
call_sound (Some w) (Fan line) h = by (fan_step w line) (subst (λ (d : Done). IfOk d (λ x. IsSound x.1)) (one_fan w line) (applied_keeps w line c.Fan h))
  where
    by : (d : Done) → IfOk d (λ x. IsSound x.1) → IfSome (left_by d) IsSound
    by (Err e) g = tt
    by (Ok x) g = g

calls_sound : (calls : List Call) (o : Option WorldState) → IfSome o IsSound → IfSome (fold (λ p call. option_and_then (λ w. call_made w call) p) o calls) IsSound
calls_sound [] o h = h
calls_sound (call ∷ calls) o h = calls_sound calls (option_and_then (λ w. call_made w call) o) (call_sound o call h)

pub reached_sound : (w : WorldState) (n : ℕ) → IsReached w n → IsSound w
unfolding IsReached
reached_sound w n h = subst (λ (o : Option WorldState). IfSome o IsSound) h.1 (calls_sound h.0 (Some empty_world) empty_sound)

pub reached_few : (w : WorldState) (n : ℕ) → IsReached w n → n ≤ most_commands
unfolding IsReached
reached_few w n h = h.3

pub reached_takes : (w : WorldState) (n : ℕ) → IsReached w n → EventsAreTaken w
unfolding IsReached
reached_takes w n h = worlds_go h.0 w (subst (λ k. k ≤ most_commands) (sym h.2) h.3) h.1

-- the oldest message on a wire among them
pub reached_waiting : (w : WorldState) (n : ℕ) → IsReached w n → AllAreTaken w
reached_waiting w n h x y r s l m more er es up wire number =
    let k = number_found r y l number in
    let same : k.0.peer.id ≡ y = named_link r.node.links y k.0 k.1 in
    subst (λ (z : LinkNo). refuses_of r (From z m.msg) ≡ None) k.2
    (reached_takes w n h x r (From k.0.link m.msg) er (record {
      neighbour = k.0;
      linked = numbered_link r.node.links ((reached_sound w n h).unique x r er) y k.0 k.1;
      at = s;
      found = ap (λ z. end_of w.ends (x, z)) same ∙ es;
      tag = m.tag;
      rest = more;
      front = wire;
    }))
