-- In each world to which calls of fit acts lead, what waits may be carried (`reached_carriable`): the first world is such, and an act, counted steps
-- and a fan leave such ones.
use Rattle.std.proofs.Common.{◌≡◌, ℕ, Bool, true, false, cond, not, List, [], ◌∷◌, Option, Some, None, Result, Ok, Err, refl, ap, subst}
use Rattle.std.specs.Prelude.{◌+◌, ◌||◌, nat_le, IfOk, IfSome}
use Rattle.std.specs.List.{AllByRecursion, fold, list_all}
use Rattle.std.specs.Option.{option_and_then}
use Rattle.std.proofs.lemmas.Bool.{false≢true, and_parts}
use Rattle.zr_msg.specs.declared.peer.Role.TheVariants.{Client, Router}
use Rattle.zr_script_spec.specs.declared.command.Act.{Act}
use Rattle.zr_script_spec.specs.declared.command.Act.TheVariants as a
use Rattle.zr_script_spec.specs.declared.error.ScriptError.{ScriptError}
use Rattle.zr_script_spec.specs.declared.error.ScriptError.TheVariants.{Limit, NotSamples, NotSettled}
use Rattle.zr_script_spec.specs.declared.report.ReportLine.{ReportLine}
use Rattle.zr_script_spec.specs.Step.{◌>>=◌}
use Rattle.zr_world_spec.specs.World.{WorldState, empty_world, is_settled, most_steps}
use Rattle.zr_world_spec.specs.Acts.{Outcome, outcome, unless}
use Rattle.zr_world_spec.specs.Fan.{are_long, are_many, are_samples, fanned, most_fan_steps}
use Rattle.zr_world_spec.specs.Moments.{is_step}
use Rattle.zr_world_spec.specs.Next.{Done, all_done, booking, book_step, fan_done, fan_step, fan_steps}
use Rattle.zr_world_spec.specs.Sound.{IsSound}
use Rattle.zr_world_spec.proofs.Lines.{all_steps}
use Rattle.zr_world_spec.proofs.Sound.{book_keeps, empty_sound, said_first}
use Rattle.zr_law_numbers.specs.Calls.{Call, Apply, Book, Fan, call_made, counted_by, left_by}
use Rattle.zr_law_calls.specs.Fitting.{IsFit}
use Rattle.zr_law_calls.specs.Reached.{IsFitCall, IsFitReached}
use Rattle.zr_law_carried.specs.Carriable.{ReachedIsCarriable}
use Rattle.zr_law_carried.proofs.Acts.{Stands, act_carried}

-- ---- steps

-- a step sends nothing of a client's
step_fit : (act : Act) → is_step act ≡ true → IsFit act
step_fit (a.Router id) e = tt
step_fit (a.Client id router) e = tt
step_fit (a.Link one other weight) e = tt
step_fit (a.Up router neighbour) e = tt
step_fit (a.Break router neighbour) e = tt
step_fit (a.Down router neighbour) e = tt
step_fit (a.Sub client id key) e = absurd (false≢true e)
step_fit (a.Unsub client id) e = absurd (false≢true e)
step_fit (a.Token client id key) e = absurd (false≢true e)
step_fit (a.Untoken client id) e = absurd (false≢true e)
step_fit (a.Able client id key complete) e = absurd (false≢true e)
step_fit (a.Unable client id) e = absurd (false≢true e)
step_fit (a.Interest client id mode kinds key aggregate) e = absurd (false≢true e)
step_fit (a.Uninterest client id) e = absurd (false≢true e)
step_fit (a.Publish client content) e = absurd (false≢true e)
step_fit (a.Get client n target content) e = absurd (false≢true e)
step_fit (a.Reply client n content) e = absurd (false≢true e)
step_fit (a.End client n) e = absurd (false≢true e)
step_fit (a.Handle router from) e = tt
step_fit (a.Take router to) e = tt
step_fit a.Mark e = tt
step_fit (a.Show router) e = tt

steps_stand : (line : ℕ) (steps : List Act) (w : WorldState) → list_all is_step steps ≡ true → Stands w → IfOk (all_done w line steps) (λ x. Stands x.1)
steps_stand line [] w ok h = h
steps_stand line (step ∷ more) w ok h =
    let parts = and_parts (is_step step) (list_all is_step more) ok in
    by (outcome w line step) (act_carried w line step (step_fit step parts.0) h) (λ v k. steps_stand line more v parts.1 k)
  where
    by : (o : Outcome) → IfOk o (λ x. Stands x.1) → ((v : WorldState) → Stands v → IfOk (all_done v line more) (λ x. Stands x.1)) →
        IfOk (o >>= (λ x. all_done x.1 line more >>= (said_first x.0))) (λ x. Stands x.1)
    by (Err e) k ih = tt
    by (Ok x) k ih = at (all_done x.1 line more) (ih x.1 k)
      where
        at : (d : Done) → IfOk d (λ x. Stands x.1) → IfOk (d >>= (said_first x.0)) (λ x. Stands x.1)
        at (Err e) m = tt
        at (Ok y) m = m

fan_stands : (w : WorldState) (line : ℕ) → Stands w → IfOk (fan_step w line) (λ x. Stands x.1)
unfolding fan_step fan_done
fan_stands w line h = by (not (is_settled w)) (not (are_samples w)) (are_many w || are_long w)
  where
    tells : List ReportLine × WorldState → Done
    tells x = Ok (fanned x.1.routers x.0 ∷ [], x.1)

    done : (d : Done) → IfOk d (λ x. Stands x.1) → IfOk (d >>= tells) (λ x. Stands x.1)
    done (Err e) k = tt
    done (Ok y) k = k

    by : (a b c : Bool) → IfOk (unless a NotSettled >>= (λ u. unless b NotSamples >>= (λ v. unless c Limit >>= (λ z. fan_done line w)))) (λ x. Stands x.1)
    by true b c = tt
    by false true c = tt
    by false false true = tt
    by false false false = done (all_done w line (fan_steps line w)) (steps_stand line (fan_steps line w) w (all_steps line most_fan_steps w) h)

-- steps that are counted change no end and no router
book_stands : (w : WorldState) (steps : ℕ) → Stands w → IfOk (book_step w steps) Stands
unfolding book_step
book_stands w steps h = by (nat_le (w.booked + steps) most_steps) (book_keeps w steps h.0)
  where
    by : (b : Bool) → IfOk (cond b (Ok (booking w steps)) (Err Limit)) IsSound → IfOk (cond b (Ok (booking w steps)) (Err Limit)) Stands
    by true s = (s, (record { ends = h.1.0.ends; apart = h.1.0.apart }, h.1.1))
    by false s = tt

-- ---- calls

call_stands : (o : Option WorldState) (call : Call) → IsFitCall call → IfSome o Stands → IfSome (option_and_then (λ w. call_made w call) o) Stands
call_stands None call fit h = tt
call_stands (Some w) (Apply line act) fit h = by (outcome w line act) (act_carried w line act fit h)
  where
    by : (o : Outcome) → IfOk o (λ x. Stands x.1) → IfSome (left_by o) Stands
    by (Err e) g = tt
    by (Ok x) g = g
call_stands (Some w) (Book steps) fit h = by (book_step w steps) (book_stands w steps h)
  where
    by : (o : Result WorldState ScriptError) → IfOk o Stands → IfSome (counted_by o) Stands
    by (Err e) g = tt
    by (Ok x) g = g
call_stands (Some w) (Fan line) fit h = by (fan_step w line) (fan_stands w line h)
  where
    by : (d : Done) → IfOk d (λ x. Stands x.1) → IfSome (left_by d) Stands
    by (Err e) g = tt
    by (Ok x) g = g

calls_stand : (calls : List Call) (o : Option WorldState) → AllByRecursion IsFitCall calls → IfSome o Stands → IfSome (fold (λ p call. option_and_then (λ w. call_made w call) p) o calls) Stands
calls_stand [] o fit h = h
calls_stand (call ∷ calls) o fit h = calls_stand calls (option_and_then (λ w. call_made w call) o) fit.1 (call_stands o call fit.0 h)

first_stands : Stands empty_world
first_stands = (empty_sound, (record { ends = λ e. tt; apart = λ name e. refl }, λ x. tt))

pub reached_carriable : ReachedIsCarriable
unfolding IsFitReached
reached_carriable w n h = (subst (λ (o : Option WorldState). IfSome o Stands) h.1 (calls_stand h.0 (Some empty_world) h.4 first_stands)).1.0
