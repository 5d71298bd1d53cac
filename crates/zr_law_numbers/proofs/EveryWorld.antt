-- All that holds of every world that so many acts led to (`Holds`): each act keeps it, and by it routers take what may come (`all_go`). So no event of a
-- script's world is refused (`events_go`), no step of a run (`steps_go`), and no event at any moment (`always_go`), in any world (`worlds_go`) or
-- within a fan (`fans_go`).
use Rattle.std.proofs.Common.{◌≡◌, ◌≤◌, ◌+◌, ℕ, suc, Bool, true, false, cond, List, [], ◌∷◌, length, Option, Some, None, Ok, Err, refl, subst, arith}
use Rattle.std.specs.Prelude.{IfOk, IfSome, nat_le}
use Rattle.std.specs.List.{fold}
use Rattle.std.specs.Option.{option_and_then}
use Rattle.zr_script_spec.specs.declared.command.Act.{Act}
use Rattle.zr_script_spec.specs.Lines.{most_bytes}
use Rattle.zr_world_spec.specs.World.{WorldState, empty_world, with_booked, most_steps}
use Rattle.zr_world_spec.specs.Acts.{Outcome, outcome}
use Rattle.zr_script_spec.specs.declared.error.ScriptError.TheVariants.{Limit}
use Rattle.zr_world_spec.specs.Next.{Done, all_done, booking, book_step, fan_step}
use Rattle.zr_world_spec.specs.Moments.{Numbered, Moment, is_step, beginning, went, onward, reached}
use Rattle.zr_world_spec.specs.Run.{run_lines}
use Rattle.zr_world_spec.proofs.Lines.{at_some}
use Rattle.zr_law_settled.specs.Events.{RequestsAreTaken, EventsAreTaken, NoEventIsRefused}
use Rattle.zr_law_settled.proofs.BoundedActs.{AreBounded, bounded_first, later as bounded_later, bounded_on, bounded_by_step}
use Rattle.zr_law_settled.proofs.Goes.{Goes, goes_first, goes_on, goes_counted, all_taken}
use Rattle.zr_law_settled.proofs.Refused.{events_are_taken}
use Rattle.zr_law_queries.proofs.Hops.{fronts}
use Rattle.zr_law_numbers.specs.Waiting as waiting
use Rattle.zr_law_numbers.specs.Waiting.{Said, Place}
use Rattle.zr_law_numbers.specs.Numbers.{NumbersHold}
use Rattle.zr_law_numbers.specs.Calls.{Call, Apply, Book, Fan, left_by, counted_by, call_made, led, is_apply, applied_in, most_commands, NoEventOfAnyWorldIsRefused, NoEventWithinAFanIsRefused}
use Rattle.zr_law_numbers.specs.Taken.{StepsArePossible, AlwaysTaken}
use Rattle.zr_law_numbers.proofs.Few.{FewHold, few_later, few_first, act_few}
use Rattle.zr_law_numbers.proofs.Light.{IsLight, samples_light, light_goes, light_few}
use Rattle.zr_law_numbers.proofs.Open.{AreOpen, open_first, act_open}
use Rattle.zr_law_numbers.proofs.Taken.{requests_taken}
use Rattle.zr_law_numbers.proofs.Counted.{light_lead, fan_keeps, behind_lines, steps_are_possible}
use Rattle.zr_law_numbers.proofs.Numbers.{Hops, numbers_first, numbers_kept, numbers_counted}

pub record Holds (k : ℕ) (w : WorldState) : Type 0 where
  pub goes : Goes w
  pub hops : Hops
  pub numbers : NumbersHold hops w
  pub room : AreOpen w.clients
  pub few : FewHold k w.routers
  pub bounded : AreBounded k w.routers

first_holds : Holds 0 empty_world
first_holds = record { goes = goes_first; hops = numbers_first.0; numbers = numbers_first.1; room = open_first; few = few_first; bounded = bounded_first }

holds_later : (k m : ℕ) (w : WorldState) → k ≤ m → Holds k w → Holds m w
holds_later k m w le g = record {
  goes = g.goes;
  hops = g.hops;
  numbers = g.numbers;
  room = g.room;
  few = few_later k m w.routers le g.few;
  bounded = bounded_later k m w.routers le g.bounded;
}

holds_counted : (k : ℕ) (w : WorldState) (booked : ℕ) → Holds k w → Holds k (with_booked w booked)
holds_counted k w booked g = record {
  goes = goes_counted w booked g.goes;
  hops = g.hops;
  numbers = numbers_counted w booked g.hops g.numbers;
  room = g.room;
  few = g.few;
  bounded = g.bounded;
}

holds_on : (k : ℕ) (w : WorldState) (line : ℕ) (act : Act) → Holds k w → IfOk (outcome w line act) (λ x. Holds (k + 1) x.1)
holds_on k w line act g =
    by (outcome w line act) (goes_on w line act g.goes) (numbers_kept w line act g.hops g.goes g.numbers) (act_open now g.room line act) (act_few k now g.numbers.tables g.few line act)
    (bounded_on k now g.bounded line act)
  where
    now : Moment
    now = record { world = w; report = [] }

    by : (o : Outcome) → IfOk o (λ x. Goes x.1) → IfOk o (λ x. (hops : Hops) × NumbersHold hops x.1) → IfSome (went now o) (λ next. AreOpen next.world.clients) →
        IfSome (went now o) (λ next. FewHold (k + 1) next.world.routers) → IfSome (went now o) (λ next. AreBounded (k + 1) next.world.routers) → IfOk o (λ x. Holds (k + 1) x.1)
    by (Err e) goes numbers room few bounded = tt
    by (Ok x) goes numbers room few bounded = record { goes = goes; hops = numbers.0; numbers = numbers.1; room = room; few = few; bounded = bounded }

-- where nothing of a request is under way a step counts nothing
light_holds : (k : ℕ) (w : WorldState) (line : ℕ) (act : Act) → is_step act ≡ true → Holds k w → IsLight w → IfOk (outcome w line act) (λ x. Holds k x.1 × IsLight x.1)
light_holds k w line act ok g light =
    by (outcome w line act) (goes_on w line act g.goes) (numbers_kept w line act g.hops g.goes g.numbers) (act_open now g.room line act) (light_few now light k g.few line act ok)
    (bounded_by_step k now g.bounded line act ok) (light_goes now light line act ok)
  where
    now : Moment
    now = record { world = w; report = [] }

    by : (o : Outcome) → IfOk o (λ x. Goes x.1) → IfOk o (λ x. (hops : Hops) × NumbersHold hops x.1) → IfSome (went now o) (λ next. AreOpen next.world.clients) →
        IfSome (went now o) (λ next. FewHold k next.world.routers) → IfSome (went now o) (λ next. AreBounded k next.world.routers) → IfSome (went now o) (λ next. IsLight next.world) →
        IfOk o (λ x. Holds k x.1 × IsLight x.1)
    by (Err e) goes numbers room few bounded clear = tt
    by (Ok x) goes numbers room few bounded clear = (record { goes = goes; hops = numbers.0; numbers = numbers.1; room = room; few = few; bounded = bounded }, clear)

-- ---- moments

act_holds : (k : ℕ) (x : Numbered) (o : Option Moment) → IfSome o (λ m. Holds k m.world) → IfSome (onward o x) (λ m. Holds (k + 1) m.world)
act_holds k x None h = tt
act_holds k x (Some m) h = by (outcome m.world x.0 x.1) (holds_on k m.world x.0 x.1 h)
  where
    by : (o : Outcome) → IfOk o (λ y. Holds (k + 1) y.1) → IfSome (went m o) (λ next. Holds (k + 1) next.world)
    by (Err e) g = tt
    by (Ok y) g = g

acts_hold : (acts : List Numbered) (k : ℕ) (o : Option Moment) → IfSome o (λ m. Holds k m.world) → IfSome (fold onward o acts) (λ m. Holds (k + length acts) m.world)
acts_hold [] k o h = subst (λ n. IfSome o (λ m. Holds n m.world)) (let e : k ≡ k + 0 = omega arith in e) h
acts_hold (x ∷ acts) k o h =
    subst (λ n. IfSome (fold onward (onward o x) acts) (λ m. Holds n m.world)) (let e : (k + 1) + length acts ≡ k + suc (length acts) = omega arith in e)
    (acts_hold acts (k + 1) (onward o x) (act_holds k x o h))

-- ---- calls

call_holds : (k : ℕ) (o : Option WorldState) (call : Call) → IfSome o (λ w. Holds k w) → IfSome (option_and_then (λ w. call_made w call) o) (λ w. Holds (k + cond (is_apply call) 1 0) w)
unfolding book_step
call_holds k None call h = tt
call_holds k (Some w) (Apply line act) h = by (outcome w line act) (holds_on k w line act h)
  where
    by : (o : Outcome) → IfOk o (λ x. Holds (k + 1) x.1) → IfSome (left_by o) (λ v. Holds (k + 1) v)
    by (Err e) g = tt
    by (Ok x) g = g
call_holds k (Some w) (Book steps) h = by (nat_le (w.booked + steps) most_steps)
  where
    by : (b : Bool) → IfSome (counted_by (cond b (Ok (booking w steps)) (Err Limit))) (λ v. Holds (k + 0) v)
    by true = holds_later k (k + 0) (booking w steps) (omega arith) (holds_counted k w (w.booked + steps) h)
    by false = tt
call_holds k (Some w) (Fan line) h = by (fan_step w line) (fan_keeps Holds first_holds holds_later holds_on holds_counted IsLight samples_light light_holds line k w h)
  where
    by : (d : Done) → IfOk d (λ x. Holds k x.1 × (x.1.booked ≡ w.booked)) → IfSome (left_by d) (λ v. Holds (k + 0) v)
    by (Err e) g = tt
    by (Ok x) g = holds_later k (k + 0) x.1 (omega arith) g.0

calls_hold : (calls : List Call) (k : ℕ) (o : Option WorldState) → IfSome o (λ w. Holds k w) →
    IfSome (fold (λ p call. option_and_then (λ w. call_made w call) p) o calls) (λ w. Holds (fold (λ n call. n + cond (is_apply call) 1 0) k calls) w)
calls_hold [] k o h = h
calls_hold (call ∷ calls) k o h = calls_hold calls (k + cond (is_apply call) 1 0) (option_and_then (λ w. call_made w call) o) (call_holds k o call h)

-- ---- what is taken

taken_where : (k : ℕ) (w : WorldState) → k ≤ most_commands → Holds k w → RequestsAreTaken w
taken_where k w most g = requests_taken (fronts waiting.Asked Place Said) k (omega (arith, most)) w g.goes g.hops g.numbers g.room g.few

all_go : (k : ℕ) (w : WorldState) → k ≤ most_commands → Holds k w → EventsAreTaken w
all_go k w most g = events_are_taken k w (omega (arith, most)) g.goes g.bounded (taken_where k w most g)

pub steps_go : StepsArePossible
steps_go = steps_are_possible Holds first_holds holds_later holds_on holds_counted IsLight samples_light light_holds (λ k w most g. (g.goes.sound, all_taken w g.goes (taken_where k w most g)))

pub events_go : NoEventIsRefused
events_go ls x r event few found heard =
    all_go (most_bytes + most_steps) (run_lines ls).world (omega arith) (behind_lines Holds first_holds holds_later holds_on holds_counted IsLight samples_light light_holds ls few) x r event found heard

pub always_go : AlwaysTaken
always_go acts m few reaches =
    all_go (0 + length acts) m.world (omega (arith, few)) (at_some (λ (n : Moment). Holds (0 + length acts) n.world) (reached acts) m reaches (acts_hold acts 0 (Some beginning) first_holds))

led_holds : (calls : List Call) (w : WorldState) → led calls ≡ Some w → Holds (applied_in calls) w
led_holds calls w leads = subst (λ (o : Option WorldState). IfSome o (λ v. Holds (applied_in calls) v)) leads (calls_hold calls 0 (Some empty_world) first_holds)

pub worlds_go : NoEventOfAnyWorldIsRefused
worlds_go calls w few leads = all_go (applied_in calls) w few (led_holds calls w leads)

pub fans_go : NoEventWithinAFanIsRefused
fans_go calls w v line steps few leads samples are_steps ends =
    by (all_done w line steps) (light_lead Holds first_holds holds_later holds_on holds_counted IsLight samples_light light_holds line steps k w.booked w are_steps (led_holds calls w leads) (samples_light w samples) refl) ends
  where
    k : ℕ
    k = applied_in calls

    by : (d : Done) → IfOk d (λ x. Holds k x.1 × (x.1.booked ≡ w.booked)) → left_by d ≡ Some v → EventsAreTaken v
    by (Err e) h at = absurd (cc)
    by (Ok x) h at = let same : x.1 ≡ v = cc in all_go k v few (subst (Holds k) same h.0)
