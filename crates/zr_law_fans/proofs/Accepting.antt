-- What a fan that is accepted has found: a settled world, in which only samples are under way, and not many.
use Rattle.std.proofs.Common.{◌≡◌, ℕ, Bool, true, false, not, List, [], ◌∷◌, ◌++◌, map, Ok, refl, ap}
use Rattle.std.specs.Prelude.{◌||◌, is_ok}
use Rattle.std.specs.List.{AllByRecursion, list_all}
use Rattle.std.proofs.lemmas.Bool.{false≢true, and_parts, or_parts}
use Rattle.zr_orders.proofs.Passes.{append_pass}
use Rattle.zr_script_spec.specs.declared.error.ScriptError.TheVariants.{Limit, NotSamples, NotSettled}
use Rattle.zr_script_spec.specs.declared.report.ReportLine.{ReportLine}
use Rattle.zr_script_spec.specs.Step.{◌>>=◌}
use Rattle.zr_world_spec.specs.World.{Tagged, End, Ends, WorldState, is_settled}
use Rattle.zr_world_spec.specs.Acts.{unless}
use Rattle.zr_world_spec.specs.Fan.{is_sample, waiting_at, are_samples, are_many, are_long}
use Rattle.zr_world_spec.specs.Next.{fan_done, fan_step}
use Rattle.zr_law_fan.specs.Samples.{Move, Handling, Taking, at_end, under_way, msg_of}

-- ---- what a fan that is accepted has found

pub record IsAccepted (w : WorldState) (line : ℕ) (fan : List ReportLine × WorldState) : Type 0 where
  pub settled : is_settled w ≡ true
  pub samples : are_samples w ≡ true
  pub few : are_many w ≡ false
  pub done : fan_done line w ≡ Ok fan

pub accepted : (w : WorldState) (line : ℕ) (fan : List ReportLine × WorldState) → fan_step w line ≡ Ok fan → IsAccepted w line fan
unfolding fan_step
accepted w line fan h = first (is_settled w) refl h
  where
    third : is_settled w ≡ true → are_samples w ≡ true → (b : Bool) → (are_many w || are_long w) ≡ b → (unless b Limit >>= (λ u. fan_done line w)) ≡ Ok fan → IsAccepted w line fan
    third settled samples true e k = absurd (false≢true (ap is_ok k))
    third settled samples false e k = record { settled = settled; samples = samples; few = (or_parts (are_many w) (are_long w) e).0; done = k }

    second : is_settled w ≡ true → (b : Bool) → are_samples w ≡ b →
        (unless (not b) NotSamples >>= (λ u. unless (are_many w || are_long w) Limit >>= (λ v. fan_done line w))) ≡ Ok fan → IsAccepted w line fan
    second settled false e k = absurd (false≢true (ap is_ok k))
    second settled true e k = third settled e (are_many w || are_long w) refl k

    first : (b : Bool) → is_settled w ≡ b →
        (unless (not b) NotSettled >>= (λ t. unless (not (are_samples w)) NotSamples >>= (λ u. unless (are_many w || are_long w) Limit >>= (λ v. fan_done line w)))) ≡ Ok fan → IsAccepted w line fan
    first false e k = absurd (false≢true (ap is_ok k))
    first true e k = second e (are_samples w) refl k

-- ---- only samples are under way

abbrev Sample : Move → Type 0
Sample m = is_sample (msg_of m) ≡ true

at_one : (e : End) (wire queue : List Tagged) → list_all (λ m. is_sample m.msg) (wire ++ queue) ≡ true → AllByRecursion Sample (map (λ m. Handling e m) wire ++ map (λ m. Taking e m) queue)
at_one e [] [] h = tt
at_one e [] (m ∷ queue) h = let parts = and_parts (is_sample m.msg) (list_all (λ z. is_sample z.msg) queue) h in (parts.0, at_one e [] queue parts.1)
at_one e (m ∷ wire) queue h = let parts = and_parts (is_sample m.msg) (list_all (λ z. is_sample z.msg) (wire ++ queue)) h in (parts.0, at_one e wire queue parts.1)

pub samples_of : (es : Ends) → list_all (λ e. list_all (λ m. is_sample m.msg) (waiting_at e.1)) es ≡ true → AllByRecursion Sample (under_way es)
samples_of [] h = tt
samples_of (e ∷ es) h =
    let parts = and_parts (list_all (λ m. is_sample m.msg) (waiting_at e.1)) (list_all (λ z. list_all (λ m. is_sample m.msg) (waiting_at z.1)) es) h in
    append_pass (λ m. is_sample (msg_of m)) (at_end e.0 e.1) (under_way es) (at_one e.0 e.1.wire e.1.queue parts.0) (samples_of es parts.1)
