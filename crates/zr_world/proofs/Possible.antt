-- What code has done leads from a world to which calls of fit acts lead to another one, and in such a world the next step is possible. That it is so
-- is shown of the definitions.
use Rattle.std.proofs.Common.{◌≡◌, ℕ, ◌+◌, ◌<◌, false, cond, List, Option, Some, None, Result, Ok, Err, refl, sym, ap, subst}
use Rattle.std.specs.Prelude.{IfSome, true, is_ok}
use Rattle.std.proofs.lemmas.Bool.{true≢false, false≢true}
use Rattle.zr_script_spec.specs.declared.error.ScriptError.{ScriptError}
use Rattle.zr_script_spec.specs.declared.error.ScriptError.TheVariants.{Limit, NoMemory}
use Rattle.zr_script_spec.specs.declared.command.Act.{Act}
use Rattle.zr_script_spec.specs.declared.report.ReportLine.{ReportLine}
use Rattle.zr_world_spec.specs.World.{WorldState}
use Rattle.zr_world_spec.specs.Acts.{Outcome, outcome}
use Rattle.zr_world_spec.specs.Next.{Done, next, book_step, fan_step}
use Rattle.zr_world_spec.proofs.Sound.{next_goes}
use Rattle.zr_law_numbers.specs.Calls.{most_commands}
use Rattle.zr_law_calls.specs.Fitting.{IsFit}
use Rattle.zr_law_calls.specs.Reached.{IsFitReached}
use Rattle.zr_law_calls.specs.Limits.{passes_limit}
use Rattle.zr_law_calls.proofs.Reached.{fit_reached, reached_applied, reached_booked, reached_fanned, reached_sound, reached_waiting}
use Rattle.zr_law_calls.proofs.Limits.{limits_met}
use Rattle.zr_law_carried.proofs.Reached.{reached_carriable}
use Rattle.zr_world.specs.Steps.{AppliesTo, Counts, is_out_of_memory}
use Rattle.zr_world.specs.Led.{IsLed}
use Rattle.zr_world.specs.Living.{Living, Applies, IsPossible}

-- what the tables ask of a world holds where calls of fit acts lead to it
pub reached_led : (w : WorldState) (n : ℕ) → IsFitReached w n → IsLed w
reached_led w n h = record { sound = reached_sound w n (fit_reached w n h); taken = reached_waiting w n (fit_reached w n h); carriable = reached_carriable w n h }

-- counting
pub counted_reached : (r : Result (Unit {0}) ScriptError) (w w' : WorldState) (n steps : ℕ) → Counts r (book_step w steps) w w' → IsFitReached w n → IsFitReached w' n
counted_reached (Ok u) w w' n steps e h = reached_booked w w' n steps h e
counted_reached (Err e) w w' n steps k h = subst (λ (v : WorldState). IsFitReached v n) (sym k.1) h

-- an act that was accepted
done_reached : (w w' : WorldState) (n line : ℕ) (act : Act) (before after : List ReportLine) → AppliesTo (Ok tt) (outcome w line act) w w' before after → IsFit act → n < most_commands → IsFitReached w n → IsFitReached w' (n + 1)
done_reached w w' n line act before after k fit room h = by (outcome w line act) refl k
  where
    by : (o : Outcome) → outcome w line act ≡ o → AppliesTo (Ok tt) o w w' before after → IsFitReached w' (n + 1)
    by (Ok x) e a = subst (λ (v : WorldState). IsFitReached v (n + 1)) (sym a.0.0) (reached_applied w n line act x h fit room e)
    by (Err e) is a = absurd (false≢true a.1)

-- an act that was accepted or refused
pub act_reached : (d : Result (Unit {0}) ScriptError) (w w' : WorldState) (n line : ℕ) (act : Act) (before after : List ReportLine) → AppliesTo d (outcome w line act) w w' before after → IsFit act → n < most_commands →
    IsFitReached w n → is_out_of_memory d ≡ false → IsFitReached w' (cond (is_ok d) (n + 1) n)
act_reached (Ok u) w w' n line act before after k fit room h living = done_reached w w' n line act before after k fit room h
act_reached (Err NoMemory) w w' n line act before after k fit room h living = absurd (true≢false living)
act_reached (Err refusal) w w' n line act before after k fit room h living = subst (λ (v : WorldState). IsFitReached v n) (sym k.1) h

-- a fan that was accepted
swept_reached : (w w' : WorldState) (n line : ℕ) (before after : List ReportLine) → AppliesTo (Ok tt) (fan_step w line) w w' before after → IsFitReached w n → IsFitReached w' n
swept_reached w w' n line before after k h = by (fan_step w line) refl k
  where
    by : (d : Done) → fan_step w line ≡ d → AppliesTo (Ok tt) d w w' before after → IsFitReached w' n
    by (Ok x) e a = subst (λ (v : WorldState). IsFitReached v n) (sym a.0.0) (reached_fanned w n line x h e)
    by (Err e) is a = absurd (false≢true a.1)

-- a fan that was accepted or refused
pub fan_reached : (d : Result (Unit {0}) ScriptError) (w w' : WorldState) (n line : ℕ) (before after : List ReportLine) → AppliesTo d (fan_step w line) w w' before after → IsFitReached w n → is_out_of_memory d ≡ false →
    IsFitReached w' n
fan_reached (Ok u) w w' n line before after k h living = swept_reached w w' n line before after k h
fan_reached (Err NoMemory) w w' n line before after k h living = absurd (true≢false living)
fan_reached (Err refusal) w w' n line before after k h living = subst (λ (v : WorldState). IsFitReached v n) (sym k.1) h

-- What was done to the tables was done to the world, behind so many acts where it was accepted.
pub world_applies : (d : Result (Unit {0}) ScriptError) (said : Outcome) (old : Living) (w' : WorldState) (n m : ℕ) (before after : List ReportLine) → old.spent ≡ false → m ≡ cond (is_ok d) n old.applied →
    AppliesTo d said old.state w' before after → Applies d said n old (record { state = w'; applied = m; spent = is_out_of_memory d }) before after
world_applies (Ok u) (Ok x) old w' n m before after living count k = ((λ i. record { state = k.0.0 i; applied = count i; spent = false }, k.0.1), refl)
world_applies (Ok u) (Err e) old w' n m before after living count k = absurd (false≢true k.1)
world_applies (Err NoMemory) said old w' n m before after living count k = (refl, k)
world_applies (Err refusal) said old w' n m before after living count k = (k.0, λ i. record { state = k.1 i; applied = count i; spent = sym living i }, k.2)

-- an act that was answered `Limit`
pub act_passes : (d : Result (Unit {0}) ScriptError) (w w' : WorldState) (n line : ℕ) (act : Act) (before after : List ReportLine) → AppliesTo d (outcome w line act) w w' before after → IsFitReached w n →
    d ≡ Err Limit → passes_limit w act ≡ true
act_passes d w w' n line act before after k h limit =
    limits_met w n line act (fit_reached w n h) (subst (λ (z : Result (Unit {0}) ScriptError). AppliesTo z (outcome w line act) w w' before after) limit k).0

-- the next step, if there is one
pub next_possible : (o : Option Act) (w : WorldState) (n : ℕ) → IsFitReached w n → o ≡ next w → IfSome o (IsPossible w)
next_possible None w n h e = tt
next_possible (Some step) w n h e = λ line. next_goes w line step (reached_led w n h).sound (reached_led w n h).taken (sym e)
