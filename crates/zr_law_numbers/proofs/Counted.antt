-- The steps of a run are possible behind any lines of a script, where something holds of every world that so many acts led to, and says of so many
-- that the world is sound and its routers take what waits for them. Each line counts one, and each run as many as it asks for.
use Rattle.std.proofs.Common.{◌≡◌, ◌≤◌, ◌+◌, ℕ, zero, suc, Bool, true, false, cond, List, [], ◌∷◌, ◌++◌, length, Option, Some, None, Result, Ok, Err, refl, sym, ap, ◌∙◌, subst, arith}
use Rattle.std.specs.Prelude.{◌||◌, not, nat_le, is_some, is_none, is_ok, IfOk}
use Rattle.std.specs.List.{fold, list_all}
use Rattle.std.proofs.lemmas.Bool.{leb-true, and_parts}
use Rattle.zr_script_spec.specs.declared.error.ScriptError.{ScriptError}
use Rattle.zr_script_spec.specs.declared.error.ScriptError.TheVariants.{Limit, NotSamples, NotSettled}
use Rattle.zr_script_spec.specs.declared.command.Act.{Act}
use Rattle.zr_script_spec.specs.declared.command.Command.{Command}
use Rattle.zr_script_spec.specs.declared.command.Command.TheVariants as c
use Rattle.zr_script_spec.specs.declared.report.ReportLine.{ReportLine}
use Rattle.zr_script_spec.specs.declared.report.ReportLine.TheVariants.{Ran}
use Rattle.zr_script_spec.specs.Command.{command_of}
use Rattle.zr_script_spec.specs.Lines.{most_bytes}
use Rattle.zr_script_spec.specs.Step.{◌>>=◌}
use Rattle.zr_world_spec.specs.World.{WorldState, empty_world, with_booked, most_steps, is_settled}
use Rattle.zr_world_spec.specs.Fan.{are_samples, are_many, are_long, most_fan_steps, fanned}
use Rattle.zr_world_spec.specs.Acts.{Outcome, unless, outcome}
use Rattle.zr_world_spec.specs.Sound.{IsSound, AllAreTaken}
use Rattle.zr_world_spec.specs.Next.{Done, next, with_more, world_after, run_steps, all_done, booking, book_step, run_done, fan_steps, fan_done, fan_step, applied}
use Rattle.zr_world_spec.specs.Moments.{is_step}
use Rattle.zr_world_spec.proofs.Lines.{all_steps}
use Rattle.zr_world_spec.specs.Run.{Run, start, stepped, commanded, on_line, run_lines}
use Rattle.zr_world_spec.proofs.Counting.{recounted, outcome_recounted}
use Rattle.zr_world_spec.proofs.Sound.{next_goes, said_first}
use Rattle.zr_law_numbers.specs.Calls.{most_commands}
use Rattle.zr_law_numbers.specs.Taken.{StepsArePossible}

-- ---- how many steps runs asked for

-- an act leaves the count as it is
same_count : (w : WorldState) (line : ℕ) (act : Act) → IfOk (outcome w line act) (λ x. x.1.booked ≡ w.booked)
same_count w line act = by (outcome w line act) (outcome_recounted w w.booked line act)
  where
    by : (o : Outcome) → o ≡ recounted w.booked o → IfOk o (λ x. x.1.booked ≡ w.booked)
    by (Err e) k = tt
    by (Ok x) k = ap (λ (o : Outcome). booked_of o) k
      where
        booked_of : Outcome → ℕ
        booked_of (Err e) = 0
        booked_of (Ok y) = y.1.booked

-- a run has no more steps than it asks for
pub few_steps : (line n : ℕ) (w : WorldState) → length (run_steps line n w) ≤ n
unfolding run_steps
few_steps line zero w = omega arith
few_steps line (suc n) w = by (next w) (λ v. few_steps line n v)
  where
    by : (o : Option Act) → ((v : WorldState) → length (run_steps line n v) ≤ n) → length (with_more o (λ step. run_steps line n (world_after w (outcome w line step)))) ≤ suc n
    by None ih = omega arith
    by (Some step) ih = let few = ih (world_after w (outcome w line step)) in omega (arith, few)

-- ---- what holds of a world that so many acts led to

module _ (P : ℕ → WorldState → Type 0) (begins : P 0 empty_world) (later : (k m : ℕ) (w : WorldState) → k ≤ m → P k w → P m w)
    (keeps : (k : ℕ) (w : WorldState) (line : ℕ) (act : Act) → P k w → IfOk (outcome w line act) (λ x. P (k + 1) x.1))
    (counts : (k : ℕ) (w : WorldState) (booked : ℕ) → P k w → P k (with_booked w booked))
    (Q : WorldState → Type 0) (samples : (w : WorldState) → are_samples w ≡ true → Q w)
    (light : (k : ℕ) (w : WorldState) (line : ℕ) (act : Act) → is_step act ≡ true → P k w → Q w → IfOk (outcome w line act) (λ x. P k x.1 × Q x.1)) where
  -- some acts, and the count stays
  abbrev Led : ℕ → ℕ → List ReportLine × WorldState → Type 0
  Led k booked x = P k x.1 × (x.1.booked ≡ booked)

  acts_lead : (line : ℕ) (several : List Act) (k booked : ℕ) (w : WorldState) → P k w → w.booked ≡ booked → IfOk (all_done w line several) (Led (k + length several) booked)
  acts_lead line [] k booked w h e = (subst (λ n. P n w) (let z : k ≡ k + 0 = omega arith in z) h, e)
  acts_lead line (a ∷ more) k booked w h e = by (outcome w line a) (keeps k w line a h) (same_count w line a) (acts_lead line more (k + 1) booked)
    where
      by : (o : Outcome) → IfOk o (λ x. P (k + 1) x.1) → IfOk o (λ x. x.1.booked ≡ w.booked) →
          ((v : WorldState) → P (k + 1) v → v.booked ≡ booked → IfOk (all_done v line more) (Led ((k + 1) + length more) booked)) →
          IfOk (o >>= (λ x. all_done x.1 line more >>= (said_first x.0))) (Led (k + suc (length more)) booked)
      by (Err f) p q ih = tt
      by (Ok x) p q ih = at (all_done x.1 line more) (ih x.1 p (q ∙ e))
        where
          same : (k + 1) + length more ≡ k + suc (length more)
          same = omega arith

          at : (d : Done) → IfOk d (Led ((k + 1) + length more) booked) → IfOk (d >>= (said_first x.0)) (Led (k + suc (length more)) booked)
          at (Err f) m = tt
          at (Ok y) m = (subst (λ n. P n y.1) same m.0, m.1)

  -- what holds behind so many lines: acts are lines and steps that runs asked for
  abbrev Behind : ℕ → WorldState → Type 0
  Behind lines w = P (lines + w.booked) w × (w.booked ≤ most_steps)

  behind_more : (lines : ℕ) (w : WorldState) → Behind lines w → Behind (lines + 1) w
  behind_more lines w h = (later (lines + w.booked) (lines + 1 + w.booked) w (omega arith) h.0, h.1)

  run_leads : (lines line steps : ℕ) (w : WorldState) → Behind lines w → w.booked + steps ≤ most_steps → IfOk (run_done line steps (booking w steps)) (λ x. Behind lines x.1)
  unfolding run_done
  run_leads lines line steps w h room = by (all_done v line several) (acts_lead line several (lines + w.booked) (w.booked + steps) v (counts (lines + w.booked) w (w.booked + steps) h.0) refl)
    where
      v : WorldState
      v = booking w steps

      several : List Act
      several = run_steps line steps v

      closes : List ReportLine × WorldState → Done
      closes x = Ok (x.0 ++ Ran (length several) (is_none (next x.1)) ∷ [], x.1)

      few : length several ≤ steps
      few = few_steps line steps v

      by : (d : Done) → IfOk d (Led ((lines + w.booked) + length several) (w.booked + steps)) → IfOk (d >>= closes) (λ x. Behind lines x.1)
      by (Err f) m = tt
      by (Ok y) m =
          let e = m.1 in
          let le : (lines + w.booked) + length several ≤ lines + y.1.booked = omega (arith, e, few) in
          (later ((lines + w.booked) + length several) (lines + y.1.booked) y.1 le m.0, omega (arith, e, room))

  -- the steps of a fan count nothing, since they are all on samples
  pub light_lead : (line : ℕ) (several : List Act) (k booked : ℕ) (w : WorldState) → list_all is_step several ≡ true → P k w → Q w → w.booked ≡ booked → IfOk (all_done w line several) (Led k booked)
  light_lead line [] k booked w ok h q e = (h, e)
  light_lead line (a ∷ more) k booked w ok h q e =
      let parts = and_parts (is_step a) (list_all is_step more) ok in
      by (outcome w line a) (light k w line a parts.0 h q) (same_count w line a) (λ v. light_lead line more k booked v parts.1)
    where
      by : (o : Outcome) → IfOk o (λ x. P k x.1 × Q x.1) → IfOk o (λ x. x.1.booked ≡ w.booked) → ((v : WorldState) → P k v → Q v → v.booked ≡ booked → IfOk (all_done v line more) (Led k booked)) →
          IfOk (o >>= (λ x. all_done x.1 line more >>= (said_first x.0))) (Led k booked)
      by (Err f) p c ih = tt
      by (Ok x) p c ih = at (all_done x.1 line more) (ih x.1 p.0 p.1 (c ∙ e))
        where
          at : (d : Done) → IfOk d (Led k booked) → IfOk (d >>= (said_first x.0)) (Led k booked)
          at (Err f) m = tt
          at (Ok y) m = m

  -- so a fan counts nothing
  pub fan_keeps : (line k : ℕ) (w : WorldState) → P k w → IfOk (fan_step w line) (Led k w.booked)
  unfolding fan_step fan_done
  fan_keeps line k w h = by (is_settled w) (are_samples w) refl (are_many w || are_long w)
    where
      tells : List ReportLine × WorldState → Done
      tells x = Ok (fanned x.1.routers x.0 ∷ [], x.1)

      done : (d : Done) → IfOk d (Led k w.booked) → IfOk (d >>= tells) (Led k w.booked)
      done (Err e) m = tt
      done (Ok y) m = m

      by : (a b : Bool) → are_samples w ≡ b → (c : Bool) → IfOk (unless (not a) NotSettled >>= (λ u. unless (not b) NotSamples >>= (λ v. unless c Limit >>= (λ z. fan_done line w)))) (Led k w.booked)
      by false b is c = tt
      by true false is c = tt
      by true true is true = tt
      by true true is false = done (all_done w line (fan_steps line w)) (light_lead line (fan_steps line w) k w.booked w (all_steps line most_fan_steps w) h (samples w is) refl)

  fan_leads : (lines line : ℕ) (w : WorldState) → Behind lines w → IfOk (fan_step w line) (λ x. Behind lines x.1)
  fan_leads lines line w h = by (fan_step w line) (fan_keeps line (lines + w.booked) w h.0)
    where
      by : (d : Done) → IfOk d (Led (lines + w.booked) w.booked) → IfOk d (λ x. Behind lines x.1)
      by (Err e) m = tt
      by (Ok y) m =
          let e = m.1 in
          let most = h.1 in
          (subst (λ n. P (lines + n) y.1) (sym e) m.0, omega (arith, e, most))

  applied_leads : (lines : ℕ) (w : WorldState) (line : ℕ) (command : Command) → Behind lines w → IfOk (applied w line command) (λ x. Behind (lines + 1) x.1)
  unfolding applied book_step
  applied_leads lines w line (c.Act act) h = by (outcome w line act) (keeps (lines + w.booked) w line act h.0) (same_count w line act)
    where
      by : (o : Outcome) → IfOk o (λ x. P (lines + w.booked + 1) x.1) → IfOk o (λ x. x.1.booked ≡ w.booked) → IfOk o (λ x. Behind (lines + 1) x.1)
      by (Err e) p q = tt
      by (Ok x) p q = let most = h.1 in (later (lines + w.booked + 1) (lines + 1 + x.1.booked) x.1 (omega (arith, q)) p, omega (arith, q, most))
  applied_leads lines w line (c.Run steps) h = by (nat_le (w.booked + steps) most_steps) refl
    where
      more : (d : Done) → IfOk d (λ x. Behind lines x.1) → IfOk d (λ x. Behind (lines + 1) x.1)
      more (Err e) k = tt
      more (Ok x) k = behind_more lines x.1 k

      by : (b : Bool) → nat_le (w.booked + steps) most_steps ≡ b → IfOk (cond b (Ok (booking w steps)) (Err Limit) >>= run_done line steps) (λ x. Behind (lines + 1) x.1)
      by true room = more (run_done line steps (booking w steps)) (run_leads lines line steps w h (leb-true (w.booked + steps) most_steps room))
      by false room = tt
  applied_leads lines w line c.Fan h = more (fan_step w line) (fan_leads lines line w h)
    where
      more : (d : Done) → IfOk d (λ x. Behind lines x.1) → IfOk d (λ x. Behind (lines + 1) x.1)
      more (Err e) k = tt
      more (Ok x) k = behind_more lines x.1 k

  line_leads : (lines : ℕ) (r : Run) (line : List ℕ) → Behind lines r.world → Behind (lines + 1) (on_line r line).world
  line_leads lines r line h = by (is_some r.refusal)
    where
      done : (d : Done) → IfOk d (λ x. Behind (lines + 1) x.1) → Behind (lines + 1) (stepped r d).world
      done (Ok x) k = k
      done (Err e) k = behind_more lines r.world h

      asked : (a : Result (Option Command) ScriptError) → Behind (lines + 1) (commanded r a).world
      asked (Ok None) = behind_more lines r.world h
      asked (Ok (Some command)) = done (applied r.world (r.number + 1) command) (applied_leads lines r.world (r.number + 1) command h)
      asked (Err e) = behind_more lines r.world h

      by : (b : Bool) → Behind (lines + 1) (cond b r (commanded r (command_of line))).world
      by true = behind_more lines r.world h
      by false = asked (command_of line)

  lines_lead : (ls : List (List ℕ)) (lines : ℕ) (r : Run) → Behind lines r.world → Behind (lines + length ls) (fold on_line r ls).world
  lines_lead [] lines r h = subst (λ n. Behind n r.world) (let z : lines ≡ lines + 0 = omega arith in z) h
  lines_lead (l ∷ ls) lines r h =
      subst (λ n. Behind n (fold on_line (on_line r l) ls).world) (let z : (lines + 1) + length ls ≡ lines + suc (length ls) = omega arith in z)
      (lines_lead ls (lines + 1) (on_line r l) (line_leads lines r l h))

  -- behind some lines of a script, which are as many as their bytes at most
  pub behind_lines : (ls : List (List ℕ)) → length ls ≤ most_bytes → P (most_bytes + most_steps) (run_lines ls).world
  behind_lines ls few =
      let at : Behind (0 + length ls) (run_lines ls).world = lines_lead ls 0 start (begins, omega arith) in
      let most = at.1 in
      later (0 + length ls + (run_lines ls).world.booked) (most_bytes + most_steps) (run_lines ls).world (omega (arith, few, most)) at.0

  module _ (says : (k : ℕ) (w : WorldState) → k ≤ most_commands → P k w → IsSound w × AllAreTaken w) where
    steps_go : (line n k : ℕ) (w : WorldState) → k + n ≤ most_commands → P k w → is_ok (all_done w line (run_steps line n w)) ≡ true
    unfolding run_steps
    steps_go line zero k w most h = refl
    steps_go line (suc n) k w most h = by (next w) refl (λ v p. steps_go line n (k + 1) v (omega (arith, most)) p)
      where
        holds : IsSound w × AllAreTaken w
        holds = says k w (omega (arith, most)) h

        by : (o : Option Act) → next w ≡ o → ((v : WorldState) → P (k + 1) v → is_ok (all_done v line (run_steps line n v)) ≡ true) →
            is_ok (all_done w line (with_more o (λ step. run_steps line n (world_after w (outcome w line step))))) ≡ true
        by None found ih = refl
        by (Some step) found ih = at (outcome w line step) (next_goes w line step holds.0 holds.1 found) (keeps k w line step h)
          where
            at : (o : Outcome) → is_ok o ≡ true → IfOk o (λ x. P (k + 1) x.1) →
                is_ok (o >>= (λ x. all_done x.1 line (run_steps line n (world_after w o)) >>= (said_first x.0))) ≡ true
            at (Err e) goes p = absurd (cc)
            at (Ok x) goes p = then (all_done x.1 line (run_steps line n x.1)) (ih x.1 p)
              where
                then : (d : Done) → is_ok d ≡ true → is_ok (d >>= (said_first x.0)) ≡ true
                then (Err e) goes = absurd (cc)
                then (Ok y) goes = refl

    pub steps_are_possible : StepsArePossible
    steps_are_possible ls line n few short = steps_go line n (most_bytes + most_steps) (run_lines ls).world (omega (arith, short)) (behind_lines ls few)
