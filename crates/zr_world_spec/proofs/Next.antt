-- What whole commands come to, for code that does them one act after another. A command other than a run is one act (`one_act`).
-- A run is followed by `IsAhead`: what all its steps come to is what was said so far and what the steps that are left come to.
-- It holds at the start, each step keeps it, and where no step is left it gives the run (`run_ends`).
use Rattle.std.proofs.Common.{◌≡◌, ℕ, zero, suc, ◌+◌, List, [], ◌∷◌, ◌++◌, length, Some, None, Result, Ok, Err, refl, sym, ap, ◌∙◌, ◌⊎◌, inl, inr, append_assoc, append-nil, arith, subst}
use Rattle.std.specs.Prelude.{is_none, IfOk}
use Rattle.zr_script_spec.specs.declared.error.ScriptError.{ScriptError}
use Rattle.zr_script_spec.specs.declared.command.Act.{Act}
use Rattle.zr_script_spec.specs.declared.command.Command.TheVariants as c
use Rattle.zr_script_spec.specs.declared.report.ReportLine.{ReportLine}
use Rattle.zr_script_spec.specs.declared.report.ReportLine.TheVariants.{Ran}
use Rattle.zr_script_spec.specs.Step.{◌>>=◌}
use Rattle.zr_lists.specs.Prefix.{IsPrefixOf}
use Rattle.zr_world_spec.specs.World.{WorldState}
use Rattle.zr_world_spec.specs.Acts.{Outcome, outcome}
use Rattle.zr_world_spec.specs.Next.{Done, next, world_after, with_more, run_steps, all_done, book_step, run_done, fan_step, applied}

-- a command that is one act
pub one_act : (w : WorldState) (line : ℕ) (act : Act) → applied w line (c.Act act) ≡ outcome w line act
unfolding applied
one_act w line act = refl

-- a command that is a fan
pub one_fan : (w : WorldState) (line : ℕ) → applied w line c.Fan ≡ fan_step w line
unfolding applied
one_fan w line = refl

-- ---- a run

-- what was said and then what follows
abbrev pub behind : List ReportLine → Done → Done
behind lines more = more >>= (λ y. Ok (lines ++ y.0, y.1))

-- what the steps of a run from a world come to
abbrev pub ran : ℕ → ℕ → WorldState → Done
ran line left now = all_done now line (run_steps line left now)

-- A run of so many steps began in a world, and has done some: what all come to is what was said so far and what those that are left
-- come to, and so is their number.
pub record IsAhead (line steps : ℕ) (start : WorldState) (done left : ℕ) (now : WorldState) (lines : List ReportLine) : Type 0 where
  pub comes : ran line steps start ≡ behind lines (ran line left now)
  pub count : length (run_steps line steps start) ≡ done + length (run_steps line left now)

behind_nothing : (d : Done) → d ≡ behind [] d
behind_nothing (Ok y) = refl
behind_nothing (Err e) = refl

behind_more : (lines more : List ReportLine) (d : Done) → behind lines (behind more d) ≡ behind (lines ++ more) d
behind_more lines more (Ok y) = ap (λ z. Ok (z, y.1)) (sym (append_assoc lines more y.0))
behind_more lines more (Err e) = refl

pub ahead_at_start : (line steps : ℕ) (start : WorldState) → IsAhead line steps start 0 steps start []
ahead_at_start line steps start = record { comes = behind_nothing (ran line steps start); count = omega arith }

-- the steps that are left, where one more is to be done
pub one_more : (line left : ℕ) (now : WorldState) (step : Act) (x : List ReportLine × WorldState) → next now ≡ Some step → outcome now line step ≡ Ok x →
    run_steps line (suc left) now ≡ step ∷ run_steps line left x.1
unfolding run_steps
one_more line left now step x found done =
    ap (λ o. with_more o (λ s. run_steps line left (world_after now (outcome now line s)))) found ∙ ap (λ o. step ∷ run_steps line left (world_after now o)) done

-- a step is done
pub ahead_by_step : (line steps : ℕ) (start : WorldState) (done left more : ℕ) (now : WorldState) (lines : List ReportLine) (step : Act) (x : List ReportLine × WorldState) →
    IsAhead line steps start done left now lines → left ≡ suc more → next now ≡ Some step → outcome now line step ≡ Ok x →
    IsAhead line steps start (done + 1) more x.1 (lines ++ x.0)
ahead_by_step line steps start done left more now lines step x h is_left found is_done =
    let steps_are : run_steps line left now ≡ step ∷ run_steps line more x.1 = ap (λ n. run_steps line n now) is_left ∙ one_more line more now step x found is_done in
    record {
      comes = h.comes ∙ ap (λ z. behind lines (all_done now line z)) steps_are ∙ ap (λ (o : Outcome). behind lines (o >>= (λ y. behind y.0 (all_done y.1 line (run_steps line more x.1))))) is_done
          ∙ behind_more lines x.0 (ran line more x.1);
      count = let count : length (run_steps line left now) ≡ suc (length (run_steps line more x.1)) = ap length steps_are in omega (arith, h.count);
    }

-- where no step is left
pub none_left : (line left : ℕ) (now : WorldState) → (next now ≡ None) ⊎ (left ≡ 0) → run_steps line left now ≡ []
unfolding run_steps
none_left line zero now h = refl
none_left line (suc left) now (inl none) = ap (λ o. with_more o (λ s. run_steps line left (world_after now (outcome now line s)))) none
none_left line (suc left) now (inr none) = absurd (omega arith)

-- the end of a run
abbrev pub closes : ℕ → ℕ → WorldState → List ReportLine × WorldState → Done
closes line steps w x = Ok (x.0 ++ Ran (length (run_steps line steps w)) (is_none (next x.1)) ∷ [], x.1)

-- what a run that is not refused comes to
pub applied_run : (line steps : ℕ) (w counted : WorldState) → book_step w steps ≡ Ok counted → applied w line (c.Run steps) ≡ (ran line steps counted >>= closes line steps counted)
unfolding applied run_done
applied_run line steps w counted fits = ap (λ (b : Result WorldState ScriptError). b >>= run_done line steps) fits

-- a run that is not refused, where no step is left
pub run_ends : (line steps : ℕ) (w counted : WorldState) (done left : ℕ) (now : WorldState) (lines : List ReportLine) → book_step w steps ≡ Ok counted →
    IsAhead line steps counted done left now lines → (next now ≡ None) ⊎ (left ≡ 0) →
    applied w line (c.Run steps) ≡ Ok (lines ++ Ran done (is_none (next now)) ∷ [], now)
run_ends line steps w counted done left now lines fits h none =
    let nothing : run_steps line left now ≡ [] = none_left line left now none in
    let all : ran line steps counted ≡ Ok (lines, now) = h.comes ∙ ap (λ z. behind lines (all_done now line z)) nothing ∙ ap (λ (z : List ReportLine). Ok (z, now)) (append-nil lines) in
    let none_more : length (run_steps line left now) ≡ 0 = ap length nothing in
    let count : length (run_steps line steps counted) ≡ done = omega (arith, h.count, none_more) in
    applied_run line steps w counted fits ∙ ap (λ (d : Done). d >>= closes line steps counted) all ∙ ap (λ (n : ℕ). Ok (lines ++ Ran n (is_none (next now)) ∷ [], now)) count

-- what was said of a run so far begins what all of it says
pub run_prefix : (line steps : ℕ) (w counted : WorldState) (done left : ℕ) (now : WorldState) (lines : List ReportLine) → book_step w steps ≡ Ok counted →
    IsAhead line steps counted done left now lines → IfOk (applied w line (c.Run steps)) (λ x. IsPrefixOf lines x.0)
run_prefix line steps w counted done left now lines fits h =
    subst (λ (d : Done). IfOk d (λ x. IsPrefixOf lines x.0)) (sym (applied_run line steps w counted fits ∙ ap (λ (d : Done). d >>= closes line steps counted) h.comes))
    (by (ran line left now))
  where
    by : (d : Done) → IfOk (behind lines d >>= closes line steps counted) (λ x. IsPrefixOf lines x.0)
    by (Ok y) = (y.0 ++ Ran (length (run_steps line steps counted)) (is_none (next y.1)) ∷ [], append_assoc lines y.0 (Ran (length (run_steps line steps counted)) (is_none (next y.1)) ∷ []))
    by (Err e) = tt

-- a run whose steps are too many
pub run_refused : (line steps : ℕ) (w : WorldState) (e : ScriptError) → book_step w steps ≡ Err e → applied w line (c.Run steps) ≡ Err e
unfolding applied
run_refused line steps w e h = ap (λ (b : Result WorldState ScriptError). b >>= run_done line steps) h
