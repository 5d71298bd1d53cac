-- That no step of a run is refused goes on: behind each line that was run (`goes_past`), and behind several (`goes_behind`). Each line of a
-- run that isn't refused is counted (`all_counted`), so no more lines are left of a script than there may be.
use Rattle.std.proofs.Common.{◌≡◌, ◌≤◌, ℕ, ◌+◌, Bool, true, false, cond, List, [], ◌∷◌, ◌++◌, length, Option, Some, None, is_some, Result, Ok, Err, refl, sym, ap, ◌∙◌, subst, arith}
use Rattle.std.specs.List.{fold}
use Rattle.std.proofs.lemmas.Bool.{false≢true}
use Rattle.std.proofs.lemmas.List.{length-append}
use Rattle.std.proofs.lemmas.List.Sums.{fold-append}
use Rattle.zr_script_spec.specs.declared.error.ScriptError.{ScriptError}
use Rattle.zr_script_spec.specs.declared.command.Command.{Command}
use Rattle.zr_script_spec.specs.Command.{command_of}
use Rattle.zr_script_spec.specs.Lines.{most_bytes}
use Rattle.zr_world_spec.specs.World.{WorldState}
use Rattle.zr_world_spec.specs.Next.{Done, applied}
use Rattle.zr_world_spec.specs.Run.{Run, stepped, commanded, on_line}
use Rattle.zr_netrun_lines.specs.Kept.{Kept, fresh, IsAt}
use Rattle.zr_netrun_lines.specs.Possible.{RunsGo, StepsGo}
use Rattle.zr_netrun_lines.proofs.Runs.{fold_with, refused_stays}
use Rattle.zr_netrun_lines.proofs.Writing.{run_is}

-- ---- lines are counted

stepped_number : (r : Run) (d : Done) → (stepped r d).number ≡ r.number + 1
stepped_number r (Ok x) = refl
stepped_number r (Err e) = refl

commanded_number : (r : Run) (c : Result (Option Command) ScriptError) → (commanded r c).number ≡ r.number + 1
commanded_number r (Ok None) = refl
commanded_number r (Ok (Some command)) = stepped_number r (applied r.world (r.number + 1) command)
commanded_number r (Err e) = refl

all_counted : (r : Run) (ls : List (List ℕ)) → (fold on_line r ls).refusal ≡ None → (fold on_line r ls).number ≡ r.number + length ls
all_counted r [] going = omega arith
all_counted r (l ∷ ls) going = by (is_some r.refusal) refl (all_counted (on_line r l) ls going)
  where
    by : (b : Bool) → is_some r.refusal ≡ b → (fold on_line (on_line r l) ls).number ≡ (on_line r l).number + length ls → (fold on_line (on_line r l) ls).number ≡ r.number + length (l ∷ ls)
    by true refused rest = absurd (false≢true (sym (ap is_some going) ∙ ap (λ (x : Run). is_some x.refusal) (refused_stays r (l ∷ ls) refused) ∙ refused))
    by false free rest =
        let one : (on_line r l).number ≡ r.number + 1 = ap (λ b. (cond b r (commanded r (command_of l))).number) free ∙ commanded_number r (command_of l) in
        let sum : (r.number + 1) + length ls ≡ r.number + length (l ∷ ls) = omega arith in
        rest ∙ ap (λ n. n + length ls) one ∙ sum

-- ---- and steps go on

-- what is kept of a run goes on as the run does, whatever it has said
kept_goes : (r : Run) (line earlier : List ℕ) (m : Kept) (a b : Option (List ℕ)) → StepsGo r → IsAt r line earlier m a b → StepsGo (fresh m)
kept_goes r line earlier m a b goes at ls few =
    let same : (fold on_line r ls).world ≡ (fold on_line (fresh m) ls).world =
    ap (λ (x : Run). (fold on_line x ls).world) (run_is r line earlier m a b at) ∙ ap (λ (x : Run). x.world) (fold_with r.text (fresh m) ls) in
    let short : r.number + length ls ≤ most_bytes = omega (arith, few, at.number) in
    subst (λ (w : WorldState). RunsGo w) same (goes ls short)

pub goes_behind : (k m : Kept) (ls : List (List ℕ)) (line earlier : List ℕ) (a b : Option (List ℕ)) → StepsGo (fresh k) → IsAt (fold on_line (fresh k) ls) line earlier m a b → StepsGo (fresh m)
goes_behind k m ls line earlier a b goes at = kept_goes (fold on_line (fresh k) ls) line earlier m a b further at
  where
    further : StepsGo (fold on_line (fresh k) ls)
    further more few =
        let short : k.number + length (ls ++ more) ≤ most_bytes = omega (arith, few, all_counted (fresh k) ls at.refusal, length-append ls more) in
        subst (λ (x : Run). RunsGo x.world) (fold-append on_line (fresh k) ls more) (goes (ls ++ more) short)

pub goes_past : (k m : Kept) (l line earlier : List ℕ) (a b : Option (List ℕ)) → StepsGo (fresh k) → IsAt (on_line (fresh k) l) line earlier m a b → StepsGo (fresh m)
goes_past k m l line earlier a b goes at = goes_behind k m (l ∷ []) line earlier a b goes at
