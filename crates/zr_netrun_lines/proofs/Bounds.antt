-- No count of a script passes 2 ^ 64 - 1 (`counts_fit`): each act adds one at most (`act_keeps`), a line has no more acts than a run may
-- ask for steps (`acts_of_line`), and a script has no more lines than bytes but for one (`few_lines`).
use Rattle.std.proofs.Common.{◌≡◌, ℕ, ◌+◌, ◌-◌, ◌*◌, ◌^◌, ◌≤◌, min, Bool, true, false, cond, List, [], ◌∷◌, ◌++◌, length, Option, Some, None, Result, Ok, Err, refl, sym, ap, ◌∙◌, arith}
use Rattle.std.specs.Prelude.{◌==◌, is_some, nat_le, IfSome}
use Rattle.std.specs.List.{fold, count_by}
use Rattle.std.proofs.lemmas.Bool.{false≢true, leb-true}
use Rattle.std.proofs.lemmas.List.{length-append}
use Rattle.std.proofs.lemmas.List.Splits.{length-slice_split}
use Rattle.std.proofs.lemmas.List.Sums.{count_by-le-length}
use Rattle.zr_script_spec.specs.declared.error.ScriptError.{ScriptError}
use Rattle.zr_script_spec.specs.declared.error.ScriptError.TheVariants.{Limit}
use Rattle.zr_script_spec.specs.declared.command.Act.{Act}
use Rattle.zr_script_spec.specs.declared.command.Command.{Command}
use Rattle.zr_script_spec.specs.declared.command.Command.TheVariants as c
use Rattle.zr_script_spec.specs.declared.report.ReportLine.{ReportLine}
use Rattle.zr_script_spec.specs.declared.report.ReportLine.TheVariants as line
use Rattle.zr_script_spec.specs.Step.{◌>>=◌}
use Rattle.zr_script_spec.specs.Lines.{most_bytes, parts, all_but_last, ended_lines, open_line, unless_empty, lines}
use Rattle.zr_script_spec.specs.Command.{command_of}
use Rattle.zr_world_spec.specs.World.{WorldState, Routers, most_steps}
use Rattle.zr_world_spec.specs.Fan.{most_fan_steps}
use Rattle.zr_world_spec.specs.Acts.{outcome}
use Rattle.zr_world_spec.specs.Next.{Done, run_steps, acts, booking, book_step, run_done, applied}
use Rattle.zr_world_spec.specs.Run.{Run, start, stepped, commanded, on_line}
use Rattle.zr_world_spec.specs.Moments.{Numbered, Moment, beginning, went, onward, reached}
use Rattle.zr_world_spec.specs.Accepted.{entries, accepted_from, accepted}
use Rattle.zr_world_spec.proofs.Lines.{numbered, refused_stays}
use Rattle.zr_netrun_report.specs.Summary.{tells_handled, tells_taken, tells_sent, tells_mark, counts_in, counts_of}
use Rattle.zr_netrun_report.specs.Counted.{all_capped}
use Rattle.zr_law_numbers.proofs.Counted.{few_steps}
use Rattle.zr_netrun_lines.proofs.Known.{is_counted, Goes, count_cons, act_keeps}

-- ---- acts

-- so many acts lead to so many lines that are counted
acts_counted : (xs : List Numbered) (m n : Moment) → fold onward (Some m) xs ≡ Some n → count_by is_counted n.report ≤ count_by is_counted m.report + length xs
acts_counted [] m n h = let same : m ≡ n = cc in let e = ap (λ (z : Moment). count_by is_counted z.report) same in omega arith
acts_counted (x ∷ xs) m n h = by (went m (outcome m.world x.0 x.1)) (act_keeps m x.0 x.1) h (λ l e. acts_counted xs l n e)
  where
    by : (o : Option Moment) → IfSome o (Goes m) → fold onward o xs ≡ Some n → ((l : Moment) → fold onward (Some l) xs ≡ Some n → count_by is_counted n.report ≤ count_by is_counted l.report + length xs) →
        count_by is_counted n.report ≤ count_by is_counted m.report + length (x ∷ xs)
    by None g e ih = absurd (false≢true (ap is_some (sym (refused_stays xs) ∙ e)))
    by (Some l) g e ih =
        let rest : count_by is_counted n.report ≤ count_by is_counted l.report + length xs = ih l e in
        let one : count_by is_counted l.report ≤ count_by is_counted m.report + 1 = g.counted in
        omega arith

most_fanned_steps : most_fan_steps ≤ most_steps
unfolding most_fan_steps
most_fanned_steps = omega arith

-- a command that is done has no more acts than a run may ask for steps
few_acts : (w : WorldState) (n : ℕ) (asked : Command) (x : List ReportLine × WorldState) → applied w n asked ≡ Ok x → length (acts w n asked) ≤ most_steps
unfolding applied book_step
few_acts w n (c.Act act) x h = omega arith
few_acts w n c.Fan x h = let few = few_steps n most_fan_steps w in let most = most_fanned_steps in omega (arith, few, most)
few_acts w n (c.Run steps) x h = by (nat_le (w.booked + steps) most_steps) refl h
  where
    by : (b : Bool) → nat_le (w.booked + steps) most_steps ≡ b → (cond b (Ok (booking w steps)) (Err Limit) >>= run_done n steps) ≡ Ok x → length (run_steps n steps w) ≤ most_steps
    by true e k =
        let room : w.booked + steps ≤ most_steps = leb-true (w.booked + steps) most_steps e in
        let short : length (run_steps n steps w) ≤ steps = few_steps n steps w in
        omega arith
    by false e k = absurd (cc)

numbered_length : (n : ℕ) (xs : List Act) → length (numbered n xs) ≡ length xs
numbered_length n [] = refl
numbered_length n (x ∷ xs) = let e = numbered_length n xs in omega arith

-- nor has a line
acts_of_line : (r : Run) (l : List ℕ) → length (entries (on_line r l).refusal (r.number + 1) r.world (command_of l)) ≤ most_steps
acts_of_line r l = by_refusal r.refusal refl
  where
    refused : (o : Option ScriptError) (asked : Result (Option Command) ScriptError) → is_some o ≡ true → length (entries o (r.number + 1) r.world asked) ≤ most_steps
    refused (Some e) asked h = omega arith
    refused None asked h = absurd (false≢true h)

    by_done : (asked : Command) (o : Done) → applied r.world (r.number + 1) asked ≡ o → length (entries (stepped r o).refusal (r.number + 1) r.world (Ok (Some asked))) ≤ most_steps
    by_done asked (Ok x) e =
        let few : length (acts r.world (r.number + 1) asked) ≤ most_steps = few_acts r.world (r.number + 1) asked x e in
        let same : length (numbered (r.number + 1) (acts r.world (r.number + 1) asked)) ≡ length (acts r.world (r.number + 1) asked) = numbered_length (r.number + 1) (acts r.world (r.number + 1) asked) in
        let all : length (numbered (r.number + 1) (acts r.world (r.number + 1) asked)) ≤ most_steps = omega arith in
        all
    by_done asked (Err f) e = omega arith

    by_command : (k : Result (Option Command) ScriptError) → length (entries (commanded r k).refusal (r.number + 1) r.world k) ≤ most_steps
    by_command (Ok (Some asked)) = by_done asked (applied r.world (r.number + 1) asked) refl
    by_command (Ok None) = omega arith
    by_command (Err f) = omega arith

    by_refusal : (o : Option ScriptError) → r.refusal ≡ o → length (entries (cond (is_some o) r (commanded r (command_of l))).refusal (r.number + 1) r.world (command_of l)) ≤ most_steps
    by_refusal None e = by_command (command_of l)
    by_refusal (Some f) e = refused r.refusal (command_of l) (ap is_some e)

-- ---- lines

lines_acts : (r : Run) (ls : List (List ℕ)) → length (accepted_from r ls) ≤ length ls * most_steps
lines_acts r [] = omega arith
lines_acts r (l ∷ ls) =
    let its : List Numbered = entries (on_line r l).refusal (r.number + 1) r.world (command_of l) in
    let one : length its ≤ most_steps = acts_of_line r l in
    let rest : length (accepted_from (on_line r l) ls) ≤ length ls * most_steps = lines_acts (on_line r l) ls in
    let both : length (its ++ accepted_from (on_line r l) ls) ≡ length its + length (accepted_from (on_line r l) ls) = length-append its (accepted_from (on_line r l) ls) in
    omega arith

-- the parts are the lines that have ended and one more
parts_ended : (p : List ℕ) (ps : List (List ℕ)) → length (all_but_last (p ∷ ps)) ≡ length ps
parts_ended p [] = refl
parts_ended p (q ∷ ps) = let e = parts_ended q ps in omega arith

few_lines : (bytes : List ℕ) → length (lines bytes) ≤ length bytes + 1
few_lines bytes =
    let all : length (parts bytes) ≡ count_by (λ b. b == 10) bytes + 1 = length-slice_split (λ b. b == 10) bytes in
    let ends : count_by (λ b. b == 10) bytes ≤ length bytes = count_by-le-length (λ b. b == 10) bytes in
    let both : length (lines bytes) ≡ length (ended_lines bytes) + length (unless_empty (open_line bytes)) = length-append (ended_lines bytes) (unless_empty (open_line bytes)) in
    let last : length (unless_empty (open_line bytes)) ≤ 1 = one (open_line bytes) in
    let ended : length (ended_lines bytes) + 1 ≤ length (parts bytes) = by (parts bytes) (omega arith) in
    omega arith
  where
    one : (l : List ℕ) → length (unless_empty l) ≤ 1
    one [] = omega arith
    one (b ∷ bs) = omega arith

    by : (ps : List (List ℕ)) → 1 ≤ length ps → length (all_but_last ps) + 1 ≤ length ps
    by [] h = absurd (omega arith)
    by (p ∷ ps) h = let e = parts_ended p ps in omega arith

-- ---- counts

-- a test that only lines that are counted pass
count_less : (p : ReportLine → Bool) → ((l : ReportLine) → is_counted l ≡ false → p l ≡ false) → (lines : List ReportLine) → count_by p lines ≤ count_by is_counted lines
count_less p only [] = omega arith
count_less p only (l ∷ ls) =
    let a = count_cons p l ls in
    let b = count_cons is_counted l ls in
    let c : cond (p l) 1 0 + count_by p ls ≤ cond (is_counted l) 1 0 + count_by is_counted ls = by (p l) (is_counted l) (only l) (count_less p only ls) in
    omega arith
  where
    by : (b d : Bool) → (d ≡ false → b ≡ false) → count_by p ls ≤ count_by is_counted ls → cond b 1 0 + count_by p ls ≤ cond d 1 0 + count_by is_counted ls
    by b true h ih = at b
      where
        at : (b : Bool) → cond b 1 0 + count_by p ls ≤ 1 + count_by is_counted ls
        at true = omega arith
        at false = omega arith
    by true false h ih = absurd (false≢true (sym (h refl)))
    by false false h ih = omega arith

-- no count of a moment is more than the lines that are counted
counts_less : (rs : Routers) (ls : List ReportLine) (n : ℕ) → count_by is_counted ls ≤ n → n ≤ 2 ^ 64 - 1 → all_capped (counts_in rs ls) ≡ counts_in rs ls
counts_less rs ls n few room = λ i. record {
  handled = fit (count_by tells_handled ls) (count_less tells_handled h ls) i;
  taken = fit (count_by (tells_taken rs) ls) (count_less (tells_taken rs) t ls) i;
  sent = fit (count_by (tells_sent rs) ls) (count_less (tells_sent rs) s ls) i;
  marks = fit (count_by tells_mark ls) (count_less tells_mark k ls) i;
}
  where
    fit : (x : ℕ) → x ≤ count_by is_counted ls → min x (2 ^ 64 - 1) ≡ x
    fit x le = omega arith

    h : (l : ReportLine) → is_counted l ≡ false → tells_handled l ≡ false
    h (line.Handled router from msg tag) e = e
    h (line.Taken router to msg tag) e = refl
    h (line.Ran steps quiet) e = refl
    h (line.Fanned text steps kinds) e = refl
    h (line.Mark n) e = refl
    h (line.Show router) e = refl
    h (line.Record links) e = refl
    h (line.Parent root parent) e = refl
    h (line.Source source number decls) e = refl

    t : (l : ReportLine) → is_counted l ≡ false → tells_taken rs l ≡ false
    t (line.Handled router from msg tag) e = refl
    t (line.Taken router to msg tag) e = absurd (false≢true (sym e))
    t (line.Ran steps quiet) e = refl
    t (line.Fanned text steps kinds) e = refl
    t (line.Mark n) e = refl
    t (line.Show router) e = refl
    t (line.Record links) e = refl
    t (line.Parent root parent) e = refl
    t (line.Source source number decls) e = refl

    s : (l : ReportLine) → is_counted l ≡ false → tells_sent rs l ≡ false
    s (line.Handled router from msg tag) e = refl
    s (line.Taken router to msg tag) e = absurd (false≢true (sym e))
    s (line.Ran steps quiet) e = refl
    s (line.Fanned text steps kinds) e = refl
    s (line.Mark n) e = refl
    s (line.Show router) e = refl
    s (line.Record links) e = refl
    s (line.Parent root parent) e = refl
    s (line.Source source number decls) e = refl

    k : (l : ReportLine) → is_counted l ≡ false → tells_mark l ≡ false
    k (line.Handled router from msg tag) e = refl
    k (line.Taken router to msg tag) e = refl
    k (line.Ran steps quiet) e = refl
    k (line.Fanned text steps kinds) e = refl
    k (line.Mark n) e = e
    k (line.Show router) e = refl
    k (line.Record links) e = refl
    k (line.Parent root parent) e = refl
    k (line.Source source number decls) e = refl

-- what is counted of a script is just what there is
pub counts_fit : (bytes : List ℕ) (m : Moment) → length bytes ≤ most_bytes → reached (accepted (lines bytes)) ≡ Some m → all_capped (counts_of m) ≡ counts_of m
counts_fit bytes m short is =
    let some : count_by is_counted m.report ≤ 0 + length (accepted (lines bytes)) = acts_counted (accepted (lines bytes)) beginning m is in
    let most : length (accepted (lines bytes)) ≤ length (lines bytes) * most_steps = lines_acts start (lines bytes) in
    let few : length (lines bytes) ≤ length bytes + 1 = few_lines bytes in
    counts_less m.world.routers m.report ((most_bytes + 1) * most_steps) (omega arith) (omega arith)
