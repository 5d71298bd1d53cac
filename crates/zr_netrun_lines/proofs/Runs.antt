-- How the run of lines depends on the run before them: text that was written before stands in front of what they add,
-- a refused run stays as it is, and of a line that is not whole yet the prefix of 4,097 bytes is enough.
use Rattle.std.proofs.Common.{◌≡◌, ℕ, ◌+◌, ◌<◌, ◌≤◌, Bool, true, false, cond, nat_lt, List, [], ◌∷◌, ◌++◌, length, take, Option, Some, None, is_some, Result, Ok, Err, refl, sym, ap, ◌∙◌, append_assoc, append-nil, arith, inl, inr}
use Rattle.std.specs.List.{fold, flat_map}
use Rattle.std.proofs.lemmas.Bool.{cases_lt}
use Rattle.std.proofs.lemmas.Bool.Decides.{nat_tests}
use Rattle.std.proofs.lemmas.List.{length-append, length-take, take-append-le, take_all}
use Rattle.zr_script_spec.specs.declared.error.ScriptError.{ScriptError}
use Rattle.zr_script_spec.specs.declared.error.ScriptError.TheVariants as e
use Rattle.zr_script_spec.specs.declared.command.Command.{Command}
use Rattle.zr_script_spec.specs.Lines.{most_line, most_kept, parts, all_but_last, last_part, ended_lines, open_line, unless_empty}
use Rattle.zr_script_spec.specs.Command.{command_of}
use Rattle.zr_world_spec.specs.Next.{Done, applied}
use Rattle.zr_script_spec.specs.Report.{line_text}
use Rattle.zr_world_spec.specs.Run.{Run, stepped, commanded, on_line}
use Rattle.zr_netrun_lines.proofs.Lines.{IsOpen, behind, parts_behind, open_take}

-- a run with a text in front of its own
abbrev pub with_text : List ℕ → Run → Run
with_text t r = record { world = r.world; number = r.number; text = t ++ r.text; refusal = r.refusal }

stepped_with : (t : List ℕ) (r : Run) (d : Done) → stepped (with_text t r) d ≡ with_text t (stepped r d)
stepped_with t r (Ok x) = ap (λ z. record { world = x.1; number = r.number + 1; text = z; refusal = None }) (append_assoc t r.text (flat_map line_text x.0))
stepped_with t r (Err e) = refl

commanded_with : (t : List ℕ) (r : Run) (c : Result (Option Command) ScriptError) → commanded (with_text t r) c ≡ with_text t (commanded r c)
commanded_with t r (Ok None) = refl
commanded_with t r (Ok (Some command)) = stepped_with t r (applied r.world (r.number + 1) command)
commanded_with t r (Err e) = refl

pub on_line_with : (t : List ℕ) (r : Run) (line : List ℕ) → on_line (with_text t r) line ≡ with_text t (on_line r line)
on_line_with t r line = by (is_some r.refusal)
  where
    by : (b : Bool) → cond b (with_text t r) (commanded (with_text t r) (command_of line)) ≡ with_text t (cond b r (commanded r (command_of line)))
    by true = refl
    by false = commanded_with t r (command_of line)

-- text that was written before stands in front of what lines add
pub fold_with : (t : List ℕ) (r : Run) (ls : List (List ℕ)) → fold on_line (with_text t r) ls ≡ with_text t (fold on_line r ls)
fold_with t r [] = refl
fold_with t r (l ∷ ls) = ap (λ x. fold on_line x ls) (on_line_with t r l) ∙ fold_with t (on_line r l) ls

-- lines add to the text
pub text_grows : (r : Run) (ls : List (List ℕ)) → (more : List ℕ) × ((fold on_line r ls).text ≡ r.text ++ more)
text_grows r ls =
    let bare : Run = record { world = r.world; number = r.number; text = []; refusal = r.refusal } in
    let same : r ≡ with_text r.text bare = λ i. record { world = r.world; number = r.number; text = (sym (append-nil r.text)) i; refusal = r.refusal } in
    ((fold on_line bare ls).text, ap (λ x. x.text) (ap (λ x. fold on_line x ls) same ∙ fold_with r.text bare ls))

-- a refused run stays as it is
pub refused_stays : (r : Run) (ls : List (List ℕ)) → is_some r.refusal ≡ true → fold on_line r ls ≡ r
refused_stays r [] h = refl
refused_stays r (l ∷ ls) h =
    let still : on_line r l ≡ r = ap (λ b. cond b r (commanded r (command_of l))) h in
    ap (λ x. fold on_line x ls) still ∙ refused_stays r ls h

-- ---- lines that are too long

too_long : (line : List ℕ) → most_line < length line → command_of line ≡ Err e.Limit
unfolding command_of
too_long line h =
    let t : nat_lt most_line (length line) ≡ true = grind (arith, nat_tests) in
    rw t refl

-- a prefix of 4,097 bytes decides what a line asks
pub same_command : (line more : List ℕ) → command_of (take most_kept line ++ more) ≡ command_of (line ++ more)
same_command line more =
    elim (cases_lt most_kept (length line)) [
      | inl long ↦
          let a : most_line < length (take most_kept line ++ more) = omega (arith, length-append (take most_kept line) more, length-take most_kept line) in
          let b : most_line < length (line ++ more) = omega (arith, length-append line more) in
          too_long (take most_kept line ++ more) a ∙ sym (too_long (line ++ more) b)
      | inr short ↦ ap (λ z. command_of (z ++ more)) (take_all most_kept line short)
    ]

pub on_line_kept : (r : Run) (line more : List ℕ) → on_line r (take most_kept line ++ more) ≡ on_line r (line ++ more)
on_line_kept r line more = ap (λ c. cond (is_some r.refusal) r (commanded r c)) (same_command line more)

-- a prefix of a prefix
pub take_prefix : (line more : List ℕ) → take most_kept (take most_kept line ++ more) ≡ take most_kept (line ++ more)
take_prefix line more =
    elim (cases_lt most_kept (length line)) [
      | inl long ↦
          let full : most_kept ≤ length (take most_kept line) = omega (arith, length-take most_kept line) in
          let most : most_kept ≤ length line = omega arith in
          take-append-le most_kept (take most_kept line) more full ∙ take_all most_kept (take most_kept line) (omega (arith, length-take most_kept line)) ∙ sym (take-append-le most_kept line more most)
      | inr short ↦ ap (λ z. take most_kept (z ++ more)) (take_all most_kept line short)
    ]

-- what a piece does to a run depends on the kept prefix of the open line alone
pub fold_kept : (r : Run) (line piece : List ℕ) → IsOpen line → fold on_line r (ended_lines (take most_kept line ++ piece)) ≡ fold on_line r (ended_lines (line ++ piece))
fold_kept r line piece h =
    ap (λ p. fold on_line r (all_but_last p)) (parts_behind (take most_kept line) piece (open_take most_kept line h)) ∙ by (parts piece)
    ∙ ap (λ p. fold on_line r (all_but_last p)) (sym (parts_behind line piece h))
  where
    by : (ps : List (List ℕ)) → fold on_line r (all_but_last (behind (take most_kept line) ps)) ≡ fold on_line r (all_but_last (behind line ps))
    by [] = refl
    by (q ∷ []) = refl
    by (q ∷ s ∷ ss) = ap (λ x. fold on_line x (all_but_last (s ∷ ss))) (on_line_kept r line q)

pub open_kept : (line piece : List ℕ) → IsOpen line → take most_kept (open_line (take most_kept line ++ piece)) ≡ take most_kept (open_line (line ++ piece))
open_kept line piece h =
    ap (λ p. take most_kept (last_part p)) (parts_behind (take most_kept line) piece (open_take most_kept line h)) ∙ by (parts piece)
    ∙ ap (λ p. take most_kept (last_part p)) (sym (parts_behind line piece h))
  where
    by : (ps : List (List ℕ)) → take most_kept (last_part (behind (take most_kept line) ps)) ≡ take most_kept (last_part (behind line ps))
    by [] = ap (take most_kept) (sym (append-nil (take most_kept line))) ∙ take_prefix line [] ∙ ap (take most_kept) (append-nil line)
    by (q ∷ []) = take_prefix line q
    by (q ∷ s ∷ ss) = refl

-- a prefix of 4,097 bytes asks what the line asks
pub command_kept : (line : List ℕ) → command_of (take most_kept line) ≡ command_of line
command_kept line = ap command_of (sym (append-nil (take most_kept line))) ∙ same_command line [] ∙ ap command_of (append-nil line)

-- so does its run
pub on_line_prefix : (r : Run) (line : List ℕ) → on_line r (take most_kept line) ≡ on_line r line
on_line_prefix r line = ap (λ c. cond (is_some r.refusal) r (commanded r c)) (command_kept line)

-- the last line, of which a prefix was kept
pub last_kept : (r : Run) (line : List ℕ) → fold on_line r (unless_empty (take most_kept line)) ≡ fold on_line r (unless_empty line)
last_kept r [] = ap (λ z. fold on_line r (unless_empty z)) (take_all most_kept [] (omega arith))
last_kept r (b ∷ bs) = on_line_prefix r (b ∷ bs)
