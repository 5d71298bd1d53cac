-- Which acts lines add: it depends on the run before them but for its text (`accepted_with`), some lines and then others add theirs one
-- after another (`accepted_append`), and of a line that is not whole yet the prefix of 4,097 bytes is enough (`accepted_kept`).
use Rattle.std.proofs.Common.{◌≡◌, ℕ, ◌+◌, cond, List, [], ◌∷◌, ◌++◌, take, Option, Some, Result, Ok, Err, is_some, refl, sym, ap, ◌∙◌, append_assoc, arith, subst}
use Rattle.std.specs.Prelude.{OnOk}
use Rattle.std.specs.List.{fold}
use Rattle.std.proofs.lemmas.List.{take_all}
use Rattle.std.proofs.lemmas.List.Sums.{fold-append}
use Rattle.zr_script_spec.specs.Lines.{most_kept, parts, all_but_last, ended_lines, open_line, unless_empty}
use Rattle.zr_script_spec.specs.Command.{command_of}
use Rattle.zr_world_spec.specs.Run.{Run, start, commanded, on_line, run_lines, run_of_ended}
use Rattle.zr_world_spec.specs.Moments.{Numbered, Moment, beginning, onward, reached}
use Rattle.zr_world_spec.specs.Accepted.{entries, accepted_from, accepted}
use Rattle.zr_netrun_lines.specs.declared.runner.RunStop.{RunStop}
use Rattle.zr_netrun_lines.specs.Kept.{Kept, fresh, IsAt}
use Rattle.zr_netrun_lines.specs.Counted.{IsCounted, CountsAhead, CountsOn, CountsWhole}
use Rattle.zr_netrun_lines.proofs.Lines.{IsOpen, behind, parts_behind, open_append, open_take, ended_append, ended_at, ended_none, open_last}
use Rattle.zr_netrun_lines.proofs.Runs.{with_text, on_line_with, same_command, command_kept}
use Rattle.zr_netrun_lines.proofs.Writing.{run_is}
use Rattle.zr_netrun_lines.proofs.Counting.{ahead_more, ahead_as, on_to}

-- the text of the run before counts for nothing
pub accepted_with : (t : List ℕ) (r : Run) (ls : List (List ℕ)) → accepted_from (with_text t r) ls ≡ accepted_from r ls
accepted_with t r [] = refl
accepted_with t r (l ∷ ls) =
    (λ i. entries (on_line_with t r l i).refusal (r.number + 1) r.world (command_of l) ++ accepted_from (on_line_with t r l i) ls)
    ∙ ap (λ xs. entries (on_line r l).refusal (r.number + 1) r.world (command_of l) ++ xs) (accepted_with t (on_line r l) ls)

-- so what is kept of a run is enough
accepted_fresh : (r : Run) (line earlier : List ℕ) (k : Kept) (a b : Option (List ℕ)) (ls : List (List ℕ)) → IsAt r line earlier k a b → accepted_from r ls ≡ accepted_from (fresh k) ls
accepted_fresh r line earlier k a b ls at = ap (λ x. accepted_from x ls) (run_is r line earlier k a b at) ∙ accepted_with r.text (fresh k) ls

-- some lines, and then others
accepted_append : (r : Run) (xs ys : List (List ℕ)) → accepted_from r (xs ++ ys) ≡ accepted_from r xs ++ accepted_from (fold on_line r xs) ys
accepted_append r [] ys = refl
accepted_append r (x ∷ xs) ys =
    let its : List Numbered = entries (on_line r x).refusal (r.number + 1) r.world (command_of x) in
    ap (λ z. its ++ z) (accepted_append (on_line r x) xs ys) ∙ sym (append_assoc its (accepted_from (on_line r x) xs) (accepted_from (fold on_line (on_line r x) xs) ys))

-- a line that asks the same
accepted_line : (r : Run) (l l' : List ℕ) (ls : List (List ℕ)) → command_of l ≡ command_of l' → accepted_from r (l ∷ ls) ≡ accepted_from r (l' ∷ ls)
accepted_line r l l' ls same =
    ap (λ c. entries (cond (is_some r.refusal) r (commanded r c)).refusal (r.number + 1) r.world c ++ accepted_from (cond (is_some r.refusal) r (commanded r c)) ls) same

-- of a line a prefix of 4,097 bytes is enough
pub accepted_prefix : (r : Run) (line : List ℕ) → accepted_from r (take most_kept line ∷ []) ≡ accepted_from r (line ∷ [])
accepted_prefix r line = accepted_line r (take most_kept line) line [] (command_kept line)

-- also of one that was open before a piece
accepted_kept : (r : Run) (line piece : List ℕ) → IsOpen line → accepted_from r (ended_lines (take most_kept line ++ piece)) ≡ accepted_from r (ended_lines (line ++ piece))
accepted_kept r line piece h =
    ap (λ p. accepted_from r (all_but_last p)) (parts_behind (take most_kept line) piece (open_take most_kept line h)) ∙ by (parts piece)
    ∙ ap (λ p. accepted_from r (all_but_last p)) (sym (parts_behind line piece h))
  where
    by : (ps : List (List ℕ)) → accepted_from r (all_but_last (behind (take most_kept line) ps)) ≡ accepted_from r (all_but_last (behind line ps))
    by [] = refl
    by (q ∷ []) = refl
    by (q ∷ s ∷ ss) = accepted_line r (take most_kept line ++ q) (line ++ q) (all_but_last (s ∷ ss)) (same_command line q)

accepted_last : (r : Run) (line : List ℕ) → accepted_from r (unless_empty (take most_kept line)) ≡ accepted_from r (unless_empty line)
accepted_last r [] = ap (λ z. accepted_from r (unless_empty z)) (take_all most_kept [] (omega arith))
accepted_last r (b ∷ bs) = accepted_prefix r (b ∷ bs)

-- ---- a piece

-- a line of it has ended and was counted
pub next_counts : (k0 k m : Kept) (ahead : List Numbered) (rest part more p : List ℕ) (b c : Option (List ℕ)) → IsOpen k.line → parts rest ≡ part ∷ parts more →
    IsAt (on_line (fresh k) (k.line ++ part)) [] p m b c → CountsAhead k0 ahead (accepted_from (fresh k) (ended_lines (k.line ++ rest))) k →
    CountsOn (accepted_from (fresh k) ((k.line ++ part) ∷ [])) k m → CountsAhead k0 ahead (accepted_from (fresh m) (ended_lines (m.line ++ more))) m
next_counts k0 k m ahead rest part more p b c is_open cut at h on =
    let line : List ℕ = k.line ++ part in
    let left : accepted_from (fresh k) (ended_lines (k.line ++ rest)) ≡ accepted_from (fresh k) (line ∷ []) ++ accepted_from (fresh m) (ended_lines (m.line ++ more)) =
    ap (accepted_from (fresh k)) (ended_at k.line rest part more is_open cut) ∙ accepted_append (fresh k) (line ∷ []) (ended_lines more)
    ∙ ap (λ z. accepted_from (fresh k) (line ∷ []) ++ z) (accepted_fresh (on_line (fresh k) line) [] p m b c (ended_lines more) at)
    ∙ ap (λ z. accepted_from (fresh k) (line ∷ []) ++ accepted_from (fresh m) (ended_lines (z ++ more))) (sym at.line_is) in
    ahead_more k0 k m ahead (accepted_from (fresh k) (line ∷ [])) (accepted_from (fresh m) (ended_lines (m.line ++ more)))
    (ahead_as k0 k ahead (accepted_from (fresh k) (ended_lines (k.line ++ rest))) (accepted_from (fresh k) (line ∷ []) ++ accepted_from (fresh m) (ended_lines (m.line ++ more))) left h) on

-- no line ends in what is left
pub keeps_counts : (k0 k m : Kept) (ahead : List Numbered) (rest line pending : List ℕ) (result : Result (Unit {0}) RunStop) → IsOpen k.line → parts rest ≡ rest ∷ [] →
    OnOk result (m ≡ record { world = k.world; number = k.number; line = line; pending = pending; counts = k.counts }) →
    CountsAhead k0 ahead (accepted_from (fresh k) (ended_lines (k.line ++ rest))) k → OnOk result (CountsOn ahead k0 m)
keeps_counts k0 k m ahead rest line pending (Ok u) is_open whole ok h =
    let none : accepted_from (fresh k) (ended_lines (k.line ++ rest)) ≡ [] = ap (accepted_from (fresh k)) (ended_none (k.line ++ rest) (open_append k.line rest is_open whole)) in
    on_to k0 k m ahead (ap (λ (z : Kept). z.world) ok) (ap (λ (z : Kept). z.counts) ok)
    (ahead_as k0 k ahead (accepted_from (fresh k) (ended_lines (k.line ++ rest))) [] none h)
keeps_counts k0 k m ahead rest line pending (Err e) is_open whole ok h = tt

-- ---- a script

-- all acts of some lines were counted
abbrev pub HasCounted : Kept → List (List ℕ) → Type 0
HasCounted k ls = (m : Moment) × (reached (accepted ls) ≡ Some m) × IsCounted k m

-- more lines are counted
more_counted : (k n : Kept) (ls more : List (List ℕ)) → HasCounted k ls → CountsOn (accepted_from (run_lines ls) more) k n → HasCounted n (ls ++ more)
more_counted k n ls more h on =
    let b = on.goes h.0 h.2 in (
      b.0,
      ap reached (accepted_append start ls more) ∙ fold-append onward (Some beginning) (accepted ls) (accepted_from (run_lines ls) more)
          ∙ ap (λ o. fold onward o (accepted_from (run_lines ls) more)) h.1 ∙ b.1,
      b.2,
    )

-- one more piece
pub piece_counted : (k n : Kept) (line earlier : List ℕ) (a b : Option (List ℕ)) (read piece : List ℕ) → IsAt (run_of_ended read) line earlier k a b → k.line ≡ take most_kept (open_line read) →
    HasCounted k (ended_lines read) → CountsOn (accepted_from (fresh k) (ended_lines (k.line ++ piece))) k n → HasCounted n (ended_lines (read ++ piece))
piece_counted k n line earlier a b read piece at is h on =
    let same : accepted_from (fresh k) (ended_lines (k.line ++ piece)) ≡ accepted_from (run_of_ended read) (ended_lines (open_line read ++ piece)) =
    ap (λ z. accepted_from (fresh k) (ended_lines (z ++ piece))) is ∙ accepted_kept (fresh k) (open_line read) piece (open_last read)
    ∙ sym (accepted_fresh (run_of_ended read) line earlier k a b (ended_lines (open_line read ++ piece)) at) in
    subst (HasCounted n) (sym (ended_append read piece))
    (more_counted k n (ended_lines read) (ended_lines (open_line read ++ piece)) h (subst (λ (xs : List Numbered). CountsOn xs k n) same on))

-- the last line
pub last_counted : (k n : Kept) (line earlier : List ℕ) (a b : Option (List ℕ)) (read : List ℕ) → IsAt (run_of_ended read) line earlier k a b → k.line ≡ take most_kept (open_line read) →
    HasCounted k (ended_lines read) → CountsOn (accepted_from (fresh k) (unless_empty k.line)) k n → CountsWhole n read
last_counted k n line earlier a b read at is h on =
    let same : accepted_from (fresh k) (unless_empty k.line) ≡ accepted_from (run_of_ended read) (unless_empty (open_line read)) =
    ap (λ z. accepted_from (fresh k) (unless_empty z)) is ∙ accepted_last (fresh k) (open_line read)
    ∙ sym (accepted_fresh (run_of_ended read) line earlier k a b (unless_empty (open_line read)) at) in
    more_counted k n (ended_lines read) (unless_empty (open_line read)) h (subst (λ (xs : List Numbered). CountsOn xs k n) same on)
