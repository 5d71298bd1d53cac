-- Which line is refused: it is the same behind a run whatever text was written before, whatever lines went before that were not refused, and of a
-- line that is not whole yet the prefix of 4,097 bytes is enough. So the line that is kept is that of the script.
use Rattle.std.proofs.Common.{◌≡◌, ℕ, Bool, true, false, cond, List, [], ◌∷◌, ◌++◌, take, Option, Some, None, is_some, Result, Ok, Err, refl, sym, ap, ◌∙◌, append-nil, arith, inl, inr, subst}
use Rattle.std.specs.Prelude.{OnOk, OnErr}
use Rattle.std.specs.List.{fold}
use Rattle.std.proofs.lemmas.Bool.{false≢true}
use Rattle.std.proofs.lemmas.List.{take_all, take-take}
use Rattle.zr_script_spec.specs.declared.error.ScriptError.{ScriptError}
use Rattle.zr_script_spec.specs.Lines.{most_kept, parts, all_but_last, ended_lines, open_line, unless_empty, lines}
use Rattle.zr_outside.specs.Counts.{RoseOnlyBy}
use Rattle.zr_world_spec.specs.Run.{Run, start, on_line, run_of_ended}
use Rattle.zr_world.specs.Living.{Living}
use Rattle.zr_netrun_lines.specs.declared.runner.RunStop.{RunStop}
use Rattle.zr_netrun_lines.specs.declared.runner.RunStop.TheVariants.{Refused, NoMemory, WriteFault}
use Rattle.zr_netrun_lines.specs.Kept.{Kept, fresh, IsAt, IsKeptIf, KeepsRefused, Turns, refused_line}
use Rattle.zr_netrun_lines.proofs.Lines.{IsOpen, behind, parts_behind, open_take, ended_append, ended_at, open_last}
use Rattle.zr_netrun_lines.proofs.Runs.{with_text, on_line_with, on_line_kept, on_line_prefix, refused_stays, take_prefix}
use Rattle.zr_netrun_lines.proofs.Writing.{prefix_written}

-- ---- a line, and those behind it

refused_here : (r : Run) (l : List ℕ) (ls : List (List ℕ)) (e : ScriptError) → (on_line r l).refusal ≡ Some e → refused_line r (l ∷ ls) ≡ l
refused_here r l ls e h = ap (λ z. cond (is_some z) l (refused_line (on_line r l) ls)) h

refused_past : (r : Run) (l : List ℕ) (ls : List (List ℕ)) → (on_line r l).refusal ≡ None → refused_line r (l ∷ ls) ≡ refused_line (on_line r l) ls
refused_past r l ls h = ap (λ z. cond (is_some z) l (refused_line (on_line r l) ls)) h

refused_append : (r : Run) (xs ys : List (List ℕ)) → (fold on_line r xs).refusal ≡ None → refused_line r (xs ++ ys) ≡ refused_line (fold on_line r xs) ys
refused_append r [] ys h = refl
refused_append r (x ∷ xs) ys h = by (is_some (on_line r x).refusal) refl (refused_append (on_line r x) xs ys h)
  where
    by : (b : Bool) → is_some (on_line r x).refusal ≡ b → refused_line (on_line r x) (xs ++ ys) ≡ refused_line (fold on_line (on_line r x) xs) ys →
        refused_line r ((x ∷ xs) ++ ys) ≡ refused_line (fold on_line (on_line r x) xs) ys
    by true e rest = absurd (false≢true (sym (ap is_some h) ∙ ap (λ (z : Run). is_some z.refusal) (refused_stays (on_line r x) xs e) ∙ e))
    by false e rest = ap (λ b. cond b x (refused_line (on_line r x) (xs ++ ys))) e ∙ rest

-- ---- the run before

refused_with : (t : List ℕ) (r : Run) (ls : List (List ℕ)) → refused_line (with_text t r) ls ≡ refused_line r ls
refused_with t r [] = refl
refused_with t r (l ∷ ls) =
    ap (λ z. cond (is_some z.refusal) l (refused_line z ls)) (on_line_with t r l)
    ∙ ap (λ z. cond (is_some (on_line r l).refusal) l z) (refused_with t (on_line r l) ls)

-- a run, and what is kept of it
refused_fresh : (r : Run) (line earlier : List ℕ) (k : Kept) (a b : Option (List ℕ)) (ls : List (List ℕ)) → IsAt r line earlier k a b →
    refused_line r ls ≡ refused_line (fresh k) ls
refused_fresh r line earlier k a b ls at =
    let world = ap (λ (w : Living). w.state) at.world in
    let same : r ≡ with_text r.text (fresh k) =
    λ i. record { world = (sym world) i; number = (sym at.number) i; text = (sym (append-nil r.text)) i; refusal = at.refusal i } in
    ap (λ (z : Run). refused_line z ls) same ∙ refused_with r.text (fresh k) ls

-- ---- a line of which a prefix was kept

refused_kept : (r : Run) (line piece : List ℕ) → IsOpen line →
    take most_kept (refused_line r (ended_lines (take most_kept line ++ piece))) ≡ take most_kept (refused_line r (ended_lines (line ++ piece)))
refused_kept r line piece h =
    ap (λ p. take most_kept (refused_line r (all_but_last p))) (parts_behind (take most_kept line) piece (open_take most_kept line h)) ∙ by (parts piece)
    ∙ ap (λ p. take most_kept (refused_line r (all_but_last p))) (sym (parts_behind line piece h))
  where
    choose : (b : Bool) (q rest : List ℕ) → take most_kept (cond b (take most_kept line ++ q) rest) ≡ take most_kept (cond b (line ++ q) rest)
    choose true q rest = take_prefix line q
    choose false q rest = refl

    by : (ps : List (List ℕ)) → take most_kept (refused_line r (all_but_last (behind (take most_kept line) ps))) ≡ take most_kept (refused_line r (all_but_last (behind line ps)))
    by [] = refl
    by (q ∷ []) = refl
    by (q ∷ s ∷ ss) =
        ap (λ (z : Run). take most_kept (cond (is_some z.refusal) (take most_kept line ++ q) (refused_line z (all_but_last (s ∷ ss))))) (on_line_kept r line q)
        ∙ choose (is_some (on_line r (line ++ q)).refusal) q (refused_line (on_line r (line ++ q)) (all_but_last (s ∷ ss)))

refused_prefix : (r : Run) (line : List ℕ) → take most_kept (refused_line r (unless_empty (take most_kept line))) ≡ take most_kept (refused_line r (unless_empty line))
refused_prefix r [] = ap (λ z. take most_kept (refused_line r (unless_empty z))) (take_all most_kept [] (omega arith))
refused_prefix r (b ∷ bs) =
    ap (λ (z : Run). take most_kept (cond (is_some z.refusal) (take most_kept (b ∷ bs)) [])) (on_line_prefix r (b ∷ bs))
    ∙ choose (is_some (on_line r (b ∷ bs)).refusal)
  where
    choose : (t : Bool) → take most_kept (cond t (take most_kept (b ∷ bs)) []) ≡ take most_kept (cond t (b ∷ bs) [])
    choose true = take-take most_kept most_kept (b ∷ bs) (omega arith)
    choose false = refl

-- ---- of a piece, and of the last line, the line of the script

pub refused_piece : (k : Kept) (line : List ℕ) (a b : Option (List ℕ)) (read piece : List ℕ) → IsAt (run_of_ended read) line [] k a b →
    k.line ≡ take most_kept (open_line read) →
    take most_kept (refused_line (fresh k) (ended_lines (k.line ++ piece))) ≡ take most_kept (refused_line start (ended_lines (read ++ piece)))
refused_piece k line a b read piece at e =
    ap (λ z. take most_kept (refused_line (fresh k) (ended_lines (z ++ piece)))) e
    ∙ ap (take most_kept) (sym (refused_fresh (run_of_ended read) line [] k a b (ended_lines (take most_kept (open_line read) ++ piece)) at))
    ∙ refused_kept (run_of_ended read) (open_line read) piece (open_last read)
    ∙ ap (take most_kept) (sym (refused_append start (ended_lines read) (ended_lines (open_line read ++ piece)) at.refusal))
    ∙ ap (λ ls. take most_kept (refused_line start ls)) (sym (ended_append read piece))

pub refused_last : (k : Kept) (line : List ℕ) (a b : Option (List ℕ)) (read : List ℕ) → IsAt (run_of_ended read) line [] k a b →
    k.line ≡ take most_kept (open_line read) →
    take most_kept (refused_line (fresh k) (unless_empty k.line)) ≡ take most_kept (refused_line start (lines read))
refused_last k line a b read at e =
    ap (λ z. take most_kept (refused_line (fresh k) (unless_empty z))) e
    ∙ ap (take most_kept) (sym (refused_fresh (run_of_ended read) line [] k a b (unless_empty (take most_kept (open_line read))) at))
    ∙ refused_prefix (run_of_ended read) (open_line read)
    ∙ ap (take most_kept) (sym (refused_append start (ended_lines read) (unless_empty (open_line read)) at.refusal))

-- ---- what is kept where a turn stops

pub keeps_same : (result : Result (Unit {0}) RunStop) (l l' : List ℕ) (m : Kept) → KeepsRefused result l m → take most_kept l ≡ take most_kept l' → KeepsRefused result l' m
keeps_same (Ok u) l l' m h e = tt
keeps_same (Err (Refused error)) l l' m h e = h ∙ e
keeps_same (Err NoMemory) l l' m h e = tt
keeps_same (Err WriteFault) l l' m h e = tt

-- the last line of a turn is the first that is refused
keeps_first : (r : Run) (l left earlier : List ℕ) (ls : List (List ℕ)) (new : Kept) (a b : Option (List ℕ)) (result : Result (Unit {0}) RunStop) →
    Turns result (on_line r l) left earlier new a b → KeepsRefused result l new → KeepsRefused result (refused_line r (l ∷ ls)) new
keeps_first r l left earlier ls new a b (Ok u) turn h = tt
keeps_first r l left earlier ls new a b (Err (Refused e)) turn h = h ∙ ap (take most_kept) (sym (refused_here r l ls e turn.0))
keeps_first r l left earlier ls new a b (Err NoMemory) turn h = tt
keeps_first r l left earlier ls new a b (Err WriteFault) turn h = tt

-- and so it is of a script's last line
pub keeps_last : (r : Run) (l left earlier : List ℕ) (new : Kept) (a b : Option (List ℕ)) (result : Result (Unit {0}) RunStop) →
    Turns result (on_line r l) left earlier new a b → KeepsRefused result l new → KeepsRefused result (refused_line r (unless_empty l)) new
keeps_last r [] left earlier new a b result turn h = h
keeps_last r (x ∷ xs) left earlier new a b result turn h = keeps_first r (x ∷ xs) left earlier [] new a b result turn h

-- a line of which a prefix was kept
pub keeps_part : (result : Result (Unit {0}) RunStop) (l : List ℕ) (m : Kept) → KeepsRefused result (take most_kept l) m → KeepsRefused result l m
keeps_part result l m h = keeps_same result (take most_kept l) l m h (take-take most_kept most_kept l (omega arith))

-- a line of a piece has ended, and was not refused
pub refused_next : (k m : Kept) (rest part more goal : List ℕ) (b c : Option (List ℕ)) → refused_line (fresh k) (ended_lines (k.line ++ rest)) ≡ goal → IsOpen k.line →
    parts rest ≡ part ∷ parts more → IsAt (on_line (fresh k) (k.line ++ part)) [] k.pending m b c → refused_line (fresh m) (ended_lines (m.line ++ more)) ≡ goal
refused_next k m rest part more goal b c so_far is_open cut turn =
    ap (λ z. refused_line (fresh m) (ended_lines (z ++ more))) turn.line_is
    ∙ sym (refused_fresh (on_line (fresh k) (k.line ++ part)) [] k.pending m b c (ended_lines more) turn)
    ∙ sym (refused_past (fresh k) (k.line ++ part) (ended_lines more) turn.refusal)
    ∙ sym (ap (refused_line (fresh k)) (ended_at k.line rest part more is_open cut)) ∙ so_far

-- a line of a piece has ended, and the turn stopped there
pub refused_stop : (k m : Kept) (rest part more goal : List ℕ) (b c : Option (List ℕ)) (stop : RunStop) → refused_line (fresh k) (ended_lines (k.line ++ rest)) ≡ goal → IsOpen k.line →
    parts rest ≡ part ∷ parts more → Turns (Err stop) (on_line (fresh k) (k.line ++ part)) [] k.pending m b c → KeepsRefused (Err stop) (k.line ++ part) m →
    KeepsRefused (Err stop) goal m
refused_stop k m rest part more goal b c stop so_far is_open cut turn kept =
    let first = keeps_first (fresh k) (k.line ++ part) [] k.pending (ended_lines more) m b c (Err stop) turn kept in
    keeps_same (Err stop) (refused_line (fresh k) ((k.line ++ part) ∷ ended_lines more)) goal m first
    (ap (take most_kept) (sym (ap (refused_line (fresh k)) (ended_at k.line rest part more is_open cut)) ∙ so_far))

-- nothing is refused where memory runs out
pub no_memory_keeps : (result : Result (Unit {0}) RunStop) (l : List ℕ) (m : Kept) → OnErr result (result ≡ Err NoMemory) → KeepsRefused result l m
no_memory_keeps (Ok u) l m h = tt
no_memory_keeps (Err (Refused e)) l m h = absurd (cc)
no_memory_keeps (Err NoMemory) l m h = tt
no_memory_keeps (Err WriteFault) l m h = tt

-- nor where a write fails
pub write_fault_keeps : (result : Result (Unit {0}) RunStop) (l : List ℕ) (m : Kept) (P : Type 0) → OnErr result ((result ≡ Err WriteFault) × P) → KeepsRefused result l m
write_fault_keeps (Ok u) l m P h = tt
write_fault_keeps (Err (Refused e)) l m P h =
    let is = h.0 in
    absurd (cc)
write_fault_keeps (Err NoMemory) l m P h = tt
write_fault_keeps (Err WriteFault) l m P h = tt

-- a turn whose line was kept is the same turn
pub kept_turns : (done result : Result (Unit {0}) RunStop) (line : List ℕ) (old new : Kept) (r : Run) (ahead earlier : List ℕ) (a b : Option (List ℕ)) →
    IsKeptIf done result line old new → Turns done r ahead earlier old a b → Turns result r ahead earlier new a b
kept_turns (Ok u) result line old new r ahead earlier a b h turn = rw (h.0, h.1) turn
kept_turns (Err (Refused e)) (Ok u) line old new r ahead earlier a b h turn = absurd h
kept_turns (Err (Refused e)) (Err stop) line old new r ahead earlier a b (inl h) turn = rw (h.0, h.1) turn
kept_turns (Err (Refused e)) (Err stop) line old new r ahead earlier a b (inr h) turn = rw h (prefix_written (earlier ++ r.text) old.pending a b turn.2)
kept_turns (Err NoMemory) result line old new r ahead earlier a b h turn = rw h.0 turn
kept_turns (Err WriteFault) result line old new r ahead earlier a b h turn = rw h.0 turn

-- and the line is kept where it was refused
pub kept_refused : (done result : Result (Unit {0}) RunStop) (line : List ℕ) (old new : Kept) → IsKeptIf done result line old new → KeepsRefused result line new
kept_refused (Ok u) result line old new h = rw h.0 tt
kept_refused (Err (Refused e)) (Ok u) line old new h = absurd h
kept_refused (Err (Refused e)) (Err stop) line old new (inl h) = rw (h.0, h.1) refl
kept_refused (Err (Refused e)) (Err stop) line old new (inr h) = rw h tt
kept_refused (Err NoMemory) result line old new h = rw h.0 tt
kept_refused (Err WriteFault) result line old new h = rw h.0 tt

-- what is so where a turn ends is so where its line was kept
pub kept_ok : (done result : Result (Unit {0}) RunStop) (line : List ℕ) (old new : Kept) (P : Kept → Type 0) → IsKeptIf done result line old new → OnOk done (P old) → OnOk result (P new)
kept_ok (Ok u) result line old new P h k = rw (h.0, h.1) k
kept_ok (Err (Refused e)) (Ok u) line old new P h k = absurd h
kept_ok (Err (Refused e)) (Err stop) line old new P h k = tt
kept_ok (Err NoMemory) result line old new P h k = rw h.0 tt
kept_ok (Err WriteFault) result line old new P h k = rw h.0 tt

-- a write that failed has failed before the line was kept
pub kept_fault : (done result : Result (Unit {0}) RunStop) (line : List ℕ) (old new : Kept) → IsKeptIf done result line old new → result ≡ Err WriteFault → done ≡ Err WriteFault
kept_fault (Ok u) result line old new h f =
    let is = h.0 in
    absurd (cc)
kept_fault (Err (Refused e)) (Ok u) line old new h f = absurd h
kept_fault (Err (Refused e)) (Err stop) line old new (inl h) f =
    let is = h.0 in
    absurd (cc)
kept_fault (Err (Refused e)) (Err stop) line old new (inr h) f = absurd (cc)
kept_fault (Err NoMemory) result line old new h f =
    let is = h.0 in
    absurd (cc)
kept_fault (Err WriteFault) result line old new h f = refl

-- keeping a refused line writes nothing, and tells no fault in the place of another
pub kept_only : (done result : Result (Unit {0}) RunStop) (line : List ℕ) (old new : Kept) (a b : ℕ) → IsKeptIf done result line old new → RoseOnlyBy WriteFault done a b
    → RoseOnlyBy WriteFault result a b
kept_only (Ok u) result line old new a b h k = subst (λ (r : Result (Unit {0}) RunStop). RoseOnlyBy WriteFault r a b) (sym h.0) k
kept_only (Err (Refused e)) (Ok u) line old new a b h k = absurd h
kept_only (Err (Refused e)) (Err stop) line old new a b h k = λ rose. let no = k rose in absurd (cc)
kept_only (Err NoMemory) result line old new a b h k = subst (λ (r : Result (Unit {0}) RunStop). RoseOnlyBy WriteFault r a b) (sym h.0) k
kept_only (Err WriteFault) result line old new a b h k = subst (λ (r : Result (Unit {0}) RunStop). RoseOnlyBy WriteFault r a b) (sym h.0) k
