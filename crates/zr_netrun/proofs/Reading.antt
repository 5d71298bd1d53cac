-- The script that was read so far, what is kept of it, and what is told at its end.
-- `IsAfter` holds whenever the loop reads: what is kept is the run of the lines that have ended, and all of its report was written.
use Rattle.std.proofs.Common.{◌≡◌, ℕ, ◌+◌, ◌-◌, ◌≤◌, ◌||◌, min, Bool, true, List, [], ◌++◌, length, take, drop, Option, Some, None, is_some, Result, Ok, Err, refl, sym, ap, ◌∙◌, append_assoc, append-nil, arith, subst, inl, inr}
use Rattle.std.specs.Prelude.{IfSome}
use Rattle.std.specs.List.{fold}
use Rattle.std.proofs.lemmas.List.Sums.{fold-append}
use Rattle.std.proofs.lemmas.Bool.{cases_lt}
use Rattle.std.proofs.lemmas.List.{length-append, length-take, take_all, take-take}
use Rattle.std.proofs.Math.Seq.{take-append-add}
use Rattle.zr_outside.specs.Told.{Consumes}
use Rattle.zr_outside.specs.Told.{IsAsBefore, Appends, AppendsPrefix}
use Rattle.zr_outside.proofs.Appending.{prefix_whole}
use Rattle.zr_script_spec.specs.Lines.{most_bytes, most_kept, ended_lines, open_line}
use Rattle.zr_script_spec.specs.declared.error.ScriptError.{ScriptError}
use Rattle.zr_world_spec.specs.Run.{Run, start, on_line, run_of_ended, within}
use Rattle.zr_netrun_lines.specs.declared.runner.RunStop.{RunStop}
use Rattle.zr_netrun_lines.specs.declared.runner.RunStop.TheVariants.{Refused, NoMemory, WriteFault}
use Rattle.zr_netrun.specs.declared.status.Status.{Status}
use Rattle.zr_netrun.specs.declared.status.Status.TheVariants as s
use Rattle.zr_world_spec.specs.Moments.{beginning}
use Rattle.zr_world_spec.specs.Accepted.{accepted_from}
use Rattle.zr_netrun_report.specs.declared.counts.Counts.{Counts}
use Rattle.zr_netrun_report.specs.Summary.{counts_of}
use Rattle.zr_netrun_report.specs.Counted.{all_capped}
use Rattle.zr_netrun_lines.specs.Kept.{Kept, begun, fresh, seen, IsAt, Stopped, KeepsRefused, Turns, refused_line}
use Rattle.zr_netrun_lines.specs.Counted.{CountsOn}
use Rattle.zr_netrun_lines.proofs.Lines.{ended_append, open_after, open_last}
use Rattle.zr_netrun_lines.proofs.Runs.{fold_kept, open_kept}
use Rattle.zr_netrun_lines.proofs.Writing.{turn_more, all_written, written_all, written_flushed, prefix_flushed, seen_all, seen_prefix}
use Rattle.zr_netrun_lines.proofs.Accepting.{HasCounted, piece_counted}
use Rattle.zr_netrun.specs.Told.{TellsRefusal, Tells}
use Rattle.zr_netrun.specs.Counted.{CountsFromNone}
use Rattle.zr_netrun.specs.Judged.{judged_lines, judged, refusal_told, is_too_long, is_refused, complaint, complaint_of}
use Rattle.zr_netrun.specs.Clauses.{OfRead, Reports}

-- ---- what is kept of the bytes that were read

pub record IsAfter (k : Kept) (total : ℕ) (a b : Option (List ℕ)) (read : List ℕ) : Type 0 where
  pub at : IsAt (run_of_ended read) (take most_kept (open_line read)) [] k a b
  pub flushed : k.pending ≡ []
  pub total_is : length read ≡ total
  pub counted : HasCounted k (ended_lines read)

-- nothing was read
pub after_nothing : (k : Kept) (a : Option (List ℕ)) (left : Option (List ℕ)) → k ≡ begun k.counts → CountsFromNone k.counts → OfRead left left (IsAfter k 0 a a)
after_nothing k a None e none = tt
after_nothing k a (Some bytes) e none = (
  [],
  bytes,
  refl,
  refl,
  subst (λ (z : Kept). IsAfter z 0 a a []) (sym e) (record {
    at = record { world = refl; number = refl; line_is = refl; refusal = refl; text = written_all [] a a (by a) };
    flushed = refl;
    total_is = refl;
    counted = (beginning, refl, record { world_is = refl; counts_are = zeros k.counts none; known = refl });
  }),
)
  where
    by : (o : Option (List ℕ)) → Appends [] o o
    by None = tt
    by (Some held) = ap Some (sym (append-nil held))

    zeros : (o : Option Counts) → CountsFromNone o → IfSome o (λ c. c ≡ all_capped (counts_of beginning))
    zeros None h = tt
    zeros (Some c) h = h

-- the run of bytes that come in two pieces
run_piece : (k : Kept) (read piece : List ℕ) → k.line ≡ take most_kept (open_line read) →
    fold on_line (run_of_ended read) (ended_lines (k.line ++ piece)) ≡ run_of_ended (read ++ piece)
run_piece k read piece e =
    ap (λ z. fold on_line (run_of_ended read) (ended_lines (z ++ piece))) e ∙ fold_kept (run_of_ended read) (open_line read) piece (open_last read)
    ∙ sym (fold-append on_line start (ended_lines read) (ended_lines (open_line read ++ piece))) ∙ ap (fold on_line start) (sym (ended_append read piece))

open_piece : (k : Kept) (read piece : List ℕ) → k.line ≡ take most_kept (open_line read) →
    take most_kept (open_line (k.line ++ piece)) ≡ take most_kept (open_line (read ++ piece))
open_piece k read piece e =
    ap (λ z. take most_kept (open_line (z ++ piece))) e ∙ open_kept (open_line read) piece (open_last read) ∙ ap (take most_kept) (sym (open_after read piece))

-- one more piece
pub piece_more : (k m : Kept) (total : ℕ) (a b c : Option (List ℕ)) (read piece : List ℕ) (result : Result (Unit {0}) RunStop) → IsAfter k total a b read →
    Turns result (fold on_line (fresh k) (ended_lines (k.line ++ piece))) (take most_kept (open_line (k.line ++ piece))) k.pending m b c →
    Turns result (run_of_ended (read ++ piece)) (take most_kept (open_line (read ++ piece))) [] m a c
piece_more k m total a b c read piece result h turn =
    let more = turn_more (run_of_ended read) (ended_lines (k.line ++ piece)) (take most_kept (open_line read)) (take most_kept (open_line (k.line ++ piece))) [] k m a b c result h.at turn in
    let run = run_piece k read piece h.at.line_is in
    let line = open_piece k read piece h.at.line_is in
    subst (λ (r : Run). Turns result r (take most_kept (open_line (read ++ piece))) [] m a c) run
    (subst (λ (l : List ℕ). Turns result (fold on_line (run_of_ended read) (ended_lines (k.line ++ piece))) l [] m a c) line more)

-- a source that told its bytes, and one more read
pub reads_more : (P Q : List ℕ → Type 0) (left now next : Option (List ℕ)) (n : ℕ) (buffer : List ℕ) → OfRead left now P → Consumes n buffer now next →
    ((read : List ℕ) → P read → Q (read ++ take n buffer)) → OfRead left next Q
reads_more P Q None now next n buffer h took f = tt
reads_more P Q (Some all) now next n buffer h took f =
    let cut = rw h.3 at took in
    (h.0 ++ take n buffer, drop n h.1, h.2 ∙ ap (λ z. h.0 ++ z) cut.0 ∙ sym (append_assoc h.0 (take n buffer) (drop n h.1)), cut.1, f h.0 h.4)

-- a piece was fed whole
pub reads_piece : (left now next : Option (List ℕ)) (n total : ℕ) (buffer : List ℕ) (k m : Kept) (a b c : Option (List ℕ)) (u : Unit {0}) →
    OfRead left now (IsAfter k total a b) → Consumes n buffer now next → n ≤ length buffer → m.pending ≡ [] →
    CountsOn (accepted_from (fresh k) (ended_lines (k.line ++ take n buffer))) k m → Turns (Ok u) (fold on_line (fresh k) (ended_lines (k.line ++ take n buffer))) (take most_kept (open_line (k.line ++ take n buffer))) k.pending m b c →
    OfRead left next (IsAfter m (total + n) a c)
reads_piece left now next n total buffer k m a b c u h took le flushed counts turn =
    reads_more (IsAfter k total a b) (IsAfter m (total + n) a c) left now next n buffer h took (λ (read : List ℕ) (p : IsAfter k total a b read). record {
      at = piece_more k m total a b c read (take n buffer) (Ok u) p turn;
      flushed = flushed;
      total_is = omega (arith, length-append read (take n buffer), length-take n buffer, p.total_is);
      counted = piece_counted k m (take most_kept (open_line read)) [] a b read (take n buffer) p.at p.at.line_is p.counted counts;
    })

-- ---- what is told at the end

pub as_before : (e e' : Option (List ℕ)) → e' ≡ e → IsAsBefore e e'
as_before None e' h = tt
as_before (Some held) e' h = h

-- what was told is told of what is looked at
pub seen_tells : (shows : Bool) (stop : RunStop) (status : Status) (n : ScriptError → List ℕ) (p : List ℕ) (a b e e' : Option (List ℕ)) → Tells stop status n p a b e e' → Tells stop status n p (seen shows a) (seen shows b) e e'
seen_tells shows (Refused error) status n p a b e e' h = by status h
  where
    by : (status : Status) → TellsRefusal status (n error) p a b e e' → TellsRefusal status (n error) p (seen shows a) (seen shows b) e e'
    by s.Refused t = (seen_all shows p a b t.0, t.1)
    by s.WriteFault (inl t) = inl (seen_prefix shows p a b t.0, t.1)
    by s.WriteFault (inr t) = inr (seen_all shows p a b t.0, t.1)
    by s.NoMemory t = (seen_all shows p a b t.0, t.1)
    by s.Done t = absurd t
    by s.Words t = absurd t
    by s.ReadFault t = absurd t
    by s.HostFault t = absurd t
seen_tells shows NoMemory status n p a b e e' h = (h.0, ap (seen shows) h.1, h.2)
seen_tells shows WriteFault status n p a b e e' h = (h.0, ap (seen shows) h.1, h.2)

-- what was told of a run that stopped is what is to be told
pub tells_judged : (x to_end : Bool) (bytes : List ℕ) (m : Kept) (a b c e e' : Option (List ℕ)) (stop : RunStop) (status : Status) →
    Stopped stop (judged to_end bytes) [] m a b → KeepsRefused (Err stop) (refused_line start (judged_lines to_end bytes)) m →
    Tells stop status (refusal_told x m.number m.line) m.pending b c e e' → Reports x status to_end a c e e' bytes
tells_judged x to_end bytes m a b c e e' (Refused error) status h kept told = by status told
  where
    line : List ℕ
    line = take most_kept (refused_line start (judged_lines to_end bytes))

    why : complaint x to_end bytes ≡ refusal_told x m.number m.line error
    why =
        ap (λ r. complaint_of x r (judged to_end bytes).number line (is_too_long bytes)) h.0 ∙ ap (λ n. refusal_told x n line error) (sym h.1)
        ∙ ap (λ l. refusal_told x m.number l error) (sym kept)

    refused : is_refused to_end bytes ≡ true
    refused = ap (λ r. is_some r || is_too_long bytes) h.0

    whole : Appends m.pending b c → Appends (judged to_end bytes).text a c
    whole out = all_written (judged to_end bytes).text a c (written_flushed (judged to_end bytes).text m.pending a b c h.2 out)

    by : (status : Status) → TellsRefusal status (refusal_told x m.number m.line error) m.pending b c e e' → Reports x status to_end a c e e' bytes
    by s.Refused t = (refused, whole t.0, subst (λ (z : List ℕ). Appends z e e') (sym why) t.1)
    by s.WriteFault (inl t) = inl (prefix_flushed (judged to_end bytes).text m.pending a b c h.2 t.0, as_before e e' t.1)
    by s.WriteFault (inr t) = inr (refused, whole t.0, subst (λ (z : List ℕ). AppendsPrefix z e e') (sym why) t.1)
    by s.NoMemory t = (prefix_flushed (judged to_end bytes).text m.pending a b c h.2 (prefix_whole m.pending b c t.0), as_before e e' t.1)
    by s.Done t = absurd t
    by s.Words t = absurd t
    by s.ReadFault t = absurd t
    by s.HostFault t = absurd t
tells_judged x to_end bytes m a b c e e' NoMemory status h kept told =
    rw told.0 (subst (λ (z : Option (List ℕ)). AppendsPrefix (judged to_end bytes).text a z) (sym told.1) h, as_before e e' told.2)
tells_judged x to_end bytes m a b c e e' WriteFault status h kept told =
    rw told.0 (inl (subst (λ (z : Option (List ℕ)). AppendsPrefix (judged to_end bytes).text a z) (sym told.1) h, as_before e e' told.2))

-- of a piece that passes the limit, the prefix within it
pub within_piece : (read piece : List ℕ) (used n : ℕ) → length read ≤ most_bytes → used ≡ min n (most_bytes - length read) → n ≤ length piece →
    within (read ++ take n piece) ≡ read ++ take used piece
within_piece read piece used n le e fits =
    let sum : length read + (most_bytes - length read) ≡ most_bytes = omega arith in
    ap (λ (k : ℕ). take k (read ++ take n piece)) (sym sum) ∙ take-append-add read (take n piece) (most_bytes - length read)
    ∙ ap (λ z. read ++ z) (front ∙ ap (λ (k : ℕ). take k piece) (sym e))
  where
    front : take (most_bytes - length read) (take n piece) ≡ take (min n (most_bytes - length read)) piece
    front =
        elim (cases_lt n (most_bytes - length read)) [
          | inl less ↦
              let short : length (take n piece) ≤ most_bytes - length read = omega (arith, length-take n piece) in
              let m : min n (most_bytes - length read) ≡ n = omega arith in
              take_all (most_bytes - length read) (take n piece) short ∙ ap (λ (k : ℕ). take k piece) (sym m)
          | inr more ↦
              let m : min n (most_bytes - length read) ≡ most_bytes - length read = omega arith in
              take-take (most_bytes - length read) n piece more ∙ ap (λ (k : ℕ). take k piece) (sym m)
        ]
