-- What is told when the loop has ended: at each of its exits the report is that of the bytes that were read.
use Rattle.std.proofs.Common.{◌≡◌, ℕ, ◌-◌, ◌<◌, ◌≤◌, ◌||◌, min, Bool, true, false, List, [], ◌++◌, length, take, Option, Some, None, is_some, Result, Ok, Err, refl, sym, ap, ◌∙◌, inr, arith, subst}
use Rattle.std.specs.List.{fold}
use Rattle.std.proofs.lemmas.List.Sums.{fold-append}
use Rattle.std.proofs.lemmas.Bool.Decides.{nat_tests}
use Rattle.std.proofs.lemmas.List.{length-append, length-take, take_all}
use Rattle.std.proofs.lemmas.Bool.{false≢true}
use Rattle.zr_outside.specs.Told.{IsAsBefore, Appends, AppendsPrefix, Consumes}
use Rattle.zr_outside.proofs.Appending.{prefix_whole}
use Rattle.zr_script_spec.specs.Lines.{most_bytes, most_kept, ended_lines, open_line, unless_empty, lines}
use Rattle.zr_script_spec.specs.Report.{too_long_text}
use Rattle.zr_world_spec.specs.Run.{Run, start, on_line, run_of_ended, within}
use Rattle.zr_netrun_lines.specs.declared.runner.RunStop.{RunStop}
use Rattle.zr_netrun.specs.declared.status.Status.{Status}
use Rattle.zr_netrun.specs.declared.status.Status.TheVariants as s
use Rattle.zr_world_spec.specs.Accepted.{accepted_from}
use Rattle.zr_netrun_report.specs.Waiting.{Written}
use Rattle.zr_netrun_lines.specs.Counted.{CountsOn}
use Rattle.zr_netrun_lines.specs.Kept.{Kept, fresh, IsAt, KeepsRefused, Stopped, Turns, refused_line}
use Rattle.zr_netrun_lines.proofs.Runs.{last_kept}
use Rattle.zr_netrun_lines.proofs.Writing.{turn_more, all_written}
use Rattle.zr_netrun_lines.proofs.Accepting.{last_counted}
use Rattle.zr_netrun_lines.proofs.Refusing.{keeps_same, refused_piece, refused_last}
use Rattle.zr_netrun.specs.Counted.{IsRun}
use Rattle.zr_netrun.specs.Ended.{IsEnded}
use Rattle.zr_netrun.specs.Told.{Complains, Tells}
use Rattle.zr_netrun.specs.Judged.{judged_lines, judged, refusal_told, is_too_long, is_refused, complaint, complaint_of}
use Rattle.zr_netrun.specs.Clauses.{OfRead, Reports, IsReported}
use Rattle.zr_netrun.proofs.Reading.{IsAfter, piece_more, reads_more, as_before, tells_judged, within_piece}

-- what is kept with nothing waiting has written its whole text
text_out : (r : Run) (line : List ℕ) (m : Kept) (a b : Option (List ℕ)) → IsAt r line [] m a b → m.pending ≡ [] → Appends r.text a b
text_out r line m a b at flushed = all_written r.text a b (subst (λ (z : List ℕ). Written r.text z a b) flushed at.text)

-- a fact of what was read follows from another
pub of_read : (P Q : List ℕ → Type 0) (left now : Option (List ℕ)) → OfRead left now P → ((read : List ℕ) → P read → Q read) → OfRead left now Q
of_read P Q None now h f = tt
of_read P Q (Some all) now h f = (h.0, h.1, h.2, h.3, f h.0 h.4)

-- a line of a piece was refused, or memory or a write failed there
pub stops_reading : (x : Bool) (InputEnded : Type 0) (left now next : Option (List ℕ)) (n used total : ℕ) (buffer : List ℕ) (k m : Kept) (a b c d e e' : Option (List ℕ)) (stop : RunStop) (status : Status) →
    OfRead left now (IsAfter k total a b) → Consumes n buffer now next → n ≤ length buffer → total ≤ most_bytes → used ≡ min n (most_bytes - total) →
    Turns (Err stop) (fold on_line (fresh k) (ended_lines (k.line ++ take used buffer))) (take most_kept (open_line (k.line ++ take used buffer))) k.pending m b c →
    KeepsRefused (Err stop) (refused_line (fresh k) (ended_lines (k.line ++ take used buffer))) m → Tells stop status (refusal_told x m.number m.line) m.pending c d e e' →
    OfRead left next (IsReported x InputEnded status a d e e')
stops_reading x InputEnded left now next n used total buffer k m a b c d e e' stop status h took fits most cut turn kept told =
    reads_more (IsAfter k total a b) (IsReported x InputEnded status a d e e') left now next n buffer h took (λ (read : List ℕ) (p : IsAfter k total a b read).
    let here = piece_more k m total a b c read (take used buffer) (Err stop) p turn in
    let room : length read ≤ most_bytes = omega (arith, p.total_is, most) in
    let same : used ≡ min n (most_bytes - length read) = cut ∙ ap (λ (t : ℕ). min n (most_bytes - t)) (sym p.total_is) in
    let bound : within (read ++ take n buffer) ≡ read ++ take used buffer = within_piece read buffer used n room same fits in
    let there : Stopped stop (judged false (read ++ take n buffer)) [] m a c = subst (λ (z : List ℕ). Stopped stop (run_of_ended z) [] m a c) (sym bound) here in
    let line : take most_kept (refused_line (fresh k) (ended_lines (k.line ++ take used buffer))) ≡ take most_kept (refused_line start (judged_lines false (read ++ take n buffer))) =
    refused_piece k (take most_kept (open_line read)) a b read (take used buffer) p.at p.at.line_is ∙ ap (λ z. take most_kept (refused_line start (ended_lines z))) (sym bound) in
    let mine = keeps_same (Err stop) (refused_line (fresh k) (ended_lines (k.line ++ take used buffer))) (refused_line start (judged_lines false (read ++ take n buffer))) m kept line in
    (false, λ t. absurd (false≢true t), tells_judged x false (read ++ take n buffer) m a c d e e' stop status there mine told))

-- what is told of a script that is too long
too_long_told : (x : Bool) (bytes : List ℕ) (a b e e' : Option (List ℕ)) (status : Status) → (judged false bytes).refusal ≡ None → is_too_long bytes ≡ true →
    Appends (judged false bytes).text a b → Complains status too_long_text e e' → Reports x status false a b e e' bytes
too_long_told x bytes a b e e' status none long out told = by status told
  where
    line : List ℕ
    line = take most_kept (refused_line start (judged_lines false bytes))

    why : complaint x false bytes ≡ too_long_text
    why = ap (λ r. complaint_of x r (judged false bytes).number line (is_too_long bytes)) none ∙ ap (λ t. complaint_of x None (judged false bytes).number line t) long

    refused : is_refused false bytes ≡ true
    refused = ap (λ r. is_some r || is_too_long bytes) none ∙ long

    by : (status : Status) → Complains status too_long_text e e' → Reports x status false a b e e' bytes
    by s.Refused t = (refused, out, subst (λ (z : List ℕ). Appends z e e') (sym why) t)
    by s.WriteFault t = inr (refused, out, subst (λ (z : List ℕ). AppendsPrefix z e e') (sym why) t)
    by s.NoMemory t = (prefix_whole (judged false bytes).text a b out, as_before e e' t)
    by s.Done t = absurd t
    by s.Words t = absurd t
    by s.ReadFault t = absurd t
    by s.HostFault t = absurd t

-- a piece passes the limit, and no line that ends within it is refused
pub passes_limit : (x : Bool) (InputEnded : Type 0) (left now next : Option (List ℕ)) (n used total : ℕ) (buffer : List ℕ) (k m : Kept) (a b c e e' : Option (List ℕ)) (u : Unit {0}) (status : Status) →
    OfRead left now (IsAfter k total a b) → Consumes n buffer now next → n ≤ length buffer → total ≤ most_bytes → used ≡ min n (most_bytes - total) → used < n →
    Turns (Ok u) (fold on_line (fresh k) (ended_lines (k.line ++ take used buffer))) (take most_kept (open_line (k.line ++ take used buffer))) k.pending m b c → m.pending ≡ [] →
    Complains status too_long_text e e' → OfRead left next (IsReported x InputEnded status a c e e')
passes_limit x InputEnded left now next n used total buffer k m a b c e e' u status h took fits most cut less turn flushed told =
    reads_more (IsAfter k total a b) (IsReported x InputEnded status a c e e') left now next n buffer h took (λ (read : List ℕ) (p : IsAfter k total a b read).
    let here = piece_more k m total a b c read (take used buffer) (Ok u) p turn in
    let room : length read ≤ most_bytes = omega (arith, p.total_is, most) in
    let same : used ≡ min n (most_bytes - length read) = cut ∙ ap (λ (t : ℕ). min n (most_bytes - t)) (sym p.total_is) in
    let bound : within (read ++ take n buffer) ≡ read ++ take used buffer = within_piece read buffer used n room same fits in
    let many : most_bytes < length (read ++ take n buffer) = omega (arith, length-append read (take n buffer), length-take n buffer, same, less) in
    let long : is_too_long (read ++ take n buffer) ≡ true = grind (arith, nat_tests) in
    let run : judged false (read ++ take n buffer) ≡ run_of_ended (read ++ take used buffer) = ap run_of_ended bound in
    let out = text_out (run_of_ended (read ++ take used buffer)) (take most_kept (open_line (read ++ take used buffer))) m a c here flushed in (
      false,
      λ t. absurd (false≢true t),
      too_long_told x (read ++ take n buffer) a c e e' status (ap (λ (r : Run). r.refusal) run ∙ here.refusal) long (subst (λ (r : Run). Appends r.text a c) (sym run) out) told,
    ))

-- what is read stays what was read, where nothing came
pub same_left : (P Q : List ℕ → Type 0) (left now next : Option (List ℕ)) → OfRead left now P → IsAsBefore now next → ((read : List ℕ) → P read → Q read) → OfRead left next Q
same_left P Q None now next h e f = tt
same_left P Q (Some all) now next h e f = (h.0, h.1, h.2, rw h.3 at e, f h.0 h.4)

-- nothing came, and the loop goes on
pub still_after : (left now next : Option (List ℕ)) (total : ℕ) (k : Kept) (a b : Option (List ℕ)) → OfRead left now (IsAfter k total a b) → IsAsBefore now next →
    OfRead left next (IsAfter k total a b)
still_after left now next total k a b h same = same_left (IsAfter k total a b) (IsAfter k total a b) left now next h same (λ (read : List ℕ) (p : IsAfter k total a b read). p)

-- a read has failed
pub fails_reading : (x : Bool) (InputEnded : Type 0) (left now next : Option (List ℕ)) (total : ℕ) (k : Kept) (a b e e' : Option (List ℕ)) → OfRead left now (IsAfter k total a b) → IsAsBefore now next →
    total ≤ most_bytes → e' ≡ e → OfRead left next (IsReported x InputEnded s.ReadFault a b e e')
fails_reading x InputEnded left now next total k a b e e' h same most err =
    same_left (IsAfter k total a b) (IsReported x InputEnded s.ReadFault a b e e') left now next h same (λ (read : List ℕ) (p : IsAfter k total a b read).
    let short : length read ≤ most_bytes = omega (arith, p.total_is, most) in
    let whole : within read ≡ read = take_all most_bytes read short in
    let within_limit : is_too_long read ≡ false = grind (arith, nat_tests) in
    let at : IsAt (judged false read) (take most_kept (open_line read)) [] k a b = subst (λ (z : List ℕ). IsAt (run_of_ended z) (take most_kept (open_line read)) [] k a b) (sym whole) p.at in (
      false,
      λ t. absurd (false≢true t),
      (refl, ap (λ r. is_some r || is_too_long read) at.refusal ∙ within_limit, text_out (judged false read) (take most_kept (open_line read)) k a b at p.flushed, as_before e e' err),
    ))

-- the last line of a script that has ended
last_line : (read : List ℕ) (k m : Kept) (total : ℕ) (a b c : Option (List ℕ)) (result : Result (Unit {0}) RunStop) → IsAfter k total a b read →
    Turns result (fold on_line (fresh k) (unless_empty k.line)) [] k.pending m b c → Turns result (judged true read) [] [] m a c
last_line read k m total a b c result p turn =
    let here = turn_more (run_of_ended read) (unless_empty k.line) (take most_kept (open_line read)) [] [] k m a b c result p.at turn in
    let run : fold on_line (run_of_ended read) (unless_empty k.line) ≡ judged true read =
    ap (λ z. fold on_line (run_of_ended read) (unless_empty z)) p.at.line_is ∙ last_kept (run_of_ended read) (open_line read)
    ∙ sym (fold-append on_line start (ended_lines read) (unless_empty (open_line read))) in
    subst (λ (r : Run). Turns result r [] [] m a c) run here

-- the script has ended, and no line is refused
pub ends_reading : (x : Bool) (InputEnded : Type 0) (left now : Option (List ℕ)) (total : ℕ) (k m : Kept) (a b c e e' : Option (List ℕ)) (u : Unit {0}) → InputEnded → OfRead left now (IsAfter k total a b) →
    total ≤ most_bytes → Turns (Ok u) (fold on_line (fresh k) (unless_empty k.line)) [] k.pending m b c →
    CountsOn (accepted_from (fresh k) (unless_empty k.line)) k m → m.pending ≡ [] → e' ≡ e → OfRead left now (IsRun x InputEnded s.Done a c e e' m)
ends_reading x InputEnded left now total k m a b c e e' u ended h most turn counts flushed err =
    of_read (IsAfter k total a b) (IsRun x InputEnded s.Done a c e e' m) left now h (λ (read : List ℕ) (p : IsAfter k total a b read).
    let here = last_line read k m total a b c (Ok u) p turn in
    let short : length read ≤ most_bytes = omega (arith, p.total_is, most) in
    let within_limit : is_too_long read ≡ false = grind (arith, nat_tests) in (
      (
        true,
        λ t. (ended, short),
        (refl, ap (λ r. is_some r || is_too_long read) here.refusal ∙ within_limit, text_out (judged true read) [] m a c here flushed, as_before e e' err),
      ),
      λ d. last_counted k m (take most_kept (open_line read)) [] a b read p.at p.at.line_is p.counted counts,
    ))

-- it is done
pub ends_done : (InputEnded : Type 0) (i i' o o' e e' : ℕ) → InputEnded → i ≤ i' → o ≤ o' → e ≤ e' → IsEnded InputEnded s.Done i i' o o' e e'
ends_done InputEnded i i' o o' e e' ended input out err = record {
  whole = λ d. ended;
  read = λ d. absurd (cc);
  write = λ d. absurd (cc);
  words = λ d. cc;
  host = λ d. cc;
  input_later = input;
  out_later = out;
  err_later = err;
}

pub fault_not_done : (s.ReadFault ≡ s.Done) → ⊥
fault_not_done d = cc

-- where the script has not ended, not all was counted
pub not_done : (x : Bool) (InputEnded : Type 0) (left next : Option (List ℕ)) (m : Kept) (a c e e' : Option (List ℕ)) (status : Status) → ((status ≡ s.Done) → ⊥) →
    OfRead left next (IsReported x InputEnded status a c e e') → OfRead left next (IsRun x InputEnded status a c e e' m)
not_done x InputEnded left next m a c e e' status not h =
    of_read (IsReported x InputEnded status a c e e') (IsRun x InputEnded status a c e e' m) left next h (λ (read : List ℕ) (p : IsReported x InputEnded status a c e e' read). (p, λ d. absurd (not d)))

-- the script has ended, and its last line is refused, or memory or a write failed there
pub stops_at_end : (x : Bool) (InputEnded : Type 0) (left now : Option (List ℕ)) (total : ℕ) (k m : Kept) (a b c d e e' : Option (List ℕ)) (stop : RunStop) (status : Status) → InputEnded →
    OfRead left now (IsAfter k total a b) → total ≤ most_bytes → Turns (Err stop) (fold on_line (fresh k) (unless_empty k.line)) [] k.pending m b c →
    KeepsRefused (Err stop) (refused_line (fresh k) (unless_empty k.line)) m → Tells stop status (refusal_told x m.number m.line) m.pending c d e e' →
    OfRead left now (IsReported x InputEnded status a d e e')
stops_at_end x InputEnded left now total k m a b c d e e' stop status ended h most turn kept told =
    of_read (IsAfter k total a b) (IsReported x InputEnded status a d e e') left now h (λ (read : List ℕ) (p : IsAfter k total a b read).
    let short : length read ≤ most_bytes = omega (arith, p.total_is, most) in
    let line = refused_last k (take most_kept (open_line read)) a b read p.at p.at.line_is in
    let mine = keeps_same (Err stop) (refused_line (fresh k) (unless_empty k.line)) (refused_line start (lines read)) m kept line in
    (true, λ t. (ended, short), tells_judged x true read m a c d e e' stop status (last_line read k m total a b c (Err stop) p turn) mine told))
