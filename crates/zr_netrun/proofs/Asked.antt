-- What was written is what was asked for.
use Rattle.std.proofs.Common.{◌≡◌, ℕ, ◌<◌, ◌≤◌, ltb, arith, Bool, true, false, List, Option, None, subst, ◌∙◌, sym, refl}
use Rattle.std.proofs.lemmas.Bool.{true≢false, false≢true, ltb-true, ltb-false}
use Rattle.zr_outside.specs.Told.{Appends}
use Rattle.zr_netrun_lines.specs.Kept.{Kept, begun, seen, writes}
use Rattle.zr_netrun.specs.declared.options.NetOptions.{NetOptions}
use Rattle.zr_netrun.specs.declared.status.Status.{Status}
use Rattle.zr_netrun.specs.declared.status.Status.TheVariants as s
use Rattle.zr_netrun.specs.Judged.{judged}
use Rattle.zr_netrun.specs.Clauses.{OfRead, IsReported, IsSummedUp, ReportsBeforeReads, WritesAsAsked}
use Rattle.zr_netrun.specs.Counted.{IsRun}
use Rattle.zr_netrun.proofs.Telling.{of_read}

-- the report, by a runner that writes it
pub writes_report : (o : NetOptions) (left next : Option (List ℕ)) (InputEnded : Type 0) (status : Status) (a b e e' : Option (List ℕ)) (k m : Kept) →
    o.summary ≡ false → k ≡ begun None → OfRead left next (IsRun o.explain InputEnded status (seen (writes k) a) (seen (writes k) b) e e' m) →
    WritesAsAsked o left next InputEnded status a b e e'
writes_report o left next InputEnded status a b e e' k m plain is h =
    let run = subst (λ (z : Kept). OfRead left next (IsRun o.explain InputEnded status (seen (writes z) a) (seen (writes z) b) e e' m)) is h in
    record {
      read = of_read (IsRun o.explain InputEnded status a b e e' m) (λ r. Unit {0}) left next run (λ (read : List ℕ) (p : IsRun o.explain InputEnded status a b e e' m read). tt);
      report = λ s. of_read (IsRun o.explain InputEnded status a b e e' m) (IsReported o.explain InputEnded status a b e e') left next run (λ (read : List ℕ) (p : IsRun o.explain InputEnded status a b e e' m read). p.0);
      summed_up = λ s. absurd (true≢false (sym s ∙ plain));
    }

-- the summary
pub writes_summary : (o : NetOptions) (left next : Option (List ℕ)) (InputEnded : Type 0) (status : Status) (a b e e' : Option (List ℕ)) →
    o.summary ≡ true → OfRead left next (IsSummedUp o.explain InputEnded status a b e e') → WritesAsAsked o left next InputEnded status a b e e'
writes_summary o left next InputEnded status a b e e' summed h = record {
  read = of_read (IsSummedUp o.explain InputEnded status a b e e') (λ r. Unit {0}) left next h (λ (read : List ℕ) (p : IsSummedUp o.explain InputEnded status a b e e' read). tt);
  report = λ s. absurd (false≢true (sym s ∙ summed));
  summed_up = λ s. h;
}

-- ---- where a read has failed

-- the report of what was read, whole
told_at_fault : (x : Bool) (InputEnded : Type 0) (status : Status) (a b e e' : Option (List ℕ)) (read : List ℕ) → status ≡ s.ReadFault →
    IsReported x InputEnded status a b e e' read → Appends (judged false read).text a b
told_at_fault x InputEnded status a b e e' read fault p =
    let here = subst (λ (z : Status). IsReported x InputEnded z a b e e' read) fault p in
    subst (λ (t : Bool). Appends (judged t read).text a b) here.2.0 here.2.2

-- no run ends as two faults
no_write_failed : (status : Status) (w w' : ℕ) → status ≡ s.ReadFault → (w < w' → status ≡ s.WriteFault) → w ≤ w' → w' ≡ w
no_write_failed status w w' read write later = by (ltb w w') refl
  where
    by : (t : Bool) → ltb w w' ≡ t → w' ≡ w
    by true e = let both : s.ReadFault ≡ s.WriteFault = sym read ∙ write (ltb-true w w' e) in absurd (cc)
    by false e = let still = ltb-false w w' e in omega (arith, still, later)

-- so nothing was kept back over a read
pub reports_before_reads : (o : NetOptions) (left next : Option (List ℕ)) (InputEnded : Type 0) (status : Status) (a b e e' : Option (List ℕ)) (r r' w w' : ℕ) →
    WritesAsAsked o left next InputEnded status a b e e' → (r < r' → status ≡ s.ReadFault) → (w < w' → status ≡ s.WriteFault) → w ≤ w' →
    ReportsBeforeReads o left next a b r r' w w'
reports_before_reads o left next InputEnded status a b e e' r r' w w' h read write later = λ rose. (
  no_write_failed status w w' (read rose) write later,
  λ plain. of_read (IsReported o.explain InputEnded status a b e e') (λ bytes. Appends (judged false bytes).text a b) left next (h.report plain)
      (λ (bytes : List ℕ) (p : IsReported o.explain InputEnded status a b e e' bytes). told_at_fault o.explain InputEnded status a b e e' bytes (read rose) p),
)
