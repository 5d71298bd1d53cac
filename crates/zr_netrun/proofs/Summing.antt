-- What a summary tells is what was counted of all acts of the script, which lead to the moment of its lines (`summed`). Where the script
-- has not ended or is refused, nothing is told (`not_summed`).
use Rattle.std.proofs.Common.{◌≡◌, ℕ, Bool, true, false, List, [], Option, Some, None, refl, sym, ap, ◌∙◌, append-nil, inl, inr, subst}
use Rattle.std.specs.Prelude.{is_none, IfSome}
use Rattle.std.proofs.lemmas.Bool.{true≢false}
use Rattle.zr_outside.specs.Told.{IsAsBefore, Appends, AppendsPrefix}
use Rattle.zr_script_spec.specs.Lines.{lines}
use Rattle.zr_world_spec.specs.Moments.{Moment, reached}
use Rattle.zr_world_spec.specs.Accepted.{accepted, IsMoment}
use Rattle.zr_world_spec.proofs.Lines.{lines_are_moments}
use Rattle.zr_netrun_report.specs.declared.counts.Counts.{Counts}
use Rattle.zr_netrun_report.specs.Summary.{counts_of, summary_text}
use Rattle.zr_netrun_report.specs.Counted.{all_capped}
use Rattle.zr_netrun_lines.specs.Kept.{Kept, writes}
use Rattle.zr_netrun_lines.specs.Counted.{CountsWhole}
use Rattle.zr_netrun_lines.proofs.Bounds.{counts_fit}
use Rattle.zr_netrun.specs.declared.status.Status.{Status}
use Rattle.zr_netrun.specs.declared.status.Status.TheVariants as s
use Rattle.zr_netrun.specs.Judged.{is_refused, complaint}
use Rattle.zr_netrun.specs.Clauses.{OfRead, Reports, SumsUp, IsSummedUp}
use Rattle.zr_netrun.specs.Counted.{IsRun, TellsSummary}
use Rattle.zr_netrun.proofs.Reading.{as_before}
use Rattle.zr_netrun.proofs.Telling.{of_read}

-- the moment that the acts of some lines lead to is theirs
is_moment : (ls : List (List ℕ)) (m : Moment) → reached (accepted ls) ≡ Some m → IsMoment ls m
is_moment ls m is =
    let h = (lines_are_moments ls).1 in
    let same : h.0 ≡ m = cc (h.1.is_reached, is) in
    subst (IsMoment ls) same h.1

-- what was counted is told
pub summed : (x : Bool) (InputEnded : Type 0) (left next : Option (List ℕ)) (k : Kept) (a b e e' o o' : Option (List ℕ)) (status : Status) → writes k ≡ false →
    OfRead left next (IsRun x InputEnded s.Done a b e e' k) → TellsSummary status k.counts o o' → OfRead left next (IsSummedUp x InputEnded status o o' e e')
summed x InputEnded left next k a b e e' o o' status counting h told =
    of_read (IsRun x InputEnded s.Done a b e e' k) (IsSummedUp x InputEnded status o o' e e') left next h (λ (read : List ℕ) (p : IsRun x InputEnded s.Done a b e e' k read).
    let whole : CountsWhole k read = p.1 refl in
    let ended = p.0.1 p.0.2.0 in
    let fine : is_refused true read ≡ false = subst (λ (t : Bool). is_refused t read ≡ false) p.0.2.0 p.0.2.1 in (
      true,
      λ t. ended,
      by read whole.0 (is_moment (lines read) whole.0 whole.1) fine p.0.2.3 k.counts counting status told whole.2.counts_are (counts_fit read whole.0 ended.1 whole.1),
    ))
  where
    by : (read : List ℕ) (m : Moment) → IsMoment (lines read) m → is_refused true read ≡ false → IsAsBefore e e' → (c : Option Counts) → is_none c ≡ false → (status : Status) →
        TellsSummary status c o o' → IfSome c (λ x. x ≡ all_capped (counts_of m)) → all_capped (counts_of m) ≡ counts_of m → SumsUp x status true o o' e e' read
    by read m is fine err None counting status t counted fits = absurd (true≢false counting)
    by read m is fine err (Some c) counting s.Done t counted fits = (refl, fine, (m, is, subst (λ (z : Counts). Appends (summary_text z) o o') (counted ∙ fits) t), err)
    by read m is fine err (Some c) counting s.WriteFault t counted fits = inl (refl, fine, (m, is, subst (λ (z : Counts). AppendsPrefix (summary_text z) o o') (counted ∙ fits) t), err)
    by read m is fine err (Some c) counting s.NoMemory t counted fits = (as_before o o' t, err)
    by read m is fine err (Some c) counting s.Refused t counted fits = absurd t
    by read m is fine err (Some c) counting s.Words t counted fits = absurd t
    by read m is fine err (Some c) counting s.ReadFault t counted fits = absurd t
    by read m is fine err (Some c) counting s.HostFault t counted fits = absurd t

-- what stays is a prefix gained
no_more : (t : List ℕ) (e e' : Option (List ℕ)) → IsAsBefore e e' → AppendsPrefix t e e'
no_more t None e' h = tt
no_more t (Some held) e' h = ([], t, refl, h ∙ ap Some (sym (append-nil held)))

-- nothing is told
pub not_summed : (x : Bool) (InputEnded : Type 0) (left next : Option (List ℕ)) (k : Kept) (a b e e' o o' : Option (List ℕ)) (status : Status) → ((status ≡ s.Done) → ⊥) → o' ≡ o →
    OfRead left next (IsRun x InputEnded status a b e e' k) → OfRead left next (IsSummedUp x InputEnded status o o' e e')
not_summed x InputEnded left next k a b e e' o o' status not same h =
    of_read (IsRun x InputEnded status a b e e' k) (IsSummedUp x InputEnded status o o' e e') left next h (λ (read : List ℕ) (p : IsRun x InputEnded status a b e e' k read).
    (p.0.0, p.0.1, by read p.0.0 status not p.0.2))
  where
    out : IsAsBefore o o'
    out = as_before o o' same

    by : (read : List ℕ) (to_end : Bool) (status : Status) → ((status ≡ s.Done) → ⊥) → Reports x status to_end a b e e' read → SumsUp x status to_end o o' e e' read
    by read to_end s.Done not r = absurd (not refl)
    by read to_end s.Refused not r = (r.0, out, r.2)
    by read to_end s.ReadFault not r = (r.0, r.1, out, r.3)
    by read to_end s.NoMemory not r = (out, r.1)
    by read to_end s.WriteFault not (inl r) = inr (out, no_more (complaint x to_end read) e e' r.1)
    by read to_end s.WriteFault not (inr r) = inr (out, r.2)
    by read to_end s.Words not r = absurd r
    by read to_end s.HostFault not r = absurd r
