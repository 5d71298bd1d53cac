-- What one act has done, and why a run stops at a line, a run or an act: an error is out of memory, or the refusal that is said.
use Rattle.std.proofs.Common.{◌≡◌, ℕ, ◌+◌, List, [], ◌++◌, Option, Some, None, Result, Ok, Err, refl, sym, ap, ◌∙◌, ◌⊎◌, inl, inr, subst}
use Rattle.std.specs.Prelude.{is_none, true}
use Rattle.std.specs.List.{flat_map}
use Rattle.std.proofs.lemmas.Bool.{false≢true}
use Rattle.zr_script_spec.specs.declared.command.Act.{Act}
use Rattle.zr_script_spec.specs.declared.error.ScriptError.{ScriptError}
use Rattle.zr_script_spec.specs.declared.error.ScriptError.TheVariants as e
use Rattle.zr_script_spec.specs.declared.report.ReportLine.{ReportLine}
use Rattle.zr_script_spec.specs.Report.{line_text}
use Rattle.zr_script_spec.specs.Step.{IsSaid}
use Rattle.zr_world_spec.specs.Acts.{Outcome, outcome}
use Rattle.zr_world_spec.specs.Next.{Done}
use Rattle.zr_world_spec.specs.Run.{Run}
use Rattle.zr_outside.specs.Told.{AppendsPrefix}
use Rattle.zr_outside.proofs.Appending.{prefix_none}
use Rattle.zr_world.specs.Living.{Living, alive, Applies}
use Rattle.zr_netrun_report.specs.declared.counts.Counts.{Counts}
use Rattle.zr_netrun_report.specs.Waiting.{Written}
use Rattle.zr_netrun_lines.specs.Kept.{Kept, seen, IsAt, Stopped, run_behind, run_by, stop_of}
use Rattle.zr_netrun_lines.proofs.Writing.{nothing_said}

-- ---- errors

-- A run that stops at an error: either memory ran out, or the error is the run's refusal.
pub stops_by : (error : ScriptError) (run : Run) (earlier : List ℕ) (new : Kept) (a b : Option (List ℕ)) → AppendsPrefix (earlier ++ run.text) a b →
    (error ≡ e.NoMemory) ⊎ ((run.refusal ≡ Some error) × (new.number ≡ run.number) × Written (earlier ++ run.text) new.pending a b) →
    Stopped (stop_of error) run earlier new a b
stops_by e.UnknownCommand run earlier new a b prefix (inl h) = absurd (cc)
stops_by e.UnknownCommand run earlier new a b prefix (inr h) = h
stops_by e.BadWords run earlier new a b prefix (inl h) = absurd (cc)
stops_by e.BadWords run earlier new a b prefix (inr h) = h
stops_by e.UnknownName run earlier new a b prefix (inl h) = absurd (cc)
stops_by e.UnknownName run earlier new a b prefix (inr h) = h
stops_by e.NameTaken run earlier new a b prefix (inl h) = absurd (cc)
stops_by e.NameTaken run earlier new a b prefix (inr h) = h
stops_by e.BadKey run earlier new a b prefix (inl h) = absurd (cc)
stops_by e.BadKey run earlier new a b prefix (inr h) = h
stops_by e.NotLinked run earlier new a b prefix (inl h) = absurd (cc)
stops_by e.NotLinked run earlier new a b prefix (inr h) = h
stops_by e.AlreadyLinked run earlier new a b prefix (inl h) = absurd (cc)
stops_by e.AlreadyLinked run earlier new a b prefix (inr h) = h
stops_by e.NothingThere run earlier new a b prefix (inl h) = absurd (cc)
stops_by e.NothingThere run earlier new a b prefix (inr h) = h
stops_by e.NotAsked run earlier new a b prefix (inl h) = absurd (cc)
stops_by e.NotAsked run earlier new a b prefix (inr h) = h
stops_by e.NotSettled run earlier new a b prefix (inl h) = absurd (cc)
stops_by e.NotSettled run earlier new a b prefix (inr h) = h
stops_by e.NotSamples run earlier new a b prefix (inl h) = absurd (cc)
stops_by e.NotSamples run earlier new a b prefix (inr h) = h
stops_by e.NotJoined run earlier new a b prefix (inl h) = absurd (cc)
stops_by e.NotJoined run earlier new a b prefix (inr h) = h
stops_by e.Limit run earlier new a b prefix (inl h) = absurd (cc)
stops_by e.Limit run earlier new a b prefix (inr h) = h
stops_by e.NoMemory run earlier new a b prefix h = prefix

-- an error that was answered is what is said, or memory ran out
pub error_is_said : {X : Type 0} (error : ScriptError) (said : Result X ScriptError) → IsSaid {X = X} (Err error) said → (error ≡ e.NoMemory) ⊎ (said ≡ Err error)
error_is_said e.UnknownCommand said h = inr h
error_is_said e.BadWords said h = inr h
error_is_said e.UnknownName said h = inr h
error_is_said e.NameTaken said h = inr h
error_is_said e.BadKey said h = inr h
error_is_said e.NotLinked said h = inr h
error_is_said e.AlreadyLinked said h = inr h
error_is_said e.NothingThere said h = inr h
error_is_said e.NotAsked said h = inr h
error_is_said e.NotSettled said h = inr h
error_is_said e.NotSamples said h = inr h
error_is_said e.NotJoined said h = inr h
error_is_said e.Limit said h = inr h
error_is_said e.NoMemory said h = inl refl

-- so is that of an act
error_of_act : (error : ScriptError) (said : Outcome) (applied : ℕ) (old new : Living) (before after : List ReportLine) → Applies (Err error) said applied old new before after →
    (error ≡ e.NoMemory) ⊎ (said ≡ Err error)
error_of_act e.UnknownCommand said applied old new before after h = inr h.0
error_of_act e.BadWords said applied old new before after h = inr h.0
error_of_act e.UnknownName said applied old new before after h = inr h.0
error_of_act e.NameTaken said applied old new before after h = inr h.0
error_of_act e.BadKey said applied old new before after h = inr h.0
error_of_act e.NotLinked said applied old new before after h = inr h.0
error_of_act e.AlreadyLinked said applied old new before after h = inr h.0
error_of_act e.NothingThere said applied old new before after h = inr h.0
error_of_act e.NotAsked said applied old new before after h = inr h.0
error_of_act e.NotSettled said applied old new before after h = inr h.0
error_of_act e.NotSamples said applied old new before after h = inr h.0
error_of_act e.NotJoined said applied old new before after h = inr h.0
error_of_act e.Limit said applied old new before after h = inr h.0
error_of_act e.NoMemory said applied old new before after h = inl refl

-- ---- what was done, of an act or of a fan

-- it was refused, or memory ran out at it
pub done_stops : (k m : Kept) (said : Done) (applied : ℕ) (world : Living) (before after : List ReportLine) (a : Option (List ℕ)) (error : ScriptError) →
    Applies (Err error) said applied k.world world before after → m.number ≡ k.number → m.pending ≡ k.pending →
    Stopped (stop_of error) (run_behind k said) k.pending m a a
done_stops k m said applied world before after a error applies number pending =
    stops_by error (run_behind k said) k.pending m a a (prefix_none (k.pending ++ (run_behind k said).text) a) (by (error_of_act error said applied k.world world before after applies))
  where
    by : (error ≡ e.NoMemory) ⊎ (said ≡ Err error) →
        (error ≡ e.NoMemory) ⊎ (((run_behind k said).refusal ≡ Some error) × (m.number ≡ (run_behind k said).number) × Written (k.pending ++ (run_behind k said).text) m.pending a a)
    by (inl h) = inl h
    by (inr h) =
        let run : run_behind k said ≡ run_behind k (Err error) = ap (λ o. run_behind k o) h in
        inr (subst (λ (r : Run). (r.refusal ≡ Some error) × (m.number ≡ r.number) × Written (k.pending ++ r.text) m.pending a a) (sym run)
        (refl, number, subst (λ (z : List ℕ). Written (k.pending ++ []) z a a) (sym pending) (nothing_said k.pending a)))

-- an act that was done: its run has the world and the text of the report lines that came
done_is : (k : Kept) (said : Done) (applied : ℕ) (world : Living) (report : List ReportLine) (u : Unit {0}) → Applies (Ok u) said applied k.world world [] report →
    (run_behind k said ≡ record { world = world.state; number = k.number; text = flat_map line_text report; refusal = None }) × (world ≡ alive world.state world.applied)
done_is k said applied world report u applies = by said applies
  where
    by : (o : Outcome) → Applies (Ok u) o applied k.world world [] report →
        (run_behind k o ≡ record { world = world.state; number = k.number; text = flat_map line_text report; refusal = None }) × (world ≡ alive world.state world.applied)
    by (Ok x) h =
        let there : world ≡ alive x.1 applied = h.0.0 in
        let state : x.1 ≡ world.state = sym (ap (λ (w : Living). w.state) there) in
        let count : applied ≡ world.applied = sym (ap (λ (w : Living). w.applied) there) in
        let lines : x.0 ≡ report = sym h.0.1 in
        (λ i. record { world = state i; number = k.number; text = flat_map line_text (lines i); refusal = None }, there ∙ (λ i. alive (state i) (count i)))
    by (Err error) h = absurd (false≢true h.1)

-- what was done is a turn, where its text was written as far as it doesn't wait
pub done_turns : (k m : Kept) (said : Done) (applied : ℕ) (report : List ReportLine) (a b : Option (List ℕ)) (u : Unit {0}) → Applies (Ok u) said applied k.world m.world [] report →
    m.number ≡ k.number → m.line ≡ k.line → Written (k.pending ++ flat_map line_text report) m.pending a b → IsAt (run_behind k said) k.line k.pending m a b
done_turns k m said applied report a b u applies number line written =
    let done = done_is k said applied m.world report u applies in
    subst (λ (r : Run). IsAt r k.line k.pending m a b) (sym done.0) (record { world = done.1; number = number; line_is = line; refusal = refl; text = written })

-- a write failed behind it
pub done_fails : (k : Kept) (said : Done) (applied : ℕ) (world : Living) (report : List ReportLine) (a b : Option (List ℕ)) (u : Unit {0}) → Applies (Ok u) said applied k.world world [] report →
    AppendsPrefix (k.pending ++ flat_map line_text report) a b → AppendsPrefix (k.pending ++ (run_behind k said).text) a b
done_fails k said applied world report a b u applies out =
    subst (λ (r : Run). AppendsPrefix (k.pending ++ r.text) a b) (sym (done_is k said applied world report u applies).0) out

-- ---- one act

pub act_stops : (k m : Kept) (act : Act) (world : Living) (before after : List ReportLine) (a : Option (List ℕ)) (error : ScriptError) →
    Applies (Err error) (outcome k.world.state k.number act) (k.world.applied + 1) k.world world before after → m.number ≡ k.number → m.pending ≡ k.pending →
    Stopped (stop_of error) (run_by k act) k.pending m a a
act_stops k m act = done_stops k m (outcome k.world.state k.number act) (k.world.applied + 1)

pub act_turns : (k m : Kept) (act : Act) (report : List ReportLine) (a b : Option (List ℕ)) (u : Unit {0}) → Applies (Ok u) (outcome k.world.state k.number act) (k.world.applied + 1) k.world m.world [] report →
    m.number ≡ k.number → m.line ≡ k.line → Written (k.pending ++ flat_map line_text report) m.pending a b → IsAt (run_by k act) k.line k.pending m a b
act_turns k m act = done_turns k m (outcome k.world.state k.number act) (k.world.applied + 1)

pub act_fails : (k : Kept) (act : Act) (world : Living) (report : List ReportLine) (a b : Option (List ℕ)) (u : Unit {0}) → Applies (Ok u) (outcome k.world.state k.number act) (k.world.applied + 1) k.world world [] report →
    AppendsPrefix (k.pending ++ flat_map line_text report) a b → AppendsPrefix (k.pending ++ (run_by k act).text) a b
act_fails k act = done_fails k (outcome k.world.state k.number act) (k.world.applied + 1)

-- ---- texts that wait only where the report is written

pub tells_written : (o : Option Counts) (p t q r : List ℕ) (a b : Option (List ℕ)) → (is_none o ≡ true → q ≡ p ++ t) → Written q r a b →
    Written (p ++ t) r (seen (is_none o) a) (seen (is_none o) b)
tells_written None p t q r a b is h = subst (λ (z : List ℕ). Written z r a b) (is refl) h
tells_written (Some c) p t q r a b is h = tt

pub tells_prefix : (o : Option Counts) (p t q : List ℕ) (a b : Option (List ℕ)) → (is_none o ≡ true → q ≡ p ++ t) → AppendsPrefix q a b →
    AppendsPrefix (p ++ t) (seen (is_none o) a) (seen (is_none o) b)
tells_prefix None p t q a b is h = subst (λ (z : List ℕ). AppendsPrefix z a b) (is refl) h
tells_prefix (Some c) p t q a b is h = tt
