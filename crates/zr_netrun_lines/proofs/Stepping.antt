-- A run is fed step by step, as a piece is fed line by line. At each step what is kept is the world of a run so far (`IsRunning`): the
-- report lines so far are behind what waited before, and with what the steps that are left come to they are what the whole run says (`IsAhead`).
-- `starts` begins it where all its steps are possible, `goes_on` is a step that was done, `ends` the last line; `stops` is a step at which memory or a write failed.
use Rattle.std.proofs.Common.{◌≡◌, ℕ, zero, suc, ◌+◌, ◌<◌, ◌≤◌, Bool, true, false, cond, List, [], ◌∷◌, ◌++◌, Option, Some, None, Result, Ok, Err, refl, sym, ap, ◌∙◌, ◌⊎◌, inl, inr, append_assoc, append-nil, arith, subst}
use Rattle.std.specs.Prelude.{nat_le, is_none, is_ok, IfOk}
use Rattle.std.specs.List.{flat_map}
use Rattle.std.proofs.lemmas.Bool.{true≢false, false≢true, leb-true}
use Rattle.std.proofs.lemmas.Grind.{flat_map-append}
use Rattle.zr_script_spec.specs.declared.error.ScriptError.{ScriptError}
use Rattle.zr_script_spec.specs.declared.error.ScriptError.TheVariants as e
use Rattle.zr_script_spec.specs.declared.command.Act.{Act}
use Rattle.zr_script_spec.specs.declared.command.Command.{Command}
use Rattle.zr_script_spec.specs.declared.command.Command.TheVariants as c
use Rattle.zr_script_spec.specs.declared.report.ReportLine.{ReportLine}
use Rattle.zr_script_spec.specs.declared.report.ReportLine.TheVariants.{Ran}
use Rattle.zr_script_spec.specs.Step.{◌>>=◌, IsSaid}
use Rattle.zr_lists.specs.Prefix.{IsPrefixOf}
use Rattle.zr_script_spec.specs.Command.{command_of}
use Rattle.zr_script_spec.specs.Report.{line_text}
use Rattle.zr_world_spec.specs.World.{WorldState, most_steps}
use Rattle.zr_world_spec.specs.Acts.{Outcome, outcome}
use Rattle.zr_world_spec.specs.Next.{Done, next, world_after, with_more, run_steps, all_done, booking, book_step, fan_step, applied}
use Rattle.zr_world_spec.specs.Run.{Run, stepped, commanded, on_line}
use Rattle.zr_world_spec.proofs.Counting.{recounted, steps_recounted, done_recounted}
use Rattle.zr_world_spec.proofs.Next.{one_act, one_fan, behind, IsAhead, ahead_at_start, ahead_by_step, closes, ran, applied_run, run_ends, run_prefix, run_refused}
use Rattle.zr_outside.specs.Told.{AppendsPrefix}
use Rattle.zr_outside.proofs.Appending.{prefix_none, prefix_more}
use Rattle.zr_world.specs.Living.{Living, alive, Books}
use Rattle.zr_netrun_report.specs.Waiting.{Written}
use Rattle.zr_netrun_lines.specs.declared.runner.RunStop.{RunStop}
use Rattle.zr_netrun_lines.specs.declared.runner.RunStop.TheVariants.{Refused, NoMemory, WriteFault}
use Rattle.zr_netrun_lines.specs.Possible.{RunsGo}
use Rattle.zr_netrun_lines.specs.Kept.{Kept, writes, seen, fresh, run_behind, run_by, IsAt, Stopped, Turns, StepsOn, stop_of}
use Rattle.zr_netrun_lines.proofs.Runs.{with_text}
use Rattle.zr_netrun_lines.proofs.Writing.{turn_behind, nothing_said, written_prefix}
use Rattle.zr_netrun_lines.proofs.Acting.{stops_by, error_is_said}

-- ---- a line, by what it asks

-- the line has been counted
abbrev pub counted : Kept → Kept
counted k = record { world = k.world; number = k.number + 1; line = k.line; pending = k.pending; counts = k.counts }

-- a line that asks nothing is only counted
pub silent_turns : (k m : Kept) (line : List ℕ) (a : Option (List ℕ)) → k.world.spent ≡ false → command_of line ≡ Ok None → m ≡ counted k →
    IsAt (on_line (fresh k) line) k.line k.pending m a a
silent_turns k m line a living silent same =
    let run : on_line (fresh k) line ≡ fresh (counted k) = ap (commanded (fresh k)) silent in
    subst (λ (r : Run). IsAt r k.line k.pending m a a) (sym run) (subst (λ (z : Kept). IsAt (fresh (counted k)) k.line k.pending z a a) (sym same) (record {
      world = λ i. record { state = k.world.state; applied = k.world.applied; spent = living i };
      number = refl;
      line_is = refl;
      refusal = refl;
      text = nothing_said k.pending a;
    }))

-- a line that is refused as it is read, or memory ran out there
pub reading_stops : (k m : Kept) (line l : List ℕ) (a : Option (List ℕ)) (error : ScriptError) → IsSaid {X = Option Command} (Err error) (command_of line) → m ≡ counted k →
    Turns (Err (stop_of error)) (on_line (fresh k) line) l k.pending m a a
reading_stops k m line l a error said same =
    stops_by error (on_line (fresh k) line) k.pending m a a (prefix_none (k.pending ++ (on_line (fresh k) line).text) a) (by (error_is_said error (command_of line) said))
  where
    by : (error ≡ e.NoMemory) ⊎ (command_of line ≡ Err error) → (error ≡ e.NoMemory)
        ⊎ (((on_line (fresh k) line).refusal ≡ Some error) × (m.number ≡ (on_line (fresh k) line).number) × Written (k.pending ++ (on_line (fresh k) line).text) m.pending a a)
    by (inl h) = inl h
    by (inr h) =
        let run : on_line (fresh k) line ≡ run_behind (counted k) (Err error) = ap (commanded (fresh k)) h in
        inr (subst (λ (r : Run). (r.refusal ≡ Some error) × (m.number ≡ r.number) × Written (k.pending ++ r.text) m.pending a a) (sym run)
        (refl, ap (λ (z : Kept). z.number) same, subst (λ (z : List ℕ). Written (k.pending ++ []) z a a) (sym (ap (λ (z : Kept). z.pending) same)) (nothing_said k.pending a)))

-- what its command did is what the line did
pub line_turns : (k n m : Kept) (line : List ℕ) (command : Command) (a b : Option (List ℕ)) (result : Result (Unit {0}) RunStop) → command_of line ≡ Ok (Some command) → n ≡ counted k →
    Turns result (run_behind n (applied n.world.state n.number command)) n.line n.pending m (seen (writes n) a) (seen (writes n) b) →
    Turns result (on_line (fresh k) line) k.line k.pending m (seen (writes k) a) (seen (writes k) b)
line_turns k n m line command a b result asks same turn =
    let run : on_line (fresh k) line ≡ run_behind (counted k) (applied k.world.state (k.number + 1) command) = ap (commanded (fresh k)) asks ∙ by (applied k.world.state (k.number + 1) command) in
    subst (λ (r : Run). Turns result r k.line k.pending m (seen (writes k) a) (seen (writes k) b)) (sym run)
    (subst (λ (z : Kept). Turns result (run_behind z (applied z.world.state z.number command)) z.line z.pending m (seen (writes z) a) (seen (writes z) b)) same turn)
  where
    by : (d : Done) → stepped (fresh k) d ≡ run_behind (counted k) d
    by (Ok x) = refl
    by (Err e) = refl

-- so did its one act
pub act_line_turns : (k n m : Kept) (line : List ℕ) (act : Act) (a b : Option (List ℕ)) (result : Result (Unit {0}) RunStop) → command_of line ≡ Ok (Some (c.Act act)) → n ≡ counted k →
    Turns result (run_by n act) n.line n.pending m (seen (writes n) a) (seen (writes n) b) →
    Turns result (on_line (fresh k) line) k.line k.pending m (seen (writes k) a) (seen (writes k) b)
act_line_turns k n m line act a b result asks same turn =
    line_turns k n m line (c.Act act) a b result asks same
    (subst (λ (d : Done). Turns result (run_behind n d) n.line n.pending m (seen (writes n) a) (seen (writes n) b)) (sym (one_act n.world.state n.number act)) turn)

-- so did its fan
pub fan_line_turns : (k n m : Kept) (line : List ℕ) (a b : Option (List ℕ)) (result : Result (Unit {0}) RunStop) → command_of line ≡ Ok (Some c.Fan) → n ≡ counted k →
    Turns result (run_behind n (fan_step n.world.state n.number)) n.line n.pending m (seen (writes n) a) (seen (writes n) b) →
    Turns result (on_line (fresh k) line) k.line k.pending m (seen (writes k) a) (seen (writes k) b)
fan_line_turns k n m line a b result asks same turn =
    line_turns k n m line c.Fan a b result asks same
    (subst (λ (d : Done). Turns result (run_behind n d) n.line n.pending m (seen (writes n) a) (seen (writes n) b)) (sym (one_fan n.world.state n.number)) turn)

-- ---- a run's last line

-- it waits, and was written as far as it doesn't wait
pub end_turns : (k m : Kept) (said : ReportLine) (a b : Option (List ℕ)) → k.world.spent ≡ false → m.world ≡ k.world → m.number ≡ k.number → m.line ≡ k.line →
    Written (k.pending ++ line_text said) m.pending a b → IsAt (run_behind k (Ok (said ∷ [], k.world.state))) k.line k.pending m a b
end_turns k m said a b living world number line written = record {
  world = world ∙ (λ i. record { state = k.world.state; applied = (sym (ap (λ (w : Living). w.applied) world)) i; spent = living i });
  number = number;
  line_is = line;
  refusal = refl;
  text = subst (λ (z : List ℕ). Written (k.pending ++ z) m.pending a b) (sym (append-nil (line_text said))) written;
}

-- a write failed there
pub end_fails : (k : Kept) (said : ReportLine) (a b : Option (List ℕ)) → AppendsPrefix (k.pending ++ line_text said) a b →
    AppendsPrefix (k.pending ++ (run_behind k (Ok (said ∷ [], k.world.state))).text) a b
end_fails k said a b out = subst (λ (z : List ℕ). AppendsPrefix (k.pending ++ z) a b) (sym (append-nil (line_text said))) out

-- ---- a run

-- steps that could be counted were counted
counts : (said : Result WorldState ScriptError) (old new : Living) (u : Unit {0}) → Books (Ok u) said old new → (w : WorldState) × (said ≡ Ok w) × (new ≡ alive w old.applied)
counts (Ok w) old new u h = (w, refl, h.0)
counts (Err e) old new u h = absurd (false≢true h.1)

-- the steps of a run that begins once they were counted are possible, where they are before that
is_booked : (w start : WorldState) (steps : ℕ) → book_step w steps ≡ Ok start → start ≡ booking w steps
unfolding book_step
is_booked w start steps fits = by (nat_le (w.booked + steps) most_steps) fits
  where
    by : (b : Bool) → cond b (Ok (booking w steps)) (Err e.Limit) ≡ Ok start → start ≡ booking w steps
    by true h = cc
    by false h = absurd (false≢true (ap is_ok h))

-- as many as all runs may ask for
is_few : (w start : WorldState) (steps : ℕ) → book_step w steps ≡ Ok start → steps ≤ most_steps
unfolding book_step
is_few w start steps fits = by (nat_le (w.booked + steps) most_steps) refl fits
  where
    by : (b : Bool) → nat_le (w.booked + steps) most_steps ≡ b → cond b (Ok (booking w steps)) (Err e.Limit) ≡ Ok start → steps ≤ most_steps
    by true fit h = let room : w.booked + steps ≤ most_steps = leb-true (w.booked + steps) most_steps fit in omega arith
    by false fit h = absurd (false≢true (ap is_ok h))

booked_goes : (w start : WorldState) (line steps : ℕ) → RunsGo w → book_step w steps ≡ Ok start → is_ok (ran line steps start) ≡ true
booked_goes w start line steps goes fits =
    ap (λ v. is_ok (ran line steps v)) (is_booked w start steps fits)
    ∙ ap (λ z. is_ok (all_done (booking w steps) line z)) (steps_recounted line steps w (w.booked + steps))
    ∙ ap is_ok (done_recounted line (run_steps line steps w) w (w.booked + steps)) ∙ same (all_done w line (run_steps line steps w)) ∙ goes line steps (is_few w start steps fits)
  where
    same : (d : Done) → is_ok (recounted (w.booked + steps) d) ≡ is_ok d
    same (Ok x) = refl
    same (Err x) = refl

pub record IsRunning (k0 : Kept) (steps done : ℕ) (k : Kept) (a b : Option (List ℕ)) : Type 0 where
  pub start : WorldState
  pub fits : book_step k0.world.state steps ≡ Ok start
  pub goes : is_ok (ran k0.number steps start) ≡ true
  pub left : ℕ
  pub sum : done + left ≡ steps
  pub lines : List ReportLine
  pub ahead : IsAhead k0.number steps start done left k.world.state lines
  pub at : IsAt (run_behind k0 (Ok (lines, k.world.state))) k0.line k0.pending k a b

-- a step that was done: what was said of it, and the world after it
pub record IsStep (k0 k : Kept) (step : Act) (x : List ReportLine × WorldState) : Type 0 where
  pub is_next : next k.world.state ≡ Some step
  pub is_done : outcome k.world.state k0.number step ≡ Ok x
  pub is_all : outcome k.world.state k.number step ≡ Ok x

-- where steps are left there is a next one to count
pub one_left : (done left steps : ℕ) → done + left ≡ steps → done < steps → (more : ℕ) × (left ≡ suc more)
one_left done zero steps sum less = absurd (omega arith)
one_left done (suc more) steps sum less = (more, refl)

-- where all steps that are left are possible, the first one is
first_goes : (line more : ℕ) (w : WorldState) (step : Act) → next w ≡ Some step → is_ok (ran line (suc more) w) ≡ true → (x : List ReportLine × WorldState) × (outcome w line step ≡ Ok x)
unfolding run_steps
first_goes line more w step is_next goes =
    by (outcome w line step) (subst (λ (o : Option Act). is_ok (all_done w line (with_more o (λ s. run_steps line more (world_after w (outcome w line s))))) ≡ true) is_next goes)
  where
    rest : List Act
    rest = run_steps line more (world_after w (outcome w line step))

    others : List ReportLine × WorldState → Done
    others x = all_done x.1 line rest >>= (λ y. Ok (x.0 ++ y.0, y.1))

    by : (o : Outcome) → is_ok (o >>= others) ≡ true → (x : List ReportLine × WorldState) × (o ≡ Ok x)
    by (Ok x) h = (x, refl)
    by (Err x) h = absurd (false≢true h)

-- what is left of a run that is possible is possible
rest_goes : (lines : List ReportLine) (d : Done) → is_ok (behind lines d) ≡ true → is_ok d ≡ true
rest_goes lines (Ok y) h = refl
rest_goes lines (Err x) h = h

-- the step that is next is possible
pub the_step : (k0 k : Kept) (steps done : ℕ) (a b : Option (List ℕ)) (step : Act) (h : IsRunning k0 steps done k a b) (more : ℕ) → h.left ≡ suc more → next k.world.state ≡ Some step →
    (x : List ReportLine × WorldState) × IsStep k0 k step x
the_step k0 k steps done a b step h more is_left is_next =
    let left : is_ok (ran k0.number h.left k.world.state) ≡ true = rest_goes h.lines (ran k0.number h.left k.world.state) (ap is_ok (sym h.ahead.comes) ∙ h.goes) in
    let x = first_goes k0.number more k.world.state step is_next (subst (λ (n : ℕ). is_ok (ran k0.number n k.world.state) ≡ true) is_left left) in (
      x.0,
      record {
        is_next = is_next;
        is_done = x.1;
        is_all = ap (λ n. outcome k.world.state n step) h.at.number ∙ x.1;
      },
    )

module _ (k0 : Kept) (steps : ℕ) (a : Option (List ℕ)) where
  -- the whole run, as it is defined
  abbrev pub whole : Done
  whole = applied k0.world.state k0.number (c.Run steps)

  -- the steps could not be counted
  pub begins_not : (m : Kept) (l : List ℕ) (error : ScriptError) → Books (Err error) (book_step k0.world.state steps) k0.world m.world →
      m ≡ record { world = m.world; number = k0.number; line = k0.line; pending = k0.pending; counts = k0.counts } → Turns (Err (stop_of error)) (run_behind k0 whole) l k0.pending m a a
  begins_not m l error h same =
      let run : whole ≡ Err error = run_refused k0.number steps k0.world.state error h.0 in
      subst (λ (d : Done). Stopped (stop_of error) (run_behind k0 d) k0.pending m a a) (sym run)
      (stops_by error (run_behind k0 (Err error)) k0.pending m a a (prefix_none (k0.pending ++ []) a) (inr (
        refl,
        ap (λ (z : Kept). z.number) same,
        subst (λ (z : List ℕ). Written (k0.pending ++ []) z a a) (sym (ap (λ (z : Kept). z.pending) same)) (nothing_said k0.pending a),
      )))

  -- they were counted
  pub starts : (m : Kept) (u : Unit {0}) → RunsGo k0.world.state → Books (Ok u) (book_step k0.world.state steps) k0.world m.world →
      m ≡ record { world = m.world; number = k0.number; line = k0.line; pending = k0.pending; counts = k0.counts } → IsRunning k0 steps 0 m a a
  starts m u goes h same =
      let w = counts (book_step k0.world.state steps) k0.world m.world u h in
      let now : m ≡ record { world = alive w.0 k0.world.applied; number = k0.number; line = k0.line; pending = k0.pending; counts = k0.counts } =
      same ∙ ap (λ (z : Living). record { world = z; number = k0.number; line = k0.line; pending = k0.pending; counts = k0.counts }) w.2 in
      subst (λ (z : Kept). IsRunning k0 steps 0 z a a) (sym now) (record {
        start = w.0;
        fits = w.1;
        goes = booked_goes k0.world.state w.0 k0.number steps goes w.1;
        left = steps;
        sum = omega arith;
        lines = [];
        ahead = ahead_at_start k0.number steps w.0;
        at = record { world = refl; number = refl; line_is = refl; refusal = refl; text = nothing_said k0.pending a };
      })

  -- what the loop asks of the world that is kept
  pub lives : (done : ℕ) (k : Kept) (b : Option (List ℕ)) → IsRunning k0 steps done k a b → k.world.spent ≡ false
  lives done k b h = ap (λ (w : Living). w.spent) h.at.world

  -- the text so far, and that of one more part
  text_more : (lines more : List ReportLine) (p : List ℕ) (b : Option (List ℕ)) → Written (k0.pending ++ (flat_map line_text lines ++ flat_map line_text more)) p a b →
      Written (k0.pending ++ flat_map line_text (lines ++ more)) p a b
  text_more lines more p b h = subst (λ (z : List ℕ). Written (k0.pending ++ z) p a b) (sym (flat_map-append line_text lines more)) h

  -- what a step did, behind the run so far
  step_behind : (done : ℕ) (k m : Kept) (b c : Option (List ℕ)) (step : Act) (x : List ReportLine × WorldState) (more : ℕ) (h : IsRunning k0 steps done k a b) → h.left ≡ suc more →
      IsStep k0 k step x → IsAt (run_by k step) k.line k.pending m b c → IsRunning k0 steps (done + 1) m a c
  step_behind done k m b c step x more h is_left s turn =
      let here : IsAt (run_behind k (Ok x)) k.line k.pending m b c = subst (λ (d : Done). IsAt (run_behind k d) k.line k.pending m b c) s.is_all turn in
      let both : IsAt (with_text (flat_map line_text h.lines) (run_behind k (Ok x))) k.line k0.pending m a c =
      turn_behind (flat_map line_text h.lines) k0.pending (run_behind k (Ok x)) k.line k.pending m a b c (Ok tt) h.at.text here in
      let state : m.world.state ≡ x.1 = ap (λ (z : Living). z.state) both.world in
      let spent : m.world.spent ≡ false = ap (λ (z : Living). z.spent) both.world in
      record {
        start = h.start;
        fits = h.fits;
        goes = h.goes;
        left = more;
        sum = let sum : done + h.left ≡ steps = h.sum in omega arith;
        lines = h.lines ++ x.0;
        ahead = subst (λ (w : WorldState). IsAhead k0.number steps h.start (done + 1) more w (h.lines ++ x.0)) (sym state)
            (ahead_by_step k0.number steps h.start done h.left more k.world.state h.lines step x h.ahead is_left s.is_next s.is_done);
        at = record {
          world = λ i. record { state = m.world.state; applied = m.world.applied; spent = spent i };
          number = both.number ∙ h.at.number;
          line_is = both.line_is ∙ h.at.line_is;
          refusal = refl;
          text = text_more h.lines x.0 m.pending c both.text;
        };
      }

  -- a step was done
  pub goes_on : (done : ℕ) (k m : Kept) (b c : Option (List ℕ)) → IsRunning k0 steps done k a b → done < steps → StepsOn (next k.world.state) (Ok true) k m b c →
      IsRunning k0 steps (done + 1) m a c
  goes_on done k m b c h less moves = by (next k.world.state) refl moves
    where
      by : (o : Option Act) → next k.world.state ≡ o → StepsOn o (Ok true) k m b c → IsRunning k0 steps (done + 1) m a c
      by None e t = absurd (true≢false t.0)
      by (Some step) e t =
          let l = one_left done h.left steps h.sum less in
          let s = the_step k0 k steps done a b step h l.0 l.1 e in
          step_behind done k m b c step s.0 l.0 h l.1 s.1 t.1

  -- no step is possible any more
  pub rests : (done : ℕ) (k m : Kept) (b c : Option (List ℕ)) → IsRunning k0 steps done k a b → StepsOn (next k.world.state) (Ok false) k m b c →
      IsRunning k0 steps done m a c × (next m.world.state ≡ None)
  rests done k m b c h moves = by (next k.world.state) refl moves
    where
      by : (o : Option Act) → next k.world.state ≡ o → StepsOn o (Ok false) k m b c → IsRunning k0 steps done m a c × (next m.world.state ≡ None)
      by None e t = (
        subst (λ (z : Option (List ℕ)). IsRunning k0 steps done m a z) (sym t.2) (subst (λ (z : Kept). IsRunning k0 steps done z a b) (sym t.1) h),
        ap (λ (z : Kept). next z.world.state) t.1 ∙ e,
      )
      by (Some step) e t = absurd (false≢true t.0)

  -- what a run whose steps were counted comes to
  whole_is : (start : WorldState) → is_ok (ran k0.number steps start) ≡ true → book_step k0.world.state steps ≡ Ok start → (y : List ReportLine × WorldState) × (whole ≡ Ok y)
  whole_is start goes fits = by (ran k0.number steps start) goes (applied_run k0.number steps k0.world.state start fits)
    where
      by : (d : Done) → is_ok d ≡ true → whole ≡ (d >>= closes k0.number steps start) → (y : List ReportLine × WorldState) × (whole ≡ Ok y)
      by (Ok x) h e = (_, e)
      by (Err x) h e = absurd (false≢true h)

  -- a prefix of the text so far and of a further step is a prefix of what the whole run says
  prefix_of : (start : WorldState) (done left : ℕ) (w : WorldState) (lines more : List ReportLine) (b c : Option (List ℕ)) (p : List ℕ) → is_ok (ran k0.number steps start) ≡ true →
      book_step k0.world.state steps ≡ Ok start → IsAhead k0.number steps start done left w (lines ++ more) →
      Written (k0.pending ++ flat_map line_text lines) p a b → AppendsPrefix (p ++ flat_map line_text more) b c → AppendsPrefix (k0.pending ++ (run_behind k0 whole).text) a c
  prefix_of start done left w lines more b c p goes fits ahead written out =
      let y = whole_is start goes fits in
      let rest : IsPrefixOf (lines ++ more) y.0.0 =
      subst (λ (d : Done). IfOk d (λ x. IsPrefixOf (lines ++ more) x.0)) y.1 (run_prefix k0.number steps k0.world.state start done left w (lines ++ more) fits ahead) in
      let t : List ℕ = flat_map line_text lines in
      let s : List ℕ = flat_map line_text more in
      let r : List ℕ = flat_map line_text rest.0 in
      let text : (run_behind k0 whole).text ≡ (t ++ s) ++ r =
      ap (λ (d : Done). (run_behind k0 d).text) y.1 ∙ ap (flat_map line_text) rest.1 ∙ flat_map-append line_text (lines ++ more) rest.0 ∙ ap (λ z. z ++ r) (flat_map-append line_text lines more) in
      let joined : ((k0.pending ++ t) ++ s) ++ r ≡ k0.pending ++ (run_behind k0 whole).text =
      ap (λ z. z ++ r) (append_assoc k0.pending t s) ∙ append_assoc k0.pending (t ++ s) r ∙ ap (λ z. k0.pending ++ z) (sym text) in
      subst (λ (z : List ℕ). AppendsPrefix z a c) joined
      (prefix_more ((k0.pending ++ t) ++ s) r a c (written_prefix (k0.pending ++ t) p s a b c written out))

  -- memory or a write failed at a step
  pub stops : (done : ℕ) (k m : Kept) (l : List ℕ) (b c : Option (List ℕ)) (stop : RunStop) → IsRunning k0 steps done k a b → done < steps →
      StepsOn (next k.world.state) (Err stop) k m b c → Turns (Err stop) (run_behind k0 whole) l k0.pending m a c
  stops done k m l b c stop h less moves = by (next k.world.state) refl moves
    where
      at_step : (step : Act) (x : List ReportLine × WorldState) → IsStep k0 k step x → (more : ℕ) → h.left ≡ suc more → (stop : RunStop) →
          Stopped stop (run_behind k (Ok x)) k.pending m b c → Stopped stop (run_behind k0 whole) k0.pending m a c
      at_step step x s more is_left (Refused e) t = absurd (cc (t.0))
      at_step step x s more is_left NoMemory t =
          prefix_of h.start (done + 1) more x.1 h.lines x.0 b c k.pending h.goes h.fits
          (ahead_by_step k0.number steps h.start done h.left more k.world.state h.lines step x h.ahead is_left s.is_next s.is_done) h.at.text t
      at_step step x s more is_left WriteFault t =
          prefix_of h.start (done + 1) more x.1 h.lines x.0 b c k.pending h.goes h.fits
          (ahead_by_step k0.number steps h.start done h.left more k.world.state h.lines step x h.ahead is_left s.is_next s.is_done) h.at.text t

      by : (o : Option Act) → next k.world.state ≡ o → StepsOn o (Err stop) k m b c → Stopped stop (run_behind k0 whole) k0.pending m a c
      by None e t = absurd t
      by (Some step) e t =
          let left = one_left done h.left steps h.sum less in
          let s = the_step k0 k steps done a b step h left.0 left.1 e in
          at_step step s.0 s.1 left.0 left.1 stop (subst (λ (d : Done). Stopped stop (run_behind k d) k.pending m b c) s.1.is_all t)

  -- the run's last line was said
  pub ends : (done : ℕ) (k m : Kept) (b c : Option (List ℕ)) (result : Result (Unit {0}) RunStop) → IsRunning k0 steps done k a b → (next k.world.state ≡ None) ⊎ (done ≡ steps) →
      Turns result (run_behind k (Ok (Ran done (is_none (next k.world.state)) ∷ [], k.world.state))) k.line k.pending m b c → Turns result (run_behind k0 whole) k0.line k0.pending m a c
  ends done k m b c result h why turn =
      let last : List ReportLine = Ran done (is_none (next k.world.state)) ∷ [] in
      let all : whole ≡ Ok (h.lines ++ last, k.world.state) = run_ends k0.number steps k0.world.state h.start done h.left k.world.state h.lines h.fits h.ahead (none_left why) in
      let both : Turns result (with_text (flat_map line_text h.lines) (run_behind k (Ok (last, k.world.state)))) k.line k0.pending m a c =
      turn_behind (flat_map line_text h.lines) k0.pending (run_behind k (Ok (last, k.world.state))) k.line k.pending m a b c result h.at.text turn in
      let same : with_text (flat_map line_text h.lines) (run_behind k (Ok (last, k.world.state))) ≡ run_behind k0 (Ok (h.lines ++ last, k.world.state)) =
      λ i. record { world = k.world.state; number = h.at.number i; text = (sym (flat_map-append line_text h.lines last)) i; refusal = None } in
      subst (λ (d : Done). Turns result (run_behind k0 d) k0.line k0.pending m a c) (sym all)
      (subst (λ (z : List ℕ). Turns result (run_behind k0 (Ok (h.lines ++ last, k.world.state))) z k0.pending m a c) h.at.line_is
      (subst (λ (r : Run). Turns result r k.line k0.pending m a c) same both))
    where
      none_left : (next k.world.state ≡ None) ⊎ (done ≡ steps) → (next k.world.state ≡ None) ⊎ (h.left ≡ 0)
      none_left (inl e) = inl e
      none_left (inr e) = let sum : done + h.left ≡ steps = h.sum in inr (omega arith)
