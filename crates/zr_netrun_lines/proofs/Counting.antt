-- Counting goes on act by act (`act_counts`), with what was said of a moment's report. What is ahead is a list of accepted acts: of a
-- line, of a run, of a piece; each part that is done leaves the rest (`ahead_more`), until none is left.
use Rattle.std.proofs.Common.{◌≡◌, ℕ, suc, ◌+◌, ◌-◌, ◌<◌, Bool, true, false, cond, not, List, [], ◌∷◌, ◌++◌, Option, Some, None, Result, Ok, Err, refl, sym, ap, ◌∙◌, ◌⊎◌, inl, append-nil, append_assoc, arith, subst}
use Rattle.std.specs.Prelude.{nat_le, is_some, is_none, IfOk, IfSome, OnOk, map}
use Rattle.std.specs.List.{count_by, fold, list_all}
use Rattle.std.specs.Option.{option_map}
use Rattle.std.proofs.lemmas.Bool.{false≢true, true≢false, and_parts}
use Rattle.std.proofs.lemmas.List.Sums.{fold-append, sum_by-append}
use Rattle.zr_script_spec.specs.declared.error.ScriptError.{ScriptError}
use Rattle.zr_script_spec.specs.declared.error.ScriptError.TheVariants.{Limit}
use Rattle.zr_script_spec.specs.declared.command.Act.{Act}
use Rattle.zr_script_spec.specs.declared.command.Act.TheVariants as a
use Rattle.zr_script_spec.specs.Step.{◌>>=◌}
use Rattle.zr_script_spec.specs.declared.command.Command.{Command}
use Rattle.zr_script_spec.specs.declared.command.Command.TheVariants as c
use Rattle.zr_script_spec.specs.declared.report.ReportLine.{ReportLine}
use Rattle.zr_script_spec.specs.declared.report.ReportLine.TheVariants as line
use Rattle.zr_script_spec.specs.Command.{command_of}
use Rattle.zr_world_spec.specs.World.{WorldState, Routers, with_booked, router_of, most_steps}
use Rattle.zr_world_spec.specs.Acts.{Outcome, outcome}
use Rattle.zr_world_spec.specs.Fan.{kinds_of, most_fan_steps, fanned}
use Rattle.zr_world_spec.specs.Next.{Done, next, run_steps, all_done, fan_steps, fan_step, booking, book_step}
use Rattle.zr_world_spec.specs.Run.{on_line}
use Rattle.zr_world_spec.specs.Moments.{Numbered, Moment, is_step, went, onward, then_at}
use Rattle.zr_world_spec.specs.Accepted.{entries, accepted_from}
use Rattle.zr_world_spec.proofs.Counting.{recounted, outcome_recounted, steps_recounted}
use Rattle.zr_world_spec.proofs.Next.{none_left, one_more}
use Rattle.zr_world_spec.proofs.Cases.{for_handle, for_take}
use Rattle.zr_world_spec.proofs.Lines.{all_steps, made, acts_lead, fan_led}
use Rattle.zr_world_spec.proofs.Sound.{said_first}
use Rattle.zr_world.specs.Living.{Living, Applies, Books}
use Rattle.zr_netrun_report.specs.declared.counts.Counts.{Counts}
use Rattle.zr_netrun_report.specs.Summary.{tells_handled, tells_taken, tells_sent, tells_mark, counts_in, counts_of}
use Rattle.zr_netrun_report.specs.Counted.{all_capped, with_kinds, with_taken, with_line, with_lines}
use Rattle.zr_netrun_lines.specs.declared.runner.RunStop.{RunStop}
use Rattle.zr_netrun_lines.specs.Kept.{Kept, fresh, Turns, StepsOn, run_behind}
use Rattle.zr_lists.proofs.Tests.{all_parts}
use Rattle.zr_netrun_lines.specs.Counted.{is_known, IsCounted, CountsAhead, CountsOn, acts_by, step_by}
use Rattle.zr_netrun_lines.proofs.Known.{KeepsNames, same_names, Goes, act_keeps, known_stay, counts_stay}
use Rattle.zr_netrun_lines.proofs.Stepping.{counted, IsRunning, IsStep, one_left, the_step}

-- ---- counts

abbrev plus : Counts → Counts → Counts
plus a b = record { handled = a.handled + b.handled; taken = a.taken + b.taken; sent = a.sent + b.sent; marks = a.marks + b.marks }

same_counts : (a b : Counts) → a.handled ≡ b.handled → a.taken ≡ b.taken → a.sent ≡ b.sent → a.marks ≡ b.marks → a ≡ b
same_counts a b h t s k = λ i. record { handled = h i; taken = t i; sent = s i; marks = k i }

-- one line
line_counted : (w : WorldState) (routers : Routers) (l : ReportLine) (t : Counts) → is_known w l ≡ true → with_line routers (all_capped t) l ≡ all_capped (plus t (counts_in routers (l ∷ [])))
line_counted w routers (line.Handled router from msg tag) t e = same_counts _ _ (omega arith) (omega arith) (omega arith) (omega arith)
line_counted w routers (line.Taken router to msg tag) t e = by (is_some (router_of routers to))
  where
    by : (b : Bool) → with_taken b (all_capped t) ≡ all_capped (plus t (record { handled = 0; taken = 0 + cond b 1 0; sent = 0 + cond (not b) 1 0; marks = 0 }))
    by true = same_counts _ _ (omega arith) (omega arith) (omega arith) (omega arith)
    by false = same_counts _ _ (omega arith) (omega arith) (omega arith) (omega arith)
line_counted w routers (line.Ran steps quiet) t e = same_counts _ _ (omega arith) (omega arith) (omega arith) (omega arith)
line_counted w routers (line.Fanned text steps kinds) t e = absurd (false≢true e)
line_counted w routers (line.Mark n) t e = same_counts _ _ (omega arith) (omega arith) (omega arith) (omega arith)
line_counted w routers (line.Show router) t e = same_counts _ _ (omega arith) (omega arith) (omega arith) (omega arith)
line_counted w routers (line.Record links) t e = same_counts _ _ (omega arith) (omega arith) (omega arith) (omega arith)
line_counted w routers (line.Parent root parent) t e = same_counts _ _ (omega arith) (omega arith) (omega arith) (omega arith)
line_counted w routers (line.Source source number decls) t e = same_counts _ _ (omega arith) (omega arith) (omega arith) (omega arith)

-- what is counted of two reports together
counts_append : (routers : Routers) (xs ys : List ReportLine) → counts_in routers (xs ++ ys) ≡ plus (counts_in routers xs) (counts_in routers ys)
counts_append routers xs ys = same_counts _ _
    (sum_by-append (λ x. cond (tells_handled x) 1 0) xs ys) (sum_by-append (λ x. cond (tells_taken routers x) 1 0) xs ys)
    (sum_by-append (λ x. cond (tells_sent routers x) 1 0) xs ys) (sum_by-append (λ x. cond (tells_mark x) 1 0) xs ys)

plus_assoc : (a b c : Counts) → plus (plus a b) c ≡ plus a (plus b c)
plus_assoc a b c = same_counts _ _ (omega arith) (omega arith) (omega arith) (omega arith)

-- lines that are counted one after another are all counted
lines_counted : (w : WorldState) (routers : Routers) (lines : List ReportLine) (t : Counts) → list_all (is_known w) lines ≡ true →
    with_lines routers (all_capped t) lines ≡ all_capped (plus t (counts_in routers lines))
lines_counted w routers [] t known = same_counts _ _ (omega arith) (omega arith) (omega arith) (omega arith)
lines_counted w routers (l ∷ ls) t known =
    let parts = and_parts (is_known w l) (list_all (is_known w) ls) known in
    ap (λ c. with_lines routers c ls) (line_counted w routers l t parts.0) ∙ lines_counted w routers ls (plus t (counts_in routers (l ∷ []))) parts.1
    ∙ ap all_capped (plus_assoc t (counts_in routers (l ∷ [])) (counts_in routers ls) ∙ ap (plus t) (sym (counts_append routers (l ∷ []) ls)))

-- ---- what is ahead

-- nothing is done yet
pub ahead_start : (k : Kept) (ahead : List Numbered) → CountsAhead k ahead ahead k
ahead_start k ahead = record { mode = refl; goes = λ m h. (m, refl, h) }

-- a part is done
pub ahead_more : (k l m : Kept) (ahead part left : List Numbered) → CountsAhead k ahead (part ++ left) l → CountsOn part l m → CountsAhead k ahead left m
ahead_more k l m ahead part left h next = record {
  mode = next.mode ∙ h.mode;
  goes = λ n is.
      let a = h.goes n is in
      let b = next.goes a.0 a.2 in
      (b.0, a.1 ∙ fold-append onward (Some a.0) part left ∙ ap (λ o. fold onward o left) b.1, b.2);
}

-- the rest is the same
pub ahead_as : (k l : Kept) (ahead left left' : List Numbered) → left ≡ left' → CountsAhead k ahead left l → CountsAhead k ahead left' l
ahead_as k l ahead left left' same h = subst (λ (xs : List Numbered). CountsAhead k ahead xs l) same h

-- the rest is done
pub ahead_all : (k l m : Kept) (ahead left : List Numbered) → CountsAhead k ahead left l → CountsOn left l m → CountsOn ahead k m
ahead_all k l m ahead left h next = ahead_more k l m ahead left [] (ahead_as k l ahead left (left ++ []) (sym (append-nil left)) h) next

-- neither the world nor what was counted is another
pub on_kept : (k m : Kept) → m.world ≡ k.world → m.counts ≡ k.counts → CountsOn [] k m
on_kept k m world counts = record {
  mode = ap is_none counts;
  goes = λ n is. (
    n,
    refl,
    record {
      world_is = subst (λ (w : Living). w.state ≡ with_booked n.world w.state.booked) (sym world) is.world_is;
      counts_are = subst (λ (o : Option Counts). IfSome o (λ x. x ≡ all_capped (counts_of n))) (sym counts) is.counts_are;
      known = is.known;
    },
  );
}

-- what was kept is another, of which the same holds
pub on_from : (k l m : Kept) (ahead : List Numbered) → l.world ≡ k.world → l.counts ≡ k.counts → CountsOn ahead l m → CountsOn ahead k m
on_from k l m ahead world counts h = ahead_all k l m ahead ahead (ahead_more k k l ahead [] ahead (ahead_start k ahead) (on_kept k l world counts)) h

-- what is kept now is another
pub on_to : (k l m : Kept) (ahead : List Numbered) → m.world ≡ l.world → m.counts ≡ l.counts → CountsOn ahead k l → CountsOn ahead k m
on_to k l m ahead world counts h = ahead_all k l m ahead [] h (on_kept l m world counts)

-- what waited was written
pub flush_counts : (k l m : Kept) (ahead : List Numbered) (result : Result (Unit {0}) RunStop) → m ≡ record { world = l.world; number = l.number; line = l.line; pending = []; counts = l.counts } →
    CountsOn ahead k l → OnOk result (CountsOn ahead k m)
flush_counts k l m ahead (Ok u) same h = on_to k l m ahead (ap (λ (z : Kept). z.world) same) (ap (λ (z : Kept). z.counts) same) h
flush_counts k l m ahead (Err e) same h = tt

-- the steps of a run were counted
booked_is : (old new : Living) (steps : ℕ) (u : Unit {0}) → Books (Ok u) (book_step old.state steps) old new → new.state ≡ booking old.state steps
unfolding book_step
booked_is old new steps u books = by (nat_le (old.state.booked + steps) most_steps) books
  where
    by : (b : Bool) → Books (Ok u) (cond b (Ok (booking old.state steps)) (Err Limit)) old new → new.state ≡ booking old.state steps
    by true h = ap (λ (z : Living). z.state) h.0
    by false h = absurd (false≢true h.1)

on_booked : (k m : Kept) (steps : ℕ) (u : Unit {0}) → Books (Ok u) (book_step k.world.state steps) k.world m.world → m.counts ≡ k.counts → CountsOn [] k m
on_booked k m steps u books counts = record {
  mode = ap is_none counts;
  goes = λ n is. (
    n,
    refl,
    record {
      world_is = at n is.world_is;
      counts_are = subst (λ (o : Option Counts). IfSome o (λ x. x ≡ all_capped (counts_of n))) (sym counts) is.counts_are;
      known = is.known;
    },
  );
}
  where
    at : (n : Moment) → k.world.state ≡ with_booked n.world k.world.state.booked → m.world.state ≡ with_booked n.world m.world.state.booked
    at n is =
        let all : m.world.state ≡ with_booked n.world (k.world.state.booked + steps) = booked_is k.world m.world steps u books ∙ ap (λ (z : WorldState). with_booked z (k.world.state.booked + steps)) is in
        all ∙ ap (with_booked n.world) (sym (ap (λ (z : WorldState). z.booked) all))

-- ---- an act

pub act_counts : (k m : Kept) (act : Act) (report : List ReportLine) (u : Unit {0}) → Applies (Ok u) (outcome k.world.state k.number act) (k.world.applied + 1) k.world m.world [] report →
    m.counts ≡ option_map (λ x. with_lines m.world.state.routers x report) k.counts → CountsOn (acts_by k (c.Act act)) k m
act_counts k m act report u applies counts = record {
  mode = ap is_none counts ∙ same k.counts;
  goes = λ n is.
      let said : outcome k.world.state k.number act ≡ recounted k.world.state.booked (outcome n.world k.number act) =
      ap (λ w. outcome w k.number act) is.world_is ∙ outcome_recounted n.world k.world.state.booked k.number act in
      by n is (outcome n.world k.number act) refl (subst (λ (o : Outcome). Applies (Ok u) o (k.world.applied + 1) k.world m.world [] report) said applies);
}
  where
    same : (o : Option Counts) → is_none (option_map (λ x. with_lines m.world.state.routers x report) o) ≡ is_none o
    same None = refl
    same (Some x) = refl

    at_done : (n : Moment) → IsCounted k n → (y : List ReportLine × WorldState) → Goes n (record { world = y.1; report = n.report ++ y.0 }) →
        m.world.state ≡ with_booked y.1 k.world.state.booked → report ≡ y.0 → IsCounted m (record { world = y.1; report = n.report ++ y.0 })
    at_done n is y goes state lines = record {
      world_is = state ∙ ap (with_booked y.1) (sym (ap (λ (z : WorldState). z.booked) state));
      counts_are = subst (λ (o : Option Counts). IfSome o (λ x. x ≡ all_capped (counts_of after))) (sym counts) (all k.counts is.counts_are);
      known = known_stay n.world y.1 goes.names after.report (goes.known is.known);
    }
      where
        after : Moment
        after = record { world = y.1; report = n.report ++ y.0 }

        together : plus (counts_of n) (counts_in y.1.routers y.0) ≡ counts_of after
        together = ap (λ z. plus z (counts_in y.1.routers y.0)) (sym (counts_stay n.world y.1 goes.names n.report is.known)) ∙ sym (counts_append y.1.routers n.report y.0)

        all : (o : Option Counts) → IfSome o (λ x. x ≡ all_capped (counts_of n)) →
            IfSome (option_map (λ x. with_lines m.world.state.routers x report) o) (λ x. x ≡ all_capped (counts_of after))
        all None h = tt
        all (Some x) h =
            ap (λ (w : WorldState). with_lines w.routers x report) state ∙ ap (with_lines y.1.routers x) lines ∙ ap (λ z. with_lines y.1.routers z y.0) h
            ∙ lines_counted n.world y.1.routers y.0 (counts_of n) (all_parts (is_known n.world) n.report y.0 (goes.known is.known)).1 ∙ ap all_capped together

    by : (n : Moment) → IsCounted k n → (o : Outcome) → outcome n.world k.number act ≡ o → Applies (Ok u) (recounted k.world.state.booked o) (k.world.applied + 1) k.world m.world [] report →
        (n' : Moment) × (fold onward (Some n) (acts_by k (c.Act act)) ≡ Some n') × IsCounted m n'
    by n is (Err e) eq h = absurd (false≢true h.1)
    by n is (Ok y) eq h =
        let goes = subst (λ (o : Outcome). IfSome (went n o) (Goes n)) eq (act_keeps n k.number act) in
        (record { world = y.1; report = n.report ++ y.0 }, ap (went n) eq, at_done n is y goes (ap (λ (z : Living). z.state) h.0.0) h.0.1)

-- ---- a fan

-- what steps report tells of no mark
no_marks_both : (xs ys : List ReportLine) → count_by tells_mark xs ≡ 0 → count_by tells_mark ys ≡ 0 → count_by tells_mark (xs ++ ys) ≡ 0
no_marks_both xs ys a b = sum_by-append (λ x. cond (tells_mark x) 1 0) xs ys ∙ (λ i. a i + b i)

abbrev NoMarks : Moment → Type 0
NoMarks m = count_by tells_mark m.report ≡ 0

step_marks_none : (now : Moment) → NoMarks now → (n : ℕ) (act : Act) → is_step act ≡ true → IfSome (went now (outcome now.world n act)) NoMarks
unfolding outcome
step_marks_none now h n (a.Handle router from) ok = for_handle now NoMarks router from (λ r er there s es up msg tag xs front l el taken. no_marks_both now.report _ h refl)
step_marks_none now h n (a.Take router to) ok = for_take now NoMarks router to (λ r er there s es up unbroken msg tag xs front. no_marks_both now.report _ h refl)
step_marks_none now h n other ok = absurd (false≢true ok)

-- steps keep names, tell neighbours that are there, and tell of no mark
record Steps (m n : Moment) : Type 0 where
  names : KeepsNames m.world n.world
  known : list_all (is_known m.world) m.report ≡ true → list_all (is_known n.world) n.report ≡ true
  marks : NoMarks m → NoMarks n

keeps_twice : (w v u : WorldState) → KeepsNames w v → KeepsNames v u → KeepsNames w u
keeps_twice w v u a b = record {
  routers = λ q there. b.routers q (a.taken q there) ∙ a.routers q there;
  taken = λ q there. b.taken q (a.taken q there);
}

one_step : (line : ℕ) (act : Act) (m : Moment) → is_step act ≡ true → IfSome (went m (outcome m.world line act)) (Steps m)
one_step line act m ok = by (outcome m.world line act) (act_keeps m line act) (λ h. step_marks_none m h line act ok)
  where
    by : (o : Outcome) → IfSome (went m o) (Goes m) → (NoMarks m → IfSome (went m o) NoMarks) → IfSome (went m o) (Steps m)
    by (Err e) g k = tt
    by (Ok x) g k = record { names = g.names; known = λ h. known_stay m.world x.1 g.names (m.report ++ x.0) (g.known h); marks = k }

after_steps : (line : ℕ) (several : List Act) (m : Moment) → list_all is_step several ≡ true → IfOk (all_done m.world line several) (λ x. Steps m (then_at m x))
after_steps line [] m ok = record {
  names = same_names m.world m.world (λ q. refl) (λ q. refl);
  known = λ h. ap (list_all (is_known m.world)) (append-nil m.report) ∙ h;
  marks = λ h. ap (count_by tells_mark) (append-nil m.report) ∙ h;
}
after_steps line (act ∷ more) m ok =
    let parts = and_parts (is_step act) (list_all is_step more) ok in
    by (outcome m.world line act) (one_step line act m parts.0) (λ n. after_steps line more n parts.1)
  where
    by : (o : Outcome) → IfSome (went m o) (Steps m) → ((n : Moment) → IfOk (all_done n.world line more) (λ x. Steps n (then_at n x))) →
        IfOk (o >>= (λ x. all_done x.1 line more >>= (said_first x.0))) (λ x. Steps m (then_at m x))
    by (Err e) g ih = tt
    by (Ok x) g ih = at (all_done x.1 line more) (ih (then_at m x))
      where
        at : (d : Done) → IfOk d (λ y. Steps (then_at m x) (then_at (then_at m x) y)) → IfOk (d >>= (said_first x.0)) (λ y. Steps m (then_at m y))
        at (Err e) k = tt
        at (Ok y) k = subst (λ (r : List ReportLine). Steps m (record { world = y.1; report = r })) (append_assoc m.report x.0 y.0)
            (record { names = keeps_twice m.world x.1 y.1 g.names k.names; known = λ h. k.known (g.known h); marks = λ h. k.marks (g.marks h) })

-- the steps of a fan are counted by their kinds
kinds_counted : (routers : Routers) (said : List ReportLine) (t : Counts) → count_by tells_mark said ≡ 0 →
    with_kinds (all_capped t) (kinds_of routers said) ≡ all_capped (plus t (counts_in routers said))
kinds_counted routers said t none = same_counts _ _ (omega arith) (omega arith) (omega arith) (omega (arith, none))

pub fan_counts : (k m : Kept) (report : List ReportLine) (u : Unit {0}) → Applies (Ok u) (fan_step k.world.state k.number) k.world.applied k.world m.world [] report →
    m.counts ≡ option_map (λ x. with_lines m.world.state.routers x report) k.counts → CountsOn (acts_by k c.Fan) k m
fan_counts k m report u applies counts = record {
  mode = ap is_none counts ∙ same k.counts;
  goes = λ n is. by n is (fan_step (with_booked n.world k.world.state.booked) k.number) refl
      (subst (λ (o : Done). Applies (Ok u) o k.world.applied k.world m.world [] report) (ap (λ w. fan_step w k.number) is.world_is) applies);
}
  where
    same : (o : Option Counts) → is_none (option_map (λ x. with_lines m.world.state.routers x report) o) ≡ is_none o
    same None = refl
    same (Some x) = refl

    at_done : (n : Moment) → IsCounted k n → (y : List ReportLine × WorldState) → all_done n.world k.number (fan_steps k.number n.world) ≡ Ok y →
        m.world.state ≡ with_booked y.1 k.world.state.booked → report ≡ fanned y.1.routers y.0 ∷ [] → IsCounted m (then_at n y)
    at_done n is y done state lines = record {
      world_is = state ∙ ap (with_booked y.1) (sym (ap (λ (z : WorldState). z.booked) state));
      counts_are = subst (λ (o : Option Counts). IfSome o (λ x. x ≡ all_capped (counts_of after))) (sym counts) (all k.counts is.counts_are);
      known = steps.known is.known;
    }
      where
        after : Moment
        after = then_at n y

        acts_are : list_all is_step (fan_steps k.number n.world) ≡ true
        acts_are = all_steps k.number most_fan_steps n.world

        steps : Steps n after
        steps = subst (λ (d : Done). IfOk d (λ x. Steps n (then_at n x))) done (after_steps k.number (fan_steps k.number n.world) n acts_are)

        bare : Moment
        bare = record { world = n.world; report = [] }

        none : count_by tells_mark y.0 ≡ 0
        none = (subst (λ (d : Done). IfOk d (λ x. Steps bare (then_at bare x))) done (after_steps k.number (fan_steps k.number n.world) bare acts_are)).marks refl

        together : plus (counts_of n) (counts_in y.1.routers y.0) ≡ counts_of after
        together = ap (λ z. plus z (counts_in y.1.routers y.0)) (sym (counts_stay n.world y.1 steps.names n.report is.known)) ∙ sym (counts_append y.1.routers n.report y.0)

        all : (o : Option Counts) → IfSome o (λ x. x ≡ all_capped (counts_of n)) →
            IfSome (option_map (λ x. with_lines m.world.state.routers x report) o) (λ x. x ≡ all_capped (counts_of after))
        all None h = tt
        all (Some x) h =
            ap (λ (w : WorldState). with_lines w.routers x report) state ∙ ap (with_lines y.1.routers x) lines ∙ ap (λ z. with_kinds z (kinds_of y.1.routers y.0)) h
            ∙ kinds_counted y.1.routers y.0 (counts_of n) none ∙ ap all_capped together

    by : (n : Moment) → IsCounted k n → (o : Done) → fan_step (with_booked n.world k.world.state.booked) k.number ≡ o → Applies (Ok u) o k.world.applied k.world m.world [] report →
        (n' : Moment) × (fold onward (Some n) (acts_by k c.Fan) ≡ Some n') × IsCounted m n'
    by n is (Err e) eq h = absurd (false≢true h.1)
    by n is (Ok x) eq h =
        let led = fan_led n.world k.world.state.booked k.number x eq in
        let acts_are = ap (λ w. fold onward (Some n) (map (λ a. (k.number, a)) (fan_steps k.number w))) is.world_is
        ∙ ap (λ several. fold onward (Some n) (map (λ a. (k.number, a)) several)) (steps_recounted k.number most_fan_steps n.world k.world.state.booked)
        ∙ acts_lead (fan_steps k.number n.world) k.number n ∙ ap (made n) led.1 in (
          then_at n led.0,
          acts_are,
          at_done n is led.0 led.1
              (ap (λ (z : Living). z.state) h.0.0 ∙ ap (λ (z : List ReportLine × WorldState). z.1) led.2) (h.0.1 ∙ ap (λ (z : List ReportLine × WorldState). z.0) led.2),
        )

-- ---- a run

-- the steps that are left of a run, with the number of its line
abbrev pub steps_left : Kept → ℕ → WorldState → List Numbered
steps_left k left w = map (λ a. (k.number, a)) (run_steps k.number left w)

-- its steps were counted, and none is done yet
pub counts_start : (k m : Kept) (steps : ℕ) (u : Unit {0}) → Books (Ok u) (book_step k.world.state steps) k.world m.world → m.counts ≡ k.counts →
    CountsAhead k (acts_by k (c.Run steps)) (steps_left k (steps - 0) m.world.state) m
counts_start k m steps u books counts =
    let booked = booked_is k.world m.world steps u books in
    let all : steps_left k steps k.world.state ≡ steps_left k (steps - 0) m.world.state =
    ap (map (λ x. (k.number, x))) (sym (steps_recounted k.number steps k.world.state (k.world.state.booked + steps)) ∙ ap (run_steps k.number steps) (sym booked)
    ∙ ap (λ n. run_steps k.number n m.world.state) (omega arith)) in
    ahead_as k m (acts_by k (c.Run steps)) (steps_left k steps k.world.state) (steps_left k (steps - 0) m.world.state) all
    (ahead_more k k m (acts_by k (c.Run steps)) [] (steps_left k steps k.world.state) (ahead_start k (steps_left k steps k.world.state)) (on_booked k m steps u books counts))

-- no step is next, or one that was done
pub no_step_counts : (k : Kept) → next k.world.state ≡ None → CountsOn (step_by k (next k.world.state)) k k
no_step_counts k none = subst (λ (o : Option Act). CountsOn (step_by k o) k k) (sym none) (on_kept k k refl refl)

pub one_step_counts : (k m : Kept) (act : Act) → next k.world.state ≡ Some act → CountsOn (acts_by k (c.Act act)) k m → CountsOn (step_by k (next k.world.state)) k m
one_step_counts k m act is h = subst (λ (o : Option Act). CountsOn (step_by k o) k m) (sym is) h

-- a step was done
pub counts_step : (k0 k m : Kept) (steps done : ℕ) (a b b' c' : Option (List ℕ)) → IsRunning k0 steps done k a b → done < steps → StepsOn (next k.world.state) (Ok true) k m b' c' →
    CountsAhead k0 (acts_by k0 (c.Run steps)) (steps_left k0 (steps - done) k.world.state) k → CountsOn (step_by k (next k.world.state)) k m →
    CountsAhead k0 (acts_by k0 (c.Run steps)) (steps_left k0 (steps - (done + 1)) m.world.state) m
counts_step k0 k m steps done a b b' c' h less moves ahead on = by (next k.world.state) refl moves on
  where
    one : (step : Act) (x : List ReportLine × WorldState) → IsStep k0 k step x → StepsOn (Some step) (Ok true) k m b' c' → CountsOn (step_by k (Some step)) k m →
        CountsAhead k0 (acts_by k0 (c.Run steps)) (steps_left k0 (steps - (done + 1)) m.world.state) m
    one step x s t on =
        let state : m.world.state ≡ x.1 = ap (λ (z : Living). z.state) t.1.world ∙ ap (λ (d : Outcome). (run_behind k d).world) s.is_all in
        let more : steps - done ≡ suc (steps - (done + 1)) = omega arith in
        let rest : run_steps k0.number (steps - done) k.world.state ≡ step ∷ run_steps k0.number (steps - (done + 1)) m.world.state =
        ap (λ z. run_steps k0.number z k.world.state) more ∙ one_more k0.number (steps - (done + 1)) k.world.state step x s.is_next s.is_done
        ∙ ap (λ z. step ∷ run_steps k0.number (steps - (done + 1)) z) (sym state) in
        let left : steps_left k0 (steps - done) k.world.state ≡ (k.number, step) ∷ steps_left k0 (steps - (done + 1)) m.world.state =
        ap (map (λ x. (k0.number, x))) rest ∙ ap (λ z. (z, step) ∷ steps_left k0 (steps - (done + 1)) m.world.state) (sym h.at.number) in
        ahead_more k0 k m (acts_by k0 (c.Run steps)) ((k.number, step) ∷ []) (steps_left k0 (steps - (done + 1)) m.world.state)
        (ahead_as k0 k (acts_by k0 (c.Run steps)) (steps_left k0 (steps - done) k.world.state) ((k.number, step) ∷ steps_left k0 (steps - (done + 1)) m.world.state) left ahead) on

    by : (o : Option Act) → next k.world.state ≡ o → StepsOn o (Ok true) k m b' c' → CountsOn (step_by k o) k m →
        CountsAhead k0 (acts_by k0 (c.Run steps)) (steps_left k0 (steps - (done + 1)) m.world.state) m
    by None e t on = absurd (true≢false t.0)
    by (Some step) e t on =
        let l = one_left done h.left steps h.sum less in
        let s = the_step k0 k steps done a b step h l.0 l.1 e in
        one step s.0 s.1 t on

-- no step is left, and the end of the run is told
pub counts_end : (k0 k m : Kept) (ahead : List Numbered) (left : ℕ) → CountsAhead k0 ahead (steps_left k0 left k.world.state) k → (next k.world.state ≡ None) ⊎ (left ≡ 0) →
    m.world ≡ k.world → m.counts ≡ k.counts → CountsOn ahead k0 m
counts_end k0 k m ahead left h why world counts =
    on_to k0 k m ahead world counts
    (ahead_as k0 k ahead (steps_left k0 left k.world.state) [] (ap (map (λ x. (k0.number, x))) (none_left k0.number left k.world.state why)) h)

-- no step is possible
pub counts_rest : (k0 k l m : Kept) (ahead : List Numbered) (left : ℕ) (b c : Option (List ℕ)) → CountsAhead k0 ahead (steps_left k0 left k.world.state) k → StepsOn (next k.world.state) (Ok false) k l b c →
    m.world ≡ l.world → m.counts ≡ l.counts → CountsOn ahead k0 m
counts_rest k0 k l m ahead left b c h moves world counts = by (next k.world.state) refl moves
  where
    by : (o : Option Act) → next k.world.state ≡ o → StepsOn o (Ok false) k l b c → CountsOn ahead k0 m
    by None e t = counts_end k0 k m ahead left h (inl e) (world ∙ ap (λ (z : Kept). z.world) t.1) (counts ∙ ap (λ (z : Kept). z.counts) t.1)
    by (Some step) e t = absurd (false≢true t.0)

-- where it was told
pub on_ok : (k m : Kept) (ahead : List Numbered) (result : Result (Unit {0}) RunStop) → CountsOn ahead k m → OnOk result (CountsOn ahead k m)
on_ok k m ahead (Ok u) h = h
on_ok k m ahead (Err e) h = tt

-- ---- a line

-- a line that asks nothing
pub silent_counts : (k m : Kept) (line : List ℕ) → command_of line ≡ Ok None → m ≡ counted k → CountsOn (accepted_from (fresh k) (line ∷ [])) k m
silent_counts k m line silent same =
    let none : accepted_from (fresh k) (line ∷ []) ≡ [] = ap (λ z. entries (on_line (fresh k) line).refusal (k.number + 1) k.world.state z ++ []) silent ∙ by (on_line (fresh k) line).refusal in
    subst (λ (xs : List Numbered). CountsOn xs k m) (sym none) (on_kept k m (ap (λ (z : Kept). z.world) same) (ap (λ (z : Kept). z.counts) same))
  where
    by : (o : Option ScriptError) → entries o (k.number + 1) k.world.state (Ok None) ++ [] ≡ []
    by None = refl
    by (Some e) = refl

-- what its command counted is what the line counted
pub line_counts : (k n m : Kept) (line : List ℕ) (command : Command) → command_of line ≡ Ok (Some command) → (on_line (fresh k) line).refusal ≡ None → n ≡ counted k →
    CountsOn (acts_by n command) n m → CountsOn (accepted_from (fresh k) (line ∷ [])) k m
line_counts k n m line command asks fine same on =
    let all : accepted_from (fresh k) (line ∷ []) ≡ acts_by (counted k) command =
    ap (λ z. entries (on_line (fresh k) line).refusal (k.number + 1) k.world.state z ++ []) asks
    ∙ ap (λ o. entries o (k.number + 1) k.world.state (Ok (Some command)) ++ []) fine ∙ append-nil (acts_by (counted k) command) in
    let by : CountsOn (acts_by (counted k) command) n m = subst (λ (z : Kept). CountsOn (acts_by z command) n m) same on in
    subst (λ (xs : List Numbered). CountsOn xs k m) (sym all)
    (on_from k n m (acts_by (counted k) command) (ap (λ (z : Kept). z.world) same) (ap (λ (z : Kept). z.counts) same) by)

-- where it was done
pub line_counts_if : (k n m : Kept) (line l p : List ℕ) (command : Command) (a b : Option (List ℕ)) (result : Result (Unit {0}) RunStop) → command_of line ≡ Ok (Some command) → n ≡ counted k →
    Turns result (on_line (fresh k) line) l p m a b → OnOk result (CountsOn (acts_by n command) n m) → OnOk result (CountsOn (accepted_from (fresh k) (line ∷ [])) k m)
line_counts_if k n m line l p command a b (Ok u) asks same turn on = line_counts k n m line command asks turn.refusal same on
line_counts_if k n m line l p command a b (Err e) asks same turn on = tt
