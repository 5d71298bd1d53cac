use Rattle.std.proofs.Common.{◌≡◌, ℕ, ◌+◌, ◌-◌, Bool, true, false, Ok, Err, ap, ◌∙◌, refl, inl, inr, rules, arith, subst}
use Rattle.std.proofs.lemmas.Result.{err_from_is_err_and}
use Rattle.zr_world_spec.specs.Next.{next}
use Rattle.std.specs.Prelude.{is_none, [], ◌∷◌}
use Rattle.zr_script_spec.specs.declared.report.ReportLine.TheVariants.{Ran}
use Rattle.zr_netrun_lines.specs.Kept.{Kept, run_behind, seen, writes, StepsOn}
use Rattle.zr_netrun_lines.proofs.Writing.{seen_turns}
use Rattle.zr_netrun_lines.proofs.Counting.{counts_start, counts_step, counts_end, counts_rest, on_ok}
use Rattle.zr_netrun_lines.proofs.Room.{books_more}
use Rattle.zr_netrun_lines.proofs.Stepping.{IsRunning, begins_not, starts, lives, goes_on, rests, stops, ends}
use Rattle.zr_outside.proofs.Counting.{only_behind, only_still, only_stopped}
use Rattle.zr_netrun_lines.specs.declared.runner.RunStop.TheVariants as stop
use Rattle.zr_netrun_lines.proofs.runner.Runner.run.Goals as goal

pub returns-in_err-count_steps-clause-turn : goal.returns-in_err-count_steps-clause-turn
returns-in_err-count_steps-clause-turn g c =
    let p = err_from_is_err_and c.from_residual.result c.from_residual.ensures.1 in
    rw (p.1, p.2) (begins_not c.args.self.now c.args.steps _ c.count_steps.new.self c.args.self.now.line c.in_err-count_steps.field-0.0 c.in_err-count_steps.ensures.books c.in_err-count_steps.ensures.rest)

pub loop-done-init : goal.loop-done-init
loop-done-init g c =
    let h = starts c.args.self.now c.args.steps (seen (writes c.args.self.now) (g.K.Sink.held c.args.out.now)) c.count_steps.new.self c.in_ok-count_steps.field-0 c.requires.goes c.in_ok-count_steps.ensures.books c.in_ok-count_steps.ensures.rest in
    let b = books_more c.args.self.now.world c.count_steps.new.self.world c.args.steps c.in_ok-count_steps.field-0 c.in_ok-count_steps.ensures.books in
    record {
      room = omega (arith, b.count, b.sum, h.at.number, c.requires.room);
      booked = b.most;
      alive = lives c.args.self.now c.args.steps (seen (writes c.args.self.now) (g.K.Sink.held c.args.out.now)) 0 c.count_steps.new.self _ h;
      number = h.at.number;
      later = omega arith;
      quiet = refl;
      counted = counts_start c.args.self.now c.count_steps.new.self c.args.steps c.in_ok-count_steps.field-0 c.in_ok-count_steps.ensures.books (ap (λ (z : Kept). z.counts) c.in_ok-count_steps.ensures.rest);
      running = h;
    }

pub do_next_step-requires-clause-room : goal.do_next_step-requires-clause-room
do_next_step-requires-clause-room g c = omega (arith, c.loop-done.invariant.room)

pub do_next_step-requires-clause-few : goal.do_next_step-requires-clause-few
do_next_step-requires-clause-few g c = omega (arith, c.loop-done.invariant.room, c.loop-done.invariant.booked, c.loop-done.invariant.number, c.requires.short)

pub returns-in_err-do_next_step-clause-turn : goal.returns-in_err-do_next_step-clause-turn
returns-in_err-do_next_step-clause-turn g c =
    let p = err_from_is_err_and c.from_residual-in_err-do_next_step.result c.from_residual-in_err-do_next_step.ensures.1 in
    rw (p.1, p.2) (stops c.args.self.now c.args.steps _ c.loop-done.done c.loop-done.self c.do_next_step.new.self c.args.self.now.line _ _ _
    c.loop-done.invariant.running (omega arith)
    (subst (λ (b : Bool). StepsOn (next c.loop-done.self.world.state) (Err c.in_err-do_next_step.field-0.0) c.loop-done.self c.do_next_step.new.self (seen b (g.K.Sink.held c.loop-done.out)) (seen b (g.K.Sink.held c.do_next_step.new.out)))
    c.loop-done.invariant.counted.mode c.in_err-do_next_step.ensures.steps))

pub returns-then-not-branch-clause-turn : goal.returns-then-not-branch-clause-turn
returns-then-not-branch-clause-turn g c =
    let no : c.in_ok-do_next_step.field-0 ≡ false = search rules in
    let moves = subst (λ (t : Bool). StepsOn (next c.loop-done.self.world.state) (Ok t) c.loop-done.self c.do_next_step.new.self (seen (writes c.args.self.now) (g.K.Sink.held c.loop-done.out)) (seen (writes c.args.self.now) (g.K.Sink.held c.do_next_step.new.out))) no
    (subst (λ (b : Bool). StepsOn (next c.loop-done.self.world.state) (Ok c.in_ok-do_next_step.field-0) c.loop-done.self c.do_next_step.new.self (seen b (g.K.Sink.held c.loop-done.out)) (seen b (g.K.Sink.held c.do_next_step.new.out)))
    c.loop-done.invariant.counted.mode c.in_ok-do_next_step.ensures.steps) in
    let r = rests c.args.self.now c.args.steps _ c.loop-done.done c.loop-done.self c.do_next_step.new.self _ _ c.loop-done.invariant.running moves in
    ends c.args.self.now c.args.steps _ c.loop-done.done c.do_next_step.new.self c.end_run.new.self _ _ c.end_run.result r.0 (inl r.1)
    (seen_turns (writes c.do_next_step.new.self) (writes c.args.self.now) c.end_run.result
    (run_behind c.do_next_step.new.self (Ok (Ran c.loop-done.done (is_none (next c.do_next_step.new.self.world.state)) ∷ [], c.do_next_step.new.self.world.state)))
    c.do_next_step.new.self.line c.do_next_step.new.self.pending c.end_run.new.self (g.K.Sink.held c.do_next_step.new.out) (g.K.Sink.held c.end_run.new.out)
    (c.in_ok-do_next_step.ensures.counts.mode ∙ c.loop-done.invariant.counted.mode) c.end_run.ensures.turn)

pub loop-done-preserved : goal.loop-done-preserved
loop-done-preserved g c =
    let yes : c.in_ok-do_next_step.field-0 ≡ true = search rules in
    let moves = subst (λ (t : Bool). StepsOn (next c.loop-done.self.world.state) (Ok t) c.loop-done.self c.do_next_step.new.self (seen (writes c.args.self.now) (g.K.Sink.held c.loop-done.out)) (seen (writes c.args.self.now) (g.K.Sink.held c.do_next_step.new.out))) yes
    (subst (λ (b : Bool). StepsOn (next c.loop-done.self.world.state) (Ok c.in_ok-do_next_step.field-0) c.loop-done.self c.do_next_step.new.self (seen b (g.K.Sink.held c.loop-done.out)) (seen b (g.K.Sink.held c.do_next_step.new.out)))
    c.loop-done.invariant.counted.mode c.in_ok-do_next_step.ensures.steps) in
    let h = goes_on c.args.self.now c.args.steps (seen (writes c.args.self.now) (g.K.Sink.held c.args.out.now)) c.loop-done.done c.loop-done.self c.do_next_step.new.self _ _ c.loop-done.invariant.running (omega arith) moves in
    record {
      room = omega (arith, c.in_ok-do_next_step.ensures.more.0, c.in_ok-do_next_step.ensures.more.1, c.in_ok-do_next_step.ensures.count, c.loop-done.invariant.room);
      booked = omega (arith, c.in_ok-do_next_step.ensures.more.1, c.loop-done.invariant.booked);
      alive = lives c.args.self.now c.args.steps (seen (writes c.args.self.now) (g.K.Sink.held c.args.out.now)) (c.loop-done.done + 1) c.do_next_step.new.self _ h;
      number = h.at.number;
      later = omega (arith, c.in_ok-do_next_step.ensures.later, c.loop-done.invariant.later);
      quiet = c.in_ok-do_next_step.ensures.only ∙ c.loop-done.invariant.quiet;
      counted = counts_step c.args.self.now c.loop-done.self c.do_next_step.new.self c.args.steps c.loop-done.done _ _ _ _ c.loop-done.invariant.running (omega arith) moves c.loop-done.invariant.counted c.in_ok-do_next_step.ensures.counts;
      running = h;
    }

pub returns-clause-turn : goal.returns-clause-turn
returns-clause-turn g c =
    let all : c.loop-done.done ≡ c.args.steps = omega arith in
    let h = subst (λ (n : ℕ). IsRunning c.args.self.now c.args.steps n c.loop-done.self (seen (writes c.args.self.now) (g.K.Sink.held c.args.out.now)) (seen (writes c.args.self.now) (g.K.Sink.held c.loop-done.out))) all c.loop-done.invariant.running in
    ends c.args.self.now c.args.steps _ c.args.steps c.loop-done.self c.end_run-2.new.self _ _ c.end_run-2.result h (inr refl)
    (seen_turns (writes c.loop-done.self) (writes c.args.self.now) c.end_run-2.result
    (run_behind c.loop-done.self (Ok (Ran c.args.steps (is_none (next c.loop-done.self.world.state)) ∷ [], c.loop-done.self.world.state)))
    c.loop-done.self.line c.loop-done.self.pending c.end_run-2.new.self (g.K.Sink.held c.loop-done.out) (g.K.Sink.held c.end_run-2.new.out)
    c.loop-done.invariant.counted.mode c.end_run-2.ensures.turn)

pub returns-then-not-branch-clause-counts : goal.returns-then-not-branch-clause-counts
returns-then-not-branch-clause-counts g c =
    let no : c.in_ok-do_next_step.field-0 ≡ false = search rules in
    let moves = subst (λ (t : Bool). StepsOn (next c.loop-done.self.world.state) (Ok t) c.loop-done.self c.do_next_step.new.self (seen (writes c.loop-done.self) (g.K.Sink.held c.loop-done.out)) (seen (writes c.loop-done.self) (g.K.Sink.held c.do_next_step.new.out))) no
    c.in_ok-do_next_step.ensures.steps in
    on_ok _ c.end_run.new.self _ c.end_run.result
    (counts_rest c.args.self.now c.loop-done.self c.do_next_step.new.self c.end_run.new.self _ _ _ _ c.loop-done.invariant.counted moves c.end_run.ensures.counts.1 c.end_run.ensures.counts.0)

pub returns-clause-counts : goal.returns-clause-counts
returns-clause-counts g c =
    on_ok _ c.end_run-2.new.self _ c.end_run-2.result
    (counts_end c.args.self.now c.loop-done.self c.end_run-2.new.self _ (c.args.steps - c.loop-done.done) c.loop-done.invariant.counted (inr (omega arith)) c.end_run-2.ensures.counts.1 c.end_run-2.ensures.counts.0)

pub returns-in_err-count_steps-clause-only : goal.returns-in_err-count_steps-clause-only
returns-in_err-count_steps-clause-only g c = only_still stop.WriteFault c.from_residual.result _ _ refl

pub returns-in_err-do_next_step-clause-only : goal.returns-in_err-do_next_step-clause-only
returns-in_err-do_next_step-clause-only g c = only_stopped stop.WriteFault c.from_residual-in_err-do_next_step.result c.in_err-do_next_step.field-0.0 _ _ _ c.from_residual-in_err-do_next_step.ensures.1 c.loop-done.invariant.quiet c.in_err-do_next_step.ensures.only

pub returns-then-not-branch-clause-only : goal.returns-then-not-branch-clause-only
returns-then-not-branch-clause-only g c = only_behind stop.WriteFault c.end_run.result _ _ _ (c.in_ok-do_next_step.ensures.only ∙ c.loop-done.invariant.quiet) c.end_run.ensures.only

pub returns-clause-only : goal.returns-clause-only
returns-clause-only g c = only_behind stop.WriteFault c.end_run-2.result _ _ _ c.loop-done.invariant.quiet c.end_run-2.ensures.only
