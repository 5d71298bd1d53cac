use Rattle.std.proofs.Common.{◌≡◌, ℕ, ◌-◌, ◌≤◌, List, ◌++◌, length, min, take, Option, refl, sym, ap, ◌∙◌, rules, arith, subst}
use Rattle.std.proofs.lemmas.List.{length-take}
use Rattle.zr_world.specs.Living.{Living}
use Rattle.zr_script_spec.specs.Lines.{ended_lines}
use Rattle.zr_script_spec.specs.Report.{too_long_text}
use Rattle.zr_outside.specs.Piece.{IsReadToEnd}
use Rattle.zr_outside.specs.Told.{Consumes}
use Rattle.zr_outside.proofs.Counting.{counted_same, ended_since}
use Rattle.zr_netrun_lines.specs.Kept.{Kept, fresh, writes}
use Rattle.zr_netrun_lines.specs.Possible.{StepsGo}
use Rattle.zr_netrun_lines.proofs.Writing.{seen_at, seen_stopped}
use Rattle.zr_netrun_lines.proofs.Going.{goes_behind}
use Rattle.zr_netrun.specs.Told.{Tells, Complains}
use Rattle.zr_netrun.specs.Judged.{refusal_told}
use Rattle.zr_netrun.proofs.Reading.{after_nothing, reads_piece, seen_tells}
use Rattle.zr_netrun.proofs.Telling.{stops_reading, passes_limit, still_after, fails_reading, ends_done, ends_reading, stops_at_end, not_done, fault_not_done}
use Rattle.zr_outside.proofs.Counting.{rose_not}
use Rattle.zr_netrun.proofs.Failing.{stop_told}
use Rattle.zr_netrun.proofs.netrun.run_lines.Goals as goal

pub reading-init : goal.reading-init
reading-init g c =
    let begins = c.requires.begins in
    let number : c.args.runner.now.number ≡ 0 = ap (λ (z : Kept). z.number) begins in
    record {
      lines = omega (arith, number);
      mode = refl;
      alive = ap (λ (z : Kept). z.world.spent) begins;
      goes = subst (λ (z : Kept). StepsGo (fresh z)) (sym begins) c.requires.possible;
      most = omega arith;
      sized = search rules;
      quiets = omega arith;
      ends = omega arith;
      input = refl;
      out = refl;
      err = refl;
      err_same = refl;
      read = after_nothing _ _ _ begins c.requires.counts;
    }

pub returns-in-Err-clause-report : goal.returns-in-Err-clause-report
returns-in-Err-clause-report g c =
    let fits : c.in-Bytes.count ≤ length c.next_piece.new.into = grind (arith, c.in-Bytes.ensures.bytes.1, c.reading.invariant.sized) in
    let cut : c.min-used.result ≡ min c.in-Bytes.count (67108864 - c.reading.total) = search rules in
    let told = subst (λ (z : Option (List ℕ)). Tells c.in-Err.stop c.tell.result (refusal_told c.args.options.explain c.feed.new.self.number c.feed.new.self.line) c.feed.new.self.pending (g.K.Sink.held c.feed.new.out) (g.K.Sink.held c.tell.new.out) z (g.E.Sink.held c.tell.new.err))
    c.reading.invariant.err_same c.tell.ensures.tells in
    not_done c.args.options.explain _ _ _ _ _ _ _ _ _ c.tell.ensures.stops
    (stops_reading c.args.options.explain _ _ _ _ c.in-Bytes.count c.min-used.result c.reading.total c.next_piece.new.into c.reading.runner c.feed.new.self _ _ _ _ _ _ c.in-Err.stop c.tell.result
    c.reading.invariant.read c.in-Bytes.ensures.bytes.2 fits c.reading.invariant.most cut
    (seen_stopped (writes c.reading.runner) (writes c.args.runner.now) _ _ _ _ _ _ c.reading.invariant.mode c.in-Err.ensures.turn) c.in-Err.ensures.refused (seen_tells (writes c.args.runner.now) _ _ _ _ _ _ _ _ told))

pub returns-then-used-count-clause-report : goal.returns-then-used-count-clause-report
returns-then-used-count-clause-report g c =
    let fits : c.in-Bytes.count ≤ length c.next_piece.new.into = grind (arith, c.in-Bytes.ensures.bytes.1, c.reading.invariant.sized) in
    let cut : c.min-used.result ≡ min c.in-Bytes.count (67108864 - c.reading.total) = search rules in
    let told = subst (λ (z : Option (List ℕ)). Complains c.complain.result too_long_text z (g.E.Sink.held c.complain.new.err)) c.reading.invariant.err_same c.complain.ensures.tells in
    not_done c.args.options.explain _ _ _ _ _ _ _ _ _ c.complain.ensures.stops
    (passes_limit c.args.options.explain _ _ _ _ c.in-Bytes.count c.min-used.result c.reading.total c.next_piece.new.into c.reading.runner c.feed.new.self _ _ _ _ _ _ c.complain.result
    c.reading.invariant.read c.in-Bytes.ensures.bytes.2 fits c.reading.invariant.most cut c.if-used-count.true
    (seen_at (writes c.reading.runner) (writes c.args.runner.now) _ _ _ _ _ _ c.reading.invariant.mode c.in-Ok.ensures.turn) c.in-Ok.ensures.flushed told)

pub reading-preserved : goal.reading-preserved
reading-preserved g c =
    let fits : c.in-Bytes.count ≤ length c.next_piece.new.into = grind (arith, c.in-Bytes.ensures.bytes.1, c.reading.invariant.sized) in
    let cut : c.min-used.result ≡ min c.in-Bytes.count (67108864 - c.reading.total) = search rules in
    let whole : c.in-Bytes.count ≡ c.min-used.result = omega (arith, c.if-used-count.false, cut) in
    let short : c.min-used.result ≤ length c.next_piece.new.into = omega (arith, fits, whole) in
    let took = subst (λ (n : ℕ). Consumes n c.next_piece.new.into (g.S.Source.left c.reading.input) (g.S.Source.left c.next_piece.new.input)) whole c.in-Bytes.ensures.bytes.2 in
    let turn = seen_at (writes c.reading.runner) (writes c.args.runner.now) _ _ _ _ _ _ c.reading.invariant.mode c.in-Ok.ensures.turn in
    record {
      lines = omega (arith, c.in-Ok.ensures.count, c.reading.invariant.lines, length-take c.min-used.result c.next_piece.new.into);
      mode = c.in-Ok.ensures.counts.mode ∙ c.reading.invariant.mode;
      alive = ap (λ (w : Living). w.spent) c.in-Ok.ensures.turn.world;
      goes = goes_behind c.reading.runner c.feed.new.self (ended_lines (c.reading.runner.line ++ take c.min-used.result c.next_piece.new.into)) _ _ _ _ c.reading.invariant.goes turn;
      most = omega (arith, cut, c.reading.invariant.most);
      sized = search rules;
      quiets = omega (arith, c.in-Bytes.ensures.quiets.0, c.reading.invariant.quiets);
      ends = omega (arith, c.in-Bytes.ensures.ends.0, c.reading.invariant.ends);
      input = counted_same _ _ _ c.in-Bytes.ensures.failed (λ e. cc) ∙ c.reading.invariant.input;
      out = c.in-Ok.ensures.only ∙ c.reading.invariant.out;
      err = c.reading.invariant.err;
      err_same = c.reading.invariant.err_same;
      read = reads_piece _ _ _ c.min-used.result c.reading.total c.next_piece.new.into c.reading.runner c.feed.new.self _ _ _ c.in-Ok.field-0
          c.reading.invariant.read took short c.in-Ok.ensures.flushed c.in-Ok.ensures.counts turn;
    }

pub returns-in-Ok-finish-clause-report : goal.returns-in-Ok-finish-clause-report
returns-in-Ok-finish-clause-report g c =
    ends_reading c.args.options.explain _ _ _ c.reading.total c.reading.runner c.finish.new.self _ _ _ _ _ _
    (ended_since _ _ _ _ _ _ c.reading.invariant.ends c.reading.invariant.quiets (c.in-End.ensures.whole refl))
    (still_after _ _ _ _ _ _ _ c.reading.invariant.read c.in-End.ensures.bytes) c.reading.invariant.most
    (seen_at (writes c.reading.runner) (writes c.args.runner.now) _ _ _ _ _ _ c.reading.invariant.mode c.in-Ok-finish.ensures.turn) c.in-Ok-finish.ensures.counts c.in-Ok-finish.ensures.flushed c.reading.invariant.err_same

pub returns-in-Ok-finish-clause-ends : goal.returns-in-Ok-finish-clause-ends
returns-in-Ok-finish-clause-ends g c = ends_done _ _ _ _ _ _ _
    (ended_since _ _ _ _ _ _ c.reading.invariant.ends c.reading.invariant.quiets (c.in-End.ensures.whole refl))
    (omega (arith, c.in-End.ensures.failed.later, c.reading.invariant.input)) (omega (arith, c.in-Ok-finish.ensures.later, c.reading.invariant.out)) (omega (arith, c.reading.invariant.err))

pub returns-in-Err-finish-clause-report : goal.returns-in-Err-finish-clause-report
returns-in-Err-finish-clause-report g c =
    let told = subst (λ (z : Option (List ℕ)). Tells c.in-Err-finish.stop c.tell-in-Err-finish.result (refusal_told c.args.options.explain c.finish.new.self.number c.finish.new.self.line) c.finish.new.self.pending (g.K.Sink.held c.finish.new.out) (g.K.Sink.held c.tell-in-Err-finish.new.out) z (g.E.Sink.held c.tell-in-Err-finish.new.err))
    c.reading.invariant.err_same c.tell-in-Err-finish.ensures.tells in
    not_done c.args.options.explain _ _ _ _ _ _ _ _ _ c.tell-in-Err-finish.ensures.stops
    (stops_at_end c.args.options.explain (IsReadToEnd (g.S.Source.ends c.args.input.now) (g.S.Source.ends c.next_piece.new.input) (g.S.Source.quiets c.args.input.now) (g.S.Source.quiets c.next_piece.new.input))
    _ _ c.reading.total c.reading.runner c.finish.new.self _ _ _ _ _ _ c.in-Err-finish.stop c.tell-in-Err-finish.result
    (ended_since _ _ _ _ _ _ c.reading.invariant.ends c.reading.invariant.quiets (c.in-End.ensures.whole refl))
    (still_after _ _ _ _ _ _ _ c.reading.invariant.read c.in-End.ensures.bytes) c.reading.invariant.most
    (seen_stopped (writes c.reading.runner) (writes c.args.runner.now) _ _ _ _ _ _ c.reading.invariant.mode c.in-Err-finish.ensures.turn) c.in-Err-finish.ensures.refused (seen_tells (writes c.args.runner.now) _ _ _ _ _ _ _ _ told))

pub returns-in-Failed-clause-report : goal.returns-in-Failed-clause-report
returns-in-Failed-clause-report g c =
    not_done c.args.options.explain _ _ _ _ _ _ _ _ _ fault_not_done
    (fails_reading c.args.options.explain _ _ _ _ c.reading.total c.reading.runner _ _ _ _ c.reading.invariant.read c.in-Failed.ensures.bytes c.reading.invariant.most c.reading.invariant.err_same)

pub returns-in-Err-clause-only : goal.returns-in-Err-clause-only
returns-in-Err-clause-only g c = λ rose.
    let same = counted_same _ _ _ c.in-Bytes.ensures.failed (λ e. cc) in
    let before = c.reading.invariant.input in
    absurd (omega (arith, same, before, rose))

pub returns-then-used-count-clause-only : goal.returns-then-used-count-clause-only
returns-then-used-count-clause-only g c = λ rose.
    let same = counted_same _ _ _ c.in-Bytes.ensures.failed (λ e. cc) in
    let before = c.reading.invariant.input in
    absurd (omega (arith, same, before, rose))

pub returns-in-Ok-finish-clause-only : goal.returns-in-Ok-finish-clause-only
returns-in-Ok-finish-clause-only g c = λ rose.
    let same = counted_same _ _ _ c.in-End.ensures.failed (λ e. cc) in
    let before = c.reading.invariant.input in
    absurd (omega (arith, same, before, rose))

pub returns-in-Err-finish-clause-only : goal.returns-in-Err-finish-clause-only
returns-in-Err-finish-clause-only g c = λ rose.
    let same = counted_same _ _ _ c.in-End.ensures.failed (λ e. cc) in
    let before = c.reading.invariant.input in
    absurd (omega (arith, same, before, rose))

pub returns-in-Err-clause-only_write : goal.returns-in-Err-clause-only_write
returns-in-Err-clause-only_write g c =
    stop_told c.in-Err.stop c.tell.result _ _ _ _ _ _ _ c.reading.invariant.out c.in-Err.ensures.later c.in-Err.ensures.only c.reading.invariant.err c.tell.ensures.fault c.tell.ensures.only_write

pub returns-then-used-count-clause-only_write : goal.returns-then-used-count-clause-only_write
returns-then-used-count-clause-only_write g c = (
  λ rose. rose_not _ _ (c.in-Ok.ensures.only ∙ c.reading.invariant.out) rose,
  λ rose. c.complain.ensures.only_write (omega (arith, c.reading.invariant.err, rose)),
)

pub returns-in-Failed-clause-only_write : goal.returns-in-Failed-clause-only_write
returns-in-Failed-clause-only_write g c = (λ rose. rose_not _ _ c.reading.invariant.out rose, λ rose. rose_not _ _ c.reading.invariant.err rose)

pub returns-in-Ok-finish-clause-only_write : goal.returns-in-Ok-finish-clause-only_write
returns-in-Ok-finish-clause-only_write g c = (
  λ rose. rose_not _ _ (c.in-Ok-finish.ensures.only ∙ c.reading.invariant.out) rose,
  λ rose. rose_not _ _ c.reading.invariant.err rose,
)

pub returns-in-Err-finish-clause-only_write : goal.returns-in-Err-finish-clause-only_write
returns-in-Err-finish-clause-only_write g c =
    stop_told c.in-Err-finish.stop c.tell-in-Err-finish.result _ _ _ _ _ _ _ c.reading.invariant.out c.in-Err-finish.ensures.later c.in-Err-finish.ensures.only c.reading.invariant.err
    c.tell-in-Err-finish.ensures.fault c.tell-in-Err-finish.ensures.only_write
