use Rattle.std.proofs.Common.{◌∙◌, ◌≡◌, ◌+◌, ◌-◌, ◌<◌, ◌==◌, [], length, take, drop, None, refl, sym, ap, rules, arith, subst}
use Rattle.std.specs.List.{position}
use Rattle.std.proofs.lemmas.Result.{err_from_is_err_and}
use Rattle.std.proofs.Math.Nat.{le_trans}
use Rattle.zr_lists.proofs.Cutting.{none_cut, open_front}
use Rattle.zr_world.specs.Living.{Living}
use Rattle.zr_netrun_lines.specs.Kept.{fresh, writes}
use Rattle.zr_netrun_lines.proofs.Writing.{seen_at, seen_stopped}
use Rattle.zr_netrun_lines.proofs.Counting.{ahead_start}
use Rattle.zr_netrun_lines.proofs.Accepting.{next_counts, keeps_counts}
use Rattle.zr_netrun_lines.proofs.Going.{goes_past}
use Rattle.zr_netrun_lines.proofs.Lines.{IsOpen}
use Rattle.zr_netrun_lines.proofs.Refusing.{refused_next, refused_stop, no_memory_keeps}
use Rattle.zr_netrun_lines.proofs.Feeding.{left_shorter, start_at, cut_rest, place_within, next_at, stops_at, keeps_at}
use Rattle.zr_outside.proofs.Counting.{only_still, only_stopped}
use Rattle.zr_netrun_lines.specs.declared.runner.RunStop.TheVariants as stop
use Rattle.zr_netrun_lines.proofs.runner.Runner.feed_lines.Goals as goal

pub loop-place-init : goal.loop-place-init
loop-place-init g c = record {
  alive = c.requires.alive;
  goes = c.requires.goes;
  is_open = rw (← c.self.view_is) c.self.invariant.1;
  count = omega arith;
  later = omega arith;
  quiet = refl;
  counted = ahead_start c.args.self.now _;
  refused = refl;
  at = (fresh c.args.self.now, start_at c.args.self.now _ c.requires.alive, refl, refl);
}

pub end_line-requires-clause-open : goal.end_line-requires-clause-open
end_line-requires-clause-open g c κs lives = open_front (λ b. b == 10) c.loop-place.rest.now c.in-Some.place 0 (sym c.in-Some.ensures)

pub returns-in_err-end_line-clause-turn : goal.returns-in_err-end_line-clause-turn
returns-in_err-end_line-clause-turn g c =
    let p = err_from_is_err_and c.from_residual.result c.from_residual.ensures.1 in
    rw (p.1, p.2) (stops_at _ _ _ _ c.loop-place.self c.end_line.new.self c.loop-place.rest.now (take c.in-Some.place c.loop-place.rest.now)
    (take (length c.loop-place.rest.now - (c.in-Some.place + 1)) (drop (c.in-Some.place + 1) c.loop-place.rest.now)) [] _ _ _ c.loop-place.invariant.at c.loop-place.invariant.is_open
    (cut_rest c.loop-place.rest.now c.in-Some.place (sym c.in-Some.ensures))
    (seen_stopped (writes c.loop-place.self) (writes c.args.self.now) _ _ _ _ _ _ c.loop-place.invariant.counted.mode c.in_err-end_line.ensures.turn))

pub loop-place-preserved : goal.loop-place-preserved
loop-place-preserved g c =
    let within : c.in-Some.place < length c.loop-place.rest.now = place_within c.loop-place.rest.now c.in-Some.place (sym c.in-Some.ensures) in
    let turn = seen_at (writes c.loop-place.self) (writes c.args.self.now) _ _ _ _ _ _ c.loop-place.invariant.counted.mode c.in_ok-end_line.ensures.turn in
    let cut = cut_rest c.loop-place.rest.now c.in-Some.place (sym c.in-Some.ensures) in
    record {
      alive = ap (λ (w : Living). w.spent) turn.world;
      goes = goes_past c.loop-place.self c.end_line.new.self _ _ _ _ _ c.loop-place.invariant.goes turn;
      is_open = subst IsOpen (sym turn.line_is) refl;
      count = le_trans (left_shorter c.end_line.new.self.number c.loop-place.self.number c.in-Some.place _ c.loop-place.rest.now within c.in_ok-end_line.ensures.count)
          c.loop-place.invariant.count;
      later = omega (arith, c.in_ok-end_line.ensures.later);
      quiet = c.in_ok-end_line.ensures.only ∙ c.loop-place.invariant.quiet;
      counted = next_counts _ c.loop-place.self c.end_line.new.self _ c.loop-place.rest.now _ _ _ _ _ c.loop-place.invariant.is_open cut turn c.loop-place.invariant.counted c.in_ok-end_line.ensures.counts;
      refused = refused_next c.loop-place.self c.end_line.new.self c.loop-place.rest.now _ _ _ _ _ c.loop-place.invariant.refused c.loop-place.invariant.is_open cut turn;
      at = next_at _ _ _ _ c.loop-place.self c.end_line.new.self c.loop-place.rest.now _ _ _ _ c.loop-place.invariant.at c.loop-place.invariant.is_open
          cut turn;
    }

pub returns-in_err-end_line-clause-refused : goal.returns-in_err-end_line-clause-refused
returns-in_err-end_line-clause-refused g c =
    let p = err_from_is_err_and c.from_residual.result c.from_residual.ensures.1 in
    rw (p.1, p.2) (refused_stop c.loop-place.self c.end_line.new.self c.loop-place.rest.now (take c.in-Some.place c.loop-place.rest.now)
    (take (length c.loop-place.rest.now - (c.in-Some.place + 1)) (drop (c.in-Some.place + 1) c.loop-place.rest.now)) _ _ _ _ c.loop-place.invariant.refused c.loop-place.invariant.is_open
    (cut_rest c.loop-place.rest.now c.in-Some.place (sym c.in-Some.ensures)) c.in_err-end_line.ensures.turn c.in_err-end_line.ensures.refused)

pub keep_part-requires : goal.keep_part-requires
keep_part-requires g c =
    let none : position (λ b. b == 10) c.loop-place.rest.now ≡ None = search rules in
    none_cut (λ b. b == 10) c.loop-place.rest.now 0 none

pub returns-clause-turn : goal.returns-clause-turn
returns-clause-turn g c =
    let none : position (λ b. b == 10) c.loop-place.rest.now ≡ None = search rules in
    keeps_at _ _ _ _ c.loop-place.self c.keep_part.new.self c.loop-place.rest.now _ c.keep_part.result c.loop-place.invariant.at c.loop-place.invariant.is_open
    (none_cut (λ b. b == 10) c.loop-place.rest.now 0 none) c.keep_part.ensures.ok c.keep_part.ensures.err

pub returns-clause-counts : goal.returns-clause-counts
returns-clause-counts g c =
    let none : position (λ b. b == 10) c.loop-place.rest.now ≡ None = search rules in
    keeps_counts _ c.loop-place.self c.keep_part.new.self _ c.loop-place.rest.now _ _ c.keep_part.result c.loop-place.invariant.is_open
    (none_cut (λ b. b == 10) c.loop-place.rest.now 0 none) c.keep_part.ensures.ok c.loop-place.invariant.counted

pub returns-clause-refused : goal.returns-clause-refused
returns-clause-refused g c = no_memory_keeps c.keep_part.result _ c.keep_part.new.self c.keep_part.ensures.err

pub returns-in_err-end_line-clause-only : goal.returns-in_err-end_line-clause-only
returns-in_err-end_line-clause-only g c = only_stopped stop.WriteFault c.from_residual.result c.in_err-end_line.field-0.0 _ _ _ c.from_residual.ensures.1 c.loop-place.invariant.quiet c.in_err-end_line.ensures.only

pub returns-clause-only : goal.returns-clause-only
returns-clause-only g c = only_still stop.WriteFault c.keep_part.result _ _ c.loop-place.invariant.quiet
