use Rattle.std.proofs.Common.{refl, ◌≡◌, ◌≤◌, ◌+◌, [], Some, None, Ok, sym, ap, rules, arith, subst}
use Rattle.std.proofs.lemmas.Result.{err_from_is_err_and}
use Rattle.zr_script_spec.specs.declared.command.Command.TheVariants as k
use Rattle.zr_script_spec.specs.Command.{command_of}
use Rattle.zr_script_spec.specs.Lines.{most_bytes}
use Rattle.zr_netrun_lines.specs.Kept.{Kept}
use Rattle.zr_netrun_lines.specs.Possible.{RunsGo}
use Rattle.zr_netrun_lines.proofs.Stepping.{reading_stops, act_line_turns, fan_line_turns, line_turns}
use Rattle.zr_netrun_lines.proofs.Counting.{silent_counts, line_counts_if}
use Rattle.zr_outside.proofs.Counting.{only_still}
use Rattle.zr_netrun_lines.specs.declared.runner.RunStop.TheVariants as stop
use Rattle.zr_netrun_lines.proofs.runner.Runner.on_line.Goals as goal

pub returns-in_err-read_line-clause-turn : goal.returns-in_err-read_line-clause-turn
returns-in_err-read_line-clause-turn g c =
    let p = err_from_is_err_and c.from_residual.result c.from_residual.ensures.1 in
    rw (p.1, p.2) (reading_stops c.args.self.now c.count_line.new.self c.args.line.now c.args.self.now.line _ c.in_err-read_line.field-0.0 c.in_err-read_line.ensures c.count_line.ensures.counted)

pub returns-in-None-clause-counts : goal.returns-in-None-clause-counts
returns-in-None-clause-counts g c =
    let silent : command_of c.args.line.now ≡ Ok None = search rules in
    silent_counts c.args.self.now c.count_line.new.self c.args.line.now silent c.count_line.ensures.counted

pub returns-in-Some-Act-clause-turn : goal.returns-in-Some-Act-clause-turn
returns-in-Some-Act-clause-turn g c =
    let asks : command_of c.args.line.now ≡ Ok (Some (k.Act c.in-Some-Act.act)) = search rules in
    act_line_turns c.args.self.now c.count_line.new.self c.do_act.new.self c.args.line.now c.in-Some-Act.act _ _ c.do_act.result asks c.count_line.ensures.counted c.do_act.ensures.turn

pub returns-in-Some-Act-clause-counts : goal.returns-in-Some-Act-clause-counts
returns-in-Some-Act-clause-counts g c =
    let asks : command_of c.args.line.now ≡ Ok (Some (k.Act c.in-Some-Act.act)) = search rules in
    line_counts_if c.args.self.now c.count_line.new.self c.do_act.new.self c.args.line.now _ _ (k.Act c.in-Some-Act.act) _ _ c.do_act.result asks c.count_line.ensures.counted
    (act_line_turns c.args.self.now c.count_line.new.self c.do_act.new.self c.args.line.now c.in-Some-Act.act (g.K.Sink.held c.args.out.now) (g.K.Sink.held c.do_act.new.out) c.do_act.result asks c.count_line.ensures.counted c.do_act.ensures.turn)
    c.do_act.ensures.counts

pub do_act-requires-clause-room : goal.do_act-requires-clause-room
do_act-requires-clause-room g c = c.count_line.ensures.room c.requires.alive

pub do_act-requires-clause-few : goal.do_act-requires-clause-few
do_act-requires-clause-few g c = c.count_line.ensures.few c.requires.alive

pub run-requires-clause-room : goal.run-requires-clause-room
run-requires-clause-room g c = c.count_line.ensures.room c.requires.alive

pub run-requires-clause-short : goal.run-requires-clause-short
run-requires-clause-short g c = omega (arith, ap (λ (z : Kept). z.number) c.count_line.ensures.counted, c.requires.room)

pub run-requires-clause-goes : goal.run-requires-clause-goes
run-requires-clause-goes g c =
    let room : c.args.self.now.number + 0 ≤ most_bytes = omega (arith, c.requires.room) in
    subst (λ (z : Kept). RunsGo z.world.state) (sym c.count_line.ensures.counted) (c.requires.goes [] room)

pub returns-in-Some-Run-clause-turn : goal.returns-in-Some-Run-clause-turn
returns-in-Some-Run-clause-turn g c =
    let asks : command_of c.args.line.now ≡ Ok (Some (k.Run c.in-Some-Run.steps)) = search rules in
    line_turns c.args.self.now c.count_line.new.self c.run.new.self c.args.line.now (k.Run c.in-Some-Run.steps) _ _ c.run.result asks c.count_line.ensures.counted c.run.ensures.turn

pub returns-in-Some-Run-clause-counts : goal.returns-in-Some-Run-clause-counts
returns-in-Some-Run-clause-counts g c =
    let asks : command_of c.args.line.now ≡ Ok (Some (k.Run c.in-Some-Run.steps)) = search rules in
    line_counts_if c.args.self.now c.count_line.new.self c.run.new.self c.args.line.now _ _ (k.Run c.in-Some-Run.steps) _ _ c.run.result asks c.count_line.ensures.counted
    (line_turns c.args.self.now c.count_line.new.self c.run.new.self c.args.line.now (k.Run c.in-Some-Run.steps) (g.K.Sink.held c.args.out.now) (g.K.Sink.held c.run.new.out) c.run.result asks c.count_line.ensures.counted c.run.ensures.turn)
    c.run.ensures.counts

pub returns-in_err-read_line-clause-only : goal.returns-in_err-read_line-clause-only
returns-in_err-read_line-clause-only g c = only_still stop.WriteFault c.from_residual.result _ _ refl

pub returns-in-Some-Fan-clause-turn : goal.returns-in-Some-Fan-clause-turn
returns-in-Some-Fan-clause-turn g c =
    let asks : command_of c.args.line.now ≡ Ok (Some k.Fan) = search rules in
    fan_line_turns c.args.self.now c.count_line.new.self c.fan.new.self c.args.line.now _ _ c.fan.result asks c.count_line.ensures.counted c.fan.ensures.turn

pub returns-in-Some-Fan-clause-counts : goal.returns-in-Some-Fan-clause-counts
returns-in-Some-Fan-clause-counts g c =
    let asks : command_of c.args.line.now ≡ Ok (Some k.Fan) = search rules in
    line_counts_if c.args.self.now c.count_line.new.self c.fan.new.self c.args.line.now _ _ k.Fan _ _ c.fan.result asks c.count_line.ensures.counted
    (fan_line_turns c.args.self.now c.count_line.new.self c.fan.new.self c.args.line.now (g.K.Sink.held c.args.out.now) (g.K.Sink.held c.fan.new.out) c.fan.result asks c.count_line.ensures.counted c.fan.ensures.turn)
    c.fan.ensures.counts

pub do_act-requires-clause-fit : goal.do_act-requires-clause-fit
do_act-requires-clause-fit g c =
    let asks : command_of c.args.line.now ≡ Ok (Some (k.Act c.in-Some-Act.act)) = search rules in
    c.line_acts_fit.ensures c.in-Some-Act.act (c.args.line.now, asks)
