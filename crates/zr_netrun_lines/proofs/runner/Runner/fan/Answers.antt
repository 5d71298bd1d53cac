use Rattle.std.proofs.Common.{◌≡◌, List, Ok, refl, rules, subst}
use Rattle.std.specs.Option.{option_map}
use Rattle.std.proofs.lemmas.Result.{err_from_is_err_and}
use Rattle.zr_script_spec.specs.declared.report.ReportLine.{ReportLine}
use Rattle.zr_world_spec.specs.Next.{fan_step}
use Rattle.zr_world.specs.Living.{Applies}
use Rattle.zr_netrun_report.specs.Counted.{with_lines}
use Rattle.zr_netrun_lines.specs.Kept.{Kept}
use Rattle.zr_netrun_lines.proofs.Counting.{fan_counts}
use Rattle.zr_netrun_lines.proofs.Acting.{done_stops}
use Rattle.zr_netrun_lines.proofs.Room.{within_refused, within_fanned}
use Rattle.zr_outside.proofs.Counting.{only_still}
use Rattle.zr_netrun_lines.specs.declared.runner.RunStop.TheVariants as stop
use Rattle.zr_netrun_lines.proofs.runner.Runner.fan.Goals as goal

pub returns-in_err-fan-clause-turn : goal.returns-in_err-fan-clause-turn
returns-in_err-fan-clause-turn g c =
    let p = err_from_is_err_and c.from_residual.result c.from_residual.ensures.1 in
    let alive = rw (← c.self.view_is) at c.requires.alive in
    let k : Kept = record { world = c.self.inside.world; number = c.self.inside.number; line = c.self.inside.line.items; pending = c.self.inside.pending.items; counts = c.self.inside.counts } in
    rw (p.1, p.2, ← c.self.view_is) (done_stops k _ (fan_step k.world.state k.number) k.world.applied c.fan.new.self c.clear.new.self.items c.fan.new.report.items _ c.in_err-fan.field-0.0
    (c.in_err-fan.ensures.applies alive) refl refl)

pub returns-clause-counts : goal.returns-clause-counts
returns-clause-counts g c =
    let alive = rw (← c.self.view_is) at c.requires.alive in
    let k : Kept = record { world = c.self.inside.world; number = c.self.inside.number; line = c.self.inside.line.items; pending = c.self.inside.pending.items; counts = c.self.inside.counts } in
    let m : Kept = record { world = c.fan.new.self; number = c.self.inside.number; line = c.self.inside.line.items; pending = c.write_if_enough.new.pending.items; counts = c.tell_lines.new.counts } in
    let applies = subst (λ (z : List ReportLine). Applies (Ok c.in_ok-fan.field-0) (fan_step k.world.state k.number) k.world.applied k.world m.world z c.fan.new.report.items) c.clear.ensures.items (c.in_ok-fan.ensures.applies alive) in
    let told = subst (λ (z : List ReportLine). c.tell_lines.new.counts ≡ option_map (λ x. with_lines c.fan.new.self.state.routers x z) c.self.inside.counts) c.deref.ensures.value c.tell_lines.ensures.counts in
    rw (← c.self.view_is) (fan_counts k m c.fan.new.report.items c.in_ok-fan.field-0 applies told)

pub returns-in_err-fan-clause-only : goal.returns-in_err-fan-clause-only
returns-in_err-fan-clause-only g c = only_still stop.WriteFault c.from_residual.result _ _ refl

pub invariant_of-self : goal.invariant_of-self
invariant_of-self g c =
    let alive = rw (← c.self.view_is) at c.requires.alive in (
      c.self.invariant.0,
      c.self.invariant.1,
      c.self.invariant.2,
      within_refused c.in_err-fan.field-0.0 (fan_step c.self.inside.world.state c.self.inside.number) c.self.inside.world.applied c.self.inside.world c.fan.new.self c.self.inside.number
          c.clear.new.self.items c.fan.new.report.items (c.in_err-fan.ensures.applies alive) c.self.invariant.3,
    )

pub invariant_of-self-in_err-tell_lines : goal.invariant_of-self-in_err-tell_lines
invariant_of-self-in_err-tell_lines g c =
    let alive = rw (← c.self.view_is) at c.requires.alive in (
      search rules,
      search rules,
      search rules,
      within_fanned c.self.inside.world c.fan.new.self c.self.inside.number c.self.inside.number c.clear.new.self.items c.fan.new.report.items c.in_ok-fan.field-0 (c.in_ok-fan.ensures.applies alive) alive
          c.self.invariant.3,
    )

pub invariant_of-self-in_err-write_if_enough : goal.invariant_of-self-in_err-write_if_enough
invariant_of-self-in_err-write_if_enough g c =
    let alive = rw (← c.self.view_is) at c.requires.alive in (
      search rules,
      search rules,
      search rules,
      within_fanned c.self.inside.world c.fan.new.self c.self.inside.number c.self.inside.number c.clear.new.self.items c.fan.new.report.items c.in_ok-fan.field-0 (c.in_ok-fan.ensures.applies alive) alive
          c.self.invariant.3,
    )

pub invariant_of-self-2 : goal.invariant_of-self-2
invariant_of-self-2 g c =
    let alive = rw (← c.self.view_is) at c.requires.alive in (
      search rules,
      search rules,
      search rules,
      within_fanned c.self.inside.world c.fan.new.self c.self.inside.number c.self.inside.number c.clear.new.self.items c.fan.new.report.items c.in_ok-fan.field-0 (c.in_ok-fan.ensures.applies alive) alive
          c.self.invariant.3,
    )
