use Rattle.std.proofs.Common.{◌≡◌, ◌+◌, List, Ok, refl, rules, subst}
use Rattle.std.specs.Option.{option_map}
use Rattle.std.proofs.lemmas.Result.{err_from_is_err_and}
use Rattle.zr_script_spec.specs.declared.report.ReportLine.{ReportLine}
use Rattle.zr_world_spec.specs.Acts.{outcome}
use Rattle.zr_world.specs.Living.{Applies}
use Rattle.zr_netrun_report.specs.Counted.{with_lines}
use Rattle.zr_netrun_lines.specs.Kept.{Kept}
use Rattle.zr_netrun_lines.proofs.Counting.{act_counts}
use Rattle.zr_netrun_lines.proofs.Acting.{act_stops}
use Rattle.zr_netrun_lines.proofs.Room.{within_refused, within_applied, one_more}
use Rattle.zr_outside.proofs.Counting.{only_still}
use Rattle.zr_netrun_lines.specs.declared.runner.RunStop.TheVariants as stop
use Rattle.zr_netrun_lines.proofs.runner.Runner.do_act.Goals as goal

pub returns-in_err-apply-clause-turn : goal.returns-in_err-apply-clause-turn
returns-in_err-apply-clause-turn g c =
    let p = err_from_is_err_and c.from_residual.result c.from_residual.ensures.1 in
    let alive = rw (← c.self.view_is) at c.requires.alive in
    let few = rw (← c.self.view_is) at c.requires.few in
    let k : Kept = record { world = c.self.inside.world; number = c.self.inside.number; line = c.self.inside.line.items; pending = c.self.inside.pending.items; counts = c.self.inside.counts } in
    rw (p.1, p.2, ← c.self.view_is) (act_stops k _ c.args.act c.apply.new.self c.clear.new.self.items c.apply.new.report.items _ c.in_err-apply.field-0.0
    (c.in_err-apply.ensures.applies alive few) refl refl)

pub returns-clause-counts : goal.returns-clause-counts
returns-clause-counts g c =
    let alive = rw (← c.self.view_is) at c.requires.alive in
    let few = rw (← c.self.view_is) at c.requires.few in
    let k : Kept = record { world = c.self.inside.world; number = c.self.inside.number; line = c.self.inside.line.items; pending = c.self.inside.pending.items; counts = c.self.inside.counts } in
    let m : Kept = record { world = c.apply.new.self; number = c.self.inside.number; line = c.self.inside.line.items; pending = c.write_if_enough.new.pending.items; counts = c.tell_lines.new.counts } in
    let applies = subst (λ (z : List ReportLine). Applies (Ok c.in_ok-apply.field-0) (outcome k.world.state k.number c.args.act) (k.world.applied + 1) k.world m.world z c.apply.new.report.items) c.clear.ensures.items (c.in_ok-apply.ensures.applies alive few) in
    let told = subst (λ (z : List ReportLine). c.tell_lines.new.counts ≡ option_map (λ x. with_lines c.apply.new.self.state.routers x z) c.self.inside.counts) c.deref.ensures.value c.tell_lines.ensures.counts in
    rw (← c.self.view_is) (act_counts k m c.args.act c.apply.new.report.items c.in_ok-apply.field-0 applies told)

pub returns-in_err-apply-clause-only : goal.returns-in_err-apply-clause-only
returns-in_err-apply-clause-only g c = only_still stop.WriteFault c.from_residual.result _ _ refl

pub returns-clause-more : goal.returns-clause-more
returns-clause-more g c =
    let alive = rw (← c.self.view_is) at c.requires.alive in
    let few = rw (← c.self.view_is) at c.requires.few in
    rw (← c.self.view_is) (one_more c.self.inside.world c.apply.new.self c.self.inside.number c.args.act c.clear.new.self.items c.apply.new.report.items c.in_ok-apply.field-0 (c.in_ok-apply.ensures.applies alive few))

pub invariant_of-self : goal.invariant_of-self
invariant_of-self g c =
    let alive = rw (← c.self.view_is) at c.requires.alive in
    let few = rw (← c.self.view_is) at c.requires.few in (
      c.self.invariant.0,
      c.self.invariant.1,
      c.self.invariant.2,
      within_refused c.in_err-apply.field-0.0 (outcome c.self.inside.world.state c.self.inside.number c.args.act) (c.self.inside.world.applied + 1) c.self.inside.world c.apply.new.self c.self.inside.number
          c.clear.new.self.items c.apply.new.report.items (c.in_err-apply.ensures.applies alive few) c.self.invariant.3,
    )

pub invariant_of-self-in_err-tell_lines : goal.invariant_of-self-in_err-tell_lines
invariant_of-self-in_err-tell_lines g c =
    let alive = rw (← c.self.view_is) at c.requires.alive in
    let few = rw (← c.self.view_is) at c.requires.few in
    let room = rw (← c.self.view_is) at c.requires.room in (
      search rules,
      search rules,
      search rules,
      within_applied c.self.inside.world c.apply.new.self c.self.inside.number c.self.inside.number c.args.act c.clear.new.self.items c.apply.new.report.items c.in_ok-apply.field-0
          (c.in_ok-apply.ensures.applies alive few) alive room c.self.invariant.3,
    )

pub invariant_of-self-in_err-write_if_enough : goal.invariant_of-self-in_err-write_if_enough
invariant_of-self-in_err-write_if_enough g c =
    let alive = rw (← c.self.view_is) at c.requires.alive in
    let few = rw (← c.self.view_is) at c.requires.few in
    let room = rw (← c.self.view_is) at c.requires.room in (
      search rules,
      search rules,
      search rules,
      within_applied c.self.inside.world c.apply.new.self c.self.inside.number c.self.inside.number c.args.act c.clear.new.self.items c.apply.new.report.items c.in_ok-apply.field-0
          (c.in_ok-apply.ensures.applies alive few) alive room c.self.invariant.3,
    )

pub invariant_of-self-2 : goal.invariant_of-self-2
invariant_of-self-2 g c =
    let alive = rw (← c.self.view_is) at c.requires.alive in
    let few = rw (← c.self.view_is) at c.requires.few in
    let room = rw (← c.self.view_is) at c.requires.room in (
      search rules,
      search rules,
      search rules,
      within_applied c.self.inside.world c.apply.new.self c.self.inside.number c.self.inside.number c.args.act c.clear.new.self.items c.apply.new.report.items c.in_ok-apply.field-0
          (c.in_ok-apply.ensures.applies alive few) alive room c.self.invariant.3,
    )
