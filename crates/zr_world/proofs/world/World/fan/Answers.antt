use Rattle.std.proofs.Common.{◌≡◌, Bool, true, false, cond, refl, sym, ap, ◌∙◌, subst}
use Rattle.std.specs.Prelude.{◌||◌, is_ok}
use Rattle.std.proofs.lemmas.Bool.{false≢true}
use Rattle.zr_world_spec.specs.World.{WorldState}
use Rattle.zr_world_spec.specs.Fan.{are_many, are_long}
use Rattle.zr_world_spec.specs.Next.{fan_step}
use Rattle.zr_world.specs.Living.{Living, Applies}
use Rattle.zr_world.specs.State.{state_of}
use Rattle.zr_world.proofs.Possible.{fan_reached, reached_led, world_applies}
use Rattle.zr_world.proofs.world.World.fan.Goals as goal

pub fan-done-requires : goal.fan-done-requires
fan-done-requires g c = (c.type_bounds.sync-R, (reached_led (state_of c.self.inside.tables) c.self.inside.applied (c.self.invariant c.if-self.false)).sound)

pub invariant_of-self : goal.invariant_of-self
invariant_of-self g c = λ alive.
    fan_reached c.fan-done.result (state_of c.self.inside.tables) (state_of c.fan-done.new.self) c.self.inside.applied c.args.line c.args.report.now.items c.fan-done.new.report.items c.fan-done.ensures.applies
    (c.self.invariant c.if-self.false) (sym c.is_out_of_memory-self-inside.ensures ∙ alive)

pub returns-clause-applies : goal.returns-clause-applies
returns-clause-applies g c = λ alive.
    let now : WorldState = state_of c.fan-done.new.self in
    let before = c.args.report.now.items in
    let after = c.fan-done.new.report.items in
    let count = c.self.inside.applied in
    let old : Living = record { state = state_of c.self.inside.tables; applied = count; spent = c.self.inside.spent } in
    let new : Living = record { state = now; applied = count; spent = c.is_out_of_memory-self-inside.result } in
    subst (λ (l : Living). Applies c.fan-done.result (fan_step l.state c.args.line) l.applied l new before after) c.self.view_is
    (subst (λ b. Applies c.fan-done.result (fan_step old.state c.args.line) count old (record { state = now; applied = count; spent = b }) before after) (sym c.is_out_of_memory-self-inside.ensures)
    (world_applies c.fan-done.result (fan_step old.state c.args.line) old now count count before after c.if-self.false (same (is_ok c.fan-done.result)) c.fan-done.ensures.applies))
  where
    same : (b : Bool) → c.self.inside.applied ≡ cond b c.self.inside.applied c.self.inside.applied
    same true = refl
    same false = refl

pub returns-clause-limits : goal.returns-clause-limits
returns-clause-limits g c = λ limit. subst (λ (l : Living). (are_many l.state || are_long l.state) ≡ true) c.self.view_is (c.fan-done.ensures.limits limit)

pub returns-clause-sound : goal.returns-clause-sound
returns-clause-sound g c = λ alive.
    (reached_led (state_of c.fan-done.new.self) c.self.inside.applied
    (fan_reached c.fan-done.result (state_of c.self.inside.tables) (state_of c.fan-done.new.self) c.self.inside.applied c.args.line c.args.report.now.items c.fan-done.new.report.items c.fan-done.ensures.applies
    (c.self.invariant c.if-self.false) (sym c.is_out_of_memory-self-inside.ensures ∙ alive))).sound

pub returns-clause-spent : goal.returns-clause-spent
returns-clause-spent g c = λ spent. absurd (false≢true (sym c.if-self.false ∙ ap (λ (l : Living). l.spent) c.self.view_is ∙ spent))
