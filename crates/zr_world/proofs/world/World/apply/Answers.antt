use Rattle.std.proofs.Common.{◌≡◌, ◌+◌, ◌<◌, ℕ, Bool, true, false, cond, inr, refl, sym, ap, ◌∙◌, subst, arith, rules, tests}
use Rattle.std.specs.Prelude.{is_ok}
use Rattle.std.proofs.lemmas.Bool.{false≢true}
use Rattle.zr_world_spec.specs.World.{WorldState}
use Rattle.zr_world_spec.specs.Acts.{outcome}
use Rattle.zr_world_spec.specs.Sound.{IsSound}
use Rattle.zr_law_numbers.specs.Calls.{most_commands}
use Rattle.zr_law_calls.specs.Reached.{IsFitReached}
use Rattle.zr_world.specs.Living.{Living, Applies, IsPassed}
use Rattle.zr_world.specs.State.{state_of}
use Rattle.zr_world.proofs.Possible.{act_reached, act_passes, reached_led, world_applies}
use Rattle.zr_world.proofs.world.World.apply.Given.{Over}
use Rattle.zr_world.proofs.world.World.apply.Goals as goal

-- where nothing was done the world is sound as it was
pub returns-then-self-ge-MOST_COMMANDS-clause-sound : goal.returns-then-self-ge-MOST_COMMANDS-clause-sound
returns-then-self-ge-MOST_COMMANDS-clause-sound g c = λ alive.
    subst (λ (l : Living). IsSound l.state) c.self.view_is
    (reached_led (state_of c.self.inside.tables) c.self.inside.applied (c.self.invariant (ap (λ (l : Living). l.spent) c.self.view_is ∙ alive))).sound

pub act-done-requires : goal.act-done-requires
act-done-requires g c = record { led = reached_led (state_of c.self.inside.tables) c.self.inside.applied (c.self.invariant c.if-self.false); fit = c.requires }

-- where the act was accepted one more was applied
counted : (g : Over) (c : goal.After-self-2-1 g) → c.self.inside.applied + c.from.result ≡ cond (is_ok c.act-done.result) (c.self.inside.applied + 1) c.self.inside.applied
counted g c =
    let one : c.from.result ≡ cond (is_ok c.act-done.result) 1 0 = search (rules, tests) in
    ap (λ n. c.self.inside.applied + n) one ∙ by (is_ok c.act-done.result)
  where
    by : (b : Bool) → c.self.inside.applied + cond b 1 0 ≡ cond b (c.self.inside.applied + 1) c.self.inside.applied
    by true = refl
    by false = omega arith

-- calls of fit acts lead to the world that isn't spent
behind : (g : Over) (c : goal.After-self-2-1 g) → c.is_out_of_memory-self-inside.result ≡ false → IsFitReached (state_of c.act-done.new.self) (cond (is_ok c.act-done.result) (c.self.inside.applied + 1) c.self.inside.applied)
behind g c alive =
    let room : c.self.inside.applied < most_commands = omega arith in
    act_reached c.act-done.result (state_of c.self.inside.tables) (state_of c.act-done.new.self) c.self.inside.applied c.args.line c.args.act c.args.report.now.items c.act-done.new.report.items c.act-done.ensures
    c.requires room (c.self.invariant c.if-self.false) (sym c.is_out_of_memory-self-inside.ensures ∙ alive)

pub invariant_of-self : goal.invariant_of-self
invariant_of-self g c = λ alive. subst (λ n. IsFitReached (state_of c.act-done.new.self) n) (sym (counted g c)) (behind g c alive)

pub returns-clause-applies : goal.returns-clause-applies
returns-clause-applies g c = λ alive room.
    let now : WorldState = state_of c.act-done.new.self in
    let before = c.args.report.now.items in
    let after = c.act-done.new.report.items in
    let count = c.self.inside.applied + c.from.result in
    let old : Living = record { state = state_of c.self.inside.tables; applied = c.self.inside.applied; spent = c.self.inside.spent } in
    let new : Living = record { state = now; applied = count; spent = c.is_out_of_memory-self-inside.result } in
    subst (λ (l : Living). Applies c.act-done.result (outcome l.state c.args.line c.args.act) (l.applied + 1) l new before after) c.self.view_is
    (subst (λ b. Applies c.act-done.result (outcome old.state c.args.line c.args.act) (old.applied + 1) old (record { state = now; applied = count; spent = b }) before after) (sym c.is_out_of_memory-self-inside.ensures)
    (world_applies c.act-done.result (outcome old.state c.args.line c.args.act) old now (old.applied + 1) count before after c.if-self.false (counted g c) c.act-done.ensures))

pub returns-clause-full : goal.returns-clause-full
returns-clause-full g c = λ alive most.
    let room : c.self.inside.applied < most_commands = omega arith in
    let same : c.self.inside.applied ≡ c.args.self.now.applied = ap (λ (l : Living). l.applied) c.self.view_is in
    absurd (omega (arith, room, same, most))

pub returns-clause-limits : goal.returns-clause-limits
returns-clause-limits g c = λ limit.
    subst (λ (l : Living). IsPassed l c.args.act) c.self.view_is
    (inr (act_passes c.act-done.result (state_of c.self.inside.tables) (state_of c.act-done.new.self) c.self.inside.applied c.args.line c.args.act c.args.report.now.items c.act-done.new.report.items
    c.act-done.ensures (c.self.invariant c.if-self.false) limit))

pub returns-clause-sound : goal.returns-clause-sound
returns-clause-sound g c = λ alive. (reached_led (state_of c.act-done.new.self) (cond (is_ok c.act-done.result) (c.self.inside.applied + 1) c.self.inside.applied) (behind g c alive)).sound

pub returns-clause-spent : goal.returns-clause-spent
returns-clause-spent g c = λ spent. absurd (false≢true (sym c.if-self.false ∙ ap (λ (l : Living). l.spent) c.self.view_is ∙ spent))
