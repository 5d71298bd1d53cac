use Rattle.std.proofs.Common.{◌≡◌, ◌≤◌, ℕ, List, [], ◌∷◌, ◌++◌, Ok, length, take, drop, sym, ap, ◌∙◌, subst, arith}
use Rattle.std.proofs.lemmas.List.{take_at}
use Rattle.zr_law_fan.specs.Samples.{quieted}
use Rattle.zr_law_rounds.specs.Told.{AreUnderWay, MayFan, Stay, steps_in, told_of}
use Rattle.zr_law_rounds.proofs.Beginning.{stay_both}
use Rattle.zr_world_gang.specs.Shares.{ShareState}
use Rattle.zr_world_spec.specs.Fan.{most_fan_steps}
use Rattle.zr_world_spec.specs.Next.{fan_done}
use Rattle.zr_world_spec.specs.World.{WorldState}
use Rattle.zr_world_rounds.proofs.Telling.{both_say}
use Rattle.zr_world_rounds.proofs.fan.fan.Goals as goal

pub returns-clause-done : goal.returns-clause-done
returns-clause-done g c =
    let new : List ShareState = c.args.shares.items in
    let ss : List ShareState = c.begin_all.new.shares in
    let ts : List ShareState = c.in_ok-shares.shares.items in
    let back : take c.args.shares.len (ss ++ drop (length ss) new) ≡ ss = take_at _ _ _ (omega (arith, c.begin_all.auto.shares, c.deref_mut.ensures.len)) in
    both_say c.told.result (λ x. x.0 ≡ told_of ts) (λ x. steps_in ts ≤ most_fan_steps)
    (λ x. (w : WorldState) → MayFan w new → c.args.ends.items ≡ w.ends → (line : ℕ) → fan_done line w ≡ Ok (x.0 ∷ [], quieted w))
    (λ x is few w may same line.
    let begun = c.in_ok-begin_all.ensures.gone w (subst (λ (z : List ShareState). MayFan w z) (sym c.deref_mut.ensures.value) may) same in
    let gone = c.in_ok-shares.ensures.gone w (subst (λ (z : List ShareState). AreUnderWay w z) (sym back) begun) in
    c.rounds_tell.ensures w ts gone.0 c.in_ok-shares.ensures.idle few line ∙ ap (λ l. Ok (l ∷ [], quieted w)) (sym is))
    c.told.ensures.line c.told.ensures.few

pub returns-clause-stay : goal.returns-clause-stay
returns-clause-stay g c =
    let new : List ShareState = c.args.shares.items in
    let ss : List ShareState = c.begin_all.new.shares in
    let ts : List ShareState = c.in_ok-shares.shares.items in
    let back : take c.args.shares.len (ss ++ drop (length ss) new) ≡ ss = take_at _ _ _ (omega (arith, c.begin_all.auto.shares, c.deref_mut.ensures.len)) in
    both_say c.told.result (λ x. x.0 ≡ told_of ts) (λ x. Stay ts x.1.items) (λ x. (w : WorldState) → MayFan w new → c.args.ends.items ≡ w.ends → Stay new x.1.items)
    (λ x is stay w may same.
    let begun = c.in_ok-begin_all.ensures.gone w (subst (λ (z : List ShareState). MayFan w z) (sym c.deref_mut.ensures.value) may) same in
    let gone = c.in_ok-shares.ensures.gone w (subst (λ (z : List ShareState). AreUnderWay w z) (sym back) begun) in
    let first = subst (λ (z : List ShareState). Stay z ss) c.deref_mut.ensures.value c.in_ok-begin_all.ensures.stay in
    stay_both new ts x.1.items (stay_both new ss ts first (subst (λ (z : List ShareState). Stay z ts) back gone.1)) stay)
    c.told.ensures.line c.told.ensures.stay
