use Rattle.std.proofs.Common.{◌≡◌, [], List, ◌++◌, length, take, drop, refl, sym, ap, ◌∙◌, subst, arith}
use Rattle.std.specs.List.{AllByRecursion}
use Rattle.std.proofs.lemmas.List.{take_at}
use Rattle.zr_world_gang.specs.declared.share.Turn.TheVariants as turn
use Rattle.zr_world_gang.specs.Shares.{ShareState, MayBeHandled}
use Rattle.zr_world_gang.specs.Turns.{AllHaveDone}
use Rattle.zr_law_rounds.specs.Rounds.{waits}
use Rattle.zr_law_rounds.specs.Told.{AreUnderWay, HaveCome, Stay, nothing}
use Rattle.zr_law_rounds.proofs.Beginning.{stay_both}
use Rattle.zr_world_rounds.proofs.rounds.all_rounds.Goals as goal

pub loop-init : goal.loop-init
loop-init g c = λ w u. (u, (refl, refl))

pub loop-preserved : goal.loop-preserved
loop-preserved g c =
    let old : List ShareState = c.loop.shares.items in
    let ss : List ShareState = c.pass_on.new.shares in
    let ts : List ShareState = c.in_ok-shares.shares.items in
    let back : take c.loop.shares.len (ss ++ drop (length ss) old) ≡ ss = take_at _ _ _ (omega (arith, c.pass_on.auto.shares, c.deref_mut.ensures.len)) in
    let come = subst (λ (z : List ShareState). HaveCome [] nothing z ss) c.deref_mut.ensures.value c.in_ok-pass_on.ensures in
    let may = subst (λ (z : List ShareState). AllByRecursion (λ s. MayBeHandled s.hub s.input) z) (c.deref.ensures.value ∙ back) c.are_idle.ensures.may in
    let done = subst (λ (z : List ShareState). AllHaveDone turn.Handle z ts) back c.in_ok-shares.ensures in
    λ w u.
    let one = c.loop.invariant w u in
    let two = c.round_goes.ensures w ss ts (c.pass_goes.ensures w old ss one.0 come) may done in
    (two.0, stay_both c.args.shares.items ss ts (stay_both c.args.shares.items old ss one.1 come.stay) two.1)

pub returns-then-are_idle-clause-gone : goal.returns-then-are_idle-clause-gone
returns-then-are_idle-clause-gone g c =
    let old : List ShareState = c.loop.shares.items in
    let ss : List ShareState = c.pass_on.new.shares in
    let back : take c.loop.shares.len (ss ++ drop (length ss) old) ≡ ss = take_at _ _ _ (omega (arith, c.pass_on.auto.shares, c.deref_mut.ensures.len)) in
    let come = subst (λ (z : List ShareState). HaveCome [] nothing z ss) c.deref_mut.ensures.value c.in_ok-pass_on.ensures in
    λ w u.
    let one = c.loop.invariant w u in
    subst (λ (z : List ShareState). AreUnderWay w z × Stay c.args.shares.items z) (sym back) (c.pass_goes.ensures w old ss one.0 come, stay_both c.args.shares.items old ss one.1 come.stay)

pub returns-then-are_idle-clause-idle : goal.returns-then-are_idle-clause-idle
returns-then-are_idle-clause-idle g c = ap waits (sym c.deref.ensures.value) ∙ c.are_idle.ensures.idle c.if-are_idle.true
