use Rattle.std.proofs.Common.{◌≡◌, ap, false, ◌∙◌}
use Rattle.zr_pend_spec.specs.Held.{gatherings_without}
use Rattle.zr_pend_spec.specs.Pending.{asked}
use Rattle.zr_pend_spec.proofs.Sound.{begun_sound}
use Rattle.zr_pend_spec.proofs.Askers.{begun_of_rows, none_gathered}
use Rattle.zr_pend.proofs.Undone.{begun_left}
use Rattle.zr_pend.proofs.pending.Pending.pass_on.Goals as goal

pub begin_if-requires : goal.begin_if-requires
begin_if-requires c =
    let fresh : asked c.args.asker c.self.inside.rows ≡ false = ap (λ p. asked c.args.asker p.rows) c.self.view_is ∙ c.requires.fresh in
    none_gathered c.args.asker c.self.inside.rows c.self.inside.gatherings c.self.invariant.1 fresh

pub invariant_of-self-in-Ok : goal.invariant_of-self-in-Ok
invariant_of-self-in-Ok c =
    let rows = c.self.inside.rows in
    let to = c.args.to.now in
    let fresh : asked c.args.asker rows ≡ false = ap (λ p. asked c.args.asker p.rows) c.self.view_is ∙ c.requires.fresh in
    rw (c.in-Ok.ensures.rows, c.in_ok-begin_if.ensures.ok) (
      begun_sound rows c.args.asker to c.requires.some c.requires.differ fresh c.self.invariant.0,
      begun_of_rows rows c.args.asker to c.args.latest c.self.inside.gatherings c.self.invariant.1,
    )

pub invariant_of-self-in-Err : goal.invariant_of-self-in-Err
invariant_of-self-in-Err c =
    let rows = c.self.inside.rows in
    let held = c.self.inside.gatherings in
    let fresh : asked c.args.asker rows ≡ false = ap (λ p. asked c.args.asker p.rows) c.self.view_is ∙ c.requires.fresh in
    let back : c.take_for.new.self ≡ held =
    c.take_for.ensures.others ∙ ap (λ gs. gatherings_without gs c.args.asker) c.in_ok-begin_if.ensures.ok ∙ begun_left c.args.latest c.args.asker held (none_gathered c.args.asker rows held c.self.invariant.1 fresh) in
    rw (c.in-Err.ensures.unchanged, back) c.self.invariant

pub returns-in-Err-clause-unchanged : goal.returns-in-Err-clause-unchanged
returns-in-Err-clause-unchanged c =
    let rows = c.self.inside.rows in
    let held = c.self.inside.gatherings in
    let fresh : asked c.args.asker rows ≡ false = ap (λ p. asked c.args.asker p.rows) c.self.view_is ∙ c.requires.fresh in
    let back : c.take_for.new.self ≡ held =
    c.take_for.ensures.others ∙ ap (λ gs. gatherings_without gs c.args.asker) c.in_ok-begin_if.ensures.ok ∙ begun_left c.args.latest c.args.asker held (none_gathered c.args.asker rows held c.self.invariant.1 fresh) in
    rw (c.in-Err.ensures.unchanged, back) c.self.view_is
