use Rattle.std.proofs.Common.{cond, true, false, ap, ◌∙◌}
use Rattle.std.specs.Cmp.Lexicographic.{nat_list_cmp_total}
use Rattle.std.proofs.lemmas.Cmp.{eq_by_cmp_equiv}
use Rattle.zr_token.specs.Tally.{reaches}
use Rattle.zr_token.proofs.tally.Tally.reach.Goals as goal

pub returns-in_ok-insert-clause-ok : goal.returns-in_ok-insert-clause-ok
returns-in_ok-insert-clause-ok c =
    rw (← c.self.view_is, c.if-reached.true)
    (λ s. c.in_ok-insert.ensures.updates.0 s ∙ ap (λ b. cond b true (reaches (record { pairs = c.self.inside.pairs.items; reached = c.self.inside.reached.keys }) s)) ((eq_by_cmp_equiv nat_list_cmp_total).symm c.args.source s))

pub returns-else-reached-clause-ok : goal.returns-else-reached-clause-ok
returns-else-reached-clause-ok c =
    rw (← c.self.view_is, c.if-reached.false)
    (λ s. c.remove.ensures.updates.0 s ∙ ap (λ b. cond b false (reaches (record { pairs = c.self.inside.pairs.items; reached = c.self.inside.reached.keys }) s)) ((eq_by_cmp_equiv nat_list_cmp_total).symm c.args.source s))
