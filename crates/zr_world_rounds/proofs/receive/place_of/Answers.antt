use Rattle.std.proofs.Common.{rules, ap, ◌∙◌}
use Rattle.std.specs.Prelude.{slice_index_or}
use Rattle.std.specs.Ordering.{is_eq, ordering_reverse}
use Rattle.std.proofs.lemmas.Cmp.{nat_list_cmp_total}
use Rattle.std.proofs.lemmas.List.Sorted.{answers_always}
use Rattle.zr_world_rounds.proofs.receive.place_of.Goals as goal

pub returns-in-Ok-clause-named : goal.returns-in-Ok-clause-named
returns-in-Ok-clause-named c = λ d.
    let found = c.in-Ok.ensures.position (λ s. s.name) (answers_always _ _ _ (λ f a r g called. search rules)) d in
    ap is_eq (nat_list_cmp_total.antisymm c.args.name.now (slice_index_or c.args.shares.now c.in-Ok.place d).name ∙ ap ordering_reverse found)
