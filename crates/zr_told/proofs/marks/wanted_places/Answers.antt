use Rattle.std.proofs.Common.{ap, ◌∙◌}
use Rattle.zr_told.specs.Plan.{Marks, mark_wanted, mark_complete}
use Rattle.zr_told.proofs.Marked.{once_if}
use Rattle.zr_told.proofs.marks.wanted_places.Goals as goal

pub returns : goal.returns
returns c =
    once_if c.args.others.now c.args.interest.now _ _ c.new.ensures
    (c.in_ok-mark_complete.ensures ∙ ap (λ (z : Marks). mark_complete c.args.others.now z) (c.in_ok-mark_wanted.ensures ∙ ap (λ (z : Marks). mark_wanted c.args.others.now z c.args.interest.now) c.new-marks.ensures.empty))
    c.fresh-2.ensures.marks_ascend (λ ws. ws.items) _ c.fresh-2.ensures.fresh
