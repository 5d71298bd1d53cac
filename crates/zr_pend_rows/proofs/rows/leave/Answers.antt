use Rattle.std.proofs.Common.{ℕ, not, ap, ◌∙◌, rules, tests}
use Rattle.std.specs.Map.{values_of}
use Rattle.std.proofs.lemmas.Map.Made.{filter_same_pairs}
use Rattle.zr_places.proofs.Kept.{values_kept}
use Rattle.zr_pend_spec.specs.Row.{RowState, is_done}
use Rattle.zr_pend_rows.proofs.rows.leave.Goals as goal

pub returns : goal.returns
returns c =
    ap values_of (filter_same_pairs _ (λ (e : ℕ × RowState). not (is_done e.1)) _ (λ k v b w f t. search (rules, tests)) _ _ c.retain.ensures.filtered)
    ∙ values_kept (λ r. not (is_done r)) c.args.rows.now.entries
