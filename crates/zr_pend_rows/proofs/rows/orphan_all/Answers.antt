use Rattle.std.proofs.Common.{ap, ◌∙◌, rules, tests}
use Rattle.std.specs.Map.{values_of}
use Rattle.std.proofs.lemmas.Map.Made.{map_same_pairs}
use Rattle.zr_places.proofs.Kept.{values_changed}
use Rattle.zr_pend_spec.specs.Row.{orphaned}
use Rattle.zr_pend_rows.proofs.rows.orphan_all.Goals as goal

pub returns : goal.returns
returns c =
    ap values_of (map_same_pairs _ (λ r. orphaned c.args.link r) _ (λ k v b w f t. search (rules, tests)) _ _ c.retain.ensures.filtered)
    ∙ values_changed (λ r. orphaned c.args.link r) c.args.rows.now.entries
