use Rattle.std.proofs.Common.{◌==◌, ℕ, not, ap, ◌∙◌, rules, tests}
use Rattle.std.specs.Map.{values_of}
use Rattle.std.proofs.lemmas.Map.Made.{filter_same_pairs}
use Rattle.zr_places.proofs.Kept.{values_kept}
use Rattle.zr_world_numbers.proofs.numbers.sweep.Goals as goal

pub returns : goal.returns
returns c =
    let n = c.args.number in
    ap values_of (filter_same_pairs _ (λ (e : ℕ × ℕ). not (e.1 == n)) _ (λ k v b w f t. search (rules, tests)) _ _ c.retain.ensures.filtered)
    ∙ values_kept (λ k. not (k == n)) c.args.items.now.entries
