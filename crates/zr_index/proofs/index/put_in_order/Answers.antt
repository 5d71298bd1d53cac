use Rattle.std.proofs.Common.{ap, ◌∙◌}
use Rattle.std.specs.List.{list_any}
use Rattle.std.specs.Ordering.{eq_by_cmp}
use Rattle.std.proofs.lemmas.List.Filters.{dedup_is}
use Rattle.std.proofs.lemmas.List.Kept.{IsStrictlySortedBy-dedup}
use Rattle.std.proofs.lemmas.List.Sorted.{list_any-IsPermutation, IsPermutation-sym}
use Rattle.zr_index.proofs.Kept.{still_among}
use Rattle.zr_index.proofs.index.put_in_order.Goals as goal

pub returns-clause-ascend : goal.returns-clause-ascend
returns-clause-ascend g c =
    rw (dedup_is _ _ _ c.dedup.ensures.filtered) (IsStrictlySortedBy-dedup g.met.V.Ord.total g.met.V.Ord.matches_eq _ c.in_ok-sort.ensures.sorted)

pub returns-clause-same : goal.returns-clause-same
returns-clause-same g c v =
    let cmp = g.V.Ord.cmp in
    ap (list_any (eq_by_cmp cmp v)) (dedup_is _ _ _ c.dedup.ensures.filtered)
    ∙ still_among g.met.V.Ord.total g.met.V.Ord.matches_eq c.sort.new.self.items v
    ∙ list_any-IsPermutation (λ w. eq_by_cmp cmp w v) _ _ (IsPermutation-sym _ _ c.in_ok-sort.ensures.permutation)
