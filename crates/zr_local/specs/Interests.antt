-- The live interests of one client, and what they weigh (Zenoh protocol 1.0, "INTEREST").
use Rattle.std.specs.Prelude.{ℕ, ◌+◌, List, length}
use Rattle.std.specs.List.{sum_by}
use Rattle.std.specs.Option.{option_map_or}
use Rattle.std.specs.Ordering.{nat_cmp}
use Rattle.zr_lists.specs.Ascending.{IsAscending}
use Rattle.zr_log_set.specs.Decls.{decl_overhead}
use Rattle.zr_local.specs.declared.interest.Interest.{Interest}

abbrev pub interest_id : Interest → ℕ
interest_id i = i.id

-- they ascend by their ids, each id once
abbrev pub AreById : List Interest → Type 0
AreById is = IsAscending nat_cmp interest_id is

-- an interest weighs as much as a declaration of its key; one without a key as one of no text
abbrev pub interest_weight : Interest → ℕ
interest_weight i = option_map_or (λ k. length k) i.key 0 + decl_overhead

abbrev pub interests_weight : List Interest → ℕ
interests_weight is = sum_by interest_weight is
