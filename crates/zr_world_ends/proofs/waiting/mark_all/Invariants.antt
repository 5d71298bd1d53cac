-- The places before this one are marked anew, and the others as they were.
use Rattle.std.proofs.Common.{◌≡◌, ℕ, cond, nat_lt, length}
use Rattle.zr_world_ends.specs.Kept.{can_handle, can_take}
use Rattle.zr_world_ends.specs.Index.{has_mark, passes_at}
use Rattle.zr_world_ends.proofs.waiting.mark_all.Given as goal

abbrev pub invariant-loop-place : goal.invariant-loop-place
invariant-loop-place l =
    ((q : ℕ) → has_mark l.to_handle q ≡ cond (nat_lt q l.place) (passes_at can_handle l.ends q) (has_mark l.fn.to_handle q))
    × ((q : ℕ) → has_mark l.to_take q ≡ cond (nat_lt q l.place) (passes_at can_take l.ends q) (has_mark l.fn.to_take q))
    × (length l.to_handle ≡ length l.fn.to_handle)
    × (length l.to_take ≡ length l.fn.to_take)
