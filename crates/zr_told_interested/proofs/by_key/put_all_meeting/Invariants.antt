-- What was put and what is left make all.
use Rattle.std.proofs.Common.{◌≡◌, ◌||◌, ℕ, drop}
use Rattle.std.specs.List.{list_any}
use Rattle.std.specs.Ordering.{nat_cmp}
use Rattle.std.specs.BTreeSet.{contains}
use Rattle.zr_index.specs.Meeting.{held}
use Rattle.zr_told_interested.specs.Keys.{is_met}
use Rattle.zr_told_interested.proofs.by_key.put_all_meeting.Given as goal

abbrev pub invariant-loop-place : goal.invariant-loop-place
invariant-loop-place l =
    (n : ℕ) → (contains nat_cmp l.found n || list_any (λ q. is_met (held l.index) q.key n) (drop l.place-index l.places))
    ≡ (contains nat_cmp l.fn.found n || list_any (λ q. is_met (held l.index) q.key n) l.places)
