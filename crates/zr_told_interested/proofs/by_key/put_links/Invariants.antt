-- What was put and what is left make all.
use Rattle.std.proofs.Common.{◌≡◌, ◌||◌, ℕ, drop}
use Rattle.std.specs.List.{list_any}
use Rattle.std.specs.Ordering.{is_eq, nat_cmp}
use Rattle.std.specs.BTreeSet.{contains}
use Rattle.zr_told_interested.proofs.by_key.put_links.Given as goal

abbrev pub invariant-loop-link : goal.invariant-loop-link
invariant-loop-link l =
    (n : ℕ) → (contains nat_cmp l.found n || list_any (λ k. is_eq (nat_cmp k n)) (drop l.link-index l.links)) ≡ (contains nat_cmp l.fn.found n || list_any (λ k. is_eq (nat_cmp k n)) l.links)
