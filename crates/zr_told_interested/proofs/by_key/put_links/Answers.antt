use Rattle.std.proofs.Common.{◌≡◌, ◌+◌, ◌||◌, Bool, true, false, cond, ℕ, List, drop, get_or, refl, sym, ap, ◌∙◌}
use Rattle.std.proofs.lemmas.List.{at_drop_more}
use Rattle.std.specs.BTreeSet.{contains}
use Rattle.std.specs.List.{list_any}
use Rattle.std.specs.Ordering.{is_eq, nat_cmp}
use Rattle.zr_told_interested.proofs.by_key.put_links.Goals as goal

-- one that was left is there now
one_more : (there here left : Bool) → (cond here true there || left) ≡ (there || (here || left))
one_more true true left = refl
one_more true false left = refl
one_more false true left = refl
one_more false false left = refl

pub loop-link-preserved : goal.loop-link-preserved
loop-link-preserved c = λ n.
    ap (λ z. z || list_any (λ k. is_eq (nat_cmp k n)) (drop (c.loop-link.link-index + 1) c.args.links.now)) (c.in_ok-insert.ensures.updates.0 n)
    ∙ one_more (contains nat_cmp c.loop-link.found n) (is_eq (nat_cmp (get_or c.args.links.now c.loop-link.link-index 0) n)) (list_any (λ k. is_eq (nat_cmp k n)) (drop (c.loop-link.link-index + 1) c.args.links.now))
    ∙ sym (ap (λ (ks : List ℕ). contains nat_cmp c.loop-link.found n || list_any (λ k. is_eq (nat_cmp k n)) ks) (at_drop_more (λ (z : List ℕ). z) c.args.links.now c.loop-link.link-index 0 c.loop-link-test.true))
    ∙ c.loop-link.invariant n
