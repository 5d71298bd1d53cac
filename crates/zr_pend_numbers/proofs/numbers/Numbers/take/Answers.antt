use Rattle.std.proofs.Common.{◌≡◌, ◌==◌, ◌&&◌, ℕ, List, not, cond, [], Some, ap, sym, ◌∙◌, rules}
use Rattle.std.specs.BTreeMap.{get_by}
use Rattle.std.specs.Option.{IsSome, unwrap_or}
use Rattle.std.specs.Ordering.{nat_cmp}
use Rattle.zr_pend_numbers.specs.Numbers.{Uses, is_in, used_on}
use Rattle.zr_pend_numbers.proofs.InUse.{take_used, with_link}
use Rattle.zr_pend_numbers.proofs.numbers.Numbers.take.Goals as goal

pub returns-in-Some : goal.returns-in-Some
returns-in-Some c =
    let link = c.args.branch.link.0 in
    let found : get_by (nat_cmp link) c.self.inside.links ≡ Some c.in-Some.used.now = search rules in
    let there : IsSome (get_by (nat_cmp link) c.self.inside.links) = search rules in
    let was : c.in-Some.used.now ≡ used_on c.args.self.now link = sym (ap (λ o. unwrap_or o []) found) ∙ ap (λ (z : Uses). used_on z link) c.self.view_is in
    let written : (k : ℕ) → used_on (c.get_mut.follows.lender c.take.new.self).entries k ≡ cond (link == k) c.take.new.self (used_on c.args.self.now k) =
    λ k. with_link link k c.take.new.self _ _ (((c.get_mut.follows.holds c.take.new.self).3 there).0 k) ∙ ap (λ (z : Uses). cond (link == k) c.take.new.self (used_on z k)) c.self.view_is in
    take_used c.args.self.now (c.get_mut.follows.lender c.take.new.self).entries c.args.branch c.take.new.self written
    (λ m. c.take.ensures m ∙ ap (λ (ns : List ℕ). not (c.args.branch.number == m) && is_in m ns) was)
