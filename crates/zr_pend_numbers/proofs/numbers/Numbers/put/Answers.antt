use Rattle.std.proofs.Common.{◌≡◌, ◌==◌, ◌||◌, ℕ, List, cond, [], Some, ap, sym, ◌∙◌, rules}
use Rattle.std.specs.BTreeMap.{get_by, is_at}
use Rattle.std.specs.Map.{set_value}
use Rattle.std.specs.Option.{IsSome, unwrap_or}
use Rattle.std.specs.Ordering.{nat_cmp}
use Rattle.std.proofs.lemmas.Map.Steps.{set_value_same}
use Rattle.zr_pend_numbers.specs.Numbers.{Uses, is_in, used_on}
use Rattle.zr_pend_numbers.proofs.InUse.{on_err, on_ok, put_used, with_link}
use Rattle.zr_pend_numbers.proofs.numbers.Numbers.put.Goals as goal

pub returns-in-Some-clause-ok : goal.returns-in-Some-clause-ok
returns-in-Some-clause-ok c =
    let link = c.args.branch.link.0 in
    let found : get_by (nat_cmp link) c.self.inside.links ≡ Some c.in-Some.used.now = search rules in
    let there : IsSome (get_by (nat_cmp link) c.self.inside.links) = search rules in
    let was : c.in-Some.used.now ≡ used_on c.args.self.now link = sym (ap (λ o. unwrap_or o []) found) ∙ ap (λ (z : Uses). used_on z link) c.self.view_is in
    let written : (k : ℕ) → used_on (c.get_mut.follows.lender c.put.new.self).entries k ≡ cond (link == k) c.put.new.self (used_on c.args.self.now k) =
    λ k. with_link link k c.put.new.self _ _ (((c.get_mut.follows.holds c.put.new.self).3 there).0 k) ∙ ap (λ (z : Uses). cond (link == k) c.put.new.self (used_on z k)) c.self.view_is in
    on_ok c.put.result
    (λ h. put_used c.args.self.now (c.get_mut.follows.lender c.put.new.self).entries c.args.branch c.put.new.self written (λ m. h m ∙ ap (λ (ns : List ℕ). c.args.branch.number == m || is_in m ns) was))
    c.put.ensures.ok

pub returns-in-Some-clause-err : goal.returns-in-Some-clause-err
returns-in-Some-clause-err c =
    let link = c.args.branch.link.0 in
    let found : get_by (nat_cmp link) c.self.inside.links ≡ Some c.in-Some.used.now = search rules in
    on_err c.put.result
    (λ e. (c.get_mut.follows.holds c.put.new.self).0 ∙ ap (λ (ns : List ℕ). set_value (is_at (nat_cmp link)) c.self.inside.links.entries ns) e ∙ set_value_same (is_at (nat_cmp link)) c.self.inside.links.entries c.in-Some.used.now found ∙ c.self.view_is)
    c.put.ensures.err
