use Rattle.std.proofs.Common.{◌≡◌, ℕ, ◌+◌, ◌≤◌, ◌∷◌, List, drop, length, sym, ap, subst, ◌∙◌, arith}
use Rattle.std.specs.Ordering.{nat_cmp, ord_max}
use Rattle.std.proofs.lemmas.List.{at_drop_more}
use Rattle.zr_local.specs.declared.interest.ClientInterests.{ClientInterests}
use Rattle.zr_local.specs.declared.interest.Interest.{Interest}
use Rattle.zr_router_core.specs.Room.{HaveAtMost}
use Rattle.zr_router_core.proofs.counts.most_interests.Goals as goal

max_both : (a b n : ℕ) → ord_max nat_cmp a b ≤ n → (a ≤ n) × (b ≤ n)
max_both a b n h = (grind (arith, h), grind (arith, h))

pub loop-client-preserved : goal.loop-client-preserved
loop-client-preserved c = λ n le h.
    let cs : List ClientInterests = c.args.clients.now in
    let i : ℕ = c.loop-client.client-index in
    let x : ClientInterests = c.client-item.result in
    let both : (c.loop-client.most ≤ n) × (length c.as_slice.result.now ≤ n) = max_both c.loop-client.most (length c.as_slice.result.now) n (subst (λ (m : ℕ). m ≤ n) c.max-most.ensures le) in
    let here : length x.interests ≤ n = subst (λ (is : List Interest). length is ≤ n) c.as_slice.ensures.value both.1 in
    let rest : drop i cs ≡ x ∷ drop (i + 1) cs = at_drop_more (λ ys. ys) cs i x c.loop-client-test.true ∙ ap (λ (y : ClientInterests). y ∷ drop (i + 1) cs) (sym c.client-item.is) in
    c.loop-client.invariant n both.0 (subst (λ (ys : List ClientInterests). HaveAtMost n ys) (sym rest) (here, h))
