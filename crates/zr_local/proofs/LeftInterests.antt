-- The interests on each link, once the client of a link has left.
use Rattle.std.proofs.Common.{◌≡◌, ℕ, ◌==◌, Bool, true, false, cond, List, [], None, refl, ap, ◌∙◌}
use Rattle.std.specs.Option.{option_map_or}
use Rattle.std.specs.Ordering.{nat_cmp}
use Rattle.zr_lists.proofs.Numbers.{nat_eq_is}
use Rattle.zr_lists.specs.Ascending.{at_key}
use Rattle.zr_lists.proofs.Puts.{at-without}
use Rattle.zr_lists.proofs.Order.{nat_order}
use Rattle.zr_local.specs.Clients.{client_link, interests_on, clients_left}
use Rattle.zr_local.specs.declared.interest.ClientInterests.{ClientInterests}

pub left_is : (cs : List ClientInterests) (link k : ℕ) → interests_on (clients_left cs link) k ≡ cond (link == k) [] (interests_on cs k)
left_is cs link k =
    ap (λ o. option_map_or (λ c. c.interests) o []) (at-without nat_cmp client_link nat_order cs link k)
    ∙ ap (λ b. option_map_or (λ c. c.interests) (cond b None (at_key nat_cmp client_link cs k)) []) (nat_eq_is link k)
    ∙ by (link == k)
  where
    by : (b : Bool) → option_map_or (λ c. c.interests) (cond b None (at_key nat_cmp client_link cs k)) [] ≡ cond b [] (interests_on cs k)
    by true = refl
    by false = refl
