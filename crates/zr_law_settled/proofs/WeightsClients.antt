-- What the live interests of a router's clients weigh once one is noted, or a client leaves: no more than before, and what is noted (`note_weighs`,
-- `leave_weighs`). All but one weigh no more than all (`but_weighs`).
use Rattle.std.proofs.Common.{◌≡◌, ◌≤◌, ◌+◌, ℕ, Bool, true, false, cond, not, List, [], ◌∷◌, Option, Some, None, arith}
use Rattle.std.specs.Option.{option_map_or}
use Rattle.std.specs.Ordering.{is_eq, nat_cmp}
use Rattle.std.proofs.lemmas.List.Sums.{sum_by-cons}
use Rattle.zr_id.specs.declared.link.LinkNo.{LinkNo}
use Rattle.zr_lists.specs.Ascending.{at_key, has_key, without}
use Rattle.zr_lists.proofs.Order.{nat_order}
use Rattle.zr_lists.proofs.Sums.{filter_sum}
use Rattle.zr_local.specs.Clients.{client_link, interests_on, with_interests, noted, clients_left, client_weight, clients_weight, weight_but}
use Rattle.zr_local.specs.Interests.{interest_id, interest_weight, interests_weight}
use Rattle.zr_local.specs.declared.interest.ClientInterests.{ClientInterests}
use Rattle.zr_local.specs.declared.interest.Interest.{Interest}
use Rattle.zr_local.proofs.Live.{put_weighs, kept_weighs}
use Rattle.zr_law_settled.proofs.Weights.{live_weight}

-- a client leaves
pub leave_weighs : (cs : List ClientInterests) (link : ℕ) → clients_weight (clients_left cs link) ≤ clients_weight cs
leave_weighs cs link = filter_sum client_weight (λ c. not (is_eq (nat_cmp (client_link c) link))) cs

-- one client's interests weigh no more than all without those of the others
own_weigh : (cs : List ClientInterests) (link : ℕ) → clients_weight (clients_left cs link) + interests_weight (interests_on cs link) ≤ clients_weight cs
own_weigh [] link = omega arith
own_weigh (c ∷ cs) link = by (is_eq (nat_cmp (client_link c) link)) (own_weigh cs link)
  where
    by : (t : Bool) → clients_weight (clients_left cs link) + interests_weight (interests_on cs link) ≤ clients_weight cs →
        clients_weight (cond (not t) (c ∷ clients_left cs link) (clients_left cs link)) + interests_weight (option_map_or (λ q. q.interests) (cond t (Some c) (at_key nat_cmp client_link cs link)) [])
        ≤ clients_weight (c ∷ cs)
    by true ih = omega (arith, sum_by-cons client_weight c cs, leave_weighs cs link)
    by false ih = omega (arith, sum_by-cons client_weight c cs, sum_by-cons client_weight c (clients_left cs link), ih)

pub but_weighs : (cs : List ClientInterests) (link : LinkNo) (id : ℕ) → weight_but cs link id ≤ clients_weight cs
but_weighs cs link id = omega (arith, own_weigh cs link.0, filter_sum interest_weight (λ i. not (is_eq (nat_cmp (interest_id i) id))) (interests_on cs link.0))

-- an interest is kept from now on, or there is none any more
pub note_weighs : (cs : List ClientInterests) (link : LinkNo) (id : ℕ) (o : Option Interest) → clients_weight (noted cs link id o) ≤ clients_weight cs + live_weight o
note_weighs cs link id None = by (has_key nat_cmp client_link cs link.0)
  where
    rest : List Interest
    rest = without nat_cmp interest_id (interests_on cs link.0) id

    by : (t : Bool) → clients_weight (cond t (with_interests cs link rest) cs) ≤ clients_weight cs + 0
    by true =
        let e : clients_weight (with_interests cs link rest) ≡ clients_weight (clients_left cs link.0) + interests_weight rest = put_weighs nat_cmp client_link nat_order client_weight cs (record { link = link; interests = rest }) in
        omega (arith, e, but_weighs cs link id)
    by false = omega arith
note_weighs cs link id (Some i) = omega (arith, kept_weighs cs link i, but_weighs cs link i.id)
