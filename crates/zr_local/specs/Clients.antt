-- The live interests of all clients of one router, and what they weigh (Zenoh protocol 1.0, "INTEREST").
use Rattle.std.specs.Prelude.{ℕ, ◌+◌, if◌then◌else◌, List, [], Option, Some, None}
use Rattle.std.specs.List.{sum_by}
use Rattle.std.specs.Option.{option_map_or}
use Rattle.std.specs.Ordering.{nat_cmp}
use Rattle.zr_id.specs.declared.link.LinkNo.{LinkNo}
use Rattle.zr_lists.specs.Ascending.{IsAscending, at_key, has_key, put, without}
use Rattle.zr_local.specs.Interests.{interest_id, interests_weight}
use Rattle.zr_local.specs.declared.interest.ClientInterests.{ClientInterests}
use Rattle.zr_local.specs.declared.interest.Interest.{Interest}

abbrev pub client_link : ClientInterests → ℕ
client_link c = c.link.0

-- they ascend by link, each link once
abbrev pub AreByLink : List ClientInterests → Type 0
AreByLink cs = IsAscending nat_cmp client_link cs

-- the live interests of the client of a link
abbrev pub interests_on : List ClientInterests → ℕ → List Interest
interests_on cs link = option_map_or (λ c. c.interests) (at_key nat_cmp client_link cs link) []

abbrev pub with_interests : List ClientInterests → LinkNo → List Interest → List ClientInterests
with_interests cs link is = put nat_cmp client_link cs (record { link = link; interests = is })

-- an interest takes the place of that of its id
abbrev pub kept : List ClientInterests → LinkNo → Interest → List ClientInterests
kept cs link i = with_interests cs link (put nat_cmp interest_id (interests_on cs link.0) i)

-- without the interest of an id; where there is none nothing changes
abbrev pub forgotten : List ClientInterests → LinkNo → ℕ → List ClientInterests
forgotten cs link id =
    if has_key nat_cmp client_link cs link.0 then with_interests cs link (without nat_cmp interest_id (interests_on cs link.0) id) else cs

-- without those of the client of a link
abbrev pub clients_left : List ClientInterests → ℕ → List ClientInterests
clients_left cs link = without nat_cmp client_link cs link

-- the interest of an id is kept from now on, or there is none any more
abbrev pub noted : List ClientInterests → LinkNo → ℕ → Option Interest → List ClientInterests
noted cs link id None = forgotten cs link id
noted cs link id (Some i) = kept cs link i

-- ---- what they weigh

abbrev pub client_weight : ClientInterests → ℕ
client_weight c = interests_weight c.interests

abbrev pub clients_weight : List ClientInterests → ℕ
clients_weight cs = sum_by client_weight cs

-- what all weigh but the one of this id
abbrev pub weight_but : List ClientInterests → LinkNo → ℕ → ℕ
weight_but cs link id = clients_weight (clients_left cs link.0) + interests_weight (without nat_cmp interest_id (interests_on cs link.0) id)
