-- Interests by their keys, as pairs of the chunks of a key and the link of the client.
use Rattle.std.specs.Prelude.{ℕ, Bool, ◌&&◌, is_none, List, [], ◌∷◌, map, filter, IfSome}
use Rattle.std.specs.List.{AllByRecursion, flat_map, list_any}
use Rattle.std.specs.Option.{option_map_or}
use Rattle.std.specs.Ordering.{is_eq, nat_cmp}
use Rattle.zr_index.specs.Meeting.{meets_key}
use Rattle.zr_index.specs.Pairs.{Pairs}
use Rattle.zr_key.specs.Key.{chunks, IsKeyText}
use Rattle.zr_local.specs.Clients.{client_link}
use Rattle.zr_local.specs.declared.interest.ClientInterests.{ClientInterests}
use Rattle.zr_local.specs.declared.interest.Interest.{Interest}

-- ---- interests with a key

abbrev pub pair_of : ℕ → Interest → Pairs ℕ
pair_of link i = option_map_or (λ k. (chunks k, link) ∷ []) i.key []

abbrev pub pairs_on : ClientInterests → Pairs ℕ
pairs_on c = flat_map (λ i. pair_of c.link.0 i) c.interests

abbrev pub keyed : List ClientInterests → Pairs ℕ
keyed cs = flat_map (λ c. pairs_on c) cs

-- their keys are key expressions
abbrev pub IsKeyed : Interest → Type 0
IsKeyed i = IfSome i.key (λ k. IsKeyText k)

abbrev pub AreKeyed : List Interest → Type 0
AreKeyed is = AllByRecursion (λ i. IsKeyed i) is

-- whether a pair of a link has a key that meets one
abbrev pub is_met : Pairs ℕ → List ℕ → ℕ → Bool
is_met ps key link = list_any (λ p. meets_key key p.0 && is_eq (nat_cmp p.1 link)) ps

-- ---- interests in all keys

abbrev pub wants_all : List Interest → Bool
wants_all is = list_any (λ i. is_none i.key) is

-- the links of the clients that have one
abbrev pub keyless : List ClientInterests → List ℕ
keyless cs = map client_link (filter (λ c. wants_all c.interests) cs)
