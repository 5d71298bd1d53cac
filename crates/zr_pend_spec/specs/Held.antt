-- What a router holds for clients that asked for the latest replies alone: for each such request that is pending a gathering, with the latest
-- reply of each key that came. It stands beside the rows, and is told by who asked.
use Rattle.std.specs.Prelude.{◌≡◌, ℕ, ◌+◌, ◌==◌, ◌&&◌, not, nat_le, Bool, true, if◌then◌else◌, List, [], ◌∷◌, ◌++◌, length, map, filter, Option, Some, None}
use Rattle.std.specs.Cmp.Lexicographic.{slice_cmp}
use Rattle.std.specs.List.{find, list_any, list_all, fold, sum_by}
use Rattle.std.specs.Option.{option_map_or, option_and_then}
use Rattle.std.specs.Ordering.{nat_cmp}
use Rattle.zr_lists.specs.Ascending.{IsAscending, at_key, put}
use Rattle.zr_id.specs.declared.link.LinkNo.{LinkNo}
use Rattle.zr_body.specs.Latest.{is_later}
use Rattle.zr_msg.specs.declared.content.Parts.{Parts}
use Rattle.zr_pend_spec.specs.declared.branch.Asker.{Asker}
use Rattle.zr_pend_spec.specs.declared.branch.Branch.{Branch}
use Rattle.zr_pend_spec.specs.Row.{RowState}
use Rattle.zr_pend_spec.specs.Pending.{asked, asker_of}

-- ---- one request's replies

-- what is held of a key, if anything is
abbrev pub held_of : List Parts → List ℕ → Option Parts
held_of held key = at_key (slice_cmp nat_cmp) (λ c. c.key) held key

-- one for each key, in ascending order of the keys' bytes
abbrev pub AreByKey : List Parts → Type 0
AreByKey held = IsAscending (slice_cmp nat_cmp) (λ c. c.key) held

-- a reply at its place, in place of what was held for its key
abbrev pub put_reply : List Parts → Parts → List Parts
put_reply held reply = put (slice_cmp nat_cmp) (λ c. c.key) held reply

-- a reply takes its place where nothing is held for its key, or it is later than what is
abbrev pub takes_place : (Parts → Bool) → List Parts → Parts → Bool
takes_place later held reply = option_map_or later (held_of held reply.key) true

abbrev pub held_if : (Parts → Bool) → List Parts → Parts → List Parts
held_if later held reply = if takes_place later held reply then put_reply held reply else held

-- what is held once a reply came: of equal ones the first stays
abbrev pub held_with : List Parts → Parts → List Parts
held_with held reply = held_if (λ c. is_later reply.body c.body) held reply

-- what is held of replies that came in this order, by ascending keys
abbrev pub gathered : List Parts → List Parts
gathered replies = fold held_with [] replies

-- ---- gatherings

-- who asked, and what is held for it
pub record GatheringState : Type 0 where
  pub asker : Asker
  pub held : List Parts

abbrev pub is_asker : Asker → Asker → Bool
is_asker a b = a.link.0 == b.link.0 && a.number == b.number

abbrev pub is_for : Asker → GatheringState → Bool
is_for a g = is_asker g.asker a

-- replies are gathered for who asked
abbrev pub gathers_for : List GatheringState → Asker → Bool
gathers_for held a = list_any (λ g. is_for a g) held

-- the replies that are held for who asked, by ascending keys
abbrev pub held_for : List GatheringState → Asker → List Parts
held_for held a = option_map_or (λ g. g.held) (find (λ g. is_for a g) held) []

-- who asked, with what it is sent at the end
abbrev pub ending : List GatheringState → Asker → GatheringState
ending held a = record { asker = a; held = held_for held a }

-- ---- weights

-- what a reply weighs, and how much all that a router holds weighs at most
abbrev pub reply_weight : Parts → ℕ
reply_weight reply = length reply.key + length reply.body

abbrev pub most_held : ℕ
most_held = 67108864

abbrev pub gathering_weight : GatheringState → ℕ
gathering_weight g = sum_by reply_weight g.held

abbrev pub held_weight : List GatheringState → ℕ
held_weight held = sum_by gathering_weight held

-- whether one reply more may be held: what it takes the place of counts too
abbrev pub has_room : List GatheringState → Parts → Bool
has_room held reply = nat_le (held_weight held + reply_weight reply) most_held

-- ---- what becomes of gatherings

-- a request for the latest replies has begun
abbrev pub gathering_begun : List GatheringState → Asker → List GatheringState
gathering_begun held a = held ++ record { asker = a; held = [] } ∷ []

abbrev pub begun_if : Bool → List GatheringState → Asker → List GatheringState
begun_if latest held a = if latest then gathering_begun held a else held

-- other replies are held for who asked
abbrev pub regathered : (List Parts → List Parts) → GatheringState → GatheringState
regathered f g = record { asker = g.asker; held = f g.held }

abbrev pub gatherings_at : List GatheringState → Asker → (List Parts → List Parts) → List GatheringState
gatherings_at held a f = map (λ g. if is_for a g then regathered f g else g) held

-- a reply came for who asked
abbrev pub gatherings_with : List GatheringState → Asker → Parts → List GatheringState
gatherings_with held a reply = gatherings_at held a (λ replies. held_with replies reply)

-- who asked was sent what was held
abbrev pub gatherings_without : List GatheringState → Asker → List GatheringState
gatherings_without held a = filter (λ g. not (is_for a g)) held

-- a link went down: what it asked is gathered no more, and so is what these askers were sent
abbrev pub gatherings_off : List GatheringState → LinkNo → List GatheringState
gatherings_off held link = filter (λ g. not (g.asker.link.0 == link.0)) held

abbrev pub gatherings_left : List GatheringState → LinkNo → List Asker → List GatheringState
gatherings_left held link askers = fold gatherings_without (gatherings_off held link) askers

-- ---- by rows and gatherings

-- who asked, where replies are gathered for it
abbrev pub gatherer : List GatheringState → Option Asker → Option Asker
gatherer held from = option_and_then (λ a. if gathers_for held a then Some a else None) from

-- for whom a reply under a branch is gathered: for who asked its row, where that asked for the latest alone
abbrev pub gathers_at : List RowState → List GatheringState → Branch → Option Asker
gathers_at rows held b = gatherer held (asker_of b rows)

-- no asker stands twice
abbrev pub are_apart : List Asker → Bool
are_apart [] = true
are_apart (a ∷ others) = not (list_any (λ b. is_asker b a) others) && are_apart others

abbrev pub gatherings_differ : List GatheringState → Bool
gatherings_differ [] = true
gatherings_differ (g ∷ gs) = not (gathers_for gs g.asker) && gatherings_differ gs

-- each gathering is of who asked a row, and nobody has two
pub record AreGatherings (rows : List RowState) (held : List GatheringState) : Type 0 where
  pub of_rows : list_all (λ g. asked g.asker rows) held ≡ true
  pub differ : gatherings_differ held ≡ true

-- a reply came under a branch: it takes its place where it is gathered and there is room, and nothing is held for its key or it is later
abbrev pub held_at_branch : List RowState → List GatheringState → Branch → Parts → Option Asker
held_at_branch rows held b reply = if has_room held reply then gathers_at rows held b else None

abbrev pub after_reply : List RowState → List GatheringState → Branch → Parts → Bool → List GatheringState
after_reply rows held b reply later = option_map_or (λ a. gatherings_at held a (λ replies. held_if (λ c. later) replies reply)) (held_at_branch rows held b reply) held

-- a final came for who asked: what was held has gone with it
abbrev pub after_final_to : List GatheringState → Option Asker → List GatheringState
after_final_to held to = option_map_or (λ a. gatherings_without held a) to held

-- what is pending at a router, and what it holds of that
pub record PendingState : Type 0 where
  pub rows : List RowState
  pub held : List GatheringState
