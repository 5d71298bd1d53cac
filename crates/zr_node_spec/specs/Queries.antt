-- Where a request goes: along the tree of its asker's router to every router whose clients can answer it, and at each router to its own clients.
-- Replies and finals go back by the rows of what is pending: a reply to who asked the row of its branch, and one final once all branches of a
-- row have ended. Replies to a client that asks for the latest ones alone are held up to its final.
use Rattle.std.specs.Prelude.{ℕ, ◌==◌, ◌&&◌, not, nat_le, Bool, true, false, if◌then◌else◌, List, [], ◌∷◌, ◌++◌, map, filter, Option, Some, None, is_some}
use Rattle.std.specs.List.{list_any, flat_map}
use Rattle.std.specs.Option.{option_map_or}
use Rattle.zr_id.specs.declared.link.LinkNo.{LinkNo}
use Rattle.zr_body.specs.Latest.{is_latest, is_reply}
use Rattle.zr_match.specs.Table.{texts_meet, texts_cover}
use Rattle.zr_msg.specs.Extras.{no_extras}
use Rattle.zr_msg.specs.declared.content.Parts.{Parts}
use Rattle.zr_msg.specs.declared.decl.Decl.{Decl}
use Rattle.zr_msg.specs.declared.decl.Kind.{Kind}
use Rattle.zr_msg.specs.declared.decl.Kind.TheVariants.{Sub, Able, Full, Token}
use Rattle.zr_msg.specs.declared.extras.Extras.{Extras}
use Rattle.zr_msg.specs.declared.msg.Msg.{Msg}
use Rattle.zr_msg.specs.declared.msg.Msg.TheVariants.{Request, Response, Final}
use Rattle.zr_msg.specs.declared.msg.Target.{Target}
use Rattle.zr_msg.specs.declared.msg.Target.TheVariants.{Best, All, Complete}
use Rattle.zr_msg.specs.declared.peer.LinkPeer.{LinkPeer}
use Rattle.zr_msg.specs.declared.peer.Role.{Role}
use Rattle.zr_msg.specs.declared.peer.Role.TheVariants.{Client, Router}
use Rattle.zr_local.specs.declared.row.Row.{Row}
use Rattle.zr_log.specs.declared.log.Log.{Log}
use Rattle.zr_pend_spec.specs.declared.branch.Asker.{Asker}
use Rattle.zr_pend_spec.specs.Row.{RowState}
use Rattle.zr_pend_spec.specs.Pending.{count, asker_of, branch, free_number, is_full, begun, finished, final_to, finals_of_drop}
use Rattle.zr_pend_spec.specs.Held.{GatheringState, held_for, has_room, gathering_begun, gatherings_with, gatherings_without, gatherings_left, gathers_at}
use Rattle.zr_node_spec.specs.Tables.{TableState, link_at, leads_to_client}
use Rattle.zr_node_spec.specs.Samples.{leads_to_source, tree_of}

-- ---- who can answer

-- a declaration of a queryable, and one of a complete queryable
abbrev pub is_queryable : Kind → Bool
is_queryable Sub = false
is_queryable Able = true
is_queryable Full = true
is_queryable Token = false

abbrev pub is_complete : Kind → Bool
is_complete Sub = false
is_complete Able = false
is_complete Full = true
is_complete Token = false

-- a declared queryable can answer a request on a key: it meets the key; of complete ones alone, it is complete and covers the key
abbrev pub can_answer : Target → List ℕ → Decl → Bool
can_answer Best key d = is_queryable d.kind && texts_meet d.key key
can_answer All key d = is_queryable d.kind && texts_meet d.key key
can_answer Complete key d = is_complete d.kind && texts_cover d.key key

-- the client of a link has declared one that can
abbrev pub answers : List Row → ℕ → Target → List ℕ → Bool
answers rows link target key = list_any (λ r. r.link.0 == link && can_answer target key r.decl) rows

-- the clients of a log's router have
abbrev pub has_queryable : Target → List ℕ → Log → Bool
has_queryable target key log = list_any (λ d. can_answer target key d) log.decls

-- the neighbour is on the way in the tree to a router that is reached and whose clients have
abbrev pub leads_to_queryable : TableState → List ℕ → Target → List ℕ → List ℕ → Bool
leads_to_queryable t tree target key name = leads_to_source t tree (λ log. has_queryable target key log) name

-- ---- where a request goes

-- whether a request goes over a link: to each router on the way, and to each client that can answer, but not to the asker
abbrev pub is_asked : TableState → ℕ → List ℕ → Target → List ℕ → LinkPeer → Role → Bool
is_asked t from tree target key l Client = not (l.link.0 == from) && answers t.rows l.link.0 target key
is_asked t from tree target key l Router = leads_to_queryable t tree target key l.peer.id

-- the links over which it goes along a tree, if it goes along one
abbrev pub links_along : TableState → ℕ → Option (List ℕ) → Target → List ℕ → List LinkNo
links_along t from None target key = []
links_along t from (Some tree) target key = map (λ l. l.link) (filter (λ l. is_asked t from tree target key l l.peer.role) t.links)

-- the links over which a request goes on that comes over a link, naming a tree or none
abbrev pub asked_links : TableState → ℕ → Option (List ℕ) → Target → List ℕ → List LinkNo
asked_links t from named target key = links_along t from (tree_of t (link_at t.links from) named) target key

-- ---- what is sent

-- the link of a number, and who asks over it under a number
abbrev pub link_no : ℕ → LinkNo
link_no link = record { 0 = link }

abbrev pub asker : ℕ → ℕ → Asker
asker link number = record { link = link_no link; number = number }

-- the tree is named to routers alone
abbrev pub tree_for : List ℕ → Role → Option (List ℕ)
tree_for tree Client = None
tree_for tree Router = Some tree

-- once over each link where it goes, under the least number that isn't pending there
abbrev pub request_to : TableState → List RowState → ℕ → List ℕ → Target → Parts → LinkPeer → List Msg
request_to t pending from tree target content l =
    if is_asked t from tree target content.key l l.peer.role then Request (tree_for tree l.peer.role) (free_number l.link pending) target content ∷ [] else []

abbrev pub request_along : TableState → List RowState → ℕ → Option (List ℕ) → Target → Parts → ℕ → List Msg
request_along t pending from None target content to = []
request_along t pending from (Some tree) target content to = option_map_or (λ l. request_to t pending from tree target content l) (link_at t.links to) []

-- a final goes back at once where a request goes nowhere
abbrev pub final_at_once : ℕ → ℕ → List LinkNo → ℕ → List Msg
final_at_once from number [] to = if to == from then Final number no_extras ∷ [] else []
final_at_once from number (l ∷ links) to = []

-- what a request that comes over a link sends on the link of a number
abbrev pub sends_request : TableState → List RowState → ℕ → Option (List ℕ) → ℕ → Target → Parts → ℕ → List Msg
sends_request t pending from named number target content to =
    final_at_once from number (asked_links t from named target content.key) to
    ++ request_along t pending from (tree_of t (link_at t.links from) named) target content to

-- a reply goes to who asked, under the number that the request had there
abbrev pub reply_to : Parts → ℕ → Asker → List Msg
reply_to content to a = if to == a.link.0 then Response a.number content ∷ [] else []

-- for whom a reply under a number of a link is held, if it is: a REPLY, for who asked its row for the latest alone, where there is room for it
abbrev pub held_at : List RowState → List GatheringState → ℕ → ℕ → Parts → Option Asker
held_at pending held from number content = if is_reply content.body && has_room held content then gathers_at pending held (branch (link_no from) number) else None

-- what a reply under a number of a link sends that isn't held: to who asked the row of that branch, if it is pending and its asker is there
abbrev pub passes_reply : List RowState → ℕ → ℕ → Parts → ℕ → List Msg
passes_reply pending from number content to = option_map_or (λ a. reply_to content to a) (asker_of (branch (link_no from) number) pending) []

-- what a reply under a number of a link sends: nothing where it is held
abbrev pub sends_reply : List RowState → List GatheringState → ℕ → ℕ → Parts → ℕ → List Msg
sends_reply pending held from number content to = if is_some (held_at pending held from number content) then [] else passes_reply pending from number content to

-- a final goes to who asked, under the number that the request had there, behind what was held for it
abbrev pub final_for : Extras → ℕ → Asker → List Msg
final_for extras to a = if to == a.link.0 then Final a.number extras ∷ [] else []

abbrev pub held_to : List GatheringState → ℕ → Asker → List Msg
held_to held to a = if to == a.link.0 then map (λ c. Response a.number c) (held_for held a) else []

abbrev pub ending_for : List GatheringState → Extras → ℕ → Asker → List Msg
ending_for held extras to a = held_to held to a ++ final_for extras to a

-- what a final under a number of a link sends: what was held and one final with its extensions, where that was the last branch of its row
abbrev pub sends_final : List RowState → List GatheringState → ℕ → ℕ → Extras → ℕ → List Msg
sends_final pending held from number extras to = option_map_or (λ a. ending_for held extras to a) (final_to pending (branch (link_no from) number)) []

-- what a link that goes down sends: its branches end in the order of their numbers, and what was held and a final go to each whose row ends by
-- that
abbrev pub sends_ends : List RowState → List GatheringState → ℕ → ℕ → List Msg
sends_ends pending held link to = flat_map (λ a. ending_for held no_extras to a) (finals_of_drop (link_no link) pending)

-- ---- what is held

-- replies are gathered for a client that asks for the latest alone, where its request goes somewhere
abbrev pub gathering_if : List GatheringState → Bool → Asker → List LinkNo → List GatheringState
gathering_if held latest from [] = held
gathering_if held latest from (l ∷ links) = if latest then gathering_begun held from else held

-- what is held once a request has come over a link, a reply or a final under a number of a link, and once a link went down
abbrev pub held_request : TableState → List GatheringState → ℕ → Option (List ℕ) → ℕ → Target → Parts → List GatheringState
held_request t held from named number target content =
    gathering_if held (leads_to_client t.links from && is_latest content.body) (asker from number) (asked_links t from named target content.key)

abbrev pub held_reply : List RowState → List GatheringState → ℕ → ℕ → Parts → List GatheringState
held_reply pending held from number content = option_map_or (λ a. gatherings_with held a content) (held_at pending held from number content) held

abbrev pub held_final : List RowState → List GatheringState → ℕ → ℕ → List GatheringState
held_final pending held from number = option_map_or (λ a. gatherings_without held a) (final_to pending (branch (link_no from) number)) held

abbrev pub held_down : List RowState → List GatheringState → ℕ → List GatheringState
held_down pending held link = gatherings_left held (link_no link) (finals_of_drop (link_no link) pending)

-- ---- what is pending

-- the rows once a request was asked that goes over some links: one more, or none where it goes nowhere
abbrev pub asked_over : List RowState → Asker → List LinkNo → List RowState
asked_over pending from [] = pending
asked_over pending from (l ∷ links) = begun pending from (l ∷ links)

abbrev pub after_request : TableState → List RowState → ℕ → Option (List ℕ) → ℕ → Target → List ℕ → List RowState
after_request t pending from named number target key = asked_over pending (asker from number) (asked_links t from named target key)

-- the rows once a final has come under a number of a link
abbrev pub after_final : List RowState → ℕ → ℕ → List RowState
after_final pending from number = finished pending (branch (link_no from) number)

-- ---- what is refused

-- how many requests a client has pending at most
abbrev pub most_pending : ℕ
most_pending = 4096

-- whether the client of a link has as many pending
abbrev pub asks_most : List RowState → ℕ → Bool
asks_most pending link = nat_le most_pending (count (link_no link) pending)

-- whether one of the links over which a request goes has no number left
abbrev pub has_no_number : List RowState → List LinkNo → Bool
has_no_number pending links = list_any (λ l. is_full l pending) links
