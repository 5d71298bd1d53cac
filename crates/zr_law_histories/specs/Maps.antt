-- The told maps of a running router by its history: of each client that it has a link to it keeps just what the messages leave that it has sent there.
use Rattle.std.specs.Prelude.{◌≡◌, ℕ, true, if◌then◌else◌, List, [], ◌∷◌, ◌++◌}
use Rattle.zr_id.specs.declared.link.LinkNo.{LinkNo}
use Rattle.zr_msg.specs.declared.msg.Msg.{Msg}
use Rattle.zr_told_spec.specs.Hub.{HubState, new_hub, hub_after, hub_sends}
use Rattle.zr_port.specs.declared.entry.Entry.{Entry}
use Rattle.zr_router_queue.specs.History.{is_legal, renews}
use Rattle.zr_router_queue.specs.Tables.{is_among, replay}
use Rattle.zr_law_told.specs.Maps.{KeepsWhatIsHeard}

-- what an entry sends on a link, but for a sample that it leaves out
abbrev pub sends_not_left_out : HubState → Entry → LinkNo → List Msg
sends_not_left_out hub e link = if is_among e.dropped link then [] else hub_sends hub e.event link

-- What entries send on a link, behind what was sent there before: a link that comes up begins anew. So until an entry closes the link, these are the
-- messages that are queued for it; behind that they are those that its router would have queued.
abbrev pub sent_from : HubState → List Msg → List Entry → LinkNo → List Msg
sent_from hub before [] link = before
sent_from hub before (e ∷ es) link = sent_from (hub_after hub e.event) ((if renews link e then [] else before) ++ sends_not_left_out hub e link) es link

-- all that a history has sent on the link of a number since it came up last
abbrev pub sent_since_up : List ℕ → List Entry → ℕ → List Msg
sent_since_up me history k = sent_from (new_hub me) [] history (record { 0 = k })

-- so it is with each legal history
abbrev pub ReplayedMapsAreHeard : Type 0
ReplayedMapsAreHeard = (me : List ℕ) (history : List Entry) → is_legal me history ≡ true → KeepsWhatIsHeard (replay me history).hub (λ k. sent_since_up me history k)
