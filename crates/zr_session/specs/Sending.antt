-- What a peer sends by its outbox, and what is heard of it.
use Rattle.std.specs.Prelude.{◌≤◌, true, List, [], ◌∷◌, ◌++◌, length, map, Option, Some, None}
use Rattle.std.specs.List.{sum_by}
use Rattle.zr_msg.specs.declared.msg.Msg.{Msg}
use Rattle.zr_frame.specs.Channels.{with_one}
use Rattle.zr_frame.specs.Outbox.{OutboxState}
use Rattle.zr_frame.specs.Packing.{Parcels, no_parcels, before}
use Rattle.zr_frame_pack.specs.Packing.{parcels_of}
use Rattle.zr_frame.specs.Laws.{expecting}
use Rattle.zr_open.specs.declared.expected.Opened.{Opened}
use Rattle.zr_session.specs.declared.event.SessionEvent.TheVariants.{Message}
use Rattle.zr_session.specs.declared.phase.Established as session
use Rattle.zr_session.specs.declared.phase.Phase.TheVariants.{Established}
use Rattle.zr_session.specs.Course.{Course}
use Rattle.zr_open.specs.Table.{names_for}
use Rattle.zr_wirekey.specs.Names.{NameList, numbered}
use Rattle.zr_wirekey.specs.Scopes.{Texts}
use Rattle.zr_session.specs.Step.{with_channels, with_keys}

-- ---- what is packed

-- the texts that have numbers are as few and as short as they may be
abbrev pub AreNames : Option NameList → Type 0
AreNames None = Unit {0}
AreNames (Some names) = (length names ≤ 4096) × (sum_by (λ text. length text) names ≤ 1048576)

-- the parcels of messages that are packed in several calls, one behind another
abbrev pub packed_in : OutboxState → List (List Msg) → Parcels
packed_in box [] = no_parcels box
packed_in box (messages ∷ calls) = before (parcels_of box messages) (λ next. packed_in next calls)

-- what the peer of a session that has just opened sends by: the batch and the resolution that are agreed, the number that it told, and no text that has a
-- number yet, where it gives them, as a router does
abbrev pub outbox_of_peer : Opened → OutboxState
outbox_of_peer o = record { batch = o.outbox.batch; bits = o.outbox.bits; next = o.first; names = names_for o.peer.role }

-- ---- what is heard

-- what the numbers of the peer stand for: the texts that it has declared, where it gives numbers by its outbox
abbrev pub heard : Option NameList → Texts → Texts
heard None keys = keys
heard (Some names) keys = numbered names

-- the established session that expects on its reliable channel what this outbox sends next, has no message unfinished there, and knows the texts that the outbox
-- has given numbers
abbrev pub hearing : session.Established → OutboxState → session.Established
hearing s box = with_keys (with_channels s (with_one s.channels true (expecting box))) (heard box.names s.keys)

-- The course goes on: these messages were given and nothing was answered, and what the outbox sends next is expected.
abbrev pub with_messages : Course → session.Established → OutboxState → List Msg → Course
with_messages c s box messages = record { phase = Established (hearing s box); events = c.events ++ map (λ m. Message m) messages; bytes = c.bytes; ends = None }
