-- Events that are others but for what changes nothing: the names of clients, what their links weigh, the trees that they name, and events without effect.
use Rattle.std.specs.Prelude.{◌≡◌, ℕ, ◌⊎◌, List, [], ◌∷◌, ◌++◌}
use Rattle.std.specs.List.{fold}
use Rattle.zr_id.specs.declared.link.LinkNo.{LinkNo}
use Rattle.zr_msg.specs.declared.event.Event.{Event}
use Rattle.zr_msg.specs.declared.msg.Msg.{Msg}
use Rattle.zr_told_spec.specs.Hub.{HubState, new_hub, hub_sends, hub_after, hub_refuses}
use Rattle.zr_law_names.specs.Names.{nameless_event, nameless_hub}
use Rattle.zr_law_names.specs.Trees.{treeless_event}

-- ---- one event

-- an event at a router without the names of clients, and without the trees that they name
abbrev pub plain_event : HubState → Event → Event
plain_event h event = nameless_event (treeless_event h.node.links event)

-- an event at one router is that at another one, but for these names and trees
abbrev pub IsAs : HubState → Event → HubState → Event → Type 0
IsAs h event g other = plain_event h event ≡ plain_event g other

-- and it does the same there: it sends the same on each link, is refused alike, and leaves the same tables, but for the names of clients
pub record DoesAs (h : HubState) (event : Event) (g : HubState) (other : Event) : Type 0 where
  pub is : IsAs h event g other
  pub sends : (link : LinkNo) → hub_sends h event link ≡ hub_sends g other link
  pub refuses : hub_refuses h event ≡ hub_refuses g other
  pub after : nameless_hub (hub_after h event) ≡ nameless_hub (hub_after g other)

-- An event has no effect: the router keeps its tables, and sends nothing.
pub record HasNoEffect (h : HubState) (event : Event) : Type 0 where
  pub keeps : hub_after h event ≡ h
  pub sends : (link : LinkNo) → hub_sends h event link ≡ []

-- ---- many events

-- Event by event, at two routers: each one goes with the next one of the others, as some relation has it, or it has no effect and goes with none.
abbrev pub GoWith : (HubState → Event → HubState → Event → Type 0) → HubState → HubState → List Event → List Event → Type 0
GoWith Fits h g [] others = others ≡ []
GoWith Fits h g (event ∷ events) others =
    (HasNoEffect h event × GoWith Fits h g events others)
    ⊎ ((other : Event) × (more : List Event) × (others ≡ other ∷ more) × Fits h event g other × GoWith Fits (hub_after h event) (hub_after g other) events more)

-- Events are others, but for events without effect, the names of clients, what their links weigh, and the trees that they name.
abbrev pub AreAs : HubState → List Event → List Event → Type 0
AreAs h events others = GoWith IsAs h h events others

-- all that events send on a link, one after another
abbrev pub all_sent : HubState → List Event → LinkNo → List Msg
all_sent h [] link = []
all_sent h (event ∷ events) link = hub_sends h event link ++ all_sent (hub_after h event) events link

-- By these events a router does what it does by the others: event by event, so also on a link whose number another link had before. So together they
-- send the same on each link and leave the same tables, but for the names of clients and what their links weigh.
pub record DoTheSame (me : List ℕ) (events others : List Event) : Type 0 where
  pub steps : GoWith DoesAs (new_hub me) (new_hub me) events others
  pub after : nameless_hub (fold hub_after (new_hub me) events) ≡ nameless_hub (fold hub_after (new_hub me) others)
  pub sends : (link : LinkNo) → all_sent (new_hub me) events link ≡ all_sent (new_hub me) others link

abbrev pub StepsAreAlike : Type 0
StepsAreAlike = (me : List ℕ) (events others : List Event) → AreAs (new_hub me) events others → DoTheSame me events others

-- as events are what they are themselves
abbrev pub EventsAreAsThemselves : Type 0
EventsAreAsThemselves = (h : HubState) (events : List Event) → AreAs h events events
