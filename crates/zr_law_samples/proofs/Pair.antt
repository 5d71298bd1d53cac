-- One publisher and one receiver in a phase, over any number of routers: what does not change in it (`Pair`), and what holds at each of its
-- moments (`Flows`). Its heart is one equation: what stands in the places from the receiver back to the publisher, joined, is what is to be
-- had. Beside it stands that the publisher's messages wait only on links that lead down the tree of its router, so what a router on the way
-- takes from another side is none of them. What has to be known of the routers' tables at the mark is `IsRouted`, and nothing else of them
-- is used. A router may have any requests pending there, and its clients any live interests: only the numbers under which it passes requests on
-- are others then.
use Rattle.std.proofs.Common.{◌≡◌, ℕ, Bool, true, false, cond, List, [], ◌∷◌, ◌++◌, map, Some, Ok, ◌∙◌, ap, append-nil}
use Rattle.std.specs.Prelude.{◌&&◌, ◌||◌, not, filter, is_some, is_none, if◌then◌else◌}
use Rattle.std.specs.List.{AllByRecursion, flat_map, list_all}
use Rattle.std.specs.Option.{option_map}
use Rattle.std.proofs.lemmas.Grind.{flat_map-append}
use Rattle.zr_id.specs.Zid.{is_named}
use Rattle.zr_id.specs.declared.link.LinkNo.{LinkNo}
use Rattle.zr_tree.specs.Tree.{is_child}
use Rattle.zr_msg.specs.declared.msg.Msg.{Msg}
use Rattle.zr_msg.specs.declared.event.Event.TheVariants.{From}
use Rattle.zr_script_spec.specs.declared.command.Act.{Act}
use Rattle.zr_script_spec.specs.declared.command.Act.TheVariants as c
use Rattle.zr_script_spec.specs.declared.report.ReportLine.{ReportLine}
use Rattle.zr_node_spec.specs.State.{NodeState}
use Rattle.zr_world_spec.specs.World.{Tagged, End, RouterState, ClientState, WorldState, is_calm, router_of, client_of, end_of, wire_at}
use Rattle.zr_world_spec.specs.Joined.{graph}
use Rattle.zr_world_spec.specs.Acts.{number_to, sends_to}
use Rattle.zr_world_spec.specs.Moments.{Numbered, Moment}
use Rattle.zr_world_spec.specs.Sound.{IsSound}
use Rattle.zr_guarantee.specs.Item.{Item, Carried}
use Rattle.zr_guarantee.specs.Broker.{is_for, publication, item_for, from}
use Rattle.zr_guarantee.specs.Sent.{carried_by, item_of, sent_to}
use Rattle.zr_world_spec.proofs.Clients.{SameClients}
use Rattle.zr_law_samples.proofs.Carried.{carried_in}
use Rattle.zr_law_samples.proofs.Idle.{idle, asked_as}
use Rattle.zr_law_samples.proofs.Told.{sent_append}
use Rattle.zr_law_samples.proofs.Places.{Spot, Sent, Queue, Wire, AtEach, path, along}
use Rattle.zr_law_settled.proofs.Worlds.{queue_at}
use Rattle.zr_law_samples.proofs.Pushes.{names_tree}

-- the samples and requests among the messages that wait
abbrev pub items : List Tagged → List Item
items xs = flat_map (λ x. item_of x.msg x.tag) xs

-- messages with one tag
abbrev pub all_tagged : ℕ → List Msg → List Tagged
all_tagged tag ms = map (λ z. record { msg = z; tag = tag }) ms

-- a publisher and a receiver, any names, and what no step of the phase changes
pub record Pair : Type 0 where
  pub before : List Numbered
  -- whether a tag is one of the publisher's lines of the whole phase
  pub by : ℕ → Bool
  pub publisher : List ℕ
  pub receiver : List ℕ
  -- the world at the mark
  pub world : WorldState
  -- the publisher's router, and the routers on the way from the receiver's, the first, to it
  pub root : List ℕ
  pub first : List ℕ
  pub more : List (List ℕ)

-- the items that are the publisher's
abbrev pub of_publisher : Pair → List Item → List Item
of_publisher p xs = filter (λ i. p.by i.line) xs

-- the items that are the publisher's and are for the receiver
abbrev pub wanted_of : Pair → List Item → List Item
wanted_of p xs = filter (λ i. p.by i.line && is_for p.before p.publisher p.receiver i.carried) xs

-- of what is queued for the receiver all that are there, since the choice is behind it, and of what is queued for others those for the receiver
abbrev pub kept_for : Pair → List ℕ → List Item → List Item
kept_for p to xs = if is_named p.receiver to then of_publisher p xs else wanted_of p xs

-- the publisher's items at a place
abbrev pub held : Pair → Moment → Spot → List Item
held p m (Sent to) = of_publisher p (sent_to m.report to)
held p m (Queue at to) = kept_for p to (items (queue_at (end_of m.world.ends (at, to))))
held p m (Wire at source) = wanted_of p (items (wire_at (end_of m.world.ends (at, source))))

-- the places from what the receiver was sent back to the publisher's wire
abbrev pub way : Pair → List Spot
way p = path p.receiver (p.first ∷ p.more) p.publisher

-- ---- down the tree

abbrev pub has_router : Pair → List ℕ → Bool
has_router p x = is_some (router_of p.world.routers x)

-- y is the next one from the router x toward the publisher: of the publisher's router the publisher itself, of another one its parent
abbrev pub leads : Pair → List ℕ → List ℕ → Bool
leads p x y = if is_named p.root x then is_named p.publisher y else is_child (graph p.world) p.root y x

-- a message may be the publisher's on its way from y to the router x: it comes down the tree, and names it where it comes from a router
abbrev pub comes_down : Pair → List ℕ → List ℕ → Msg → Bool
comes_down p x y msg = leads p x y && (is_named p.root x || names_tree p.root msg)

-- it carries nothing, or comes down the tree
abbrev pub passes_down : Pair → List ℕ → List ℕ → Msg → Bool
passes_down p x y msg = is_none (carried_by msg) || comes_down p x y msg

-- a message on its way from y to the router x is none of the publisher's, or carries nothing, or comes down the tree
abbrev pub fits : Pair → List ℕ → List ℕ → Tagged → Bool
fits p x y t = not (p.by t.tag) || passes_down p x y t.msg

-- ---- what stays

-- a router's tables alone
abbrev pub idle_router : RouterState → RouterState
idle_router r = record { node = idle r.node; told = []; weight = 0 }

-- what holds at a moment, where `done` are the lines of the phase so far
pub record Flows (p : Pair) (done : List Numbered) (m : Moment) : Type 0 where
  -- routers have the tables that they had at the mark, and clients their routers and what they had declared
  pub routers : (x : List ℕ) → option_map idle_router (router_of m.world.routers x) ≡ option_map idle_router (router_of p.world.routers x)
  pub clients : SameClients p.world.clients m.world.clients
  pub ends_are : (e : End) → is_some (end_of m.world.ends e) ≡ is_some (end_of p.world.ends e)
  -- nothing under way unsettles
  pub calm : (e : End) → list_all is_calm (wire_at (end_of m.world.ends e)) ≡ true
  pub calm_queues : (e : End) → list_all is_calm (queue_at (end_of m.world.ends e)) ≡ true
  -- the publisher's messages wait only on links that lead down the tree
  pub wires : (x y : List ℕ) → list_all (fits p x y) (wire_at (end_of m.world.ends (x, y))) ≡ true
  pub queues : (x z : List ℕ) → has_router p z ≡ true → list_all (fits p z x) (queue_at (end_of m.world.ends (x, z))) ≡ true
  -- all that is to be had stands in the places, the oldest nearest to the receiver
  pub flow : along (held p m) (way p) ≡ from p.before done p.publisher p.receiver

-- ---- what has to be known of tables

-- what a message carries goes on at most once, and it does so where the receiver is to have it; to the receiver itself nowhere else
pub record IsSentOn (p : Pair) (to : List ℕ) (carried : Carried) (ms : List Msg) : Type 0 where
  pub goes : Bool
  pub sent_is : carried_in ms ≡ cond goes (carried ∷ []) []
  pub where_wanted : is_for p.before p.publisher p.receiver carried ≡ true → goes ≡ true
  pub to_receiver : is_named p.receiver to ≡ true → goes ≡ is_for p.before p.publisher p.receiver carried

-- a router on the way, between the next one toward the receiver and the next one toward the publisher
pub record OnWay (p : Pair) (to r s : List ℕ) : Type 0 where
  pub end_is : is_some (end_of p.world.ends (r, to)) ≡ true
  pub only : (y : List ℕ) → leads p r y ≡ true → y ≡ s
  pub last : is_named p.publisher s ≡ true → is_named p.root r ≡ true
  pub routes : (rr : RouterState) → router_of p.world.routers r ≡ Some rr → (now : NodeState) (l : LinkNo) → number_to rr s ≡ Ok l → (msg : Msg) (carried : Carried) → carried_by msg ≡ Some carried →
      comes_down p r s msg ≡ true → IsSentOn p to carried (sends_to (asked_as rr.node now) (From l msg) to)

-- and a router with the next one, which is a router too
pub record Between (p : Pair) (r s : List ℕ) : Type 0 where
  pub end_is : is_some (end_of p.world.ends (r, s)) ≡ true
  pub router : has_router p s ≡ true

pub record IsRouted (p : Pair) : Type 0 where
  pub sound : IsSound p.world
  pub publisher_apart : has_router p p.publisher ≡ false
  pub receiver_apart : has_router p p.receiver ≡ false
  pub clients_apart : (name : List ℕ) → is_some (client_of p.world.clients name) ≡ true → has_router p name ≡ false
  pub home : (s : ClientState) → client_of p.world.clients p.publisher ≡ Some s → s.router ≡ p.root
  pub receiver_home : (x : List ℕ) → is_some (end_of p.world.ends (x, p.receiver)) ≡ true → x ≡ p.first
  -- what comes down the tree goes on down the tree
  pub goes_down : (x y z : List ℕ) (r : RouterState) → router_of p.world.routers x ≡ Some r → (now : NodeState) (l : LinkNo) → number_to r y ≡ Ok l → (msg : Msg) (carried : Carried) → carried_by msg ≡ Some carried →
      comes_down p x y msg ≡ true → has_router p z ≡ true → list_all (passes_down p z x) (sends_to (asked_as r.node now) (From l msg) z) ≡ true
  pub whole_way : AtEach (OnWay p) (Between p) p.receiver (p.first ∷ p.more) p.publisher

-- ---- lines of a phase

-- a line's number is one of the publisher's exactly where the publisher's client publishes there
abbrev pub Agrees : Pair → ℕ → Act → Type 0
Agrees p n (c.Router id) = Unit {0}
Agrees p n (c.Client id router) = Unit {0}
Agrees p n (c.Link one other weight) = Unit {0}
Agrees p n (c.Up router neighbour) = Unit {0}
Agrees p n (c.Break router neighbour) = Unit {0}
Agrees p n (c.Down router neighbour) = Unit {0}
Agrees p n (c.Sub client id key) = Unit {0}
Agrees p n (c.Unsub client id) = Unit {0}
Agrees p n (c.Token client id key) = Unit {0}
Agrees p n (c.Untoken client id) = Unit {0}
Agrees p n (c.Able client id key complete) = Unit {0}
Agrees p n (c.Unable client id) = Unit {0}
Agrees p n (c.Interest client id mode kinds key aggregate) = Unit {0}
Agrees p n (c.Uninterest client id) = Unit {0}
Agrees p n (c.Publish client content) = p.by n ≡ is_named p.publisher client
Agrees p n (c.Get client number target content) = p.by n ≡ is_named p.publisher client
Agrees p n (c.Reply client number content) = Unit {0}
Agrees p n (c.End client number) = Unit {0}
Agrees p n (c.Handle router from) = Unit {0}
Agrees p n (c.Take router to) = Unit {0}
Agrees p n c.Mark = Unit {0}
Agrees p n (c.Show router) = Unit {0}

abbrev pub AllAgree : Pair → List Numbered → Type 0
AllAgree p xs = AllByRecursion (λ x. Agrees p x.0 x.1) xs

-- one report line more
pub sent_more : (report : List ReportLine) (line : ReportLine) (d : List ℕ) → sent_to (report ++ line ∷ []) d ≡ sent_to report d ++ sent_to (line ∷ []) d
sent_more report line d = sent_append report (line ∷ []) d

-- what a line of the phase has for the receiver
abbrev pub for_receiver : List Numbered → List ℕ → List ℕ → Numbered → List Item
for_receiver before publisher receiver x = item_for before publisher receiver x.0 (publication x.1)

-- one line more in the phase
pub from_more : (before done : List Numbered) (x : Numbered) (a d : List ℕ) → from before (done ++ x ∷ []) a d ≡ from before done a d ++ for_receiver before a d x
from_more before done x a d = flat_map-append (for_receiver before a d) done (x ∷ []) ∙ ap (λ z. from before done a d ++ z) (append-nil (for_receiver before a d x))

-- a line that publishes nothing
pub from_same : (before done : List Numbered) (x : Numbered) (a d : List ℕ) → for_receiver before a d x ≡ [] → from before (done ++ x ∷ []) a d ≡ from before done a d
from_same before done x a d h = from_more before done x a d ∙ ap (λ z. from before done a d ++ z) h ∙ append-nil (from before done a d)
