-- How a query of a phase stands at a moment: the number that it has on the link above each node of its tree, and the stage of each node. What links,
-- routers and clients have of it agrees with that.
use Rattle.std.specs.Prelude.{◌≡◌, ℕ, ◌-◌, ◌==◌, ◌&&◌, not, Bool, true, false, if◌then◌else◌, List, [], map, filter, Option, Some, None, is_some}
use Rattle.std.specs.List.{find, list_any, flat_map, filter_map}
use Rattle.std.specs.Option.{option_map, option_map_or, option_and_then}
use Rattle.zr_id.specs.Zid.{is_named}
use Rattle.zr_msg.specs.declared.content.Parts.{Parts}
use Rattle.zr_pend_spec.specs.declared.branch.Branch.{Branch}
use Rattle.zr_pend_spec.specs.Held.{is_for, gathered}
use Rattle.zr_pend_spec.specs.Readings.{row_of}
use Rattle.zr_node_spec.specs.Tables.{TableState, link_at, link_to}
use Rattle.zr_node_spec.specs.State.{NodeState}
use Rattle.zr_world_spec.specs.World.{End, RouterState, ClientState, WorldState, router_of, client_of, is_up, is_unbroken}
use Rattle.zr_world_spec.specs.Acts.{has_number}
use Rattle.zr_world_spec.specs.Moments.{Numbered, Moment}
use Rattle.zr_guarantee.specs.Item.{Reply}
use Rattle.zr_guarantee.specs.Queries.{Asked, queries, turn, sayings, replies, has_ended}
use Rattle.zr_guarantee.specs.Sent.{Told, told_to}
use Rattle.zr_law_queries.specs.Link.{Answer, Asked as AskedHop, Open, answers_with, answers_number}
use Rattle.zr_law_queries.specs.Query.{Tree, Stage, NotYet, OnTheWay, Here, Over, has, is_child, is_not_yet, is_over, is_done, Sound, Release}
use Rattle.zr_law_queries.specs.Courses.{Chain, way_of, Course}
use Rattle.zr_law_numbers.specs.Waiting as waiting
use Rattle.zr_law_numbers.specs.Waiting.{Place, Said, answers_in, is_whole}
use Rattle.zr_law_replies.specs.Answers.{HopState, line_of, told_in_turn}
use Rattle.zr_law_replies.specs.Trees.{has_router, named_at, passes_at, tree_at}

-- ---- what stays

-- the tables of a router but for the live interests of its clients, by which no request goes
abbrev pub lasting : NodeState → TableState
lasting node = record { links = node.links; base = node.base; rows = node.rows; clients = []; known = node.known }

-- what requests go by at routers, whose client each client is, and which links are up and unbroken
pub record IsStill (w now : WorldState) : Type 0 where
  pub tables : (x : List ℕ) → option_map (λ r. lasting r.node) (router_of now.routers x) ≡ option_map (λ r. lasting r.node) (router_of w.routers x)
  pub homes : (c : List ℕ) → option_map (λ s. s.router) (client_of now.clients c) ≡ option_map (λ s. s.router) (client_of w.clients c)
  pub ups : (e : End) → is_up now.ends e ≡ is_up w.ends e
  pub unbroken : (e : End) → is_unbroken now.ends e ≡ is_unbroken w.ends e

-- ---- under its numbers

-- a hop is of the query of a line
abbrev pub is_of : ℕ → HopState → Bool
is_of line hop = option_map_or (λ l. l == line) (line_of hop) false

-- the request is on its way to the node, or the node has it, and the final was not handled above
abbrev pub is_live : {R : Type 0} → Stage R → Bool
is_live NotYet = false
is_live OnTheWay = true
is_live (Here replies done) = true
is_live Over = false

-- the node has the request, and has not sent its final
abbrev pub is_open : {R : Type 0} → Stage R → Bool
is_open NotYet = false
is_open OnTheWay = false
is_open (Here replies done) = not done
is_open Over = false

-- the request has come to the node
abbrev pub has_come : {R : Type 0} → Stage R → Bool
has_come NotYet = false
has_come OnTheWay = false
has_come (Here replies done) = true
has_come Over = true

-- the query was not asked yet, or its client has it
abbrev pub is_asked_or_not : {R : Type 0} → Stage R → Bool
is_asked_or_not NotYet = true
is_asked_or_not OnTheWay = false
is_asked_or_not (Here replies done) = true
is_asked_or_not Over = false

abbrev pub place : List ℕ → ℕ → Place
place name number = record { name = name; number = number }

-- who asked a node: its parent, under the node's number
abbrev pub asked_at : Tree (List ℕ) → (List ℕ → ℕ) → List ℕ → Place
asked_at tree num x = place (tree.parent x) (num x)

-- what the link above a node has under the node's number
abbrev pub Shown : waiting.Asked → Place → Stage Said → HopState → Type 0
Shown request from NotYet hop = Unit {0}
Shown request from OnTheWay hop = hop ≡ AskedHop request (Some from)
Shown request from (Here replies done) hop = hop ≡ Open request (Some from) replies done
Shown request from Over hop = Unit {0}

-- each node's stage is that of the hop above it, under its number, and no other hop of a link that is whole is the query's
pub record Marks (tree : Tree (List ℕ)) (request : List ℕ → waiting.Asked) (line : ℕ) (whole : List ℕ → List ℕ → Bool) (num : List ℕ → ℕ) (stage : List ℕ → Stage Said)
    (hop : List ℕ → List ℕ → ℕ → HopState) : Type 0 where
  pub shown : (x y : List ℕ) → is_child tree x y ≡ true → Shown (request y) (asked_at tree num x) (stage y) (hop x y (num y))
  pub mine : (x y : List ℕ) (n : ℕ) → whole x y ≡ true → is_of line (hop x y n) ≡ true → (is_child tree x y ≡ true) × (n ≡ num y) × (is_live (stage y) ≡ true)

-- the request to a node: to a router it names the tree, but for the one that comes from the client
abbrev pub request_to : WorldState → Asked → List ℕ → waiting.Asked
request_to w q y = record { line = q.line; tree = if has_router w y then named_at w q.client y else None; target = q.target; content = q.content }

-- other numbers for some nodes, and another stage for them
abbrev pub numbered : Tree (List ℕ) → (List ℕ → ℕ) → List (List ℕ) → (List ℕ → ℕ) → List ℕ → ℕ
numbered tree num ys more z = if has tree ys z then more z else num z

abbrev pub with_all : Tree (List ℕ) → (List ℕ → Stage Said) → List (List ℕ) → Stage Said → List ℕ → Stage Said
with_all tree stage ys new z = if has tree ys z then new else stage z

-- ---- in the rows of routers

-- the branches that are pending at a router for who asked, by name
abbrev pub branch_place : RouterState → Branch → Option Place
branch_place r b = option_map (λ l. place l.peer.id b.number) (link_at r.node.links b.link.0)

abbrev pub row_places : RouterState → Place → List Place
row_places r from =
    option_map_or (λ l. filter_map (λ b. branch_place r b) (row_of (record { link = l.link; number = from.number }) r.node.pending)) (link_to r.node.links from.name) []

-- those of the query: of each node below, but where the final was handled
abbrev pub open_below : Tree (List ℕ) → (List ℕ → ℕ) → (List ℕ → Stage Said) → List ℕ → List Place
open_below tree num stage x = map (λ y. place y (num y)) (filter (λ y. not (is_over (stage y))) (tree.children x))

-- ---- at its client

-- the replies and finals of a number among what a client was sent
abbrev pub answers_told : ℕ → List Told → List (Answer Said)
answers_told number told = filter (answers_number number) (flat_map (λ x. answers_in x.tag x.msg) told)

-- those that the client that asks was sent at a stage
abbrev pub answers_at : ℕ → Stage Said → List (Answer Said)
answers_at number NotYet = []
answers_at number OnTheWay = []
answers_at number (Here replies done) = answers_with number replies done
answers_at number Over = []

-- ---- at the clients that are asked

-- the replies of a client
abbrev pub said_in : List Reply → List Said
said_in rs = map (λ r. record { line = r.line; content = r.content }) rs

-- a reply is of one of the client's lines in a phase
abbrev pub is_said_by : List Numbered → List ℕ → Said → Bool
is_said_by phase client said = list_any (λ s. s.line == said.line && (is_some s.reply && is_named client s.client)) (sayings phase)

-- ---- at the router of a client that asks for the latest

-- what it releases of replies shows what it holds of them
abbrev pub latest_release : Release Said (List Parts)
latest_release = record { shown = λ said. map (λ s. s.content) said; best = λ got. gathered (map (λ s. s.content) got) }

-- what a router holds for a neighbour under a number, if it gathers for it
abbrev pub gathered_by : NodeState → List ℕ → ℕ → Option (List Parts)
gathered_by node y number = option_and_then (λ l. option_map (λ g. g.held) (find (λ g. is_for (record { link = l.link; number = number }) g) node.held)) (link_to node.links y)

-- what the router of a node holds for who asked it
abbrev pub held_by : RouterState → Place → Option (List Parts)
held_by r from = gathered_by r.node from.name from.number

-- a router gathers where it is the one of the client that asks for the latest: of all that it has got the latest
abbrev pub held_if : Bool → List Said → Option (List Parts)
held_if gathers got = if gathers then Some (latest_release.best got) else None

-- ---- all of it

-- `w` is the world at the mark, `phase` are the acts of the phase, and `acts` are those up to the moment
pub record Stands (w : WorldState) (phase : List Numbered) (q : Asked) (acts : List Numbered) (m : Moment) (hop : List ℕ → List ℕ → ℕ → HopState) : Type 0 where
  pub num : List ℕ → ℕ
  pub stage : List ℕ → Stage Said
  pub still : IsStill w m.world
  pub sound : Sound (tree_at w q) stage
  pub marks : Marks (tree_at w q) (request_to w q) q.line (is_whole w) num stage hop
  -- a router has its row just while a final from below was not handled
  pub rows : (x : List ℕ) (r : RouterState) → router_of m.world.routers x ≡ Some r → is_open (stage x) ≡ true → row_places r (asked_at (tree_at w q) num x) ≡ open_below (tree_at w q) num stage x
  -- its client asks it under its number, keeps that until the final, and was sent in its turn what the stage says
  pub number : num q.client ≡ q.number
  pub asked : is_not_yet (stage q.client) ≡ not (list_any (λ p. p.line == q.line) (queries acts))
  pub waits : (s : ClientState) → client_of m.world.clients q.client ≡ Some s → is_open (stage q.client) ≡ true → has_number s.queries q.number ≡ true
  pub told : is_not_yet (stage q.client) ≡ false → answers_told q.number (told_in_turn q.number (turn acts q - 1) (told_to m.report q.client)) ≡ answers_at q.number (stage q.client)
  -- the router of a client that asks for the latest has got some replies, and until its final it holds the latest of these; others hold nothing
  pub got : List Said
  pub fresh : (x : List ℕ) → (tree_at w q).gathers x ≡ true → has_come (stage x) ≡ false → got ≡ []
  pub holds : (x : List ℕ) (r : RouterState) → router_of m.world.routers x ≡ Some r → is_open (stage x) ≡ true → held_by r (asked_at (tree_at w q) num x) ≡ held_if ((tree_at w q).gathers x) got
  -- by moves that brought the stages about each client that is asked has said what its replies are
  pub course : (d : List ℕ) (ys : List (List ℕ)) → passes_at w q.client d ≡ false → Chain (tree_at w q) q.client ys d →
      (heard : List ℕ → List Said) × Course latest_release (tree_at w q) (way_of (tree_at w q) ys d (is_said_by phase d)) stage heard got (said_in (replies acts m.report q d))
  -- and has ended its request exactly where its stage is done
  pub ended : (d : List ℕ) → passes_at w q.client d ≡ false → has_ended acts m.report q d ≡ is_done (stage d)
  -- the request of the client that asks was never on a link
  pub root : is_asked_or_not (stage q.client) ≡ true
