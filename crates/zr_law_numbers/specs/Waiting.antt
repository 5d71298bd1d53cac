-- What a world has on each link: from one name to another one list of messages, which is on the wire and behind that in the queue, so that a message
-- that is taken from a queue onto a wire stays where it is, and a client handles what it is sent.
use Rattle.std.specs.Prelude.{ℕ, ◌&&◌, ◌||◌, Bool, false, if◌then◌else◌, List, [], ◌∷◌, ◌++◌, Option, Some, None}
use Rattle.std.specs.List.{flat_map}
use Rattle.std.specs.Option.{option_map, option_map_or, option_and_then, option_or}
use Rattle.zr_id.specs.Zid.{is_named}
use Rattle.zr_msg.specs.declared.msg.Msg.{Msg}
use Rattle.zr_msg.specs.declared.msg.Msg.TheVariants.{Sub, Unsub, Token, Untoken, Able, Unable, Interest, EndInterest, ToldSub, ToldAble, ToldUnsub, ToldToken, ToldUntoken, ToldUnable, ToldEnd, Push, Request, Response, Final, State, Step, Snap}
use Rattle.zr_pend_spec.specs.declared.branch.Asker.{Asker}
use Rattle.zr_pend_spec.specs.Pending.{asked, branch}
use Rattle.zr_node_spec.specs.Tables.{link_at, link_to}
use Rattle.zr_world_spec.specs.World.{Tagged, End, Ends, RouterState, ClientState, WorldState, router_of, client_of, end_of, is_unbroken}
use Rattle.zr_world_spec.specs.Acts.{has_number}
use Rattle.zr_msg.specs.declared.content.Parts.{Parts}
use Rattle.zr_msg.specs.declared.msg.Target.{Target}
use Rattle.zr_pend_spec.specs.Readings.{back}
use Rattle.zr_law_queries.specs.Link.{Ask, Answer, Link, ask, reply, final}

-- what a request asks for, and the line of its query
pub record Asked : Type 0 where
  pub line : ℕ
  pub tree : Option (List ℕ)
  pub target : Target
  pub content : Parts

-- a reply: its line, and what it says
pub record Said : Type 0 where
  pub line : ℕ
  pub content : Parts

-- who asked: a neighbour or the client itself, with its number
pub record Place : Type 0 where
  pub name : List ℕ
  pub number : ℕ

abbrev pub wire_at : Ends → End → List Tagged
wire_at ends e = option_map_or (λ s. s.wire) (end_of ends e) []

abbrev pub queue_at : Ends → End → List Tagged
queue_at ends e = option_map_or (λ s. s.queue) (end_of ends e) []

-- what waits from x to y, the oldest first; a client has no end of its own, so what it sends is on the wire and what it is sent in the queue
abbrev pub waits : WorldState → List ℕ → List ℕ → List Tagged
waits w x y = wire_at w.ends (y, x) ++ queue_at w.ends (x, y)

abbrev pub asks_in : ℕ → Msg → List (Ask Asked)
asks_in tag (Sub id key) = []
asks_in tag (Unsub id) = []
asks_in tag (Token id key) = []
asks_in tag (Untoken id) = []
asks_in tag (Able id key complete) = []
asks_in tag (Unable id) = []
asks_in tag (Interest id current future kinds key aggregate) = []
asks_in tag (EndInterest id) = []
asks_in tag (ToldSub id key interest) = []
asks_in tag (ToldToken id key interest) = []
asks_in tag (ToldAble id key complete interest) = []
asks_in tag (ToldUnsub id) = []
asks_in tag (ToldUntoken id) = []
asks_in tag (ToldUnable id) = []
asks_in tag (ToldEnd interest) = []
asks_in tag (Push tree content) = []
asks_in tag (Request tree id target content) = ask id (record { line = tag; tree = tree; target = target; content = content }) ∷ []
asks_in tag (Response id content) = []
asks_in tag (Final id extras) = []
asks_in tag (State links) = []
asks_in tag (Step source number added decl) = []
asks_in tag (Snap source number decls) = []

abbrev pub answers_in : ℕ → Msg → List (Answer Said)
answers_in tag (Sub id key) = []
answers_in tag (Unsub id) = []
answers_in tag (Token id key) = []
answers_in tag (Untoken id) = []
answers_in tag (Able id key complete) = []
answers_in tag (Unable id) = []
answers_in tag (Interest id current future kinds key aggregate) = []
answers_in tag (EndInterest id) = []
answers_in tag (ToldSub id key interest) = []
answers_in tag (ToldToken id key interest) = []
answers_in tag (ToldAble id key complete interest) = []
answers_in tag (ToldUnsub id) = []
answers_in tag (ToldUntoken id) = []
answers_in tag (ToldUnable id) = []
answers_in tag (ToldEnd interest) = []
answers_in tag (Push tree content) = []
answers_in tag (Request tree id target content) = []
answers_in tag (Response id content) = reply id (record { line = tag; content = content }) ∷ []
answers_in tag (Final id extras) = final id ∷ []
answers_in tag (State links) = []
answers_in tag (Step source number added decl) = []
answers_in tag (Snap source number decls) = []

abbrev pub asks : WorldState → List ℕ → List ℕ → List (Ask Asked)
asks w x y = flat_map (λ t. asks_in t.tag t.msg) (waits w x y)

abbrev pub answers : WorldState → List ℕ → List ℕ → List (Answer Said)
answers w x y = flat_map (λ t. answers_in t.tag t.msg) (waits w y x)

-- who asked, by name
abbrev pub place_of : RouterState → Asker → Option Place
place_of r from = option_map (λ l. record { name = l.peer.id; number = from.number }) (link_at r.node.links from.link.0)

-- a router keeps a request as the asker of a row, and a client one that it was sent and has not ended
abbrev pub row_kept : RouterState → List ℕ → ℕ → Bool
row_kept r x number = option_map_or (λ l. asked (record { link = l.link; number = number }) r.node.pending) (link_to r.node.links x) false

abbrev pub is_kept_by : WorldState → List ℕ → List ℕ → ℕ → Bool
is_kept_by w x y number =
    option_map_or (λ r. row_kept r x number) (router_of w.routers y) false
    || option_map_or (λ s. is_named s.router x && has_number s.requests number) (client_of w.clients y) false

-- for whom x has a number pending on its link to y, if it has: a router for who asked it, and a client for itself
abbrev pub branch_back : RouterState → List ℕ → ℕ → Option (Option Place)
branch_back r y number =
    option_and_then (λ l. option_map (λ o. option_and_then (λ from. place_of r from) o) (back r.node.pending (branch l.link number))) (link_to r.node.links y)

abbrev pub query_back : ClientState → List ℕ → List ℕ → ℕ → Option (Option Place)
query_back s x y number = if is_named s.router y && has_number s.queries number then Some (Some (record { name = x; number = number })) else None

abbrev pub back_at : WorldState → List ℕ → List ℕ → ℕ → Option (Option Place)
back_at w x y number =
    option_or (option_and_then (λ r. branch_back r y number) (router_of w.routers x)) (option_and_then (λ s. query_back s x y number) (client_of w.clients x))

-- the link from x to y
abbrev pub link_of : WorldState → List ℕ → List ℕ → Link Asked Place Said
link_of w x y = record { asks = asks w x y; answers = answers w x y; keeps = λ n. is_kept_by w x y n; back = λ n. back_at w x y n }

-- the link of two names is there and unbroken
abbrev pub is_whole : WorldState → List ℕ → List ℕ → Bool
is_whole w x y = is_unbroken w.ends (x, y) || is_unbroken w.ends (y, x)
