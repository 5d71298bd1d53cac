-- What one event of a router does on one of its links, as far as requests go: seen from that router, number by number. As the upper end it asks over
-- the link and hears what comes back; as the lower end it takes requests, replies to them and ends them.
use Rattle.std.specs.Prelude.{◌≡◌, ◌⊎◌, ℕ, ◌==◌, Bool, true, false, cond, List, [], ◌∷◌, ◌++◌, Option, Some, None}
use Rattle.std.specs.List.{AllByRecursion, flat_map, list_all}
use Rattle.std.specs.Option.{option_map, option_and_then}
use Rattle.zr_lists.proofs.Finds.{In}
use Rattle.zr_id.specs.declared.link.LinkNo.{LinkNo}
use Rattle.zr_msg.specs.declared.content.Parts.{Parts}
use Rattle.zr_msg.specs.declared.event.Event.{Event}
use Rattle.zr_msg.specs.declared.event.Event.TheVariants.{Up, Down, From}
use Rattle.zr_msg.specs.declared.msg.Msg.{Msg}
use Rattle.zr_msg.specs.declared.msg.Msg.TheVariants.{Sub, Unsub, Token, Untoken, Able, Unable, Interest, EndInterest, ToldSub, ToldAble, ToldUnsub, ToldToken, ToldUntoken, ToldUnable, ToldEnd, Push, Request, Response, Final, State, Step, Snap}
use Rattle.zr_msg.specs.declared.msg.Target.{Target}
use Rattle.zr_msg.specs.declared.peer.LinkPeer.{LinkPeer}
use Rattle.zr_pend_spec.specs.declared.branch.Asker.{Asker}
use Rattle.zr_pend_spec.specs.Pending.{asked, asker_of, branch}
use Rattle.zr_pend_spec.specs.Readings.{back}
use Rattle.zr_pend_spec.specs.Held.{held_for}
use Rattle.zr_node_spec.specs.Tables.{link_at}
use Rattle.zr_node_spec.specs.State.{NodeState}
use Rattle.zr_node_spec.specs.Event.{MayCome}
use Rattle.zr_node_spec.specs.Table.{sends, after, refuses}
use Rattle.zr_law_numbers.specs.Rows.{AreOfLinks}
use Rattle.zr_law_queries.specs.Link.{Ask, Answer, ask, reply, final, put}
use Rattle.zr_law_numbers.specs.Waiting.{Asked, Said, Place, asks_in, answers_in}

-- what a router keeps of one link: as the lower end which requests it keeps, and as the upper end for whom it has numbers pending
pub record Half : Type 0 where
  pub keeps : ℕ → Bool
  pub back : ℕ → Option (Option Place)

pub data Deed : Type 0 where
  -- as the upper end: it asks, handles a reply or a final, or whoever asked has gone
  Asks : (number : ℕ) (request : Asked) (by : Option Place) → Deed
  Hears : (number : ℕ) → Deed
  Closes : (number : ℕ) → Deed
  Leaves : (number : ℕ) → Deed
  -- as the lower end: it takes a request, replies, or ends
  Takes : (number : ℕ) → Deed
  Replies : (number : ℕ) (said : Said) → Deed
  Ends : (number : ℕ) → Deed

abbrev pub with_deed : Half → Deed → Half
with_deed h (Asks number request by) = record { keeps = h.keeps; back = put h.back number (Some by) }
with_deed h (Hears number) = h
with_deed h (Closes number) = record { keeps = h.keeps; back = put h.back number None }
with_deed h (Leaves number) = record { keeps = h.keeps; back = put h.back number (Some None) }
with_deed h (Takes number) = record { keeps = put h.keeps number true; back = h.back }
with_deed h (Replies number said) = h
with_deed h (Ends number) = record { keeps = put h.keeps number false; back = h.back }

abbrev pub with_deeds : Half → List Deed → Half
with_deeds h [] = h
with_deeds h (d ∷ ds) = with_deeds (with_deed h d) ds

-- a deed may be done: a number that is asked for is free, one that somebody leaves is pending, and who replies or ends keeps the request
abbrev pub MayDo : Half → Deed → Type 0
MayDo h (Asks number request by) = h.back number ≡ None
MayDo h (Hears number) = Unit {0}
MayDo h (Closes number) = Unit {0}
MayDo h (Leaves number) = (by : Option Place) × (h.back number ≡ Some by)
MayDo h (Takes number) = Unit {0}
MayDo h (Replies number said) = h.keeps number ≡ true
MayDo h (Ends number) = h.keeps number ≡ true

abbrev pub MayDoAll : Half → List Deed → Type 0
MayDoAll h [] = Unit {0}
MayDoAll h (d ∷ ds) = MayDo h d × MayDoAll (with_deed h d) ds

-- the requests and the answers that deeds send
abbrev pub asked_by_deed : Deed → List (Ask Asked)
asked_by_deed (Asks number request by) = ask number request ∷ []
asked_by_deed (Hears number) = []
asked_by_deed (Closes number) = []
asked_by_deed (Leaves number) = []
asked_by_deed (Takes number) = []
asked_by_deed (Replies number said) = []
asked_by_deed (Ends number) = []

abbrev pub answered_by_deed : Deed → List (Answer Said)
answered_by_deed (Asks number request by) = []
answered_by_deed (Hears number) = []
answered_by_deed (Closes number) = []
answered_by_deed (Leaves number) = []
answered_by_deed (Takes number) = []
answered_by_deed (Replies number said) = reply number said ∷ []
answered_by_deed (Ends number) = final number ∷ []

-- what a router keeps of a link
abbrev pub place_in : NodeState → Asker → Option Place
place_in node from = option_map (λ l. record { name = l.peer.id; number = from.number }) (link_at node.links from.link.0)

abbrev pub half_of : NodeState → LinkPeer → Half
half_of node l = record {
  keeps = λ number. asked (record { link = l.link; number = number }) node.pending;
  back = λ number. option_map (λ o. option_and_then (λ from. place_in node from) o) (back node.pending (branch l.link number));
}

pub record IsHalf (h : Half) (of : Half) : Type 0 where
  pub keeps : (number : ℕ) → h.keeps number ≡ of.keeps number
  pub back : (number : ℕ) → h.back number ≡ of.back number

-- the deeds of an event on a link that is there before and after it, with the tag of the message that came: what is sent is what they send, what is
-- kept then is what they leave, and each may be done
pub record Does (node : NodeState) (event : Event) (tag : ℕ) (l : LinkPeer) (deeds : List Deed) : Type 0 where
  pub asks : flat_map (λ m. asks_in tag m) (sends node event l.link) ≡ flat_map asked_by_deed deeds
  pub answers : flat_map (λ m. answers_in tag m) (sends node event l.link) ≡ flat_map answered_by_deed deeds
  pub leaves : IsHalf (half_of (after node event) l) (with_deeds (half_of node l) deeds)
  pub may : MayDoAll (half_of node l) deeds

-- ---- what came

-- the deed by which a router handles a message of a link
abbrev pub handles_msg : Msg → List Deed
handles_msg (Sub id key) = []
handles_msg (Unsub id) = []
handles_msg (Token id key) = []
handles_msg (Untoken id) = []
handles_msg (Able id key complete) = []
handles_msg (Unable id) = []
handles_msg (Interest id current future kinds key aggregate) = []
handles_msg (EndInterest id) = []
handles_msg (ToldSub id key interest) = []
handles_msg (ToldToken id key interest) = []
handles_msg (ToldAble id key complete interest) = []
handles_msg (ToldUnsub id) = []
handles_msg (ToldUntoken id) = []
handles_msg (ToldUnable id) = []
handles_msg (ToldEnd interest) = []
handles_msg (Push tree content) = []
handles_msg (Request tree id target content) = Takes id ∷ []
handles_msg (Response id content) = Hears id ∷ []
handles_msg (Final id extras) = Closes id ∷ []
handles_msg (State links) = []
handles_msg (Step source number added decl) = []
handles_msg (Snap source number decls) = []

-- the deed by which an event handles what came over a link
abbrev pub handles : Event → LinkPeer → List Deed
handles (Up link peer) l = []
handles (Down link) l = []
handles (From link msg) l = cond (link.0 == l.link.0) (handles_msg msg) []

-- a deed that handles nothing that came
abbrev pub is_own : Deed → Bool
is_own (Asks number request by) = true
is_own (Hears number) = false
is_own (Closes number) = false
is_own (Leaves number) = true
is_own (Takes number) = false
is_own (Replies number said) = true
is_own (Ends number) = true

-- a request that a router asks over a link, under a number that is free, is one that came, for who asked it there
pub record IsPassedOn (node : NodeState) (event : Event) (tag : ℕ) (to : LinkNo) (number : ℕ) (request : Asked) (by : Option Place) : Type 0 where
  pub link : LinkNo
  pub tree : Option (List ℕ)
  pub id : ℕ
  pub target : Target
  pub content : Parts
  pub came : event ≡ From link (Request tree id target content)
  pub line : request.line ≡ tag
  pub asker : by ≡ place_in node (record { link = link; number = id })
  pub free : back node.pending (branch to number) ≡ None

-- a reply that it gives over a link is one that came, for whom its branch was asked over that link
pub record IsPassedBack (node : NodeState) (event : Event) (tag : ℕ) (to : LinkNo) (number : ℕ) (said : Said) : Type 0 where
  pub link : LinkNo
  pub id : ℕ
  pub content : Parts
  pub came : event ≡ From link (Response id content)
  pub reply : said ≡ record { line = tag; content = content }
  pub asker : asker_of (branch link id) node.pending ≡ Some (record { link = to; number = number })

-- an event by which requests end: a final came, or a link went down
abbrev pub is_ending_msg : Msg → Bool
is_ending_msg (Sub id key) = false
is_ending_msg (Unsub id) = false
is_ending_msg (Token id key) = false
is_ending_msg (Untoken id) = false
is_ending_msg (Able id key complete) = false
is_ending_msg (Unable id) = false
is_ending_msg (Interest id current future kinds key aggregate) = false
is_ending_msg (EndInterest id) = false
is_ending_msg (ToldSub id key interest) = false
is_ending_msg (ToldToken id key interest) = false
is_ending_msg (ToldAble id key complete interest) = false
is_ending_msg (ToldUnsub id) = false
is_ending_msg (ToldUntoken id) = false
is_ending_msg (ToldUnable id) = false
is_ending_msg (ToldEnd interest) = false
is_ending_msg (Push tree content) = false
is_ending_msg (Request tree id target content) = false
is_ending_msg (Response id content) = false
is_ending_msg (Final id extras) = true
is_ending_msg (State links) = false
is_ending_msg (Step source number added decl) = false
is_ending_msg (Snap source number decls) = false

abbrev pub is_ending : Event → Bool
is_ending (Up link peer) = false
is_ending (Down link) = true
is_ending (From link msg) = is_ending_msg msg

-- or one that was held for who asked over that link, released where requests end
pub record IsReleased (node : NodeState) (event : Event) (tag : ℕ) (to : LinkNo) (number : ℕ) (said : Said) : Type 0 where
  pub content : Parts
  pub reply : said ≡ record { line = tag; content = content }
  pub ends : is_ending event ≡ true
  pub held : In content (held_for node.held (record { link = to; number = number }))

-- a reply is given in one of these ways
abbrev pub IsSaid : NodeState → Event → ℕ → LinkNo → ℕ → Said → Type 0
IsSaid node event tag to number said = IsPassedBack node event tag to number said ⊎ IsReleased node event tag to number said

abbrev pub IsMeant : NodeState → Event → ℕ → LinkPeer → Deed → Type 0
IsMeant node event tag l (Asks number request by) = IsPassedOn node event tag l.link number request by
IsMeant node event tag l (Hears number) = Unit {0}
IsMeant node event tag l (Closes number) = Unit {0}
IsMeant node event tag l (Leaves number) = Unit {0}
IsMeant node event tag l (Takes number) = Unit {0}
IsMeant node event tag l (Replies number said) = IsSaid node event tag l.link number said
IsMeant node event tag l (Ends number) = Unit {0}

-- an event does on a link what handles what came over it, and then what is its own
pub record IsDone (node : NodeState) (event : Event) (tag : ℕ) (l : LinkPeer) : Type 0 where
  pub own : List Deed
  pub owns : list_all is_own own ≡ true
  pub does : Does node event tag l (handles event l ++ own)
  pub meant : AllByRecursion (λ d. IsMeant node event tag l d) own

-- nothing is asked and nothing kept on a link that has just come up, and nothing of queries is sent on it
pub record IsNew (node : NodeState) (event : Event) (tag : ℕ) (l : LinkPeer) : Type 0 where
  pub asks : flat_map (λ m. asks_in tag m) (sends node event l.link) ≡ []
  pub answers : flat_map (λ m. answers_in tag m) (sends node event l.link) ≡ []
  pub leaves : IsHalf (half_of (after node event) l) (record { keeps = λ number. false; back = λ number. None })

-- each event that a router takes is done on each link that is there before and after it, and does nothing on a link that is new
pub record EventIsDone (node : NodeState) (event : Event) : Type 0 where
  pub done : (tag : ℕ) (l : LinkPeer) → link_at node.links l.link.0 ≡ Some l → link_at (after node event).links l.link.0 ≡ Some l → IsDone node event tag l
  pub fresh : (tag : ℕ) (l : LinkPeer) → link_at node.links l.link.0 ≡ None → link_at (after node event).links l.link.0 ≡ Some l → IsNew node event tag l
  pub keeps : AreOfLinks (after node event)

abbrev pub EventsAreDone : Type 0
EventsAreDone = (node : NodeState) (event : Event) → MayCome node event → refuses node event ≡ None → AreOfLinks node → EventIsDone node event
