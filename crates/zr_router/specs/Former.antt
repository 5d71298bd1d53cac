-- Whether a router has heard that its identifier was in use before: its neighbours still have what it told in a former life.
use Rattle.std.specs.Prelude.{ℕ, ◌==◌, ◌&&◌, ◌||◌, nat_lt, Bool, false, List, [], ◌∷◌, Option, Some, None}
use Rattle.std.specs.Option.{option_map_or}
use Rattle.zr_graph.specs.Base.{BaseState, own_seq}
use Rattle.zr_id.specs.Record.{RecordState}
use Rattle.zr_id.specs.Zid.{is_named}
use Rattle.zr_msg.specs.declared.event.Event.{Event}
use Rattle.zr_msg.specs.declared.event.Event.TheVariants.{Up, Down, From}
use Rattle.zr_msg.specs.declared.msg.Msg.{Msg}
use Rattle.zr_msg.specs.declared.msg.Msg.TheVariants.{Sub, Unsub, Token, Untoken, Able, Unable, Interest, EndInterest, ToldSub, ToldAble, ToldUnsub, ToldToken, ToldUntoken, ToldUnable, ToldEnd, Push, Request, Response, Final, State, Step, Snap}
use Rattle.zr_node_spec.specs.State.{NodeState}
use Rattle.zr_port.specs.declared.entry.Entry.{Entry}
use Rattle.zr_router_queue.specs.Tables.{Tables, new_tables, advanced}

-- the link record that a message tells, if it tells one
abbrev pub record_in : Msg → Option RecordState
record_in (Sub id key) = None
record_in (Unsub id) = None
record_in (Token id key) = None
record_in (Untoken id) = None
record_in (Able id key complete) = None
record_in (Unable id) = None
record_in (Interest id current future kinds key aggregate) = None
record_in (EndInterest id) = None
record_in (ToldSub id key interest) = None
record_in (ToldAble id key complete interest) = None
record_in (ToldUnsub id) = None
record_in (ToldToken id key interest) = None
record_in (ToldUntoken id) = None
record_in (ToldUnable id) = None
record_in (ToldEnd interest) = None
record_in (Push tree content) = None
record_in (Request tree id target content) = None
record_in (Response id content) = None
record_in (Final id extras) = None
record_in (State links) = Some links
record_in (Step source number added decl) = None
record_in (Snap source number decls) = None

-- A number that a router with this own number has not told in this life, or that is not told back to it: a greater one, or its first. The first goes to
-- the only neighbour that the router has, and who is told a record doesn't tell it back
abbrev pub is_unsent : ℕ → ℕ → Bool
is_unsent own seq = nat_lt own seq || (own == 1 && seq == 1)

-- a record of the router's own identifier that was told in a former life
abbrev pub is_former : BaseState → RecordState → Bool
is_former b r = is_named r.id b.me && is_unsent (own_seq b) r.seq

-- a message tells one
abbrev pub tells_former : BaseState → Msg → Bool
tells_former b msg = option_map_or (λ r. is_former b r) (record_in msg) false

-- an event brings one
abbrev pub brings_former : NodeState → Event → Bool
brings_former node (Up link peer) = false
brings_former node (Down link) = false
brings_former node (From link msg) = tells_former node.base msg

abbrev pub was_used_from : Tables → List Entry → Bool
was_used_from t [] = false
was_used_from t (e ∷ es) = brings_former t.hub.node e.event || was_used_from (advanced t e) es

-- one of these entries brought one
abbrev pub was_used : List ℕ → List Entry → Bool
was_used me h = was_used_from (new_tables me) h
