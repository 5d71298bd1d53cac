-- Where an event changes what a router's clients hear of others' declarations.
use Rattle.std.specs.Prelude.{ℕ, Bool, true, false, List, [], ◌∷◌, ◌++◌, map, Option, Some, None, Result, Ok, Err, if◌then◌else◌}
use Rattle.std.specs.List.{AllByRecursion}
use Rattle.std.specs.Option.{option_map, option_to_list}
use Rattle.zr_id.specs.Record.{RecordState}
use Rattle.zr_graph.specs.Base.{BaseState, is_newer}
use Rattle.zr_key.specs.Key.{IsKeyText}
use Rattle.zr_local.specs.Owners.{on_link}
use Rattle.zr_local.specs.Rows.{Key, row_key, row_at}
use Rattle.zr_local.specs.declared.row.Row.{Row}
use Rattle.zr_msg.specs.declared.decl.Kind.TheVariants as kind
use Rattle.zr_msg.specs.declared.event.Event.{Event}
use Rattle.zr_msg.specs.declared.event.Event.TheVariants.{Up, Down, From}
use Rattle.zr_msg.specs.declared.msg.Msg.{Msg}
use Rattle.zr_msg.specs.declared.msg.Msg.TheVariants.{Sub, Unsub, Token, Untoken, Able, Unable, Interest, EndInterest, ToldSub, ToldAble, ToldUnsub, ToldToken, ToldUntoken, ToldUnable, ToldEnd, Push, Request, Response, Final, State, Step, Snap}
use Rattle.zr_msg.specs.declared.peer.LinkPeer.{LinkPeer}
use Rattle.zr_msg.specs.declared.peer.Role.{Role}
use Rattle.zr_msg.specs.declared.peer.Role.TheVariants.{Client, Router}
use Rattle.zr_node_spec.specs.Tables.{link_at}
use Rattle.zr_node_spec.specs.State.{NodeState}
use Rattle.zr_node_spec.specs.Table.{row, key_of, able_kind}
use Rattle.zr_told_spec.specs.Place.{place_of}
use Rattle.zr_told_spec.specs.declared.place.Place.{Place}

-- ---- messages that leave all that is declared as it is, and all interests

-- samples, requests and their answers, and what is told to clients
abbrev pub is_quiet_msg : Msg → Bool
is_quiet_msg (Sub id key) = false
is_quiet_msg (Unsub id) = false
is_quiet_msg (Token id key) = false
is_quiet_msg (Untoken id) = false
is_quiet_msg (Able id key complete) = false
is_quiet_msg (Unable id) = false
is_quiet_msg (Interest id current future kinds key aggregate) = false
is_quiet_msg (EndInterest id) = false
is_quiet_msg (ToldSub id key interest) = true
is_quiet_msg (ToldToken id key interest) = true
is_quiet_msg (ToldAble id key complete interest) = true
is_quiet_msg (ToldUnsub id) = true
is_quiet_msg (ToldUntoken id) = true
is_quiet_msg (ToldUnable id) = true
is_quiet_msg (ToldEnd interest) = true
is_quiet_msg (Push tree content) = true
is_quiet_msg (Request tree id target content) = true
is_quiet_msg (Response id content) = true
is_quiet_msg (Final id extras) = true
is_quiet_msg (State links) = false
is_quiet_msg (Step source number added decl) = false
is_quiet_msg (Snap source number decls) = false

abbrev pub is_quiet : Event → Bool
is_quiet (Up link peer) = false
is_quiet (Down link) = false
is_quiet (From link msg) = is_quiet_msg msg

-- ---- the places of declarations

abbrev pub row_place : Row → Place
row_place r = place_of r.decl

-- of what is declared under a key, of what a declaration replaces and what it declares, and of all that the client of a link declares
abbrev pub places_under : List Row → Key → List Place
places_under rows k = option_to_list (option_map row_place (row_at rows k))

abbrev pub places_declared : List Row → Row → List Place
places_declared rows r = places_under rows (row_key r) ++ row_place r ∷ []

abbrev pub places_on : List Row → ℕ → List Place
places_on rows link = map row_place (on_link rows link)

-- the keys of places are canonical key expressions
abbrev pub AreKeys : List Place → Type 0
AreKeys qs = AllByRecursion (λ q. IsKeyText q.key) qs

-- ---- where an event changes what is declared: at some places alone, or anywhere

-- a record that is newer may change which routers are reached
abbrev pub places_told : BaseState → RecordState → Option (List Place)
places_told b r = if is_newer b r then None else Some []

-- a message: a snapshot may change all of a log
abbrev pub places_from : NodeState → ℕ → Msg → Option (List Place)
places_from node from (Sub id key) = Some (places_declared node.rows (row from id kind.Sub key))
places_from node from (Unsub id) = Some (places_under node.rows (key_of from id kind.Sub))
places_from node from (Token id key) = Some (places_declared node.rows (row from id kind.Token key))
places_from node from (Untoken id) = Some (places_under node.rows (key_of from id kind.Token))
places_from node from (Able id key complete) = Some (places_declared node.rows (row from id (able_kind complete) key))
places_from node from (Unable id) = Some (places_under node.rows (key_of from id kind.Able))
places_from node from (Interest id current future kinds key aggregate) = Some []
places_from node from (EndInterest id) = Some []
places_from node from (ToldSub id key interest) = Some []
places_from node from (ToldToken id key interest) = Some []
places_from node from (ToldAble id key complete interest) = Some []
places_from node from (ToldUnsub id) = Some []
places_from node from (ToldUntoken id) = Some []
places_from node from (ToldUnable id) = Some []
places_from node from (ToldEnd interest) = Some []
places_from node from (Push tree content) = Some []
places_from node from (Request tree id target content) = Some []
places_from node from (Response id content) = Some []
places_from node from (Final id extras) = Some []
places_from node from (State links) = places_told node.base links
places_from node from (Step source number added decl) = Some (place_of decl ∷ [])
places_from node from (Snap source number decls) = None

-- a link to a router may change which routers are reached
abbrev pub places_up : Role → Option (List Place)
places_up Client = Some []
places_up Router = None

abbrev pub places_parted : List Row → ℕ → Role → Option (List Place)
places_parted rows link Client = Some (places_on rows link)
places_parted rows link Router = None

abbrev pub places_down : List Row → ℕ → Option LinkPeer → Option (List Place)
places_down rows link None = Some []
places_down rows link (Some l) = places_parted rows link l.peer.role

abbrev pub changed_places : NodeState → Event → Option (List Place)
changed_places node (Up link peer) = places_up peer.role
changed_places node (Down link) = places_down node.rows link.0 (link_at node.links link.0)
changed_places node (From link msg) = places_from node link.0 msg

-- what was found, as what may be anywhere
abbrev pub some_places : {X E : Type 0} → Result X E → Result (Option X) E
some_places (Ok x) = Ok (Some x)
some_places (Err e) = Err e
