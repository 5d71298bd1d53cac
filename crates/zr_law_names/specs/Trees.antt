-- What a router does depends on no tree that a client names: its samples and queries go along the router's own tree (`tree_by` of `zr_node_spec`).
use Rattle.std.specs.Prelude.{◌≡◌, if◌then◌else◌, List, None}
use Rattle.zr_id.specs.declared.link.LinkNo.{LinkNo}
use Rattle.zr_msg.specs.declared.event.Event.{Event}
use Rattle.zr_msg.specs.declared.event.Event.TheVariants.{Up, Down, From}
use Rattle.zr_msg.specs.declared.msg.Msg.{Msg}
use Rattle.zr_msg.specs.declared.msg.Msg.TheVariants.{Sub, Unsub, Token, Untoken, Able, Unable, Interest, EndInterest, ToldSub, ToldAble, ToldUnsub, ToldToken, ToldUntoken, ToldUnable, ToldEnd, Push, Request, Response, Final, State, Step, Snap}
use Rattle.zr_msg.specs.declared.peer.LinkPeer.{LinkPeer}
use Rattle.zr_node_spec.specs.Tables.{leads_to_router}
use Rattle.zr_told_spec.specs.Hub.{HubState, hub_sends, hub_after, hub_refuses}

-- a sample or a query as one that names no tree, and each other message as it is
abbrev pub treeless : Msg → Msg
treeless (Sub id key) = Sub id key
treeless (Unsub id) = Unsub id
treeless (Token id key) = Token id key
treeless (Untoken id) = Untoken id
treeless (Able id key complete) = Able id key complete
treeless (Unable id) = Unable id
treeless (Interest id current future kinds key aggregate) = Interest id current future kinds key aggregate
treeless (EndInterest id) = EndInterest id
treeless (ToldSub id key interest) = ToldSub id key interest
treeless (ToldAble id key complete interest) = ToldAble id key complete interest
treeless (ToldUnsub id) = ToldUnsub id
treeless (ToldToken id key interest) = ToldToken id key interest
treeless (ToldUntoken id) = ToldUntoken id
treeless (ToldUnable id) = ToldUnable id
treeless (ToldEnd interest) = ToldEnd interest
treeless (Push tree content) = Push None content
treeless (Request tree id target content) = Request None id target content
treeless (Response id content) = Response id content
treeless (Final id extras) = Final id extras
treeless (State links) = State links
treeless (Step source number added decl) = Step source number added decl
treeless (Snap source number decls) = Snap source number decls

-- an event at a router with some links, without the tree that a client names: what comes from another router is as it is
abbrev pub treeless_event : List LinkPeer → Event → Event
treeless_event links (Up link peer) = Up link peer
treeless_event links (Down link) = Down link
treeless_event links (From link msg) = From link (if leads_to_router links link.0 then msg else treeless msg)

-- without it the event does what it does with it
pub record IsSameWithoutTree (h : HubState) (event : Event) : Type 0 where
  pub after : hub_after h (treeless_event h.node.links event) ≡ hub_after h event
  pub sends : (link : LinkNo) → hub_sends h (treeless_event h.node.links event) link ≡ hub_sends h event link
  pub refuses : hub_refuses h (treeless_event h.node.links event) ≡ hub_refuses h event

abbrev pub TreesChangeNothing : Type 0
TreesChangeNothing = (h : HubState) (event : Event) → IsSameWithoutTree h event
