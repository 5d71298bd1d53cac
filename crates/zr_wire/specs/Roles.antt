-- What a peer may send, by its role (this profile's choice). What a router tells its clients comes from neither.
use Rattle.std.specs.Prelude.{Bool, true, false, is_some, is_none}
use Rattle.zr_msg.specs.declared.msg.Msg.{Msg}
use Rattle.zr_msg.specs.declared.msg.Msg.TheVariants.{Sub, Unsub, Token, Untoken, Able, Unable, Interest, EndInterest, ToldSub, ToldAble, ToldUnsub, ToldToken, ToldUntoken, ToldUnable, ToldEnd, Push, Request, Response, Final, State, Step, Snap}
use Rattle.zr_msg.specs.declared.peer.Role.{Role}
use Rattle.zr_msg.specs.declared.peer.Role.TheVariants.{Client, Router}

-- declarations, interests, and samples and requests that name no tree
abbrev pub client_may_send : Msg → Bool
client_may_send (Sub _ _) = true
client_may_send (Unsub _) = true
client_may_send (Token _ _) = true
client_may_send (Untoken _) = true
client_may_send (Able _ _ _) = true
client_may_send (Unable _) = true
client_may_send (Interest _ _ _ _ _ _) = true
client_may_send (EndInterest _) = true
client_may_send (ToldSub _ _ _) = false
client_may_send (ToldToken _ _ _) = false
client_may_send (ToldAble _ _ _ _) = false
client_may_send (ToldUnsub _) = false
client_may_send (ToldUntoken _) = false
client_may_send (ToldUnable _) = false
client_may_send (ToldEnd _) = false
client_may_send (Push tree _) = is_none tree
client_may_send (Request tree _ _ _) = is_none tree
client_may_send (Response _ _) = true
client_may_send (Final _ _) = true
client_may_send (State _) = false
client_may_send (Step _ _ _ _) = false
client_may_send (Snap _ _ _) = false

-- links, declarations as routers pass them on, and samples and requests along a tree
abbrev pub router_may_send : Msg → Bool
router_may_send (Sub _ _) = false
router_may_send (Unsub _) = false
router_may_send (Token _ _) = false
router_may_send (Untoken _) = false
router_may_send (Able _ _ _) = false
router_may_send (Unable _) = false
router_may_send (Interest _ _ _ _ _ _) = false
router_may_send (EndInterest _) = false
router_may_send (ToldSub _ _ _) = false
router_may_send (ToldToken _ _ _) = false
router_may_send (ToldAble _ _ _ _) = false
router_may_send (ToldUnsub _) = false
router_may_send (ToldUntoken _) = false
router_may_send (ToldUnable _) = false
router_may_send (ToldEnd _) = false
router_may_send (Push tree _) = is_some tree
router_may_send (Request tree _ _ _) = is_some tree
router_may_send (Response _ _) = true
router_may_send (Final _ _) = true
router_may_send (State _) = true
router_may_send (Step _ _ _ _) = true
router_may_send (Snap _ _ _) = true

abbrev pub admits : Role → Msg → Bool
admits Client m = client_may_send m
admits Router m = router_may_send m
