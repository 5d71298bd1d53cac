-- Which messages may be passed on, whatever tree and number they get: those that may be sent, but for what the types of their parts keep.
use Rattle.std.specs.Prelude.{◌≡◌, ℕ, ◌+◌, ◌<◌, ◌≤◌, true, List, length, Option, Some, None}
use Rattle.zr_id.specs.Zid.{is_zid}
use Rattle.zr_body.specs.declared.place.Place.TheVariants as place
use Rattle.zr_body.specs.Body.{IsBodyIn}
use Rattle.zr_msg.specs.declared.content.Parts.{Parts}
use Rattle.zr_msg.specs.declared.extras.Extras.{Extras}
use Rattle.zr_msg.specs.declared.msg.Msg.{Msg}
use Rattle.zr_msg.specs.declared.msg.Msg.TheVariants.{Sub, Unsub, Token, Untoken, Able, Unable, Interest, EndInterest, ToldSub, ToldAble, ToldUnsub, ToldToken, ToldUntoken, ToldUnable, ToldEnd, Push, Request, Response, Final, State, Step, Snap}
use Rattle.zr_msg.specs.declared.peer.Role.{Role}
use Rattle.zr_msg.specs.declared.peer.Role.TheVariants.{Client}
use Rattle.zr_log_set.specs.Decls.{IsSet, weight, most_weight}
use Rattle.zr_decl.specs.Writing.{IsId, IsKey, IsSomeKey}
use Rattle.zr_decl.specs.Writing as decl
use Rattle.zr_net.specs.Writing.{NumbersFit}
use Rattle.zr_net.specs.Writing as net
use Rattle.zr_oam.specs.Writing as oam
use Rattle.zr_wire.specs.Limits.{most_of}
use Rattle.zr_wire.specs.Roles.{admits}
use Rattle.zr_wire.specs.Sending.{MayBeSent}

-- ---- how long

abbrev pub text_length : Option (List ℕ) → ℕ
text_length None = 0
text_length (Some text) = length text

abbrev pub extras_length : Extras → ℕ
extras_length extras = text_length extras.stamp + text_length extras.responder

-- more bytes than all else in a message: its header, number, key and tree, and the heads of its extensions
abbrev pub most_beside : ℕ
most_beside = 8192

-- body and extensions leave room for all else in a client's message
abbrev pub IsShort : Parts → Type 0
IsShort content = length content.body + extras_length content.extras + most_beside ≤ most_of Client

-- ---- what types don't keep

abbrev pub IsPassable : Msg → Type 0
IsPassable (Sub id key) = Unit {0}
IsPassable (Unsub id) = Unit {0}
IsPassable (Token id key) = Unit {0}
IsPassable (Untoken id) = Unit {0}
IsPassable (Able id key complete) = Unit {0}
IsPassable (Unable id) = Unit {0}
IsPassable (Interest id current future kinds key aggregate) = decl.Fits (Interest id current future kinds key aggregate)
IsPassable (EndInterest id) = Unit {0}
IsPassable (ToldSub id key interest) = Unit {0}
IsPassable (ToldToken id key interest) = Unit {0}
IsPassable (ToldAble id key complete interest) = Unit {0}
IsPassable (ToldUnsub id) = Unit {0}
IsPassable (ToldUntoken id) = Unit {0}
IsPassable (ToldUnable id) = Unit {0}
IsPassable (ToldEnd interest) = Unit {0}
IsPassable (Push tree content) = net.Fits (Push tree content) × IsBodyIn place.Push content.body × IsShort content
IsPassable (Request tree id target content) = net.Fits (Request tree id target content) × IsBodyIn place.Request content.body × IsShort content
IsPassable (Response id content) = net.Fits (Response id content) × IsBodyIn place.Response content.body × IsShort content
IsPassable (Final id extras) = net.Fits (Final id extras) × (extras_length extras + most_beside ≤ most_of Client)
IsPassable (State links) = Unit {0}
IsPassable (Step source number added d) = 0 < number
IsPassable (Snap source number decls) = (0 < number) × IsSet decls × (weight decls ≤ most_weight)

-- a peer of this role may pass the message on
abbrev pub MayPass : Role → Msg → Type 0
MayPass role m = (admits role m ≡ true) × IsPassable m

-- ---- what types keep

abbrev pub IsSomeZid : Option (List ℕ) → Type 0
IsSomeZid None = Unit {0}
IsSomeZid (Some id) = is_zid id ≡ true

-- Ids are of 32 bits and numbers of 64; keys, identifiers and records are such.
abbrev pub IsOfTypes : Msg → Type 0
IsOfTypes (Sub id key) = decl.Declares (Sub id key)
IsOfTypes (Unsub id) = decl.Declares (Unsub id)
IsOfTypes (Token id key) = decl.Declares (Token id key)
IsOfTypes (Untoken id) = decl.Declares (Untoken id)
IsOfTypes (Able id key complete) = decl.Declares (Able id key complete)
IsOfTypes (Unable id) = decl.Declares (Unable id)
IsOfTypes (Interest id current future kinds key aggregate) = IsId id × IsSomeKey key
IsOfTypes (EndInterest id) = IsId id
IsOfTypes (ToldSub id key interest) = decl.Declares (ToldSub id key interest)
IsOfTypes (ToldToken id key interest) = decl.Declares (ToldToken id key interest)
IsOfTypes (ToldAble id key complete interest) = decl.Declares (ToldAble id key complete interest)
IsOfTypes (ToldUnsub id) = decl.Declares (ToldUnsub id)
IsOfTypes (ToldUntoken id) = decl.Declares (ToldUntoken id)
IsOfTypes (ToldUnable id) = decl.Declares (ToldUnable id)
IsOfTypes (ToldEnd interest) = decl.Declares (ToldEnd interest)
IsOfTypes (Push tree content) = NumbersFit content.extras × IsSomeZid tree × IsKey content.key
IsOfTypes (Request tree id target content) = NumbersFit content.extras × IsSomeZid tree × IsKey content.key × IsId id
IsOfTypes (Response id content) = NumbersFit content.extras × IsKey content.key × IsId id
IsOfTypes (Final id extras) = NumbersFit extras × IsId id
IsOfTypes (State links) = oam.IsMade (State links)
IsOfTypes (Step source number added d) = oam.IsMade (Step source number added d)
IsOfTypes (Snap source number decls) = oam.IsMade (Snap source number decls)

-- A message that may be passed on may be sent, where its parts are what their types keep.
abbrev pub PassableMaySend : Type 0
PassableMaySend = (role : Role) (m : Msg) → MayPass role m → IsOfTypes m → MayBeSent role m
