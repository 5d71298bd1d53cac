-- Which messages a peer may send: those that its role admits, that have a spelling, and that are short enough.
use Rattle.std.specs.Prelude.{◌≡◌, ◌≤◌, true, [], length}
use Rattle.zr_msg.specs.declared.msg.Msg.{Msg}
use Rattle.zr_msg.specs.declared.msg.Msg.TheVariants.{Sub, Unsub, Token, Untoken, Able, Unable, Interest, EndInterest, ToldSub, ToldAble, ToldUnsub, ToldToken, ToldUntoken, ToldUnable, ToldEnd, Push, Request, Response, Final, State, Step, Snap}
use Rattle.zr_msg.specs.declared.peer.Role.{Role}
use Rattle.zr_decl.specs.Writing as decl
use Rattle.zr_net.specs.Writing as net
use Rattle.zr_oam.specs.Writing as oam
use Rattle.zr_wire.specs.Limits.{most_of}
use Rattle.zr_wire.specs.Roles.{admits}
use Rattle.zr_wire.specs.Writing.{writes_message}

-- The message has a spelling on a link from a sender of this role, made of ids, keys, identifiers, bodies and numbers as their types keep
-- them.
abbrev pub CanBeSent : Role → Msg → Type 0
CanBeSent role (Sub id key) = decl.Declares (Sub id key)
CanBeSent role (Unsub id) = decl.Declares (Unsub id)
CanBeSent role (Token id key) = decl.Declares (Token id key)
CanBeSent role (Untoken id) = decl.Declares (Untoken id)
CanBeSent role (Able id key complete) = decl.Declares (Able id key complete)
CanBeSent role (Unable id) = decl.Declares (Unable id)
CanBeSent role (ToldSub id key interest) = decl.Declares (ToldSub id key interest)
CanBeSent role (ToldToken id key interest) = decl.Declares (ToldToken id key interest)
CanBeSent role (ToldAble id key complete interest) = decl.Declares (ToldAble id key complete interest)
CanBeSent role (ToldUnsub id) = decl.Declares (ToldUnsub id)
CanBeSent role (ToldUntoken id) = decl.Declares (ToldUntoken id)
CanBeSent role (ToldUnable id) = decl.Declares (ToldUnable id)
CanBeSent role (ToldEnd interest) = decl.Declares (ToldEnd interest)
CanBeSent role (Interest id current future kinds key aggregate) = decl.Asks (Interest id current future kinds key aggregate)
CanBeSent role (EndInterest id) = decl.Asks (EndInterest id)
CanBeSent role (Push tree content) = net.CanBeSent role [] 0 (Push tree content)
CanBeSent role (Request tree id target content) = net.CanBeSent role [] 0 (Request tree id target content)
CanBeSent role (Response id content) = net.CanBeSent role [] 0 (Response id content)
CanBeSent role (Final id extras) = net.CanBeSent role [] 0 (Final id extras)
CanBeSent role (State links) = oam.CanBeWritten (State links)
CanBeSent role (Step source number added decl) = oam.CanBeWritten (Step source number added decl)
CanBeSent role (Snap source number decls) = oam.CanBeWritten (Snap source number decls)

-- A peer of this role may send the message, and it takes no more bytes than the role's messages may.
pub record MayBeSent (role : Role) (m : Msg) : Type 0 where
  pub admitted : admits role m ≡ true
  pub spelled : CanBeSent role m
  pub short : length (writes_message m) ≤ most_of role
