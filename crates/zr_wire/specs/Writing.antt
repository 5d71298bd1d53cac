-- A network message of any kind on the wire: which have a spelling, and the one that is written, with its key as whole text
-- (Zenoh protocol 1.0, "Network messages").
use Rattle.std.specs.Prelude.{ℕ, List, Option, Some, None}
use Rattle.zr_msg.specs.declared.msg.Msg.{Msg}
use Rattle.zr_msg.specs.declared.msg.Msg.TheVariants.{Sub, Unsub, Token, Untoken, Able, Unable, Interest, EndInterest, ToldSub, ToldAble, ToldUnsub, ToldToken, ToldUntoken, ToldUnable, ToldEnd, Push, Request, Response, Final, State, Step, Snap}
use Rattle.zr_decl.specs.Writing as decl
use Rattle.zr_net.specs.Writing as net
use Rattle.zr_oam.specs.Writing as oam

-- the message has a spelling
abbrev pub IsSpelled : Msg → Type 0
IsSpelled (Sub id key) = decl.Fits (Sub id key)
IsSpelled (Unsub id) = decl.Fits (Unsub id)
IsSpelled (Token id key) = decl.Fits (Token id key)
IsSpelled (Untoken id) = decl.Fits (Untoken id)
IsSpelled (Able id key complete) = decl.Fits (Able id key complete)
IsSpelled (Unable id) = decl.Fits (Unable id)
IsSpelled (Interest id current future kinds key aggregate) = decl.Fits (Interest id current future kinds key aggregate)
IsSpelled (EndInterest id) = decl.Fits (EndInterest id)
IsSpelled (ToldSub id key interest) = decl.Fits (ToldSub id key interest)
IsSpelled (ToldToken id key interest) = decl.Fits (ToldToken id key interest)
IsSpelled (ToldAble id key complete interest) = decl.Fits (ToldAble id key complete interest)
IsSpelled (ToldUnsub id) = decl.Fits (ToldUnsub id)
IsSpelled (ToldUntoken id) = decl.Fits (ToldUntoken id)
IsSpelled (ToldUnable id) = decl.Fits (ToldUnable id)
IsSpelled (ToldEnd interest) = decl.Fits (ToldEnd interest)
IsSpelled (Push tree content) = net.Fits (Push tree content)
IsSpelled (Request tree id target content) = net.Fits (Request tree id target content)
IsSpelled (Response id content) = net.Fits (Response id content)
IsSpelled (Final id extras) = net.Fits (Final id extras)
IsSpelled (State links) = oam.Fits (State links)
IsSpelled (Step source number added decl) = oam.Fits (Step source number added decl)
IsSpelled (Snap source number decls) = oam.Fits (Snap source number decls)

-- the bytes of a message, with a number that was declared for its key, or with the whole key where that is 0
abbrev pub writes_numbered : Msg → ℕ → List ℕ
writes_numbered (Sub id key) number = decl.writes_decl (Sub id key)
writes_numbered (Unsub id) number = decl.writes_decl (Unsub id)
writes_numbered (Token id key) number = decl.writes_decl (Token id key)
writes_numbered (Untoken id) number = decl.writes_decl (Untoken id)
writes_numbered (Able id key complete) number = decl.writes_decl (Able id key complete)
writes_numbered (Unable id) number = decl.writes_decl (Unable id)
writes_numbered (Interest id current future kinds key aggregate) number = decl.writes_decl (Interest id current future kinds key aggregate)
writes_numbered (EndInterest id) number = decl.writes_decl (EndInterest id)
writes_numbered (ToldSub id key interest) number = decl.writes_decl (ToldSub id key interest)
writes_numbered (ToldToken id key interest) number = decl.writes_decl (ToldToken id key interest)
writes_numbered (ToldAble id key complete interest) number = decl.writes_decl (ToldAble id key complete interest)
writes_numbered (ToldUnsub id) number = decl.writes_decl (ToldUnsub id)
writes_numbered (ToldUntoken id) number = decl.writes_decl (ToldUntoken id)
writes_numbered (ToldUnable id) number = decl.writes_decl (ToldUnable id)
writes_numbered (ToldEnd interest) number = decl.writes_decl (ToldEnd interest)
writes_numbered (Push tree content) number = net.writes_net (Push tree content) number
writes_numbered (Request tree id target content) number = net.writes_net (Request tree id target content) number
writes_numbered (Response id content) number = net.writes_net (Response id content) number
writes_numbered (Final id extras) number = net.writes_net (Final id extras) number
writes_numbered (State links) number = oam.writes_oam (State links)
writes_numbered (Step source at added decl) number = oam.writes_oam (Step source at added decl)
writes_numbered (Snap source at decls) number = oam.writes_oam (Snap source at decls)

-- the bytes of a message with its whole key
abbrev pub writes_message : Msg → List ℕ
writes_message m = writes_numbered m 0

-- the text for which there may be a number: the key of a sample, a request or a reply
abbrev pub text_of : Msg → Option (List ℕ)
text_of (Sub id key) = None
text_of (Unsub id) = None
text_of (Token id key) = None
text_of (Untoken id) = None
text_of (Able id key complete) = None
text_of (Unable id) = None
text_of (Interest id current future kinds key aggregate) = None
text_of (EndInterest id) = None
text_of (ToldSub id key interest) = None
text_of (ToldToken id key interest) = None
text_of (ToldAble id key complete interest) = None
text_of (ToldUnsub id) = None
text_of (ToldUntoken id) = None
text_of (ToldUnable id) = None
text_of (ToldEnd interest) = None
text_of (Push tree content) = Some content.key
text_of (Request tree id target content) = Some content.key
text_of (Response id content) = Some content.key
text_of (Final id extras) = None
text_of (State links) = None
text_of (Step source number added decl) = None
text_of (Snap source number decls) = None
