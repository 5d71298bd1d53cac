-- What was read has a spelling.
use Rattle.zr_msg.specs.declared.msg.Msg.{Msg}
use Rattle.zr_msg.specs.declared.msg.Msg.TheVariants.{Sub, Unsub, Token, Untoken, Able, Unable, Interest, EndInterest, ToldSub, ToldAble, ToldUnsub, ToldToken, ToldUntoken, ToldUnable, ToldEnd, Push, Request, Response, Final, State, Step, Snap}
use Rattle.zr_net.specs.Writing.{AnyFits}
use Rattle.zr_oam.specs.Writing.{Fits}
use Rattle.zr_wire.specs.Writing.{IsSpelled}

-- of a network message
pub network_spelled : (m : Msg) → AnyFits m → IsSpelled m
network_spelled (Sub id key) h = h
network_spelled (Unsub id) h = h
network_spelled (Token id key) h = h
network_spelled (Untoken id) h = h
network_spelled (Able id key complete) h = h
network_spelled (Unable id) h = h
network_spelled (Interest id current future kinds key aggregate) h = h
network_spelled (EndInterest id) h = h
network_spelled (ToldSub id key interest) h = h
network_spelled (ToldToken id key interest) h = h
network_spelled (ToldAble id key complete interest) h = h
network_spelled (ToldUnsub id) h = h
network_spelled (ToldUntoken id) h = h
network_spelled (ToldUnable id) h = h
network_spelled (ToldEnd interest) h = h
network_spelled (Push tree content) h = h
network_spelled (Request tree id target content) h = h
network_spelled (Response id content) h = h
network_spelled (Final id extras) h = h
network_spelled (State links) h = absurd h
network_spelled (Step source number added decl) h = absurd h
network_spelled (Snap source number decls) h = absurd h

-- of a message between routers
pub between_spelled : (m : Msg) → Fits m → IsSpelled m
between_spelled (Sub id key) h = absurd h
between_spelled (Unsub id) h = absurd h
between_spelled (Token id key) h = absurd h
between_spelled (Untoken id) h = absurd h
between_spelled (Able id key complete) h = absurd h
between_spelled (Unable id) h = absurd h
between_spelled (Interest id current future kinds key aggregate) h = absurd h
between_spelled (EndInterest id) h = absurd h
between_spelled (ToldSub id key interest) h = absurd h
between_spelled (ToldToken id key interest) h = absurd h
between_spelled (ToldAble id key complete interest) h = absurd h
between_spelled (ToldUnsub id) h = absurd h
between_spelled (ToldUntoken id) h = absurd h
between_spelled (ToldUnable id) h = absurd h
between_spelled (ToldEnd interest) h = absurd h
between_spelled (Push tree content) h = absurd h
between_spelled (Request tree id target content) h = absurd h
between_spelled (Response id content) h = absurd h
between_spelled (Final id extras) h = absurd h
between_spelled (State links) h = h
between_spelled (Step source number added decl) h = h
between_spelled (Snap source number decls) h = h
