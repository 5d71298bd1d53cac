-- What was read of a router's message has a spelling.
use Rattle.zr_msg.specs.declared.msg.Msg.{Msg}
use Rattle.zr_msg.specs.declared.msg.Msg.TheVariants.{Sub, Unsub, Token, Untoken, Able, Unable, Interest, EndInterest, ToldSub, ToldAble, ToldUnsub, ToldToken, ToldUntoken, ToldUnable, ToldEnd, Push, Request, Response, Final, State, Step, Snap}
use Rattle.zr_oam.specs.Writing.{Fits}
use Rattle.zr_wire.specs.Writing.{IsSpelled}

pub told_spelled : (m : Msg) → Fits m → IsSpelled m
told_spelled (State links) h = h
told_spelled (Step source number added decl) h = h
told_spelled (Snap source number decls) h = h
told_spelled (Sub id key) h = absurd h
told_spelled (Unsub id) h = absurd h
told_spelled (Token id key) h = absurd h
told_spelled (Untoken id) h = absurd h
told_spelled (Able id key complete) h = absurd h
told_spelled (Unable id) h = absurd h
told_spelled (Interest id current future kinds key aggregate) h = absurd h
told_spelled (EndInterest id) h = absurd h
told_spelled (ToldSub id key interest) h = absurd h
told_spelled (ToldToken id key interest) h = absurd h
told_spelled (ToldAble id key complete interest) h = absurd h
told_spelled (ToldUnsub id) h = absurd h
told_spelled (ToldUntoken id) h = absurd h
told_spelled (ToldUnable id) h = absurd h
told_spelled (ToldEnd interest) h = absurd h
told_spelled (Push tree content) h = absurd h
told_spelled (Request tree id target content) h = absurd h
told_spelled (Response id content) h = absurd h
told_spelled (Final id extras) h = absurd h
