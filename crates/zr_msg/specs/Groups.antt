-- The groups of messages.
use Rattle.zr_msg.specs.declared.msg.Group.{Group}
use Rattle.zr_msg.specs.declared.msg.Group.TheVariants.{Declared, Told, Routed, Flooded}
use Rattle.zr_msg.specs.declared.msg.Msg.{Msg}
use Rattle.zr_msg.specs.declared.msg.Msg.TheVariants.{Sub, Unsub, Token, Untoken, Able, Unable, Interest, EndInterest, ToldSub, ToldAble, ToldUnsub, ToldToken, ToldUntoken, ToldUnable, ToldEnd, Push, Request, Response, Final, State, Step, Snap}

abbrev pub group_of : Msg → Group
group_of (Sub id key) = Declared
group_of (Unsub id) = Declared
group_of (Token id key) = Declared
group_of (Untoken id) = Declared
group_of (Able id key complete) = Declared
group_of (Unable id) = Declared
group_of (Interest id current future kinds key aggregate) = Declared
group_of (EndInterest id) = Declared
group_of (ToldSub id key interest) = Told
group_of (ToldToken id key interest) = Told
group_of (ToldAble id key complete interest) = Told
group_of (ToldUnsub id) = Told
group_of (ToldUntoken id) = Told
group_of (ToldUnable id) = Told
group_of (ToldEnd interest) = Told
group_of (Push tree content) = Routed
group_of (Request tree id target content) = Routed
group_of (Response id content) = Routed
group_of (Final id extras) = Routed
group_of (State links) = Flooded
group_of (Step source number added decl) = Flooded
group_of (Snap source number decls) = Flooded
