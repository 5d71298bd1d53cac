-- Messages that a router sends: each has a spelling, or is a snapshot that has one since its source is an identifier.
use Rattle.std.specs.Prelude.{◌≡◌, ◌<◌, ◌≤◌, ◌⊎◌, true}
use Rattle.zr_id.specs.Zid.{is_zid}
use Rattle.zr_msg.specs.declared.msg.Msg.{Msg}
use Rattle.zr_msg.specs.declared.msg.Msg.TheVariants.{Sub, Unsub, Token, Untoken, Able, Unable, Interest, EndInterest, ToldSub, ToldAble, ToldUnsub, ToldToken, ToldUntoken, ToldUnable, ToldEnd, Push, Request, Response, Final, State, Step, Snap}
use Rattle.zr_log_set.specs.Decls.{IsSet, weight, most_weight}
use Rattle.zr_wire.specs.Writing.{IsSpelled}

-- a snapshot of a set that weighs no more than a router takes, from number 1 on
abbrev pub IsLightSnap : Msg → Type 0
IsLightSnap (Snap source number decls) = (0 < number) × IsSet decls × (weight decls ≤ most_weight)
IsLightSnap (Sub id key) = ⊥
IsLightSnap (Unsub id) = ⊥
IsLightSnap (Token id key) = ⊥
IsLightSnap (Untoken id) = ⊥
IsLightSnap (Able id key complete) = ⊥
IsLightSnap (Unable id) = ⊥
IsLightSnap (Interest id current future kinds key aggregate) = ⊥
IsLightSnap (EndInterest id) = ⊥
IsLightSnap (ToldSub id key interest) = ⊥
IsLightSnap (ToldToken id key interest) = ⊥
IsLightSnap (ToldAble id key complete interest) = ⊥
IsLightSnap (ToldUnsub id) = ⊥
IsLightSnap (ToldUntoken id) = ⊥
IsLightSnap (ToldUnable id) = ⊥
IsLightSnap (ToldEnd interest) = ⊥
IsLightSnap (Push tree content) = ⊥
IsLightSnap (Request tree id target content) = ⊥
IsLightSnap (Response id content) = ⊥
IsLightSnap (Final id extras) = ⊥
IsLightSnap (State links) = ⊥
IsLightSnap (Step source number added decl) = ⊥

abbrev pub IsWritable : Msg → Type 0
IsWritable m = IsSpelled m ⊎ IsLightSnap m

-- the source of a snapshot is an identifier, as its type keeps it
abbrev pub IsSourced : Msg → Type 0
IsSourced (Snap source number decls) = is_zid source ≡ true
IsSourced (Sub id key) = Unit {0}
IsSourced (Unsub id) = Unit {0}
IsSourced (Token id key) = Unit {0}
IsSourced (Untoken id) = Unit {0}
IsSourced (Able id key complete) = Unit {0}
IsSourced (Unable id) = Unit {0}
IsSourced (Interest id current future kinds key aggregate) = Unit {0}
IsSourced (EndInterest id) = Unit {0}
IsSourced (ToldSub id key interest) = Unit {0}
IsSourced (ToldToken id key interest) = Unit {0}
IsSourced (ToldAble id key complete interest) = Unit {0}
IsSourced (ToldUnsub id) = Unit {0}
IsSourced (ToldUntoken id) = Unit {0}
IsSourced (ToldUnable id) = Unit {0}
IsSourced (ToldEnd interest) = Unit {0}
IsSourced (Push tree content) = Unit {0}
IsSourced (Request tree id target content) = Unit {0}
IsSourced (Response id content) = Unit {0}
IsSourced (Final id extras) = Unit {0}
IsSourced (State links) = Unit {0}
IsSourced (Step source number added decl) = Unit {0}
