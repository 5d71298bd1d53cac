-- How many places a client may want to be told of at most, as it is counted before an event.
use Rattle.std.specs.Prelude.{ℕ, ◌+◌, ◌≤◌, if◌then◌else◌, List, length}
use Rattle.std.specs.List.{sum_by, AllByRecursion}
use Rattle.zr_id.specs.Zid.{is_named}
use Rattle.zr_local.specs.declared.interest.ClientInterests.{ClientInterests}
use Rattle.zr_log.specs.declared.log.Log.{Log}
use Rattle.zr_msg.specs.declared.event.Event.{Event}
use Rattle.zr_msg.specs.declared.event.Event.TheVariants.{Up, Down, From}
use Rattle.zr_msg.specs.declared.msg.Msg.{Msg}
use Rattle.zr_msg.specs.declared.msg.Msg.TheVariants.{Sub, Unsub, Token, Untoken, Able, Unable, Interest, EndInterest, ToldSub, ToldAble, ToldUnsub, ToldToken, ToldUntoken, ToldUnable, ToldEnd, Push, Request, Response, Final, State, Step, Snap}
use Rattle.zr_node_spec.specs.Tables.{TableState}

-- how many declarations the log of another router has; those of the own one stand in rows
abbrev pub foreign_count : List ℕ → Log → ℕ
foreign_count me l = if is_named l.source me then 0 else length l.decls

-- how many declarations a router knows: each client's, and those in the logs of all other routers
abbrev pub decl_count : TableState → ℕ
decl_count t = length t.rows + sum_by (foreign_count t.base.me) t.known.logs

-- how many more come with an event at most
abbrev pub more_from : Msg → ℕ
more_from (Sub id key) = 1
more_from (Unsub id) = 0
more_from (Token id key) = 1
more_from (Untoken id) = 0
more_from (Able id key complete) = 1
more_from (Unable id) = 0
more_from (Interest id current future kinds key aggregate) = 0
more_from (EndInterest id) = 0
more_from (ToldSub id key interest) = 0
more_from (ToldToken id key interest) = 0
more_from (ToldAble id key complete interest) = 0
more_from (ToldUnsub id) = 0
more_from (ToldUntoken id) = 0
more_from (ToldUnable id) = 0
more_from (ToldEnd interest) = 0
more_from (Push tree content) = 0
more_from (Request tree id target content) = 0
more_from (Response id content) = 0
more_from (Final id extras) = 0
more_from (State links) = 0
more_from (Step source number added decl) = 1
more_from (Snap source number decls) = length decls

abbrev pub more_decls : Event → ℕ
more_decls (Up link peer) = 0
more_decls (Down link) = 0
more_decls (From link msg) = more_from msg

-- no client has more live interests than so many
abbrev pub HaveAtMost : ℕ → List ClientInterests → Type 0
HaveAtMost n cs = AllByRecursion (λ c. length c.interests ≤ n) cs
