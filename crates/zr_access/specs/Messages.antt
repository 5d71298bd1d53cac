-- Which act a message is, and on which expression.
use Rattle.std.specs.Prelude.{ℕ, if◌then◌else◌, List, Option, Some, None}
use Rattle.zr_body.specs.Payload.{is_del}
use Rattle.zr_msg.specs.declared.msg.Msg.{Msg}
use Rattle.zr_msg.specs.declared.msg.Msg.TheVariants as msg
use Rattle.zr_msg.specs.Peer.{PeerState}
use Rattle.zr_msg.specs.declared.peer.Role.{Role}
use Rattle.zr_msg.specs.declared.peer.Role.TheVariants.{Client, Router}
use Rattle.zr_access.specs.declared.policy.Act.{Act}
use Rattle.zr_access.specs.declared.policy.Act.TheVariants.{Sub, Able, Token, Interest, Put, Del, Get, Reply}
use Rattle.zr_access.specs.declared.policy.Verdict.{Verdict}
use Rattle.zr_access.specs.declared.policy.Verdict.TheVariants.{Allowed, Denied}
use Rattle.zr_access.specs.Rules.{PolicyState, judged}

-- an act, and the expression that it is on, if it is on one
pub record Deed : Type 0 where
  pub act : Act
  pub key : Option (List ℕ)

abbrev pub deed : Act → List ℕ → Option Deed
deed act key = Some (record { act = act; key = Some key })

-- a sample puts or deletes, by its body
abbrev pub sample_act : List ℕ → Act
sample_act body = if is_del body then Del else Put

-- What rules judge of a message. What ends something is judged by none: a declaration that is taken back, the end of an interest, and a final; nor is
-- what routers tell each other and their clients
abbrev pub deed_of : Msg → Option Deed
deed_of (msg.Sub id key) = deed Sub key
deed_of (msg.Unsub id) = None
deed_of (msg.Token id key) = deed Token key
deed_of (msg.Untoken id) = None
deed_of (msg.Able id key complete) = deed Able key
deed_of (msg.Unable id) = None
deed_of (msg.Interest id current future kinds key aggregate) = Some (record { act = Interest; key = key })
deed_of (msg.EndInterest id) = None
deed_of (msg.ToldSub id key interest) = None
deed_of (msg.ToldToken id key interest) = None
deed_of (msg.ToldAble id key complete interest) = None
deed_of (msg.ToldUnsub id) = None
deed_of (msg.ToldUntoken id) = None
deed_of (msg.ToldUnable id) = None
deed_of (msg.ToldEnd interest) = None
deed_of (msg.Push tree content) = deed (sample_act content.body) content.key
deed_of (msg.Request tree id target content) = deed Get content.key
deed_of (msg.Response id content) = deed Reply content.key
deed_of (msg.Final id extras) = None
deed_of (msg.State links) = None
deed_of (msg.Step source number added decl) = None
deed_of (msg.Snap source number decls) = None

-- the line that denies, if one does
abbrev pub line_of : Verdict → Option ℕ
line_of Allowed = None
line_of (Denied line) = Some line

abbrev pub judged_deed : PolicyState → List ℕ → Option Deed → Verdict
judged_deed p client None = Allowed
judged_deed p client (Some d) = judged p client d.act d.key

-- the line of the rule or default that denies a message to a client, if one does
abbrev pub denial : PolicyState → List ℕ → Msg → Option ℕ
denial p client m = line_of (judged_deed p client (deed_of m))

-- the same of any peer: links to routers aren't judged
abbrev pub denial_to : PolicyState → Role → List ℕ → Msg → Option ℕ
denial_to p Client id m = denial p id m
denial_to p Router id m = None

abbrev pub peer_denial : PolicyState → PeerState → Msg → Option ℕ
peer_denial p peer m = denial_to p peer.role peer.id m
