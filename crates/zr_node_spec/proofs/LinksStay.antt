-- A message leaves a router's links as they are.
use Rattle.std.proofs.Common.{◌≡◌, refl}
use Rattle.zr_id.specs.declared.link.LinkNo.{LinkNo}
use Rattle.zr_msg.specs.declared.event.Event.TheVariants.{From}
use Rattle.zr_msg.specs.declared.msg.Msg.{Msg}
use Rattle.zr_msg.specs.declared.msg.Msg.TheVariants.{Sub, Unsub, Token, Untoken, Able, Unable, Interest, EndInterest, ToldSub, ToldAble, ToldUnsub, ToldToken, ToldUntoken, ToldUnable, ToldEnd, Push, Request, Response, Final, State, Step, Snap}
use Rattle.zr_node_spec.specs.State.{NodeState}
use Rattle.zr_node_spec.specs.Table.{after}

pub links_from : (n : NodeState) (link : LinkNo) (msg : Msg) → (after n (From link msg)).links ≡ n.links
links_from n link (Sub id key) = refl
links_from n link (Unsub id) = refl
links_from n link (Token id key) = refl
links_from n link (Untoken id) = refl
links_from n link (Able id key complete) = refl
links_from n link (Unable id) = refl
links_from n link (Interest id current future kinds key aggregate) = refl
links_from n link (EndInterest id) = refl
links_from n link (ToldSub id key interest) = refl
links_from n link (ToldToken id key interest) = refl
links_from n link (ToldAble id key complete interest) = refl
links_from n link (ToldUnsub id) = refl
links_from n link (ToldUntoken id) = refl
links_from n link (ToldUnable id) = refl
links_from n link (ToldEnd interest) = refl
links_from n link (Push tree content) = refl
links_from n link (Request tree id target content) = refl
links_from n link (Response id content) = refl
links_from n link (Final id extras) = refl
links_from n link (State links) = refl
links_from n link (Step source number added decl) = refl
links_from n link (Snap source number decls) = refl
