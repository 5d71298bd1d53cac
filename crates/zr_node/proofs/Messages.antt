-- What routers tell their clients is nothing to a router.
use Rattle.std.proofs.Common.{◌≡◌, ℕ, List, refl}
use Rattle.zr_id.specs.declared.link.LinkNo.{LinkNo}
use Rattle.zr_msg.specs.Groups.{group_of}
use Rattle.zr_msg.specs.declared.msg.Group.TheVariants.{Told}
use Rattle.zr_msg.specs.declared.msg.Msg.{Msg}
use Rattle.zr_msg.specs.declared.msg.Msg.TheVariants.{Sub, Unsub, Token, Untoken, Able, Unable, Interest, EndInterest, ToldSub, ToldAble, ToldUnsub, ToldToken, ToldUntoken, ToldUnable, ToldEnd, Push, Request, Response, Final, State, Step, Snap}
use Rattle.zr_node_spec.specs.State.{NodeState}
use Rattle.zr_node.specs.Done.{IsLeft}
use Rattle.zr_node.specs.Steps.{message_part}
use Rattle.zr_node.proofs.Parts.{ignored}

pub unheard : (n : NodeState) (from : ℕ) (msg : Msg) (said : List (LinkNo × Msg)) → group_of msg ≡ Told → IsLeft (message_part n from msg) n said said
unheard n from (Sub id key) said h = cc
unheard n from (Unsub id) said h = cc
unheard n from (Token id key) said h = cc
unheard n from (Untoken id) said h = cc
unheard n from (Able id key complete) said h = cc
unheard n from (Unable id) said h = cc
unheard n from (Interest id current future kinds key aggregate) said h = cc
unheard n from (EndInterest id) said h = cc
unheard n from (ToldSub id key interest) said h = ignored n from (ToldSub id key interest) _ said refl refl (λ to. refl) refl refl
unheard n from (ToldToken id key interest) said h = ignored n from (ToldToken id key interest) _ said refl refl (λ to. refl) refl refl
unheard n from (ToldAble id key complete interest) said h = ignored n from (ToldAble id key complete interest) _ said refl refl (λ to. refl) refl refl
unheard n from (ToldUnsub id) said h = ignored n from (ToldUnsub id) _ said refl refl (λ to. refl) refl refl
unheard n from (ToldUntoken id) said h = ignored n from (ToldUntoken id) _ said refl refl (λ to. refl) refl refl
unheard n from (ToldUnable id) said h = ignored n from (ToldUnable id) _ said refl refl (λ to. refl) refl refl
unheard n from (ToldEnd interest) said h = ignored n from (ToldEnd interest) _ said refl refl (λ to. refl) refl refl
unheard n from (Push tree content) said h = cc
unheard n from (Request tree id target content) said h = cc
unheard n from (Response id content) said h = cc
unheard n from (Final id extras) said h = cc
unheard n from (State links) said h = cc
unheard n from (Step source number added decl) said h = cc
unheard n from (Snap source number decls) said h = cc
