-- Each event that a router takes is done, link by link.
use Rattle.std.proofs.Common.{◌≡◌, ℕ, ◌==◌, Bool, true, false, cond, [], Some, None, refl, sym, ap, ◌∙◌}
use Rattle.std.proofs.lemmas.Option.{none-some}
use Rattle.zr_id.specs.declared.link.LinkNo.{LinkNo}
use Rattle.zr_msg.specs.declared.event.Event.TheVariants.{Up, Down, From}
use Rattle.zr_msg.specs.declared.msg.Msg.{Msg}
use Rattle.zr_msg.specs.declared.msg.Msg.TheVariants.{Sub, Unsub, Token, Untoken, Able, Unable, Interest, EndInterest, ToldSub, ToldAble, ToldUnsub, ToldToken, ToldUntoken, ToldUnable, ToldEnd, Push, Request, Response, Final, State, Step, Snap}
use Rattle.zr_msg.specs.declared.peer.LinkPeer.{LinkPeer}
use Rattle.zr_node_spec.specs.Tables.{link_at}
use Rattle.zr_node_spec.specs.State.{NodeState}
use Rattle.zr_node_spec.specs.Table.{after, refuses_from, without_link}
use Rattle.zr_law_numbers.specs.Rows.{AreOfLinks}
use Rattle.zr_law_numbers.specs.Deeds.{handles_msg, IsNew, EventIsDone, EventsAreDone}
use Rattle.zr_law_numbers.proofs.LinksAfter.{at_without_link}
use Rattle.zr_law_numbers.proofs.OfLinks.{IsUp, quiet_keeps, taken_keeps, reply_keeps, final_keeps, down_keeps, up_keeps}
use Rattle.zr_law_numbers.proofs.DeedsOfFinals.{response_done, final_done}
use Rattle.zr_law_numbers.proofs.DeedsOfDown.{down_done}
use Rattle.zr_law_numbers.proofs.DeedsOfRequests.{request_done}
use Rattle.zr_law_numbers.proofs.DeedsOfUp.{quiet_done, links_stay, up_done, up_new}

-- ---- messages

-- a message makes no link
not_new : (node : NodeState) (link : LinkNo) (msg : Msg) (tag : ℕ) (l : LinkPeer) → link_at node.links l.link.0 ≡ None → link_at (after node (From link msg)).links l.link.0 ≡ Some l → IsNew node (From link msg) tag l
not_new node link msg tag l none some = absurd (none-some l (sym none ∙ ap (λ ls. link_at ls l.link.0) (sym (links_stay node link.0 msg)) ∙ some))

module _ (node : NodeState) (link : LinkNo) (h : AreOfLinks node) where
  quiet : (msg : Msg) → handles_msg msg ≡ [] → EventIsDone node (From link msg)
  quiet msg e = record {
    done = λ tag l before now. quiet_done node link msg tag l e;
    fresh = λ tag l none some. not_new node link msg tag l none some;
    keeps = quiet_keeps node link.0 msg e h;
  }

  from_done : (msg : Msg) → IsUp node.links link.0 → refuses_from node link.0 msg ≡ None → EventIsDone node (From link msg)
  from_done (Sub id key) up r = quiet (Sub id key) refl
  from_done (Unsub id) up r = quiet (Unsub id) refl
  from_done (Token id key) up r = quiet (Token id key) refl
  from_done (Untoken id) up r = quiet (Untoken id) refl
  from_done (Able id key complete) up r = quiet (Able id key complete) refl
  from_done (Unable id) up r = quiet (Unable id) refl
  from_done (Interest id current future kinds key aggregate) up r = quiet (Interest id current future kinds key aggregate) refl
  from_done (EndInterest id) up r = quiet (EndInterest id) refl
  from_done (ToldSub id key interest) up r = quiet (ToldSub id key interest) refl
  from_done (ToldToken id key interest) up r = quiet (ToldToken id key interest) refl
  from_done (ToldAble id key complete interest) up r = quiet (ToldAble id key complete interest) refl
  from_done (ToldUnsub id) up r = quiet (ToldUnsub id) refl
  from_done (ToldUntoken id) up r = quiet (ToldUntoken id) refl
  from_done (ToldUnable id) up r = quiet (ToldUnable id) refl
  from_done (ToldEnd interest) up r = quiet (ToldEnd interest) refl
  from_done (Push tree content) up r = quiet (Push tree content) refl
  from_done (Request tree id target content) up r = record {
    done = λ tag l before now. request_done node link tree id target content tag l h.numbered before r;
    fresh = λ tag l none some. not_new node link (Request tree id target content) tag l none some;
    keeps = taken_keeps node link tree id target content up r h;
  }
  from_done (Response id content) up r = record {
    done = λ tag l before now. response_done node link id content tag l;
    fresh = λ tag l none some. not_new node link (Response id content) tag l none some;
    keeps = reply_keeps node link.0 id content h;
  }
  from_done (Final id extras) up r = record {
    done = λ tag l before now. final_done node link id extras tag l h.sound;
    fresh = λ tag l none some. not_new node link (Final id extras) tag l none some;
    keeps = final_keeps node link.0 id extras h;
  }
  from_done (State links) up r = quiet (State links) refl
  from_done (Step source number added decl) up r = quiet (Step source number added decl) refl
  from_done (Snap source number decls) up r = quiet (Snap source number decls) refl

  -- ---- a link goes down, and makes none

  gone : (tag : ℕ) (l : LinkPeer) → link_at node.links l.link.0 ≡ None → link_at (without_link node.links link.0) l.link.0 ≡ Some l → IsNew node (Down link) tag l
  gone tag l none some = absurd (none-some l (sym (by (l.link.0 == link.0)) ∙ sym (at_without_link node.links link.0 l.link.0) ∙ some))
    where
      by : (t : Bool) → cond t None (link_at node.links l.link.0) ≡ None
      by true = refl
      by false = none

pub events_are_done : EventsAreDone
events_are_done node (Up link peer) may r h = record {
  done = λ tag l before now. up_done node link peer may h tag l;
  fresh = λ tag l none some. up_new node link peer may h tag l none;
  keeps = up_keeps node link peer may h;
}
events_are_done node (Down link) may r h = record {
  done = λ tag l before now. down_done node link tag l h.sound now;
  fresh = λ tag l none some. gone node link h tag l none some;
  keeps = down_keeps node link h;
}
events_are_done node (From link msg) may r h = from_done node link h msg may r
