-- A session is closed for a cause alone, by what a whole run is.
use Rattle.std.proofs.Common.{◌≡◌, ◌⊎◌, ℕ, false, List, [], ◌∷◌, ◌++◌, Option, Some, None, refl, ap, ◌∙◌, inl, inr}
use Rattle.zr_id.specs.declared.link.LinkNo.{LinkNo}
use Rattle.zr_hist.specs.declared.pass.Pass.{Pass}
use Rattle.zr_hist.specs.Words.{seen}
use Rattle.zr_msg.specs.declared.error.NodeError.TheVariants as node
use Rattle.zr_msg.specs.declared.msg.Msg.{Msg}
use Rattle.zr_msg.specs.Peer.{PeerState}
use Rattle.zr_open.specs.declared.error.Reason.{Reason}
use Rattle.zr_port.specs.Coming.{Answering, is_passed, messages_of}
use Rattle.zr_port.specs.declared.entry.Entry.{Entry}
use Rattle.zr_port.specs.declared.error.DeliverError.{DeliverError}
use Rattle.zr_port.specs.declared.error.DeliverError.TheVariants as deliver
use Rattle.zr_port.specs.declared.error.DownError.{DownError}
use Rattle.zr_port.specs.declared.error.UpError.{UpError}
use Rattle.zr_session.specs.Course.{Course}
use Rattle.zr_session.specs.Session.{SessionState}
use Rattle.zr_session.specs.declared.event.SessionEvent.TheVariants.{Opened}
use Rattle.zr_session.specs.declared.fate.End.TheVariants as how
use Rattle.zr_session.specs.declared.phase.Phase.{Phase}
use Rattle.zr_link.specs.declared.end.LinkEnd.{LinkEnd}
use Rattle.zr_link.specs.declared.end.LinkEnd.TheVariants as end
use Rattle.zr_link.specs.Ends.{end_of_delivery}
use Rattle.zr_link.specs.Heard.{Closes, messages}
use Rattle.zr_link.specs.Run.{ComesUp, EarlyEnds, NotTaken, Refuses, Runs, StaysDown, UpEnds}
use Rattle.zr_link.specs.Complete.{HasCause, IsComplete, IsNotTaken, IsStopped, IsUnclosed}

-- a refusal that brings an end isn't passed over
stops_of : (error : DeliverError) (e : LinkEnd) → end_of_delivery error ≡ Some e → is_passed error ≡ false
stops_of (deliver.NotUp link) e is = refl
stops_of (deliver.Misplaced role) e is = refl
stops_of (deliver.Denied rule) e is = cc
stops_of (deliver.Ignored id) e is = cc
stops_of (deliver.Node x) e is = refl
stops_of (deliver.Full asked free) e is = refl
stops_of deliver.Worn e is = refl
stops_of deliver.NoMemory e is = refl

module _ (refuses_up : List Entry → PeerState → UpError → Type 0) (refuses : List Entry → LinkNo → Msg → DeliverError → Type 0) (refuses_down : List Entry → LinkNo → DownError → Type 0) (called : Answering) (L : Phase → Type 0)
    (W : List ℕ → Type 0) (old new : Pass Entry) where
  closed_for : (c : Course) (reason : Reason) → Closes reason c L → HasCause c L refuses_up refuses old new
  closed_for c reason (inl is) = inl (how.Closed reason, is)
  closed_for c reason (inr late) = inr (inl late.2)

  -- the link never came up
  down_for : (e : LinkEnd) (c : Course) → EarlyEnds e c c.events L (λ reason. NotTaken refuses_up (seen new) c.events reason) → IsUnclosed e ⊎ HasCause c L refuses_up refuses old new
  down_for end.ReadFault c why = inl tt
  down_for end.WriteFault c why = inl tt
  down_for end.PeerEnded c why = inl tt
  down_for (end.Closed reason) c (inl closes) = inr (closed_for c reason closes.0)
  down_for (end.Closed reason) c (inr n) = inr (inr (inr (inl (record { peer = n.peer; outbox = n.outbox; events = messages n.msgs; error = n.error; opens = n.opens; refused = n.refused }))))
  down_for (end.Peer reason) c why = inr (inl (how.Peer reason, why.0))
  down_for end.CrewRefused c why = inl tt
  down_for end.Turns c why = inl tt
  down_for end.NoMemory c why = inl tt

  -- it came up
  up_for : (e : LinkEnd) (c : Course) (u : ComesUp e c L W refuses refuses_down called old new)
      → UpEnds e c u.others (u.came ≡ []) L (λ reason. Refuses (λ m x. refuses u.last.seen u.link m x) u.others reason) → IsUnclosed e ⊎ HasCause c L refuses_up refuses old new
  up_for end.ReadFault c u why = inl tt
  up_for end.WriteFault c u why = inl tt
  up_for end.PeerEnded c u why = inl tt
  up_for (end.Closed reason) c u (inl closes) = inr (closed_for c reason closes.0)
  up_for (end.Closed reason) c u (inr r) = inr (inr (inr (inr (record {
    link = u.link;
    peer = u.peer;
    outbox = u.outbox;
    came = u.came;
    msg = r.msg;
    others = r.rest;
    begun = u.begun;
    last = u.last;
    error = r.error;
    opens = u.events_are ∙ ap (λ z. Opened u.peer u.outbox ∷ messages (messages_of u.came ++ z)) r.first;
    upon = u.upon;
    goes = u.goes;
    behind = u.behind;
    refused = r.refused;
    stops = stops_of r.error (end.Closed reason) r.ends;
  }))))
  up_for (end.Peer reason) c u why = inr (inl (how.Peer reason, why.0))
  up_for end.CrewRefused c u why = inl tt
  up_for end.Turns c u why = inl tt
  up_for end.NoMemory c u why = inl tt

  pub complete_of : (s : SessionState) (e : LinkEnd) (before after : Option (List ℕ)) → Runs s e before after L W refuses_up refuses refuses_down called old new
      → IsComplete s e before after L refuses_up refuses old new
  complete_of s e before after r = by (made r.made)
    where
      made : StaysDown e r.course L W refuses_up old new ⊎ ComesUp e r.course L W refuses refuses_down called old new → IsUnclosed e ⊎ HasCause r.course L refuses_up refuses old new
      made (inl d) = down_for e r.course d.why
      made (inr u) = up_for e r.course u u.why

      by : IsUnclosed e ⊎ HasCause r.course L refuses_up refuses old new → IsComplete s e before after L refuses_up refuses old new
      by (inl unclosed) = inl unclosed
      by (inr cause) = inr (r.bytes, r.course, r.rest, r.taken, r.comes, cause)
