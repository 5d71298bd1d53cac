-- A link comes up: nothing is asked and nothing kept there, and on the others nothing changes. Nor does a message change anything that is no request, reply or
-- final.
use Rattle.std.proofs.Common.{◌≡◌, ℕ, ◌==◌, Bool, true, false, cond, List, [], Option, Some, None, refl, sym, ap, ◌∙◌}
use Rattle.std.specs.Prelude.{is_some}
use Rattle.std.specs.Option.{option_map, option_and_then}
use Rattle.std.proofs.lemmas.Bool.{eqb-true, false_from_ne_true, false≢true}
use Rattle.zr_id.specs.declared.link.LinkNo.{LinkNo}
use Rattle.zr_msg.specs.declared.event.Event.TheVariants.{Up, From}
use Rattle.zr_msg.specs.declared.msg.Msg.{Msg}
use Rattle.zr_msg.specs.declared.msg.Msg.TheVariants.{Sub, Unsub, Token, Untoken, Able, Unable, Interest, EndInterest, ToldSub, ToldAble, ToldUnsub, ToldToken, ToldUntoken, ToldUnable, ToldEnd, Push, Request, Response, Final, State, Step, Snap}
use Rattle.zr_msg.specs.declared.peer.LinkPeer.{LinkPeer}
use Rattle.zr_msg.specs.Peer.{PeerState}
use Rattle.zr_pend_spec.specs.declared.branch.Asker.{Asker}
use Rattle.zr_pend_spec.specs.Pending.{branch}
use Rattle.zr_pend_spec.specs.Readings.{back}
use Rattle.zr_node_spec.specs.Tables.{link_at}
use Rattle.zr_node_spec.specs.Event.{IsFresh}
use Rattle.zr_node_spec.specs.State.{NodeState, new_link}
use Rattle.zr_node_spec.specs.Table.{after, after_from}
use Rattle.zr_law_numbers.specs.Rows.{AreOfLinks}
use Rattle.zr_law_numbers.specs.Waiting.{asks_in, answers_in}
use Rattle.zr_law_numbers.specs.Deeds.{Deed, IsHalf, place_in, half_of, handles_msg, IsDone, IsNew}
use Rattle.zr_law_numbers.proofs.LinksAfter.{at_with_link}
use Rattle.zr_law_numbers.proofs.RowsBegun.{not_back}
use Rattle.zr_law_numbers.proofs.RowsLinks.{asker_passes, asked_passes, pending_passes}
use Rattle.zr_law_numbers.proofs.DeedLists.{nothing_leads, asks_on}
use Rattle.zr_law_numbers.proofs.SentOfQueries.{first_tells, from_silent, up_silent}
use Rattle.zr_law_numbers.proofs.DeedsDone.{asks_are, answers_are, done_alone}
use Rattle.zr_law_numbers.proofs.OfLinks.{IsUp}

-- ---- a message that is no request, reply or final

quiet_half : (node : NodeState) (from : ℕ) (msg : Msg) (l : LinkPeer) → handles_msg msg ≡ [] → IsHalf (half_of (after_from node from msg) l) (half_of node l)
quiet_half node from (Sub id key) l e = record { keeps = λ n. refl; back = λ n. refl }
quiet_half node from (Unsub id) l e = record { keeps = λ n. refl; back = λ n. refl }
quiet_half node from (Token id key) l e = record { keeps = λ n. refl; back = λ n. refl }
quiet_half node from (Untoken id) l e = record { keeps = λ n. refl; back = λ n. refl }
quiet_half node from (Able id key complete) l e = record { keeps = λ n. refl; back = λ n. refl }
quiet_half node from (Unable id) l e = record { keeps = λ n. refl; back = λ n. refl }
quiet_half node from (Interest id current future kinds key aggregate) l e = record { keeps = λ n. refl; back = λ n. refl }
quiet_half node from (EndInterest id) l e = record { keeps = λ n. refl; back = λ n. refl }
quiet_half node from (ToldSub id key interest) l e = record { keeps = λ n. refl; back = λ n. refl }
quiet_half node from (ToldToken id key interest) l e = record { keeps = λ n. refl; back = λ n. refl }
quiet_half node from (ToldAble id key complete interest) l e = record { keeps = λ n. refl; back = λ n. refl }
quiet_half node from (ToldUnsub id) l e = record { keeps = λ n. refl; back = λ n. refl }
quiet_half node from (ToldUntoken id) l e = record { keeps = λ n. refl; back = λ n. refl }
quiet_half node from (ToldUnable id) l e = record { keeps = λ n. refl; back = λ n. refl }
quiet_half node from (ToldEnd interest) l e = record { keeps = λ n. refl; back = λ n. refl }
quiet_half node from (Push tree content) l e = record { keeps = λ n. refl; back = λ n. refl }
quiet_half node from (Request tree id target content) l e = absurd (cc)
quiet_half node from (Response id content) l e = absurd (cc)
quiet_half node from (Final id extras) l e = absurd (cc)
quiet_half node from (State links) l e = record { keeps = λ n. refl; back = λ n. refl }
quiet_half node from (Step source number added decl) l e = record { keeps = λ n. refl; back = λ n. refl }
quiet_half node from (Snap source number decls) l e = record { keeps = λ n. refl; back = λ n. refl }

pub quiet_done : (node : NodeState) (link : LinkNo) (msg : Msg) (tag : ℕ) (l : LinkPeer) → handles_msg msg ≡ [] → IsDone node (From link msg) tag l
quiet_done node link msg tag l e =
    done_alone node (From link msg) tag l [] (ap (λ ds. cond (link.0 == l.link.0) ds []) e ∙ by (link.0 == l.link.0))
    (nothing_leads (half_of node l) (half_of (after_from node link.0 msg) l) (quiet_half node link.0 msg l e))
    (from_silent (λ m. asks_in tag m) (asks_are tag) node link.0 msg l.link.0 e)
    (from_silent (λ m. answers_in tag m) (answers_are tag) node link.0 msg l.link.0 e) tt
  where
    nothing : List Deed
    nothing = []

    by : (t : Bool) → cond t nothing nothing ≡ nothing
    by true = refl
    by false = refl

-- no message changes links
pub links_stay : (node : NodeState) (from : ℕ) (msg : Msg) → (after_from node from msg).links ≡ node.links
links_stay node from (Sub id key) = refl
links_stay node from (Unsub id) = refl
links_stay node from (Token id key) = refl
links_stay node from (Untoken id) = refl
links_stay node from (Able id key complete) = refl
links_stay node from (Unable id) = refl
links_stay node from (Interest id current future kinds key aggregate) = refl
links_stay node from (EndInterest id) = refl
links_stay node from (ToldSub id key interest) = refl
links_stay node from (ToldToken id key interest) = refl
links_stay node from (ToldAble id key complete interest) = refl
links_stay node from (ToldUnsub id) = refl
links_stay node from (ToldUntoken id) = refl
links_stay node from (ToldUnable id) = refl
links_stay node from (ToldEnd interest) = refl
links_stay node from (Push tree content) = refl
links_stay node from (Request tree id target content) = refl
links_stay node from (Response id content) = refl
links_stay node from (Final id extras) = refl
links_stay node from (State links) = refl
links_stay node from (Step source number added decl) = refl
links_stay node from (Snap source number decls) = refl

-- ---- a link comes up

module _ (node : NodeState) (link : LinkNo) (peer : PeerState) (fresh : IsFresh node link peer) (h : AreOfLinks node) where
  -- who asked is named as before
  places : (o : Option (Option Asker)) → ((a : Asker) → o ≡ Some (Some a) → IsUp node.links a.link.0) →
      option_map (λ q. option_and_then (λ a. place_in (after node (Up link peer)) a) q) o ≡ option_map (λ q. option_and_then (λ a. place_in node a) q) o
  places None up = refl
  places (Some None) up = refl
  places (Some (Some a)) up =
      ap (λ o. Some (option_map (λ (k : LinkPeer). record { name = k.peer.id; number = a.number }) o))
      (at_with_link node.links (new_link link peer) a.link.0 h.numbered fresh.number ∙ ap (λ t. cond t (Some (new_link link peer)) (link_at node.links a.link.0)) other)
    where
      other : (link.0 == a.link.0) ≡ false
      other = false_from_ne_true _ (λ t. absurd (false≢true (ap is_some (sym fresh.number) ∙ ap (λ n. is_some (link_at node.links n)) (eqb-true link.0 a.link.0 t) ∙ up a refl)))

  module _ (tag : ℕ) (l : LinkPeer) where
    pub up_done : IsDone node (Up link peer) tag l
    up_done =
        done_alone node (Up link peer) tag l [] refl
        (nothing_leads (half_of node l) (half_of (after node (Up link peer)) l)
        (record {
          keeps = λ n. refl;
          back = λ n. places (back node.pending (branch l.link n)) (λ a e. asker_passes (λ m. IsUp node.links m) node.pending (branch l.link n) a h.askers e);
        }))
        (up_silent (λ m. asks_in tag m) (asks_are tag) node link.0 peer peer.role l.link.0)
        (up_silent (λ m. answers_in tag m) (answers_are tag) node link.0 peer peer.role l.link.0) tt

    pub up_new : link_at node.links l.link.0 ≡ None → IsNew node (Up link peer) tag l
    up_new none = record {
      asks = first_tells (λ m. asks_in tag m) (asks_are tag) node (Up link peer) l.link ∙ up_silent (λ m. asks_in tag m) (asks_are tag) node link.0 peer peer.role l.link.0;
      answers = first_tells (λ m. answers_in tag m) (answers_are tag) node (Up link peer) l.link ∙ up_silent (λ m. answers_in tag m) (answers_are tag) node link.0 peer peer.role l.link.0;
      leaves = record {
        keeps = λ n. false_from_ne_true _ (λ t. down (asked_passes (λ m. IsUp node.links m) node.pending (asks_on l.link n) h.askers t));
        back = λ n. ap (λ o. option_map (λ q. option_and_then (λ a. place_in (after node (Up link peer)) a) q) o)
            (not_back node.pending (branch l.link n) (false_from_ne_true _ (λ t. down (pending_passes (λ m. IsUp node.links m) l.link n node.pending h.branches t))));
      };
    }
      where
        down : IsUp node.links l.link.0 → ⊥
        down up = absurd (false≢true (ap is_some (sym none) ∙ up))
