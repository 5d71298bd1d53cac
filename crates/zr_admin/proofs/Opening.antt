-- How an inner client is opened.
use Rattle.std.proofs.Common.{◌≡◌, ℕ, List, [], ◌∷◌, ◌++◌, codes, Some, None, false, subst}
use Rattle.zr_id.specs.declared.link.LinkNo.{LinkNo}
use Rattle.zr_frame.specs.Outbox.{OutboxState}
use Rattle.zr_msg.specs.Peer.{PeerState}
use Rattle.zr_msg.specs.declared.event.Event.TheVariants.{Up}
use Rattle.zr_msg.specs.declared.msg.Msg.{Msg}
use Rattle.zr_msg.specs.declared.msg.Msg.TheVariants.{Able}
use Rattle.zr_hist.specs.declared.pass.Pass.{Pass}
use Rattle.zr_hist.specs.Words.{seen}
use Rattle.zr_ring.specs.declared.name.RingName.{RingName}
use Rattle.zr_port.specs.declared.entry.Entry.{Entry}
use Rattle.zr_port.specs.declared.error.DeliverError.{DeliverError}
use Rattle.zr_port.specs.declared.error.DownError.{DownError}
use Rattle.zr_port.specs.declared.error.UpError.{UpError}
use Rattle.zr_port.specs.Adding.{Adds, IsAdmitted, IsEntryOf}
use Rattle.zr_port.specs.Coming.{Answering, Delivered, Through, sight}
use Rattle.zr_port.specs.Ring.{IsRingOf}
use Rattle.zr_glance.specs.Pages.{space}
use Rattle.zr_admin.specs.Inner.{HasRing, IsOpened, IsUndeclared, IsUnopened, inner_outbox, inner_peer}
use Rattle.zr_admin.specs.declared.error.AdminError.TheVariants as error

module _ (refuses_up : List Entry → PeerState → UpError → Type 0) (id key : List ℕ) (word : ℕ) (link : LinkNo) (peer : PeerState) (outbox : OutboxState) (free : List Entry → Type 0) where
  -- what a port tells of a link that came up
  abbrev pub Came : PeerState → OutboxState → Pass Entry → Pass Entry → Type 0
  Came p o old mid = Adds old mid (λ before e. IsEntryOf (Up link p) (Some o) None e × free before × IsAdmitted (refuses_up before p))

  as_inner : (old mid : Pass Entry) → peer ≡ inner_peer word → outbox ≡ inner_outbox → Came peer outbox old mid → Came (inner_peer word) inner_outbox old mid
  as_inner old mid is_peer is_outbox h = subst (λ p. Came p inner_outbox old mid) is_peer (subst (λ o. Came peer o old mid) is_outbox h)

  pub opened : (refuses_message : List Entry → Msg → DeliverError → Type 0) (old mid new : Pass Entry) → peer ≡ inner_peer word → outbox ≡ inner_outbox → key ≡ space id ++ codes "**"
      → Came peer outbox old mid → Through link refuses_message (Delivered (Able 1 key false) ∷ []) (sight mid) (sight new) → IsOpened refuses_up refuses_message id word link (sight old) (sight new)
  opened refuses_message old mid new is_peer is_outbox is_key h able =
      let a = as_inner old mid is_peer is_outbox h in
      record {
        mid = sight mid;
        up = record { before = a.before; entry = a.entry; own = a.own; last = a.last; prefix = a.prefix; is = a.says.0 };
        admitted = a.says.2;
        able = subst (λ k. Through link refuses_message (Delivered (Able 1 k false) ∷ []) (sight mid) (sight new)) is_key able;
      }

  pub has_ring : (router : List ℕ) (name : RingName) (old mid : Pass Entry) → peer ≡ inner_peer word → outbox ≡ inner_outbox → Came peer outbox old mid
      → IsRingOf router link (seen mid) name → HasRing router word link name (sight old)
  has_ring router name old mid is_peer is_outbox h ring =
      let a = as_inner old mid is_peer is_outbox h in
      (sight mid, record { before = a.before; entry = a.entry; own = a.own; last = a.last; prefix = a.prefix; is = a.says.0 }, ring)

  pub unopened : (refuses_message : List Entry → LinkNo → Msg → DeliverError → Type 0) (refuses_down : List Entry → LinkNo → DownError → Type 0) (called : Answering) (e : DeliverError) (old mid new : Pass Entry)
      → peer ≡ inner_peer word → outbox ≡ inner_outbox → key ≡ space id ++ codes "**" → Came peer outbox old mid
      → IsUndeclared refuses_message refuses_down called link (Able 1 key false) e (sight mid) (sight new) → IsUnopened refuses_up refuses_message refuses_down called id word (error.Deliver e) (sight old) (sight new)
  unopened refuses_message refuses_down called e old mid new is_peer is_outbox is_key h undeclared =
      let a = as_inner old mid is_peer is_outbox h in (
        link,
        sight mid,
        record { before = a.before; entry = a.entry; own = a.own; last = a.last; prefix = a.prefix; is = a.says.0 },
        subst (λ k. IsUndeclared refuses_message refuses_down called link (Able 1 k false) e (sight mid) (sight new)) is_key undeclared,
      )
