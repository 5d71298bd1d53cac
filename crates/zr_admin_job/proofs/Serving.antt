-- One round of an inner client, and what a port says of it as one that is the same.
use Rattle.std.proofs.Common.{◌≡◌, ◌<◌, ℕ, ◌+◌, List, [], Result, subst, inl, inr, add-one}
use Rattle.zr_id.specs.declared.link.LinkNo.{LinkNo}
use Rattle.zr_msg.specs.Peer.{PeerState}
use Rattle.zr_msg.specs.declared.msg.Msg.{Msg}
use Rattle.zr_port.specs.Coming.{Answering, Sight}
use Rattle.zr_port.specs.declared.entry.Entry.{Entry}
use Rattle.zr_port.specs.declared.error.DeliverError.{DeliverError}
use Rattle.zr_port.specs.declared.error.DownError.{DownError}
use Rattle.zr_port.specs.declared.error.UpError.{UpError}
use Rattle.zr_ring.specs.declared.parcel.Note.{Ghosts}
use Rattle.zr_glance.specs.Glance.{GlanceState}
use Rattle.zr_admin.specs.Inner.{AllSteps, ComesTo, InnerState, IsOpened, IsUnopened, Leaves}
use Rattle.zr_admin.specs.declared.error.AdminEnd.{AdminEnd}
use Rattle.zr_admin.specs.declared.error.AdminError.{AdminError}
use Rattle.zr_admin.specs.declared.error.Stepped.{Stepped}
use Rattle.zr_admin_job.specs.Course.{Attached, Course, EndsRefused, Reopens, ReopensTimes, Serves}

module _ {V : Type 0} (refuses_up : V → List Entry → PeerState → UpError → Type 0) (refuses_message : V → List Entry → LinkNo → Msg → DeliverError → Type 0)
    (refuses_down : V → List Entry → LinkNo → DownError → Type 0) (answers_down : V → Answering) (glance_of : V → List Entry → GlanceState) (word most : ℕ) {N : Type 0} {g : Ghosts N} where
  -- the definitions, by the port and the identifier
  abbrev pub ServesAt : V → List ℕ → Attached N g → Sight → Type 0
  ServesAt p id = Serves (refuses_up p) (refuses_message p) (refuses_down p) (answers_down p) (glance_of p) id word most

  abbrev pub ReopensAt : V → List ℕ → Attached N g → Attached N g → Type 0
  ReopensAt p id = Reopens (refuses_up p) (refuses_message p) (refuses_down p) (answers_down p) (glance_of p) id word most

  abbrev pub RefusedAt : V → List ℕ → Attached N g → Sight → Type 0
  RefusedAt p id = EndsRefused (refuses_up p) (refuses_message p) (refuses_down p) (answers_down p) (glance_of p) id word most

  abbrev pub CourseAt : V → List ℕ → Attached N g → Sight → Type 0
  CourseAt p id = Course (refuses_up p) (refuses_message p) (refuses_down p) (answers_down p) (glance_of p) id word most

  pub served : (p q : V) (id : List ℕ) (link : LinkNo) (old : Attached N g) (end : AdminEnd) (last : InnerState N g) (new : Sight) → q ≡ p → link ≡ old.link
      → ((results : List (Result Stepped AdminError)) × ComesTo most end results × AllSteps old.link (λ h m e. refuses_message p h old.link m e) (glance_of p) id results old.state last)
      → Leaves (refuses_down q) (answers_down q) link last.sight new → ServesAt p id old new
  served p q id link old end last new is_port is_link made left = record {
    end = end;
    results = made.0;
    last = last;
    ends = made.1;
    steps = made.2;
    left = subst (λ z. Leaves (refuses_down z) (answers_down z) old.link last.sight new) is_port (subst (λ z. Leaves (refuses_down q) (answers_down q) z last.sight new) is_link left);
  }

  pub reopened : (p q : V) (id jd : List ℕ) (old new : Attached N g) (left : Sight) → q ≡ p → jd ≡ id → ServesAt p id old left
      → IsOpened (refuses_up q) (λ h m e. refuses_message q h new.link m e) jd word new.link left new.state.sight → new.state.taken ≡ [] → new.state.kept ≡ [] → ReopensAt p id old new
  reopened p q id jd old new left is_port is_id did opened taken kept = (
    left,
    did,
    subst (λ z. IsOpened (refuses_up z) (λ h m e. refuses_message z h new.link m e) id word new.link left new.state.sight) is_port
        (subst (λ i. IsOpened (refuses_up q) (λ h m e. refuses_message q h new.link m e) i word new.link left new.state.sight) is_id opened),
    taken,
    kept,
  )

  pub refused : (p q : V) (id jd : List ℕ) (old : Attached N g) (e : AdminError) (left new : Sight) → q ≡ p → jd ≡ id → ServesAt p id old left
      → IsUnopened (refuses_up q) (refuses_message q) (refuses_down q) (answers_down q) jd word e left new → RefusedAt p id old new
  refused p q id jd old e left new is_port is_id did unopened = (
    left,
    did,
    e,
    subst (λ z. IsUnopened (refuses_up z) (refuses_message z) (refuses_down z) (answers_down z) id word e left new) is_port
        (subst (λ i. IsUnopened (refuses_up q) (refuses_message q) (refuses_down q) (answers_down q) i word e left new) is_id unopened),
  )

  abbrev pub TimesAt : V → List ℕ → ℕ → Attached N g → Attached N g → Type 0
  TimesAt p id = ReopensTimes (refuses_up p) (refuses_message p) (refuses_down p) (answers_down p) (glance_of p) id word most

  pub once_more : (p q : V) (id jd : List ℕ) (times : ℕ) (old mid new : Attached N g) → q ≡ p → jd ≡ id → TimesAt p id times old mid → ReopensAt q jd mid new → TimesAt p id (times + 1) old new
  once_more p q id jd times old mid new is_port is_id before h =
      rw add-one (mid, before, subst (λ z. ReopensAt z id mid new) is_port (subst (λ i. ReopensAt q i mid new) is_id h))

  -- its course ends where it is not opened anew
  pub ends_refused : (p q : V) (id jd : List ℕ) (times : ℕ) (old last : Attached N g) (new : Sight) → q ≡ p → jd ≡ id → TimesAt p id times old last → times < most → RefusedAt q jd last new
      → CourseAt p id old new
  ends_refused p q id jd times old last new is_port is_id before under h =
      (times, last, before, inl (under, subst (λ z. RefusedAt z id last new) is_port (subst (λ i. RefusedAt q i last new) is_id h)))

  -- or where it was, as often as it may be
  pub ends_last : (p q : V) (id : List ℕ) (times : ℕ) (old last : Attached N g) (new : Sight) → q ≡ p → TimesAt p id times old last → times ≡ most
      → Leaves (refuses_down q) (answers_down q) last.link last.state.sight new → CourseAt p id old new
  ends_last p q id times old last new is_port before all left =
      (times, last, before, inr (all, subst (λ z. Leaves (refuses_down z) (answers_down z) last.link last.state.sight new) is_port left))
