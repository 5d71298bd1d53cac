-- The course of an inner client's job: it serves until it ends, leaves, and is opened anew, as often as it may be.
use Rattle.std.specs.Prelude.{◌≡◌, ◌<◌, ◌⊎◌, ℕ, zero, suc, List, [], Result}
use Rattle.zr_id.specs.declared.link.LinkNo.{LinkNo}
use Rattle.zr_msg.specs.Peer.{PeerState}
use Rattle.zr_msg.specs.declared.msg.Msg.{Msg}
use Rattle.zr_port.specs.Coming.{Answering, Sight}
use Rattle.zr_port.specs.declared.entry.Entry.{Entry}
use Rattle.zr_port.specs.declared.error.DeliverError.{DeliverError}
use Rattle.zr_port.specs.declared.error.DownError.{DownError}
use Rattle.zr_port.specs.declared.error.UpError.{UpError}
use Rattle.zr_ring.specs.declared.parcel.Item.{Item}
use Rattle.zr_ring.specs.declared.parcel.Note.{Ghosts}
use Rattle.zr_glance.specs.Glance.{GlanceState}
use Rattle.zr_admin.specs.Inner.{AllSteps, ComesTo, InnerState, IsOpened, IsUnopened, Leaves, inner_at}
use Rattle.zr_admin.specs.declared.error.AdminEnd.{AdminEnd}
use Rattle.zr_admin.specs.declared.error.AdminError.{AdminError}
use Rattle.zr_admin.specs.declared.error.Stepped.{Stepped}

-- an inner client that is attached to its router: its link, and its state there
pub record Attached (N : Type 0) (g : Ghosts N) : Type 0 where
  pub link : LinkNo
  pub state : InnerState N g

abbrev pub attached : {N : Type 0} {g : Ghosts N} → LinkNo → List (Item N g) → List ℕ → Sight → Attached N g
attached link taken kept sight = record { link = link; state = inner_at taken kept sight }

-- by what its port refuses and answers, what a glance at its router shows, its router's identifier, its random word, and how often it may do a thing at most
module _ (refuses_up : List Entry → PeerState → UpError → Type 0) (refuses_message : List Entry → LinkNo → Msg → DeliverError → Type 0) (refuses_down : List Entry → LinkNo → DownError → Type 0)
    (answers_down : Answering) (glance_of : List Entry → GlanceState) (id : List ℕ) (word most : ℕ) {N : Type 0} {g : Ghosts N} where
  -- it made steps over its link until it ended, so many at most, and left
  pub record Serves (old : Attached N g) (new : Sight) : Type 0 where
    pub end : AdminEnd
    pub results : List (Result Stepped AdminError)
    pub last : InnerState N g
    pub ends : ComesTo most end results
    pub steps : AllSteps old.link (λ h m e. refuses_message h old.link m e) glance_of id results old.state last
    pub left : Leaves refuses_down answers_down old.link last.sight new

  -- then it was opened anew, and had taken nothing off its new ring
  abbrev pub Reopens : Attached N g → Attached N g → Type 0
  Reopens old new = (left : Sight) × Serves old left × IsOpened refuses_up (λ h m e. refuses_message h new.link m e) id word new.link left new.state.sight × (new.state.taken ≡ []) × (new.state.kept ≡ [])

  -- or that was refused
  abbrev pub EndsRefused : Attached N g → Sight → Type 0
  EndsRefused old new = (left : Sight) × Serves old left × (e : AdminError) × IsUnopened refuses_up refuses_message refuses_down answers_down id word e left new

  -- so often it was opened anew
  abbrev pub ReopensTimes : ℕ → Attached N g → Attached N g → Type 0
  ReopensTimes zero old new = new ≡ old
  ReopensTimes (suc times) old new = (mid : Attached N g) × ReopensTimes times old mid × Reopens mid new

  -- It was opened anew, so often at most, until that was refused. Opened as often as that, it left
  abbrev pub Course : Attached N g → Sight → Type 0
  Course old new = (times : ℕ) × (last : Attached N g) × ReopensTimes times old last
      × (((times < most) × EndsRefused last new) ⊎ ((times ≡ most) × Leaves refuses_down answers_down last.link last.state.sight new))
