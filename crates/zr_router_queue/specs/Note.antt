-- What a parcel's note vouches for: that the list of entries which its pass has seen queues these bytes at this place, or ends there.
use Rattle.std.specs.Prelude.{◌≡◌, ℕ, ◌+◌, ◌==◌, ◌&&◌, ◌||◌, Bool, true, false, if◌then◌else◌, List, [], ◌∷◌, length, Option, Some, None, slice_get}
use Rattle.std.proofs.Props.{props}
use Rattle.zr_ring.specs.declared.name.RingName.{RingName}
use Rattle.zr_ring.specs.declared.parcel.Note.{Ghosts}
use Rattle.zr_ring.specs.declared.parcel.Item.{Item}
use Rattle.zr_ring.specs.declared.parcel.Item.TheVariants.{One, Last}
use Rattle.zr_id.specs.declared.link.LinkNo.{LinkNo}
use Rattle.zr_msg.specs.declared.event.Event.{Event}
use Rattle.zr_msg.specs.declared.event.Event.TheVariants.{Up, Down, From}
use Rattle.zr_ring.specs.Content.{Content, bytes, end}
use Rattle.zr_port.specs.declared.entry.Entry.{Entry}
use Rattle.zr_router_queue.specs.Tables.{is_among, queued}
use Rattle.zr_router_queue.specs.History.{renews}

-- the reason of a full ring
abbrev pub full_reason : ℕ
full_reason = 0

-- two reasons are one
abbrev pub is_reason : Option ℕ → Option ℕ → Bool
is_reason None None = true
is_reason None (Some b) = false
is_reason (Some a) None = false
is_reason (Some a) (Some b) = a == b

-- the entry is the link's Down with that reason
abbrev pub is_down_with : LinkNo → Option ℕ → Event → Option ℕ → Bool
is_down_with link reason (Up l peer) given = false
is_down_with link reason (Down l) given = l.0 == link.0 && is_reason reason given
is_down_with link reason (From l msg) given = false

-- an entry ends the queue of a link: it is its Down, with the same reason, or it closes it because its ring is full
abbrev pub ends_by : LinkNo → Option ℕ → Entry → Bool
ends_by link reason e = is_down_with link reason e.event e.reason || (is_among e.closed link && is_reason reason (Some full_reason))

-- the last entry passes
abbrev pub last_passes : (Entry → Bool) → List Entry → Bool
last_passes test [] = false
last_passes test (e ∷ []) = test e
last_passes test (e ∷ f ∷ more) = last_passes test (f ∷ more)

abbrev pub Vouches : List ℕ → LinkNo → List Entry → Content → ℕ → Type 0
Vouches me link h (bytes b) place = slice_get (queued me h link) place ≡ Some b
Vouches me link h (end reason) place = (place ≡ length (queued me h link)) × (last_passes (ends_by link reason) h ≡ true)

-- it is so or not, in one way
pub Vouches-prop : (me : List ℕ) (link : LinkNo) (h : List Entry) (c : Content) (k : ℕ) → IsProp (Vouches me link h c k)
Vouches-prop me link h (bytes b) k = Prim.hlevel props
Vouches-prop me link h (end reason) k = Prim.hlevel props

-- ---- for which ring it is

-- the place, counted from n, of the last entry that brings a link up; if none does, what was found before
abbrev pub last_up_from : LinkNo → ℕ → Option ℕ → List Entry → Option ℕ
last_up_from link n found [] = found
last_up_from link n found (e ∷ h) = last_up_from link (n + 1) (if renews link e then Some n else found) h

-- how many entries come before the last one that brings a link up
abbrev pub last_up : LinkNo → List Entry → Option ℕ
last_up link h = last_up_from link 0 None h

-- A note is for the ring of this name: it is of the same router and link, and in the list of its pass the link came up last where the name says
abbrev pub FitsRing : RingName → List ℕ → LinkNo → List Entry → Type 0
FitsRing name me link h = (me ≡ name.router) × (link ≡ name.link) × (last_up link h ≡ Some name.since)

-- ---- what a ring was given

-- the bytes of the parcels among what was given
abbrev pub batches_of : {N : Type 0} {g : Ghosts N} → List (Item N g) → List (List ℕ)
batches_of [] = []
batches_of (One p ∷ items) = p.bytes ∷ batches_of items
batches_of (Last e ∷ items) = batches_of items
