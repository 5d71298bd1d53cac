-- The inner client: who it is, what it declares, and what its steps make of its ring and of its router.
use Rattle.std.specs.Prelude.{◌≡◌, ◌≢◌, ◌⊎◌, ℕ, ◌+◌, true, false, List, [], ◌∷◌, ◌++◌, codes, length, map, Option, Some, None, Result, Ok, Err}
use Rattle.std.specs.Int.{to_le_bytes, w64}
use Rattle.std.specs.List.{AllByRecursion}
use Rattle.zr_frame.specs.Outbox.{OutboxState}
use Rattle.zr_id.specs.declared.link.LinkNo.{LinkNo}
use Rattle.zr_msg.specs.Peer.{PeerState}
use Rattle.zr_msg.specs.declared.event.Event.TheVariants.{Up, Down}
use Rattle.zr_msg.specs.declared.msg.Msg.{Msg}
use Rattle.zr_msg.specs.declared.msg.Msg.TheVariants.{Able}
use Rattle.zr_msg.specs.declared.peer.Role.TheVariants.{Client}
use Rattle.zr_port.specs.Adding.{IsAdmitted}
use Rattle.zr_port.specs.Coming.{Answering, Sight, AddsOne, Looks, Delivered, Through}
use Rattle.zr_port.specs.Ring.{IsRingOf}
use Rattle.zr_port.specs.declared.entry.Entry.{Entry}
use Rattle.zr_port.specs.declared.error.DeliverError.{DeliverError}
use Rattle.zr_port.specs.declared.error.DeliverError.TheVariants as deliver
use Rattle.zr_port.specs.declared.error.DownError.{DownError}
use Rattle.zr_port.specs.declared.error.DownError.TheVariants as down
use Rattle.zr_port.specs.declared.error.UpError.{UpError}
use Rattle.zr_port.specs.declared.error.UpError.TheVariants as up
use Rattle.zr_ring.specs.declared.name.RingName.{RingName}
use Rattle.zr_ring.specs.declared.parcel.Note.{Ghosts}
use Rattle.zr_ring.specs.declared.parcel.Parcel.{Parcel}
use Rattle.zr_ring.specs.declared.parcel.Item.{Item}
use Rattle.zr_ring.specs.declared.parcel.Item.TheVariants.{One}
use Rattle.zr_ring.specs.Items.{end_of}
use Rattle.zr_glance.specs.Glance.{GlanceState}
use Rattle.zr_glance.specs.Pages.{pages, space}
use Rattle.zr_admin.specs.Answers.{all_answers, count_replies}
use Rattle.zr_admin.specs.Asked.{asked}
use Rattle.zr_admin.specs.declared.asked.Asked.{Asked}
use Rattle.zr_admin.specs.Hearing.{heard}
use Rattle.zr_admin.specs.declared.error.AdminError.{AdminError}
use Rattle.zr_admin.specs.declared.error.AdminError.TheVariants as error
use Rattle.zr_admin.specs.declared.error.Stepped.{Stepped}
use Rattle.zr_admin.specs.declared.error.Stepped.TheVariants.{Idle, Part, Answered, Ended}
use Rattle.zr_admin.specs.declared.error.AdminEnd.{AdminEnd}
use Rattle.zr_admin.specs.declared.error.AdminEnd.TheVariants.{Turns, Refused}
use Rattle.zr_admin.specs.declared.error.AdminEnd.TheVariants.{Ended as Over}

-- its identifier: eight letters, and a word with the lowest byte first
abbrev pub inner_id : ℕ → List ℕ
inner_id word = codes "zrdadmin" ++ to_le_bytes w64 word

abbrev pub inner_peer : ℕ → PeerState
inner_peer word = record { id = inner_id word; role = Client; weight = 1 }

-- its parcels are as long as a ring takes them, and its frame numbers have 32 bits and begin with 0
abbrev pub inner_outbox : OutboxState
inner_outbox = record { batch = 65535; bits = 2; next = 0; names = None }

-- what it declares: it answers requests on all keys of its router's space, and isn't complete
abbrev pub queryable : List ℕ → Msg
queryable id = Able 1 (space id ++ codes "**") false

-- What `down` answers: its link went down, or that is refused
abbrev pub IsLeft : (List Entry → LinkNo → DownError → Type 0) → LinkNo → Sight → Sight → Result (Unit {0}) DownError → Type 0
IsLeft refuses link old new (Ok _) = AddsOne (Down link) None None old new
IsLeft refuses link old new (Err e) = Looks old new × (e ≢ down.NoMemory → refuses new.seen link e)

-- `down` was called once, without a reason
abbrev pub Leaves : (List Entry → LinkNo → DownError → Type 0) → Answering → LinkNo → Sight → Sight → Type 0
Leaves refuses called link old new = (answer : Result (Unit {0}) DownError) × called link None old new answer × IsLeft refuses link old new answer

-- ---- opening

-- what it declares was refused, and so its link went down, unless that was refused too
abbrev pub IsUndeclared : (List Entry → LinkNo → Msg → DeliverError → Type 0) → (List Entry → LinkNo → DownError → Type 0) → Answering → LinkNo → Msg → DeliverError → Sight → Sight → Type 0
IsUndeclared refuses_message refuses_down called link msg e old new =
    (mid : Sight) × Looks old mid × (e ≢ deliver.NoMemory → refuses_message mid.seen link msg e) × Leaves refuses_down called link mid new

-- why it was not opened, and what was added: no link came up, or one did and what it declares was refused
abbrev pub IsUnopened : (List Entry → PeerState → UpError → Type 0) → (List Entry → LinkNo → Msg → DeliverError → Type 0) → (List Entry → LinkNo → DownError → Type 0) → Answering → List ℕ → ℕ → AdminError → Sight → Sight → Type 0
IsUnopened refuses_up refuses_message refuses_down called id word (error.Up e) old new = Looks old new × (e ≢ up.NoMemory → refuses_up new.seen (inner_peer word) e)
IsUnopened refuses_up refuses_message refuses_down called id word (error.Deliver e) old new =
    (link : LinkNo) × (came : Sight) × AddsOne (Up link (inner_peer word)) (Some inner_outbox) None old came × IsUndeclared refuses_message refuses_down called link (queryable id) e came new
IsUnopened refuses_up refuses_message refuses_down called id word error.NoMemory old new = Looks old new

-- a link came up that no one had, and what it declares was delivered
pub record IsOpened (refuses_up : List Entry → PeerState → UpError → Type 0) (refuses_message : List Entry → Msg → DeliverError → Type 0) (id : List ℕ) (word : ℕ) (link : LinkNo) (old new : Sight) : Type 0 where
  pub mid : Sight
  pub up : AddsOne (Up link (inner_peer word)) (Some inner_outbox) None old mid
  pub admitted : IsAdmitted (refuses_up up.before (inner_peer word))
  pub able : Through link refuses_message (Delivered (queryable id) ∷ []) mid new

-- the name is that of the ring of the link that came up
abbrev pub HasRing : List ℕ → ℕ → LinkNo → RingName → Sight → Type 0
HasRing router word link name old =
    (mid : Sight) × AddsOne (Up link (inner_peer word)) (Some inner_outbox) None old mid × IsRingOf router link mid.seen name

-- ---- steps

-- of these messages, those at the front were delivered over a link, each with an entry of its own, and the rest weren't
pub record DeliversUpTo (link : LinkNo) (refuses : List Entry → Msg → DeliverError → Type 0) (messages rest : List Msg) (old new : Sight) : Type 0 where
  pub sent : List Msg
  pub are : messages ≡ sent ++ rest
  pub goes : Through link refuses (map (λ m. Delivered m) sent) old new

-- the first of the rest was refused, unless memory ran out
pub record RefusesFirst (refuses : Msg → DeliverError → Type 0) (rest : List Msg) (e : DeliverError) : Type 0 where
  pub msg : Msg
  pub others : List Msg
  pub first : rest ≡ msg ∷ others
  pub refused : e ≢ deliver.NoMemory → refuses msg e

-- What is answered is due at one glance, at what the pass saw in this step: these are the answers to the requests, and all but the rest were delivered
pub record Answers (link : LinkNo) (refuses : List Entry → Msg → DeliverError → Type 0) (glance_of : List Entry → GlanceState) (id : List ℕ) (requests : List Asked) (rest : List Msg) (replies : ℕ) (old new : Sight) : Type 0 where
  pub mid : Sight
  pub looked : Looks old mid
  pub delivered : DeliversUpTo link refuses (all_answers (pages id (glance_of mid.seen)) requests) rest mid new
  pub count : count_replies (pages id (glance_of mid.seen)) requests ≡ replies

-- What is made of requests: all answers are delivered, or those up to one that is refused, or none where memory runs out
abbrev pub AnswersAll : LinkNo → (List Entry → Msg → DeliverError → Type 0) → (List Entry → GlanceState) → List ℕ → List Asked → Result Stepped AdminError → Sight → Sight → Type 0
AnswersAll link refuses glance_of id requests (Ok Idle) old new = ⊥
AnswersAll link refuses glance_of id requests (Ok Ended) old new = ⊥
AnswersAll link refuses glance_of id requests (Ok Part) old new = ⊥
AnswersAll link refuses glance_of id requests (Ok (Answered replies)) old new = Answers link refuses glance_of id requests [] replies old new
AnswersAll link refuses glance_of id requests (Err (error.Deliver e)) old new =
    (rest : List Msg) × (replies : ℕ) × Answers link refuses glance_of id requests rest replies old new × RefusesFirst (λ m x. refuses new.seen m x) rest e
AnswersAll link refuses glance_of id requests (Err error.NoMemory) old new = Looks old new
AnswersAll link refuses glance_of id requests (Err (error.Up e)) old new = ⊥

-- What is made of a parcel behind what was kept of a message that isn't whole. Only a parcel with messages that are whole is answered
abbrev pub Hears : LinkNo → (List Entry → Msg → DeliverError → Type 0) → (List Entry → GlanceState) → List ℕ → List ℕ → List ℕ → Result Stepped AdminError → List ℕ → Sight → Sight → Type 0
Hears link refuses glance_of id parcel kept (Ok Idle) kept' old new = ⊥
Hears link refuses glance_of id parcel kept (Ok Ended) kept' old new = ⊥
Hears link refuses glance_of id parcel kept (Ok Part) kept' old new = ((heard kept parcel).part ≡ true) × (kept' ≡ (heard kept parcel).kept) × (new ≡ old)
Hears link refuses glance_of id parcel kept (Ok (Answered replies)) kept' old new =
    ((heard kept parcel).part ≡ false) × (kept' ≡ (heard kept parcel).kept) × AnswersAll link refuses glance_of id (asked (heard kept parcel).whole) (Ok (Answered replies)) old new
Hears link refuses glance_of id parcel kept (Err (error.Deliver e)) kept' old new =
    ((heard kept parcel).part ≡ false) × (kept' ≡ (heard kept parcel).kept) × AnswersAll link refuses glance_of id (asked (heard kept parcel).whole) (Err (error.Deliver e)) old new
Hears link refuses glance_of id parcel kept (Err error.NoMemory) kept' old new = Looks old new
Hears link refuses glance_of id parcel kept (Err (error.Up e)) kept' old new = ⊥

-- what it has taken off its ring, what is kept of a message that isn't whole, and what its pass has seen and added
pub record InnerState (N : Type 0) (g : Ghosts N) : Type 0 where
  pub taken : List (Item N g)
  pub kept : List ℕ
  pub sight : Sight

module _ {N : Type 0} {g : Ghosts N} where
  abbrev pub inner_at : List (Item N g) → List ℕ → Sight → InnerState N g
  inner_at taken kept sight = record { taken = taken; kept = kept; sight = sight }

  -- a parcel was taken, which isn't the end, and so much is true of its bytes
  pub record TakesOne (old new : List (Item N g)) (IsSo : List ℕ → Type 0) : Type 0 where
    pub parcel : Parcel N g
    pub one : new ≡ old ++ One parcel ∷ []
    pub goes_on : end_of new ≡ None
    pub is_so : IsSo parcel.bytes

  -- What a step makes of an inner client: there was nothing to be taken, the end was taken, or one parcel was
  abbrev pub Steps : LinkNo → (List Entry → Msg → DeliverError → Type 0) → (List Entry → GlanceState) → List ℕ → Result Stepped AdminError → InnerState N g → InnerState N g → Type 0
  Steps link refuses glance_of id (Ok Idle) old new = (new ≡ old) × (end_of new.taken ≡ None)
  Steps link refuses glance_of id (Ok Ended) old new = (reason : Option ℕ) × (end_of new.taken ≡ Some reason) × (new.kept ≡ old.kept) × (new.sight ≡ old.sight)
  Steps link refuses glance_of id (Ok Part) old new =
      TakesOne old.taken new.taken (λ parcel. Hears link refuses glance_of id parcel old.kept (Ok Part) new.kept old.sight new.sight)
  Steps link refuses glance_of id (Ok (Answered replies)) old new =
      TakesOne old.taken new.taken (λ parcel. Hears link refuses glance_of id parcel old.kept (Ok (Answered replies)) new.kept old.sight new.sight)
  Steps link refuses glance_of id (Err e) old new =
      TakesOne old.taken new.taken (λ parcel. Hears link refuses glance_of id parcel old.kept (Err e) new.kept old.sight new.sight)

  -- steps one after another, with these results
  abbrev pub AllSteps : LinkNo → (List Entry → Msg → DeliverError → Type 0) → (List Entry → GlanceState) → List ℕ → List (Result Stepped AdminError) → InnerState N g → InnerState N g → Type 0
  AllSteps link refuses glance_of id [] old new = new ≡ old
  AllSteps link refuses glance_of id (r ∷ rs) old new = (mid : InnerState N g) × Steps link refuses glance_of id r old mid × AllSteps link refuses glance_of id rs mid new

-- how it ends by a step, if it does
abbrev pub end_by : Result Stepped AdminError → Option AdminEnd
end_by (Ok Idle) = None
end_by (Ok Part) = None
end_by (Ok (Answered replies)) = None
end_by (Ok Ended) = Some Over
end_by (Err e) = Some (Refused e)

abbrev pub GoesOn : Result Stepped AdminError → Type 0
GoesOn r = end_by r ≡ None

-- steps behind each of which it goes on, and one by which it ends so
abbrev pub EndsBy : AdminEnd → List (Result Stepped AdminError) → Type 0
EndsBy end results = (rs : List (Result Stepped AdminError)) × (last : Result Stepped AdminError) × (results ≡ rs ++ last ∷ []) × AllByRecursion GoesOn rs × (end_by last ≡ Some end)

-- so many steps, behind each of which it goes on; or one by which it ends
abbrev pub ComesTo : ℕ → AdminEnd → List (Result Stepped AdminError) → Type 0
ComesTo turns Turns results = (length results ≡ turns) × AllByRecursion GoesOn results
ComesTo turns Over results = EndsBy Over results
ComesTo turns (Refused e) results = EndsBy (Refused e) results
