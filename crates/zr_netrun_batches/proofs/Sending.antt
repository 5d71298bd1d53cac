-- A message comes onto a wire.
use Rattle.std.proofs.Common.{◌≡◌, ◌∙◌, ap, refl, sym, subst, ℕ, List, [], ◌∷◌, ◌++◌, append_assoc, append-nil, None}
use Rattle.std.specs.List.{flat_map}
use Rattle.std.proofs.lemmas.List.{append_cancel_left}
use Rattle.zr_frame_batch.specs.Framing.{framed}
use Rattle.zr_msg.specs.declared.msg.Msg.{Msg}
use Rattle.zr_msg.specs.declared.peer.Role.{Role}
use Rattle.zr_frame.specs.Outbox.{OutboxState, advanced}
use Rattle.zr_frame.specs.Packing.{Parcels, one_parcel}
use Rattle.zr_frame_pack.specs.Packing.{parcels_of}
use Rattle.zr_open.specs.declared.expected.Expected.{Expected}
use Rattle.zr_open.specs.Opening.{OpeningState}
use Rattle.zr_session.specs.declared.event.SessionEvent.TheVariants.{Message}
use Rattle.zr_session.specs.declared.phase.Phase.TheVariants.{Opening}
use Rattle.zr_session.specs.declared.state.State.{State as Standing}
use Rattle.zr_session.specs.declared.state.State.TheVariants.{Running, Ended, Spent}
use Rattle.zr_session.specs.Course.{Course}
use Rattle.zr_session.specs.Stream.{Comes}
use Rattle.zr_session.specs.Session.{SessionState, Stands}
use Rattle.zr_session.specs.Laws.{PackedMessagesAreReadBack}
use Rattle.zr_wire.specs.Sending.{MayBeSent}
use Rattle.zr_session.specs.Sending.{packed_in, with_messages}
use Rattle.zr_netrun_batches.specs.Coming.{messages_in, course_of, coming_to, coming, Leads, ComesOn}
use Rattle.zr_netrun_batches.proofs.Feeding.{left, not_ended, messages_append}

-- what is coming, where one event more is
sent_by : (first : Expected) (o : OpeningState) (st : Standing) (kept fed bytes more : List ℕ) (c all later : Course) (m : Msg) →
    Stands first o st kept fed c → Comes o (Opening first) (fed ++ bytes) all [] → all.ends ≡ None → Comes o (Opening first) (fed ++ (bytes ++ more)) later [] →
    later.events ≡ all.events ++ Message m ∷ [] → coming_to o st kept (bytes ++ more) ≡ coming_to o st kept bytes ++ m ∷ []
sent_by first o (Running p) kept fed bytes more c all later m h k goes l given =
    let x : Course = course_of o p (kept ++ bytes) in
    let y : Course = course_of o p (kept ++ (bytes ++ more)) in
    let before = left first o p kept fed bytes c all h k in
    let behind = left first o p kept fed (bytes ++ more) c later h l in
    let events : c.events ++ y.events ≡ c.events ++ (x.events ++ Message m ∷ []) =
    ap (λ (z : Course). z.events) behind ∙ given ∙ ap (λ (z : Course). z.events ++ Message m ∷ []) (sym before) ∙ append_assoc c.events x.events (Message m ∷ []) in
    ap (λ z. messages_in z) (append_cancel_left c.events y.events (x.events ++ Message m ∷ []) events) ∙ messages_append x.events (Message m ∷ [])
sent_by first o (Ended how owed) kept fed bytes more c all later m h k goes l given = not_ended first o fed bytes h.0 c all how _ h.1 h.2 k goes
sent_by first o Spent kept fed bytes more c all later m h k goes l given = absurd h

-- A MESSAGE that who sends may send was packed, and its batches came behind the bytes on the wire.
pub message_sent : PackedMessagesAreReadBack → (role : Role) (box next : OutboxState) (s : SessionState) (bytes more : List ℕ) (m : Msg) →
    Leads role box s bytes → MayBeSent role m → more ≡ flat_map (λ batch. framed batch) (parcels_of box (m ∷ [])).batches → next ≡ (parcels_of box (m ∷ [])).outbox →
    Leads role next s (bytes ++ more) × (coming s (bytes ++ more) ≡ coming s bytes ++ m ∷ [])
message_sent law role box next s bytes more m h may is after =
    let may_here : MayBeSent h.known.role m = subst (λ (z : Role). MayBeSent z m) (sym h.role_is) may in
    let back = law.read_back h.first s.opening (h.fed ++ bytes) h.all h.known box ((m ∷ []) ∷ []) h.outbox h.names h.comes h.goes h.hears (may_here, tt) in
    let later : Course = with_messages h.all h.known (parcels_of box (m ∷ [])).outbox (m ∷ []) in
    let framed_is : flat_map (λ batch. framed batch) (packed_in box ((m ∷ []) ∷ [])).batches ≡ more =
    ap (λ z. flat_map (λ batch. framed batch) z) (append-nil (parcels_of box (m ∷ [])).batches) ∙ sym is in
    let whole : Comes s.opening (Opening h.first) (h.fed ++ (bytes ++ more)) later [] =
    subst (λ z. Comes s.opening (Opening h.first) z later []) (ap (λ z. (h.fed ++ bytes) ++ z) framed_is ∙ append_assoc h.fed bytes more) back in
    let behind = law.behind box ((m ∷ []) ∷ []) h.outbox h.names in
    let all : Leads role (parcels_of box (m ∷ [])).outbox s (bytes ++ more) = record {
      first = h.first;
      fed = h.fed;
      so_far = h.so_far;
      at = h.at;
      all = later;
      comes = whole;
      goes = refl;
      known = h.known;
      hears = refl;
      role_is = h.role_is;
      outbox = behind.0;
      names = behind.1;
    } in (
      subst (λ (z : OutboxState). Leads role z s (bytes ++ more)) (sym after) all,
      sent_by h.first s.opening s.state s.kept h.fed bytes more h.so_far h.all later m h.at h.comes h.goes whole refl,
    )

-- the batches that were packed are those of the one message
pub batches_are : (box : OutboxState) (m : Msg) (messages : List Msg) (none batches : List (List ℕ)) → messages ≡ m ∷ [] → none ≡ [] →
    batches ≡ none ++ (parcels_of box messages).batches → batches ≡ (parcels_of box (m ∷ [])).batches
batches_are box m messages none batches one empty are =
    are ∙ ap (λ z. z ++ (parcels_of box messages).batches) empty ∙ ap (λ z. (parcels_of box z).batches) one

pub comes_on : PackedMessagesAreReadBack → (box next : OutboxState) (bytes wire : List ℕ) (m : Msg) (messages : List Msg) (batches : List (List ℕ)) → messages ≡ m ∷ [] →
    batches ≡ (parcels_of box (m ∷ [])).batches → next ≡ (parcels_of box messages).outbox → wire ≡ bytes ++ flat_map (λ batch. framed batch) batches → ComesOn box bytes m next wire
comes_on law box next bytes wire m messages batches one are after put role s may h =
    subst (λ z. Leads role next s z × (coming s z ≡ coming s bytes ++ m ∷ [])) (sym put)
    (message_sent law role box next s bytes (flat_map (λ batch. framed batch) batches) m h may (ap (λ z. flat_map (λ batch. framed batch) z) are)
    (after ∙ ap (λ z. (parcels_of box z).outbox) one))

-- A FRAME of its own came behind the bytes on the wire.
pub frame_comes : PackedMessagesAreReadBack → (box next : OutboxState) (bytes wire batch : List ℕ) (m : Msg) → parcels_of box (m ∷ []) ≡ one_parcel box batch →
    next ≡ advanced box → wire ≡ bytes ++ framed batch → ComesOn box bytes m next wire
frame_comes law box next bytes wire batch m one after put role s may h =
    subst (λ z. Leads role next s z × (coming s z ≡ coming s bytes ++ m ∷ [])) (sym put)
    (message_sent law role box next s bytes (framed batch) m h may
    (sym (append-nil (framed batch)) ∙ sym (ap (λ (z : Parcels). flat_map (λ b. framed b) z.batches) one))
    (after ∙ sym (ap (λ (z : Parcels). z.outbox) one)))
