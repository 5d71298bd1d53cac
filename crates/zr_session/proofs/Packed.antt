-- What a peer packs is read back. Each message is taken, under a number or whole (`Taken`); so is a frame of some, a message in fragments, and then the batches
-- of all, as the channels receive them (zr_frame's law).
use Rattle.std.proofs.Common.{◌≡◌, ◌∙◌, ap, refl, sym, subst, ℕ, zero, suc, ◌+◌, ◌^◌, ◌<◌, ◌≤◌, inl, inr, Bool, true, false, List, [], ◌∷◌, ◌++◌, length, length-append, append-nil, map, Option, Some, None, Ok, arith}
use Rattle.std.specs.List.{AllByRecursion, concat, flat_map}
use Rattle.std.specs.Option.{option_to_list}
use Rattle.std.proofs.lemmas.List.{map-append}
use Rattle.zr_lists.proofs.Each.{All-append, All-each}
use Rattle.zr_frame_batch.specs.Framing.{framed}
use Rattle.zr_frame_batch.specs.Laws.{WrittenBatchesAreCut}
use Rattle.zr_trans.specs.declared.trans.Trans.{Trans}
use Rattle.zr_trans.specs.declared.trans.Trans.TheVariants.{Frame, Fragment}
use Rattle.zr_trans.specs.Reading.{trans_of}
use Rattle.zr_trans.proofs.Messages.{follows_trans}
use Rattle.zr_msg.specs.declared.msg.Msg.{Msg}
use Rattle.zr_msg.specs.declared.peer.Role.{Role}
use Rattle.zr_msg.specs.declared.peer.Role.TheVariants.{Client, Router}
use Rattle.zr_wirekey.specs.Names.{NameList, number_of, has_room}
use Rattle.zr_wirekey.specs.Scopes.{Texts}
use Rattle.zr_wire.specs.Writing.{text_of}
use Rattle.zr_frame.specs.declared.channel.Channel.{Channel}
use Rattle.zr_frame.specs.Channel.{frame, fragment}
use Rattle.zr_frame.specs.Channels.{on_one, with_one}
use Rattle.zr_wire.specs.Limits.{most_of}
use Rattle.zr_frame.specs.Outbox.{OutboxState, IsOutbox, with_names}
use Rattle.zr_frame.specs.Packing.{parcels}
use Rattle.zr_frame.specs.Laws.{HandsOn, Delivers, expecting, ParcelsAreShort, PackedAreReceived}
use Rattle.zr_frame.proofs.Receiving.{delivers_append}
use Rattle.zr_frame_pack.specs.Packing.{Written, with_number, written_by, written_one, before, written, parcels_of}
use Rattle.zr_open.specs.declared.expected.Expected.{Expected}
use Rattle.zr_open.specs.declared.expected.Opened.{Opened}
use Rattle.zr_open.specs.Opening.{OpeningState}
use Rattle.zr_open.specs.Table.{names_for}
use Rattle.zr_session.specs.declared.event.SessionEvent.{SessionEvent}
use Rattle.zr_session.specs.declared.event.SessionEvent.TheVariants.{Message}
use Rattle.zr_session.specs.declared.phase.Established as session
use Rattle.zr_session.specs.declared.phase.Phase.TheVariants.{Opening, Established}
use Rattle.zr_session.specs.Carried.{carried_of}
use Rattle.zr_session.specs.Course.{Course, going, joined, and_then}
use Rattle.zr_session.specs.Step.{on_frame, on_fragment, on_whole, established, with_channels, with_keys}
use Rattle.zr_session.specs.Stream.{Item, Comes, item_of, trans_item, carried_item, items_within, on_batch, on_batches}
use Rattle.zr_wire.specs.Sending.{MayBeSent}
use Rattle.zr_session.specs.Sending.{AreNames, packed_in, outbox_of_peer, heard, hearing, with_messages}
use Rattle.zr_session.proofs.Courses.{then_nothing}
use Rattle.zr_session.proofs.Items.{left, left_item}
use Rattle.zr_session.proofs.Pieces.{comes_more}
use Rattle.zr_session.proofs.Heard.{AreRead}
use Rattle.zr_session.proofs.Taken.{taken, IsTaken, AreTaken, IsItems, two_parts, items_append, messages_items, more_names}

-- the session whose reliable channel is this one
abbrev at : session.Established → Channel → session.Established
at s c = with_channels s (with_one s.channels true c)

-- ---- what is written in a frame

one_item : (o : OpeningState) (s : session.Established) (next : Texts) (bytes rest : List ℕ) (events : List SessionEvent) → IsTaken s.role s.keys next bytes events →
    item_of o (Established s) true (bytes ++ rest) ≡ record { course = taken s next events; in_frame = true; rest = rest }
one_item o s next bytes rest events h =
    rw (h.begins rest) (ap (carried_item s) (h.reads rest) ∙ ap (λ (c : Course). record { course = c; in_frame = true; rest = rest }) (h.given s refl refl))

items_heard : (o : OpeningState) (most : ℕ) (s : session.Established) (items : List (List ℕ)) (next : Texts) (events : List SessionEvent) →
    AreTaken s.role s.keys items next events → length (concat items) ≤ most → left o most true (concat items) (Established s) ≡ taken s next events
unfolding items_within
items_heard o most s [] next events h few = ap (λ z. taken s z []) (sym h.0) ∙ ap (λ z. taken s next z) (sym h.1)
items_heard o zero s (bytes ∷ items) next events h few = absurd (omega (arith, few, h.4.some, length-append bytes (concat items)))
items_heard o (suc most) s (bytes ∷ items) next events h few =
    let rest : List ℕ = concat items in
    let len = length-append bytes rest in
    let some : 0 < length (bytes ++ rest) = omega (arith, len, h.4.some) in
    let fewer : length rest ≤ most = omega (arith, len, h.4.some, few) in
    left_item o most true (bytes ++ rest) (Established s) some
    ∙ ap (λ (i : Item). and_then i.course (left o most i.in_frame i.rest)) (one_item o s h.0 bytes rest h.1 h.4)
    ∙ ap (λ (c : Course). joined None (taken s h.0 h.1) c) (items_heard o most (with_keys s h.0) items next h.2 h.5 fewer)
    ∙ ap (λ z. taken s next z) (sym h.3)

-- ---- batches

-- a transport message takes a byte
shorter : (bytes rest : List ℕ) (t : Trans) → trans_of bytes ≡ Ok (t, rest) → length rest < length bytes
shorter bytes rest t e =
    let found = (follows_trans.found bytes rest t e).0 in
    let s = found.1 in
    let all : length bytes ≡ length found.0 + length rest = ap length found.2 ∙ length-append found.0 rest in
    let front : length found.0 ≡ length s.1 + length s.2 = ap length s.3 ∙ length-append s.1 s.2 in
    let one : length s.1 ≡ 1 = ap length s.4 in
    omega (arith, all, front, one)

-- a batch that begins with a transport message
batch_of : (o : OpeningState) (s : session.Established) (batch rest : List ℕ) (t : Trans) → trans_of batch ≡ Ok (t, rest) →
    (most : ℕ) × (length rest ≤ most)
    × (on_batch o (Established s) batch
    ≡ and_then (trans_item o (Established s) (Ok (t, rest))).course (left o most (trans_item o (Established s) (Ok (t, rest))).in_frame rest))
batch_of o s [] rest t e = absurd (omega (arith, shorter [] rest t e))
batch_of o s (b ∷ bytes) rest t e = (
  length bytes,
  omega (arith, shorter (b ∷ bytes) rest t e),
  left_item o (length bytes) false (b ∷ bytes) (Established s) (omega arith)
      ∙ ap (λ (i : Item). and_then i.course (left o (length bytes) i.in_frame i.rest)) (ap (trans_item o (Established s)) e),
)

frame_heard : (o : OpeningState) (s : session.Established) (c next : Channel) (batch : List ℕ) (n : ℕ) (items : List (List ℕ)) (keys : Texts) (events : List SessionEvent) →
    AreTaken s.role s.keys items keys events → trans_of batch ≡ Ok (Frame true n, concat items) → frame c n ≡ Ok (tt, next) →
    on_batch o (Established (at s c)) batch ≡ taken (at s next) keys events
frame_heard o s c next batch n items keys events h e good =
    let b = batch_of o (at s c) batch (concat items) (Frame true n) e in
    b.2
    ∙ ap (λ r. and_then (on_frame (at s c) (on_one (at s c).channels true r)) (left o b.0 true (concat items))) good
    ∙ items_heard o b.0 (at s next) items keys events h b.1

-- what came whole in fragments, or nothing yet
whole_heard : (s : session.Established) (c next : Channel) (whole : Option (List ℕ)) (items : List (List ℕ)) (keys : Texts) (events : List SessionEvent) →
    AreTaken s.role s.keys items keys events → items ≡ option_to_list whole →
    on_fragment (at s c) (on_one (at s c).channels true (Ok (whole, next))) ≡ taken (at s next) keys events
whole_heard s c next None [] keys events h e = ap (λ z. taken (at s next) z []) (sym h.0) ∙ ap (λ z. taken (at s next) keys z) (sym h.1)
whole_heard s c next None (x ∷ items) keys events h e = absurd cc
whole_heard s c next (Some bytes) [] keys events h e = absurd cc
whole_heard s c next (Some bytes) (x ∷ y ∷ items) keys events h e = absurd cc
whole_heard s c next (Some bytes) (x ∷ []) keys events h e =
    let same : bytes ≡ x = cc in
    let all : carried_of s.role s.keys bytes ≡ Ok (h.4.carried, []) = ap (carried_of s.role s.keys) (same ∙ sym (append-nil x)) ∙ h.4.reads [] in
    let here : events ≡ h.1 = h.3 ∙ ap (λ z. h.1 ++ z) h.5.1 ∙ append-nil h.1 in
    ap (on_whole (at s next)) all ∙ h.4.given (at s next) refl refl
    ∙ ap (λ z. taken (at s next) z h.1) (sym h.5.0) ∙ ap (λ z. taken (at s next) keys z) (sym here)

fragment_heard : (o : OpeningState) (s : session.Established) (c next : Channel) (batch piece : List ℕ) (more : Bool) (n : ℕ) (whole : Option (List ℕ)) (items : List (List ℕ))
    (keys : Texts) (events : List SessionEvent) → AreTaken s.role s.keys items keys events → trans_of batch ≡ Ok (Fragment true more n piece, []) →
    fragment (most_of s.role) c more n piece ≡ Ok (whole, next) → items ≡ option_to_list whole → on_batch o (Established (at s c)) batch ≡ taken (at s next) keys events
unfolding items_within
fragment_heard o s c next batch piece more n whole items keys events h e good parts =
    let b = batch_of o (at s c) batch [] (Fragment true more n piece) e in
    b.2
    ∙ ap (λ r. and_then (on_fragment (at s c) (on_one (at s c).channels true r)) going) good
    ∙ ap (λ (z : Course). and_then z going) (whole_heard s c next whole items keys events h parts)
    ∙ then_nothing (taken (at s next) keys events)

batch_heard : (o : OpeningState) (s : session.Established) (c next : Channel) (batch : List ℕ) (items : List (List ℕ)) (keys : Texts) (events : List SessionEvent) →
    AreTaken s.role s.keys items keys events → HandsOn (most_of s.role) c batch items next → on_batch o (Established (at s c)) batch ≡ taken (at s next) keys events
batch_heard o s c next batch items keys events h (inl frame) = frame_heard o s c next batch frame.0 items keys events h frame.1 frame.2
batch_heard o s c next batch items keys events h (inr part) = fragment_heard o s c next batch part.2 part.0 part.1 part.3 items keys events h part.4 part.5 part.6

batches_heard : (o : OpeningState) (s : session.Established) (batches : List (List ℕ)) (c last : Channel) (items : List (List ℕ)) (keys : Texts) (events : List SessionEvent) →
    AreTaken s.role s.keys items keys events → Delivers (most_of s.role) c batches items last → on_batches o (Established (at s c)) batches ≡ taken (at s last) keys events
unfolding on_batches
batches_heard o s [] c last [] keys events h d =
    ap (λ z. taken (at s z) s.keys []) (sym d.1) ∙ ap (λ z. taken (at s last) z []) (sym h.0) ∙ ap (λ z. taken (at s last) keys z) (sym h.1)
batches_heard o s [] c last (x ∷ items) keys events h d = let none : x ∷ items ≡ [] = d.0 in absurd cc
batches_heard o s (batch ∷ batches) c last items keys events h d =
    let two = two_parts s.role d.0 d.2 s.keys keys events (subst (λ (z : List (List ℕ)). AreTaken s.role s.keys z keys events) d.3 h) in
    ap (λ (z : Course). and_then z (λ q. on_batches o q batches)) (batch_heard o s c d.1 batch d.0 two.known two.here two.first d.4)
    ∙ ap (λ (z : Course). joined None (taken (at s d.1) two.known two.here) z) (batches_heard o (with_keys s two.known) batches d.1 last d.2 keys two.later two.second d.5)
    ∙ ap (λ z. taken (at s last) keys z) (sym two.all)

-- ---- several calls

abbrev all_of : List (List Msg) → List Msg
all_of calls = flat_map (λ messages. messages) calls

-- what is written in all of them
abbrev all_written : Option NameList → List (List Msg) → Written
all_written names [] = record { messages = []; names = names }
all_written names (ms ∷ calls) = before (written names ms) (λ next. all_written next calls)

all_parts : {X : Type 0} (P : X → Type 0) (xs ys : List X) → AllByRecursion P (xs ++ ys) → AllByRecursion P xs × AllByRecursion P ys
all_parts P [] ys h = (tt, h)
all_parts P (x ∷ xs) ys h = let rest = all_parts P xs ys h.1 in ((h.0, rest.0), rest.1)

calls_items : AreRead → (role : Role) (keys : Texts) (calls : List (List Msg)) (names : Option NameList) → AllByRecursion (λ m. MayBeSent role m) (all_of calls) → AreNames names →
    IsItems role (heard names keys) (heard (all_written names calls).names keys) (all_written names calls) (map (λ m. Message m) (all_of calls))
calls_items law role keys [] names may few = record { are = (refl, refl); short = tt; names = few }
calls_items law role keys (ms ∷ calls) names may few =
    let both = all_parts (λ m. MayBeSent role m) ms (all_of calls) may in
    let next : Option NameList = (written names ms).names in
    let here = messages_items law role keys ms names both.0 few in
    subst (λ (z : List SessionEvent). IsItems role (heard names keys) (heard (all_written next calls).names keys) (all_written names (ms ∷ calls)) z)
    (sym (map-append (λ (m : Msg). Message m) ms (all_of calls)))
    (items_append role (heard names keys) (heard next keys) (heard (all_written next calls).names keys) (written names ms) (all_written next calls)
    (map (λ m. Message m) ms) (map (λ m. Message m) (all_of calls)) here (calls_items law role keys calls next both.1 here.names))

names_behind : (calls : List (List Msg)) (box : OutboxState) → (packed_in box calls).outbox.names ≡ (all_written box.names calls).names
names_behind [] box = refl
names_behind (ms ∷ calls) box = names_behind calls (parcels_of box ms).outbox

-- an outbox is one whatever its names are
outbox_with : (box : OutboxState) (names : Option NameList) → IsOutbox box → IsOutbox (with_names box names)
outbox_with box names is = record { large = is.large; small = is.small; two_bits = is.two_bits; in_range = is.in_range }

calls_deliver : PackedAreReceived → ParcelsAreShort → (most : ℕ) (calls : List (List Msg)) (box : OutboxState) → IsOutbox box →
    AllByRecursion (λ b. length b ≤ most) (all_written box.names calls).messages →
    Delivers most (expecting box) (packed_in box calls).batches (all_written box.names calls).messages (expecting (packed_in box calls).outbox)
calls_deliver received short most [] box is few = (refl, refl)
calls_deliver received short most (ms ∷ calls) box is few =
    let w : Written = written box.names ms in
    let next : OutboxState = (parcels_of box ms).outbox in
    let both = all_parts (λ b. length b ≤ most) w.messages (all_written w.names calls).messages few in
    delivers_append most (parcels_of box ms).batches (packed_in next calls).batches (expecting box) (expecting next) (expecting (packed_in next calls).outbox)
    w.messages (all_written w.names calls).messages
    (received most box w.messages is both.0) (calls_deliver received short most calls next (outbox_with (parcels box w.messages).outbox w.names (short box w.messages is).1) both.1)

calls_short : ParcelsAreShort → (calls : List (List Msg)) (box : OutboxState) → IsOutbox box → AllByRecursion (λ batch. length batch < 2 ^ 16) (packed_in box calls).batches
calls_short short [] box is = tt
calls_short short (ms ∷ calls) box is =
    let w : Written = written box.names ms in
    let next : OutboxState = (parcels_of box ms).outbox in
    let good = short box w.messages is in
    let fits : (batch : List ℕ) → (0 < length batch) × (length batch ≤ box.batch) → length batch < 2 ^ 16 = λ batch h. omega (arith, h.1, is.small) in
    All-append (λ batch. length batch < 2 ^ 16) (parcels_of box ms).batches (packed_in next calls).batches
    (All-each (λ batch. (0 < length batch) × (length batch ≤ box.batch)) (λ batch. length batch < 2 ^ 16) (parcels_of box ms).batches fits good.0)
    (calls_short short calls next (outbox_with (parcels box w.messages).outbox w.names good.1))

-- ---- the outbox behind them

kept_number : (number : Option ℕ) (room : Bool) (names : NameList) (text : List ℕ) (m : Msg) → has_room names text ≡ room → AreNames (Some names) →
    AreNames (with_number number room names text m).names
kept_number (Some n) room names text m has few = few
kept_number None true names text m has few = more_names names text has
kept_number None false names text m has few = few

kept_text : (text : Option (List ℕ)) (names : NameList) (m : Msg) → AreNames (Some names) → AreNames (written_by text names m).names
kept_text None names m few = few
kept_text (Some text) names m few = kept_number (number_of names text) (has_room names text) names text m refl few

kept_one : (names : Option NameList) (m : Msg) → AreNames names → AreNames (written_one names m).names
kept_one None m few = few
kept_one (Some names) m few = kept_text (text_of m) names m few

kept_written : (messages : List Msg) (names : Option NameList) → AreNames names → AreNames (written names messages).names
kept_written [] names few = few
kept_written (m ∷ messages) names few = kept_written messages (written_one names m).names (kept_one names m few)

-- THE OUTBOX behind what is packed is one, with names as few and as short as they may be.
pub packed_behind : ParcelsAreShort → (box : OutboxState) (calls : List (List Msg)) → IsOutbox box → AreNames box.names →
    IsOutbox (packed_in box calls).outbox × AreNames (packed_in box calls).outbox.names
packed_behind short box [] is few = (is, few)
packed_behind short box (ms ∷ calls) is few =
    let w : Written = written box.names ms in
    packed_behind short (parcels_of box ms).outbox calls (outbox_with (parcels box w.messages).outbox w.names (short box w.messages is).1) (kept_written ms box.names few)

-- A SESSION that has just opened knows no number, and its peer has given none.
first_of : (role : Role) → (heard (names_for role) [] ≡ []) × AreNames (names_for role)
first_of Client = (refl, tt)
first_of Router = (refl, (omega arith, omega arith))

pub first_names : (o : Opened) → (established o ≡ hearing (established o) (outbox_of_peer o)) × AreNames (outbox_of_peer o).names
first_names o =
    let first = first_of o.peer.role in
    (ap (λ z. with_keys (established o) z) (sym first.0), first.1)

-- WHAT IS PACKED, behind bytes that established a session.
pub packed_read_back : AreRead → PackedAreReceived → ParcelsAreShort → WrittenBatchesAreCut →
    (first : Expected) (o : OpeningState) (bytes : List ℕ) (c : Course) (s : session.Established) (box : OutboxState) (calls : List (List Msg)) →
    IsOutbox box → AreNames box.names → Comes o (Opening first) bytes c [] → c.ends ≡ None → c.phase ≡ Established (hearing s box) →
    AllByRecursion (λ m. MayBeSent s.role m) (all_of calls) →
    Comes o (Opening first) (bytes ++ flat_map (λ batch. framed batch) (packed_in box calls).batches) (with_messages c s (packed_in box calls).outbox (all_of calls)) []
packed_read_back law received short cut first o bytes c s box calls is names comes goes stands may =
    let last : OutboxState = (packed_in box calls).outbox in
    let now : session.Established = with_keys s (heard box.names s.keys) in
    let w : Written = all_written box.names calls in
    let events : List SessionEvent = map (λ m. Message m) (all_of calls) in
    let all : Course = taken (at s (expecting last)) (heard last.names s.keys) events in
    let batches : List (List ℕ) = (packed_in box calls).batches in
    let items = calls_items law s.role s.keys calls box.names may names in
    let run : on_batches o (Established (at now (expecting box))) batches ≡ all =
    batches_heard o now batches (expecting box) (expecting last) w.messages (heard w.names s.keys) events items.are
    (calls_deliver received short (most_of s.role) calls box is items.short)
    ∙ ap (λ z. taken (at s (expecting last)) (heard z s.keys) events) (sym (names_behind calls box)) in
    let rest : Comes o c.phase (flat_map (λ batch. framed batch) batches) all [] = record {
      batches = batches;
      are = cut batches (calls_short short calls box is);
      partial = omega arith;
      course = ap (λ p. on_batches o p batches) stands ∙ run;
    } in
    subst (λ (b : List ℕ). Comes o (Opening first) (bytes ++ flat_map (λ batch. framed batch) batches)
    (record { phase = all.phase; events = c.events ++ all.events; bytes = b; ends = None }) []) (append-nil c.bytes)
    (comes_more o (Opening first) bytes (flat_map (λ batch. framed batch) batches) [] [] c all comes goes rest)
