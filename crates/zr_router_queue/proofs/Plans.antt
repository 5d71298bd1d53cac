-- What an event has for a link: each of its batches is one that a parcel may have, and whether it is one sample is seen message by message.
use Rattle.std.proofs.Common.{◌≡◌, ℕ, ◌==◌, ◌<◌, ◌≤◌, ◌^◌, Bool, true, false, cond, List, [], ◌∷◌, length, map, filter, All, Option, Some, None, refl, sym, ap, subst, ◌∙◌, arith}
use Rattle.std.specs.Prelude.{is_some}
use Rattle.std.specs.List.{AllByRecursion}
use Rattle.std.proofs.lemmas.List.Elements.{recursion_from_All}
use Rattle.zr_id.specs.declared.link.LinkNo.{LinkNo}
use Rattle.zr_msg.specs.declared.msg.Msg.{Msg}
use Rattle.zr_node_spec.specs.Event.{on_link}
use Rattle.zr_frame.specs.Outbox.{OutboxState, IsOutbox}
use Rattle.zr_frame.specs.Packing.{Parcels, parcels}
use Rattle.zr_frame.proofs.Lengths.{good_packed}
use Rattle.zr_wire.specs.Writing.{writes_message}
use Rattle.zr_wirekey.specs.Names.{NameList}
use Rattle.zr_frame_pack.specs.Packing.{written, parcels_of}
use Rattle.zr_wire.specs.Writable.{IsWritable}
use Rattle.zr_router_queue.specs.Tables.{may_drop, is_droppable}
use Rattle.zr_router_queue.specs.Batches.{bytes_on, written_of}

weaker : (most : ℕ) → most < 2 ^ 16 → (batches : List (List ℕ)) → AllByRecursion (λ b. (0 < length b) × (length b ≤ most)) batches →
    AllByRecursion (λ b. length b ≤ 65535) batches
weaker most few [] h = tt
weaker most few (b ∷ batches) h = let le = h.0.1 in (omega (arith, few, le), weaker most few batches h.1)

-- a batch is never longer than a parcel may be
pub short_parcels : (o : OutboxState) (messages : List (List ℕ)) → IsOutbox o → AllByRecursion (λ b. length b ≤ 65535) (parcels o messages).batches
short_parcels o messages h = weaker o.batch h.small (parcels o messages).batches (good_packed messages o None h tt).short

-- whether those that are left are one sample that may be dropped, where there was none before or one
abbrev pub droppable_from : Option Bool → List Msg → Bool
droppable_from None messages = is_droppable messages
droppable_from (Some only) [] = only
droppable_from (Some only) (m ∷ messages) = false

pub droppable_first : (m : Msg) (messages : List Msg) → is_droppable (m ∷ messages) ≡ droppable_from (Some (may_drop m)) messages
droppable_first m [] = refl
droppable_first m (n ∷ messages) = refl

-- a message for another link changes nothing, and the first one for the link is the only one so far
pub droppable_other : (only : Option Bool) (link : LinkNo) (x : LinkNo × Msg) (rest : List (LinkNo × Msg)) → (x.0.0 == link.0) ≡ false →
    droppable_from only (on_link link rest) ≡ droppable_from only (on_link link (x ∷ rest))
droppable_other only link x rest e = ap (λ b. droppable_from only (map (λ y. y.1) (cond b (x ∷ filter (λ y. y.0.0 == link.0) rest) (filter (λ y. y.0.0 == link.0) rest)))) (sym e)

pub droppable_one : (link : LinkNo) (x : LinkNo × Msg) (rest : List (LinkNo × Msg)) → (x.0.0 == link.0) ≡ true →
    droppable_from (Some (may_drop x.1)) (on_link link rest) ≡ droppable_from None (on_link link (x ∷ rest))
droppable_one link x rest e =
    sym (droppable_first x.1 (on_link link rest))
    ∙ ap (λ b. droppable_from None (map (λ y. y.1) (cond b (x ∷ filter (λ y. y.0.0 == link.0) rest) (filter (λ y. y.0.0 == link.0) rest)))) (sym e)

-- what was written for a link is what was sent on it
pub on_written : (link : LinkNo) (sent : List (LinkNo × Msg)) → bytes_on link (written_of sent) ≡ map writes_message (on_link link sent)
on_written link [] = refl
on_written link (x ∷ sent) = by (x.0.0 == link.0) (on_written link sent)
  where
    by : (b : Bool) → bytes_on link (written_of sent) ≡ map writes_message (on_link link sent) →
        map (λ y. y.1) (cond b ((x.0, writes_message x.1) ∷ filter (λ y. y.0.0 == link.0) (written_of sent)) (filter (λ y. y.0.0 == link.0) (written_of sent)))
        ≡ map writes_message (map (λ y. y.1) (cond b (x ∷ filter (λ y. y.0.0 == link.0) sent) (filter (λ y. y.0.0 == link.0) sent)))
    by true ih = ap (λ z. writes_message x.1 ∷ z) ih
    by false ih = ih

-- nor is one of what is packed with numbers
pub short_packed : (o : OutboxState) (messages : List Msg) → IsOutbox o → AllByRecursion (λ b. length b ≤ 65535) (parcels_of o messages).batches
short_packed o messages h = short_parcels o (written o.names messages).messages h

-- the first message of a link whose bytes are one
pub alone_on : (link : LinkNo) (sent : List (LinkNo × Msg)) (m : Msg) (more : List Msg) (bytes : List ℕ) → bytes_on link (written_of sent) ≡ bytes ∷ [] →
    on_link link sent ≡ m ∷ more → (on_link link sent ≡ m ∷ []) × (bytes ≡ writes_message m)
alone_on link sent m more bytes one is = by more is (sym (on_written link sent ∙ ap (λ l. map writes_message l) is) ∙ one)
  where
    by : (more : List Msg) → on_link link sent ≡ m ∷ more → map writes_message (m ∷ more) ≡ bytes ∷ [] → (on_link link sent ≡ m ∷ []) × (bytes ≡ writes_message m)
    by [] is e = (is, cc)
    by (n ∷ more) is e = absurd cc

-- a message on a link may be written, as all that was sent
pub writable_on : (link : LinkNo) (sent : List (LinkNo × Msg)) (m : Msg) (more : List Msg) → All (λ x. IsWritable x.1) sent → on_link link sent ≡ m ∷ more → IsWritable m
writable_on link sent m more all is = by sent (recursion_from_All (λ x. IsWritable x.1) sent all) is
  where
    by : (sent : List (LinkNo × Msg)) → AllByRecursion (λ x. IsWritable x.1) sent → on_link link sent ≡ m ∷ more → IsWritable m
    by [] all is = absurd cc
    by (x ∷ sent) all is = one (x.0.0 == link.0) is (by sent all.1)
      where
        one : (b : Bool) → map (λ y. y.1) (cond b (x ∷ filter (λ y. y.0.0 == link.0) sent) (filter (λ y. y.0.0 == link.0) sent)) ≡ m ∷ more →
            (on_link link sent ≡ m ∷ more → IsWritable m) → IsWritable m
        one true is ih = let same : x.1 ≡ m = cc in subst IsWritable same all.0
        one false is ih = ih is

-- an end that gives no numbers writes whole keys
none_written : (messages : List Msg) → written None messages ≡ record { messages = map writes_message messages; names = None }
none_written [] = refl
none_written (m ∷ messages) = ap (λ w. record { messages = writes_message m ∷ w.messages; names = w.names }) (none_written messages)

pub copied : (names : Option NameList) (link : LinkNo) (sent : List (LinkNo × Msg)) → is_some names ≡ false →
    written names (on_link link sent) ≡ record { messages = bytes_on link (written_of sent); names = names }
copied None link sent e = none_written (on_link link sent) ∙ ap (λ z. record { messages = z; names = None }) (sym (on_written link sent))
copied (Some names) link sent e = absurd cc

-- a message for another link is none for this one, and one for it is the next
pub on_next : (link : LinkNo) (x : LinkNo × Msg) (rest : List (LinkNo × Msg)) → (x.0.0 == link.0) ≡ true → on_link link (x ∷ rest) ≡ x.1 ∷ on_link link rest
on_next link x rest e = ap (λ b. map (λ y. y.1) (cond b (x ∷ filter (λ y. y.0.0 == link.0) rest) (filter (λ y. y.0.0 == link.0) rest))) e

pub on_other : (link : LinkNo) (x : LinkNo × Msg) (rest : List (LinkNo × Msg)) → (x.0.0 == link.0) ≡ false → on_link link (x ∷ rest) ≡ on_link link rest
on_other link x rest e = ap (λ b. map (λ y. y.1) (cond b (x ∷ filter (λ y. y.0.0 == link.0) rest) (filter (λ y. y.0.0 == link.0) rest))) e

-- a plan's parcels, and the outbox behind them
pub parcels_are : (batches : List (List ℕ)) (o : OutboxState) (p : Parcels) → batches ≡ p.batches → o ≡ p.outbox → record { batches = batches; outbox = o } ≡ p
parcels_are batches o p e f = ap (λ z. record { batches = z; outbox = o }) e ∙ ap (λ z. record { batches = p.batches; outbox = z }) f
