-- The laws of packing: its batches are short enough, and what is packed is received again.
use Rattle.std.specs.Prelude.{◌≡◌, ℕ, ◌<◌, ◌≤◌, ◌⊎◌, Bool, true, List, [], ◌∷◌, ◌++◌, length, Option, Ok}
use Rattle.std.specs.List.{AllByRecursion, concat}
use Rattle.std.specs.Option.{option_to_list}
use Rattle.zr_trans.specs.Reading.{trans_of}
use Rattle.zr_trans.specs.declared.trans.Trans.TheVariants.{Frame, Fragment}
use Rattle.zr_frame.specs.declared.channel.Channel.{Channel}
use Rattle.zr_frame.specs.Channel.{fresh, frame, fragment}
use Rattle.zr_frame.specs.Outbox.{OutboxState, IsOutbox}
use Rattle.zr_frame.specs.Packing.{parcels}

-- Each batch has a byte at least, and no more than the outbox allows. What stands behind them is an outbox again.
abbrev pub ParcelsAreShort : Type 0
ParcelsAreShort = (o : OutboxState) (messages : List (List ℕ)) → IsOutbox o →
    AllByRecursion (λ batch. (0 < length batch) × (length batch ≤ o.batch)) (parcels o messages).batches
    × IsOutbox (parcels o messages).outbox

-- The batch is one reliable frame of these messages, or one reliable fragment that ends a message or ends none, and the
-- channel takes it.
abbrev pub HandsOn : ℕ → Channel → List ℕ → List (List ℕ) → Channel → Type 0
HandsOn most c batch messages next =
    ((n : ℕ) × (trans_of batch ≡ Ok (Frame true n, concat messages)) × (frame c n ≡ Ok (tt, next)))
    ⊎ ((more : Bool) × (n : ℕ) × (piece : List ℕ) × (whole : Option (List ℕ)) × (trans_of batch ≡ Ok (Fragment true more n piece, []))
    × (fragment most c more n piece ≡ Ok (whole, next)) × (messages ≡ option_to_list whole))

-- Batches one behind another hand on these messages, none of them cut.
abbrev pub Delivers : ℕ → Channel → List (List ℕ) → List (List ℕ) → Channel → Type 0
Delivers most c [] messages last = (messages ≡ []) × (last ≡ c)
Delivers most c (batch ∷ batches) messages last =
    (here : List (List ℕ)) × (next : Channel) × (rest : List (List ℕ)) × (messages ≡ here ++ rest)
    × HandsOn most c batch here next × Delivers most next batches rest last

-- the channel of the other end, which expects what the outbox sends next
abbrev pub expecting : OutboxState → Channel
expecting o = fresh o.bits o.next

-- The parcels of messages, each within the limit, deliver exactly these messages, in order. Then the channel expects what
-- the outbox behind them sends; so parcels of several calls one behind another deliver all their messages.
abbrev pub PackedAreReceived : Type 0
PackedAreReceived = (most : ℕ) (o : OutboxState) (messages : List (List ℕ)) → IsOutbox o →
    AllByRecursion (λ message. length message ≤ most) messages →
    Delivers most (expecting o) (parcels o messages).batches messages (expecting (parcels o messages).outbox)
