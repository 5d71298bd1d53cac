-- Packing knows nothing of names: what is packed by an outbox with other names is the same, and the names stay.
use Rattle.std.proofs.Common.{◌≡◌, ℕ, zero, suc, Bool, true, false, List, [], ◌∷◌, ◌++◌, length, Option, Some, None, refl, ap, ◌∙◌}
use Rattle.std.specs.Prelude.{nat_le, drop, take, if◌then◌else◌}
use Rattle.zr_trans.specs.Writing.{writes_trans}
use Rattle.zr_trans.specs.declared.trans.Trans.TheVariants.{Fragment}
use Rattle.zr_wirekey.specs.Names.{NameList}
use Rattle.zr_frame.specs.Outbox.{OutboxState, advanced, with_names}
use Rattle.zr_frame.specs.Packing.{Parcels, one_parcel, before, fits, with_message, closed, room, fragments, packed, parcels}

abbrev pub named : Option NameList → Parcels → Parcels
named names p = record { batches = p.batches; outbox = with_names p.outbox names }

closed_named : (names : Option NameList) (o : OutboxState) (frame : Option (List ℕ)) → closed (with_names o names) frame ≡ named names (closed o frame)
closed_named names o None = refl
closed_named names o (Some frame) = refl

fragments_named : (names : Option NameList) (most : ℕ) (o : OutboxState) (m : List ℕ) → fragments most (with_names o names) m ≡ named names (fragments most o m)
unfolding fragments
fragments_named names zero o m = refl
fragments_named names (suc most) o m = by (nat_le (length m) (room o)) (fragments_named names most (advanced o) (drop (room o) m))
  where
    first : List ℕ
    first = writes_trans (Fragment true true o.next (take (room o) m))

    last : List ℕ
    last = writes_trans (Fragment true false o.next m)

    more : OutboxState → Parcels
    more p = fragments most p (drop (room o) m)

    by : (b : Bool) → more (with_names (advanced o) names) ≡ named names (more (advanced o)) →
        (if b then one_parcel (with_names o names) last else before (one_parcel (with_names o names) first) more) ≡ named names (if b then one_parcel o last else before (one_parcel o first) more)
    by true ih = refl
    by false ih = ap (λ (p : Parcels). record { batches = first ∷ p.batches; outbox = p.outbox }) ih

-- parcels, and those behind them
then_named : (names : Option NameList) (p q : Parcels) (f : OutboxState → Parcels) → q ≡ named names p → ((o : OutboxState) → f (with_names o names) ≡ named names (f o)) → before q f ≡ named names (before p f)
then_named names p q f e h =
    ap (λ (z : Parcels). before z f) e ∙ ap (λ (z : Parcels). record { batches = p.batches ++ z.batches; outbox = z.outbox }) (h p.outbox)

if_named : (names : Option NameList) (b : Bool) (p q x y : Parcels) → x ≡ named names p → y ≡ named names q → (if b then x else y) ≡ named names (if b then p else q)
if_named names true p q x y e f = e
if_named names false p q x y e f = f

-- a message that doesn't fit the frame that has begun, and those behind it
split : List ℕ → List (List ℕ) → OutboxState → Parcels
split m messages p =
    if fits p (with_message p None m) then packed p (Some (with_message p None m)) messages else before (fragments (length m) p m) (λ q. packed q None messages)

abbrev AreNamed : Option NameList → List (List ℕ) → Type 0
AreNamed names messages = (o : OutboxState) (frame : Option (List ℕ)) → packed (with_names o names) frame messages ≡ named names (packed o frame messages)

split_named : (names : Option NameList) (m : List ℕ) (messages : List (List ℕ)) (p : OutboxState) → AreNamed names messages → split m messages (with_names p names) ≡ named names (split m messages p)
unfolding split
split_named names m messages p ih =
    if_named names (fits p (with_message p None m)) (packed p (Some (with_message p None m)) messages) (before (fragments (length m) p m) (λ q. packed q None messages))
    (packed (with_names p names) (Some (with_message p None m)) messages) (before (fragments (length m) (with_names p names) m) (λ q. packed q None messages)) (ih p (Some (with_message p None m)))
    (then_named names (fragments (length m) p m) (fragments (length m) (with_names p names) m) (λ q. packed q None messages) (fragments_named names (length m) p m) (λ q. ih q None))

begun_named : (names : Option NameList) (m : List ℕ) (messages : List (List ℕ)) (o : OutboxState) (frame : Option (List ℕ)) (whole : List ℕ) → AreNamed names messages →
    (if fits o whole then packed (with_names o names) (Some whole) messages else before (closed (with_names o names) frame) (split m messages))
    ≡ named names (if fits o whole then packed o (Some whole) messages else before (closed o frame) (split m messages))
begun_named names m messages o frame whole ih =
    if_named names (fits o whole) (packed o (Some whole) messages) (before (closed o frame) (split m messages)) (packed (with_names o names) (Some whole) messages)
    (before (closed (with_names o names) frame) (split m messages)) (ih o (Some whole))
    (then_named names (closed o frame) (closed (with_names o names) frame) (split m messages) (closed_named names o frame) (λ p. split_named names m messages p ih))

packed_named : (names : Option NameList) (messages : List (List ℕ)) (o : OutboxState) (frame : Option (List ℕ)) → packed (with_names o names) frame messages ≡ named names (packed o frame messages)
unfolding packed split
packed_named names [] o frame = closed_named names o frame
packed_named names (m ∷ messages) o None = begun_named names m messages o None (with_message o None m) (λ p f. packed_named names messages p f)
packed_named names (m ∷ messages) o (Some frame) = begun_named names m messages o (Some frame) (frame ++ m) (λ p f. packed_named names messages p f)

-- THE NAMES are nothing to packing, and stay.
pub parcels_named : (names : Option NameList) (o : OutboxState) (messages : List (List ℕ)) → parcels (with_names o names) messages ≡ named names (parcels o messages)
parcels_named names o messages = packed_named names messages o None

pub names_stay : (o : OutboxState) (messages : List (List ℕ)) → (parcels o messages).outbox.names ≡ o.names
names_stay o messages = ap (λ (p : Parcels). p.outbox.names) (parcels_named o.names o messages)
