-- What stands in front of the shared bytes of a message, and from where on these follow.
use Rattle.std.proofs.Common.{◌≡◌, ℕ, ◌-◌, ◌≤◌, false, List, [], ◌∷◌, ◌++◌, length, ◌+◌, drop, Option, Some, None, refl, sym, ap, ◌∙◌, append_assoc, arith}
use Rattle.std.specs.Prelude.{IfSome}
use Rattle.std.proofs.lemmas.List.{drop_at, length-append, length-drop}
use Rattle.zr_msg.specs.declared.msg.Msg.{Msg}
use Rattle.zr_wirekey.specs.Names.{NameList}
use Rattle.zr_net.specs.Writing.{writes_front, writes_back}
use Rattle.zr_wire.specs.Writing.{text_of, writes_message}
use Rattle.zr_wire.proofs.Front.{front_and_back}
use Rattle.zr_frame.specs.Outbox.{OutboxState}
use Rattle.zr_frame.specs.Packing.{one_parcel, parcels}
use Rattle.zr_frame_pack.specs.Packing.{written_one, numbered_in, gets_number, parcels_of}
use Rattle.zr_frame_pack.proofs.NamesGiven.{packed_one, written_given, written_whole}

text_numbered : (names : Option NameList) (text : Option (List ℕ)) (n : ℕ) → numbered_in names text ≡ Some n → (t : List ℕ) × (text ≡ Some t)
text_numbered None text n e = absurd cc
text_numbered (Some names) None n e = absurd cc
text_numbered (Some names) (Some t) n e = (t, refl)

-- a key with a number
pub numbered_front : (names : Option NameList) (m : Msg) (n : ℕ) (front : List ℕ) (from : ℕ) → numbered_in names (text_of m) ≡ Some n → front ≡ writes_front m n →
    from ≡ length (writes_front m 0) →
    (from ≤ length (writes_message m)) × (written_one names m ≡ record { messages = (front ++ drop from (writes_message m)) ∷ []; names = names })
numbered_front names m n front from e is at =
    let t = text_numbered names (text_of m) n e in
    let whole : writes_message m ≡ writes_front m 0 ++ writes_back m = front_and_back m t.0 0 t.1 in
    let long : length (writes_message m) ≡ length (writes_front m 0) + length (writes_back m) = ap length whole ∙ length-append (writes_front m 0) (writes_back m) in
    let end : drop from (writes_message m) ≡ writes_back m = ap (λ b. drop from b) whole ∙ drop_at (writes_front m 0) (writes_back m) from (sym at) in (
      omega (arith, at, long),
      written_given names m n e
          ∙ ap (λ b. record { messages = b ∷ []; names = names }) (front_and_back m t.0 n t.1 ∙ ap (λ f. f ++ writes_back m) (sym is) ∙ ap (λ b. front ++ b) (sym end)),
    )

-- a key that goes whole
pub whole_front : (names : Option NameList) (m : Msg) (front : List ℕ) → numbered_in names (text_of m) ≡ None → gets_number names (text_of m) ≡ false → front ≡ [] →
    written_one names m ≡ record { messages = (front ++ drop 0 (writes_message m)) ∷ []; names = names }
whole_front names m front e f is = written_whole names m e f ∙ ap (λ z. record { messages = (z ++ writes_message m) ∷ []; names = names }) (sym is)

-- a message whose front and end are one frame of its own
pub framed_alone : (o : OutboxState) (m : Msg) (front bytes : List ℕ) (from : ℕ) → bytes ≡ writes_message m →
    written_one o.names m ≡ record { messages = (front ++ drop from (writes_message m)) ∷ []; names = o.names } → (r : Option (List ℕ)) →
    IfSome r (λ b. parcels o ((front ++ drop from bytes) ∷ []) ≡ one_parcel o b) → IfSome r (λ b. parcels_of o (m ∷ []) ≡ one_parcel o b)
framed_alone o m front bytes from is here None h = tt
framed_alone o m front bytes from is here (Some b) h =
    packed_one o m (front ++ drop from bytes) (here ∙ ap (λ z. record { messages = (front ++ drop from z) ∷ []; names = o.names }) (sym is)) ∙ h

-- a head, a front and the end of the shared bytes as one frame
pub one_behind : (o : OutboxState) (head front bytes : List ℕ) (from count : ℕ) → from ≤ length bytes → count ≡ length front + (length bytes - from) →
    ((m : List ℕ) → length m ≡ count → parcels o (m ∷ []) ≡ one_parcel o (head ++ m)) →
    parcels o ((front ++ drop from bytes) ∷ []) ≡ one_parcel o ((head ++ front) ++ drop from bytes)
one_behind o head front bytes from count within is alone =
    let long : length (front ++ drop from bytes) ≡ count = omega (arith, is, within, length-append front (drop from bytes), length-drop from bytes) in
    alone (front ++ drop from bytes) long ∙ ap (λ b. one_parcel o b) (sym (append_assoc head front (drop from bytes)))
