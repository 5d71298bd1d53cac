-- What is written of a message, where its key has a number, gets one, or goes whole; and which texts have numbers then.
use Rattle.std.proofs.Common.{◌≡◌, ℕ, suc, Bool, true, false, List, [], ◌∷◌, ◌++◌, length, Option, Some, None, is_none, refl, sym, ap, subst, ◌∙◌, append-nil, append_assoc}
use Rattle.std.specs.Prelude.{◌&&◌, is_some}
use Rattle.std.proofs.lemmas.Bool.{and_parts, false≢true}
use Rattle.zr_msg.specs.declared.msg.Msg.{Msg}
use Rattle.zr_wirekey.specs.Names.{NameList, number_of, has_room}
use Rattle.zr_wirekey.specs.Writing.{writes_name}
use Rattle.zr_wire.specs.Writing.{writes_message, writes_numbered, text_of}
use Rattle.zr_frame.specs.Outbox.{OutboxState, with_names}
use Rattle.zr_frame.specs.Packing.{parcels}
use Rattle.zr_frame.proofs.Named.{parcels_named}
use Rattle.zr_frame_pack.specs.Marks.{with_more, IsLater}
use Rattle.zr_frame_pack.specs.Packing.{Written, with_number, written_by, written_one, before, written, parcels_with, parcels_of, numbered_in, gets_number}

-- ---- one message

-- its key has a number
given : (number : Option ℕ) (n : ℕ) (room : Bool) (names : NameList) (text : List ℕ) (m : Msg) → number ≡ Some n →
    with_number number room names text m ≡ record { messages = writes_numbered m n ∷ []; names = Some names }
given None n room names text m e = cc
given (Some k) n room names text m e = let same : k ≡ n = cc in ap (λ z. record { messages = writes_numbered m z ∷ []; names = Some names }) same

of_text : (text : Option (List ℕ)) (n : ℕ) (names : NameList) (m : Msg) → numbered_in (Some names) text ≡ Some n →
    written_by text names m ≡ record { messages = writes_numbered m n ∷ []; names = Some names }
of_text None n names m e = cc
of_text (Some text) n names m e = given (number_of names text) n (has_room names text) names text m e

pub written_given : (names : Option NameList) (m : Msg) (n : ℕ) → numbered_in names (text_of m) ≡ Some n →
    written_one names m ≡ record { messages = writes_numbered m n ∷ []; names = names }
written_given None m n e = cc
written_given (Some names) m n e = of_text (text_of m) n names m e

-- its key gets one
first_given : (number : Option ℕ) (room : Bool) (names : NameList) (text : List ℕ) (m : Msg) → (is_none number && room) ≡ true →
    with_number number room names text m
    ≡ record { messages = writes_name (suc (length names)) text ∷ writes_numbered m (suc (length names)) ∷ []; names = Some (names ++ text ∷ []) }
first_given None true names text m e = refl
first_given None false names text m e = cc
first_given (Some k) room names text m e = cc

pub written_first : (names : NameList) (m : Msg) (text : List ℕ) → text_of m ≡ Some text → gets_number (Some names) (Some text) ≡ true →
    written_one (Some names) m
    ≡ record { messages = writes_name (suc (length names)) text ∷ writes_numbered m (suc (length names)) ∷ []; names = Some (names ++ text ∷ []) }
written_first names m text is gets = ap (λ t. written_by t names m) is ∙ first_given (number_of names text) (has_room names text) names text m gets

-- it goes whole
not_given : (number : Option ℕ) (room : Bool) (names : NameList) (text : List ℕ) (m : Msg) → number ≡ None → (is_none number && room) ≡ false →
    with_number number room names text m ≡ record { messages = writes_message m ∷ []; names = Some names }
not_given None true names text m e f = cc
not_given None false names text m e f = refl
not_given (Some k) room names text m e f = cc

of_none : (text : Option (List ℕ)) (names : NameList) (m : Msg) → numbered_in (Some names) text ≡ None → gets_number (Some names) text ≡ false →
    written_by text names m ≡ record { messages = writes_message m ∷ []; names = Some names }
of_none None names m e f = refl
of_none (Some text) names m e f = not_given (number_of names text) (has_room names text) names text m e f

pub written_whole : (names : Option NameList) (m : Msg) → numbered_in names (text_of m) ≡ None → gets_number names (text_of m) ≡ false →
    written_one names m ≡ record { messages = writes_message m ∷ []; names = names }
written_whole None m e f = refl
written_whole (Some names) m e f = of_none (text_of m) names m e f

-- who gets a number has names, and a key
pub with_names_in : (first names : Option NameList) (text : Option (List ℕ)) → gets_number names text ≡ true → is_some names ≡ true
with_names_in first None text e = cc
with_names_in first (Some names) text e = refl

pub new_text : (names : NameList) (text : List ℕ) → gets_number (Some names) (Some text) ≡ true → (number_of names text ≡ None) × (has_room names text ≡ true)
new_text names text e = by (number_of names text) (and_parts (is_none (number_of names text)) (has_room names text) e)
  where
    by : (n : Option ℕ) → (is_none n ≡ true) × (has_room names text ≡ true) → (n ≡ None) × (has_room names text ≡ true)
    by None h = (refl, h.1)
    by (Some k) h = absurd (false≢true h.0)

-- ---- names only come

pub later_alike : (names : Option NameList) → IsLater names names
later_alike None = ([], refl)
later_alike (Some names) = ([], ap (λ n. Some n) (sym (append-nil names)))

pub later_same : (names later : Option NameList) → later ≡ names → IsLater names later
later_same names later e = subst (λ z. IsLater names z) (sym e) (later_alike names)

pub later_then : (a b c : Option NameList) → IsLater a b → IsLater b c → IsLater a c
later_then None b c x y = ([], y.1 ∙ ap (λ n. with_more n y.0) x.1)
later_then (Some a) b c x y = (x.0 ++ y.0, y.1 ∙ ap (λ n. with_more n y.0) x.1 ∙ ap (λ n. Some n) (append_assoc a x.0 y.0))

by_number : (number : Option ℕ) (room : Bool) (names : NameList) (text : List ℕ) (m : Msg) → IsLater (Some names) (with_number number room names text m).names
by_number (Some n) room names text m = later_alike (Some names)
by_number None true names text m = (text ∷ [], refl)
by_number None false names text m = later_alike (Some names)

by_text : (text : Option (List ℕ)) (names : NameList) (m : Msg) → IsLater (Some names) (written_by text names m).names
by_text None names m = later_alike (Some names)
by_text (Some text) names m = by_number (number_of names text) (has_room names text) names text m

pub later_one : (names : Option NameList) (m : Msg) → IsLater names (written_one names m).names
later_one None m = later_alike None
later_one (Some names) m = by_text (text_of m) names m

pub later_written : (names : Option NameList) (messages : List Msg) → IsLater names (written names messages).names
later_written names [] = later_alike names
later_written names (m ∷ messages) =
    later_then names (written_one names m).names (written names (m ∷ messages)).names (later_one names m) (later_written (written_one names m).names messages)

-- ---- message by message

-- what was written so far, and what is written of those that are left
pub written_more : (done : List (List ℕ)) (names : Option NameList) (m : Msg) (messages : List Msg) →
    before (record { messages = done ++ (written_one names m).messages; names = (written_one names m).names }) (λ next. written next messages)
    ≡ before (record { messages = done; names = names }) (λ next. written next (m ∷ messages))
written_more done names m messages =
    ap (λ z. record { messages = z; names = (written (written_one names m).names messages).names }) (append_assoc done (written_one names m).messages (written (written_one names m).names messages).messages)

-- ---- packing

-- what is written is packed as it is
pub packed_written : (o next : OutboxState) (w : Written) (messages : List (List ℕ)) → messages ≡ w.messages → next ≡ with_names o w.names → parcels next messages ≡ parcels_with o w
packed_written o next w messages is here = ap (λ z. parcels next z) is ∙ ap (λ z. parcels z w.messages) here ∙ parcels_named w.names o w.messages

-- one message that declares no number
pub packed_one : (o : OutboxState) (m : Msg) (bytes : List ℕ) → written_one o.names m ≡ record { messages = bytes ∷ []; names = o.names } →
    parcels_of o (m ∷ []) ≡ parcels o (bytes ∷ [])
packed_one o m bytes e =
    ap (λ (w : Written). parcels_with o (record { messages = w.messages ++ []; names = w.names })) e ∙ sym (parcels_named o.names o (bytes ∷ []))

-- one message
pub packed_apart : (o next : OutboxState) (m : Msg) (messages : List (List ℕ)) → messages ≡ (written_one o.names m).messages → next ≡ with_names o (written_one o.names m).names →
    parcels next messages ≡ parcels_of o (m ∷ [])
packed_apart o next m messages is here =
    packed_written o next (written_one o.names m) messages is here
    ∙ ap (λ z. parcels_with o (record { messages = z; names = (written_one o.names m).names })) (sym (append-nil (written_one o.names m).messages))

-- one message more was put, of those that are left
pub put_more : (start : OutboxState) (all : Written) (messages done : List (List ℕ)) (o next : OutboxState) (m : Msg) (left more : List Msg) →
    before (record { messages = messages; names = o.names }) (λ names. written names left) ≡ all → o ≡ with_names start o.names → IsLater start.names o.names →
    left ≡ m ∷ more → done ≡ messages ++ (written_one o.names m).messages → next ≡ with_names o (written_one o.names m).names → IsLater o.names next.names →
    (before (record { messages = done; names = next.names }) (λ names. written names more) ≡ all) × (next ≡ with_names start next.names) × IsLater start.names next.names
put_more start all messages done o next m left more is same later first put named since =
    let names : next.names ≡ (written_one o.names m).names = ap (λ z. z.names) named in (
      ap (λ z. before (record { messages = z; names = next.names }) (λ n. written n more)) put
          ∙ ap (λ z. before (record { messages = messages ++ (written_one o.names m).messages; names = z }) (λ n. written n more)) names
          ∙ written_more messages o.names m more
          ∙ ap (λ z. before (record { messages = messages; names = o.names }) (λ n. written n z)) (sym first)
          ∙ is,
      named ∙ ap (λ z. with_names z (written_one o.names m).names) same ∙ ap (λ z. with_names start z) (sym names),
      later_then start.names o.names next.names later since,
    )

-- none is left
pub put_all : (start : OutboxState) (all : Written) (messages : List (List ℕ)) (o : OutboxState) (left : List Msg) →
    before (record { messages = messages; names = o.names }) (λ names. written names left) ≡ all → o ≡ with_names start o.names → left ≡ [] →
    (messages ≡ all.messages) × (o ≡ with_names start all.names)
put_all start all messages o left is same none =
    let e = ap (λ z. before (record { messages = messages; names = o.names }) (λ n. written n z)) (sym none) ∙ is in
    (sym (append-nil messages) ∙ ap (λ w. w.messages) e, same ∙ ap (λ w. with_names start w.names) e)

-- none was put
pub put_none : (start : OutboxState) (done : List (List ℕ)) (messages : List Msg) → done ≡ [] →
    (before (record { messages = done; names = start.names }) (λ names. written names messages) ≡ written start.names messages)
    × (start ≡ with_names start start.names) × IsLater start.names start.names
put_none start done messages none =
    (ap (λ z. before (record { messages = z; names = start.names }) (λ names. written names messages)) none, refl, later_alike start.names)

-- one that isn't for this end
pub put_other : (start : OutboxState) (all : Written) (messages : List (List ℕ)) (o : OutboxState) (left more : List Msg) →
    before (record { messages = messages; names = o.names }) (λ names. written names left) ≡ all → o ≡ with_names start o.names → IsLater start.names o.names → left ≡ more →
    (before (record { messages = messages; names = o.names }) (λ names. written names more) ≡ all) × (o ≡ with_names start o.names) × IsLater start.names o.names
put_other start all messages o left more is same later e =
    (ap (λ z. before (record { messages = messages; names = o.names }) (λ n. written n z)) (sym e) ∙ is, same, later)
