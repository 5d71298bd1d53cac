-- An outbox with names, as it is kept: one without, and the names beside it.
use Rattle.std.proofs.Common.{◌≡◌, ℕ, ◌++◌, Bool, true, false, List, [], ◌∷◌, length, Option, Some, None, is_none, suc, ◌+◌, refl, sym, ap, subst, ◌∙◌, arith}
use Rattle.std.specs.Prelude.{◌&&◌, is_some, if◌then◌else◌, Result, Ok, Err, OnOk, OnErr}
use Rattle.std.proofs.lemmas.Bool.{false≢true}
use Rattle.zr_msg.specs.declared.msg.Msg.{Msg}
use Rattle.zr_wirekey.specs.Names.{NameList, number_of, has_room}
use Rattle.zr_wirekey.specs.Writing.{writes_name}
use Rattle.zr_wire.specs.Writing.{text_of, writes_numbered}
use Rattle.zr_frame.specs.Outbox.{OutboxState, advanced, with_names}
use Rattle.zr_frame.specs.Packing.{one_parcel, parcels}
use Rattle.zr_frame.proofs.Named.{parcels_named, names_stay}
use Rattle.zr_frame_pack.specs.Marks.{IsLater}
use Rattle.zr_frame_pack.specs.Packing.{names_in, numbered_in, gets_number, written_one}
use Rattle.zr_frame_pack.proofs.NamesGiven.{new_text, written_first}

abbrev pub kept_as : OutboxState → NameList → OutboxState
kept_as o names = with_names o (names_in o.names names)

-- batches
pub pieces_batches : (o : OutboxState) (names : NameList) (messages : List (List ℕ)) → (parcels o messages).batches ≡ (parcels (kept_as o names) messages).batches
pieces_batches o names messages = ap (λ p. p.batches) (sym (parcels_named (names_in o.names names) o messages))

pub pieces_outbox : (o next : OutboxState) (names : NameList) (messages : List (List ℕ)) → next ≡ (parcels o messages).outbox →
    kept_as next names ≡ (parcels (kept_as o names) messages).outbox
pieces_outbox o next names messages e =
    ap (λ z. kept_as z names) e
    ∙ ap (λ n. with_names (parcels o messages).outbox (names_in n names)) (names_stay o messages)
    ∙ ap (λ p. p.outbox) (sym (parcels_named (names_in o.names names) o messages))

pub pieces_names : (o next : OutboxState) (names : NameList) (messages : List (List ℕ)) → next ≡ (parcels o messages).outbox → (kept_as next names).names ≡ (kept_as o names).names
pieces_names o next names messages e = ap (λ z. names_in z.names names) e ∙ ap (λ n. names_in n names) (names_stay o messages)

-- one message in a frame of its own
pub one_kept : (o : OutboxState) (names : NameList) (m batch : List ℕ) → parcels o (m ∷ []) ≡ one_parcel o batch → parcels (kept_as o names) (m ∷ []) ≡ one_parcel (kept_as o names) batch
one_kept o names m batch e =
    parcels_named (names_in o.names names) o (m ∷ []) ∙ ap (λ p. record { batches = p.batches; outbox = with_names p.outbox (names_in o.names names) }) e

pub advanced_kept : (o next : OutboxState) (names : NameList) (fits : Bool) → next ≡ (if fits then advanced o else o) →
    kept_as next names ≡ (if fits then advanced (kept_as o names) else kept_as o names)
advanced_kept o next names true e = ap (λ z. kept_as z names) e
advanced_kept o next names false e = ap (λ z. kept_as z names) e

-- numbers
pub no_names : (first : Option NameList) (names : NameList) (text : Option (List ℕ)) → is_some first ≡ false → numbered_in (names_in first names) text ≡ None
no_names None names text e = refl
no_names (Some first) names text e = absurd cc

pub some_number : (first : Option NameList) (names : NameList) (text : List ℕ) → is_some first ≡ true → numbered_in (names_in first names) (Some text) ≡ number_of names text
some_number None names text e = absurd cc
some_number (Some first) names text e = refl

pub no_text : (names : Option NameList) → numbered_in names None ≡ None
no_text None = refl
no_text (Some names) = refl

pub no_text_gets : (names : Option NameList) → gets_number names None ≡ false
no_text_gets None = refl
no_text_gets (Some names) = refl

pub gets_by : (first : Option NameList) (names : NameList) (text : List ℕ) →
    gets_number (names_in first names) (Some text) ≡ (is_some first && (is_none (number_of names text) && has_room names text))
gets_by None names text = refl
gets_by (Some first) names text = refl

pub who_gets : (first : Option NameList) (names : NameList) (text : List ℕ) → gets_number (names_in first names) (Some text) ≡ true → names_in first names ≡ Some names
who_gets None names text e = absurd cc
who_gets (Some first) names text e = refl

-- what holds where a call answered and where it failed
pub either_way : {T E : Type 0} (r : Result T E) (P Q G : Type 0) → OnOk r P → OnErr r Q → (P → G) → (Q → G) → G
either_way (Ok x) P Q G h k f g = f h
either_way (Err e) P Q G h k f g = g k

-- a key that gets the next number
pub names_given : (o : OutboxState) (names : NameList) (m : Msg) (text : List ℕ) (n : ℕ) → text_of m ≡ Some text → gets_number (kept_as o names).names (text_of m) ≡ true →
    n ≡ length names + 1 →
    ((written_one (kept_as o names).names m).messages ≡ writes_name n text ∷ writes_numbered m n ∷ [])
    × (kept_as o (names ++ text ∷ []) ≡ with_names (kept_as o names) (written_one (kept_as o names).names m).names)
names_given o names m text n is gets next =
    let here : gets_number (names_in o.names names) (Some text) ≡ true = ap (λ t. gets_number (names_in o.names names) t) (sym is) ∙ gets in
    let some : names_in o.names names ≡ Some names = who_gets o.names names text here in
    let mine : gets_number (Some names) (Some text) ≡ true = ap (λ z. gets_number z (Some text)) (sym some) ∙ here in
    let all = ap (λ z. written_one z m) some ∙ written_first names m text is mine in
    let number : suc (length names) ≡ n = omega (arith, next) in
    let more : names_in o.names (names ++ text ∷ []) ≡ Some (names ++ text ∷ []) = more_in o.names some in (
      ap (λ w. w.messages) all ∙ ap (λ k. writes_name k text ∷ writes_numbered m k ∷ []) number,
      ap (λ z. with_names o z) more ∙ ap (λ z. with_names o z) (sym (ap (λ w. w.names) all)),
    )
  where
    more_in : (first : Option NameList) → names_in first names ≡ Some names → names_in first (names ++ text ∷ []) ≡ Some (names ++ text ∷ [])
    more_in None e = cc
    more_in (Some first) e = refl

-- names with one more are later ones
pub later_given : (first : Option NameList) (names : NameList) (text : List ℕ) → IsLater (names_in first names) (names_in first (names ++ text ∷ []))
later_given None names text = ([], refl)
later_given (Some first) names text = (text ∷ [], refl)

pub never_without : (names : Option NameList) (text : Option (List ℕ)) (G : Type 0) → gets_number names text ≡ true → text ≡ None → G
never_without names text G gets none = let not = sym (ap (λ t. gets_number names t) none ∙ no_text_gets names) ∙ gets in absurd (false≢true not)

-- ---- the outbox that they are seen as

-- who gets a number has none, and there is room for it
pub gives_new : (o s : OutboxState) (names : NameList) (key : Option (List ℕ)) (text : List ℕ) → kept_as o names ≡ s → key ≡ Some text → gets_number s.names key ≡ true →
    (number_of names text ≡ None) × (has_room names text ≡ true)
gives_new o s names key text view is gets =
    let mine : gets_number (names_in o.names names) (Some text) ≡ true = ap (λ (z : OutboxState). gets_number z.names (Some text)) view ∙ ap (λ z. gets_number s.names z) (sym is) ∙ gets in
    new_text names text (ap (λ z. gets_number z (Some text)) (sym (who_gets o.names names text mine)) ∙ mine)

-- a key that gets the next number
pub first_put : (o s : OutboxState) (names : NameList) (m : Msg) (text : List ℕ) (n : ℕ) → kept_as o names ≡ s → text_of m ≡ Some text → gets_number s.names (text_of m) ≡ true →
    n ≡ length names + 1 →
    ((written_one s.names m).messages ≡ writes_name n text ∷ writes_numbered m n ∷ []) × (kept_as o (names ++ text ∷ []) ≡ with_names s (written_one s.names m).names)
first_put o s names m text n view is gets next =
    subst (λ (z : OutboxState). gets_number z.names (text_of m) ≡ true →
    ((written_one z.names m).messages ≡ writes_name n text ∷ writes_numbered m n ∷ []) × (kept_as o (names ++ text ∷ []) ≡ with_names z (written_one z.names m).names))
    view (λ g. names_given o names m text n is g next) gets

pub later_put : (o s : OutboxState) (names : NameList) (text : List ℕ) → kept_as o names ≡ s → IsLater s.names (kept_as o (names ++ text ∷ [])).names
later_put o s names text view = subst (λ (z : OutboxState). IsLater z.names (kept_as o (names ++ text ∷ [])).names) view (later_given o.names names text)
