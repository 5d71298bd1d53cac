-- Link records as what spreads: a base knows of each router the number and the links of its record, and the messages that carry records
-- are notes. A record counts one more than its number, so that one of number 0 is more than none. A router that sends its whole base tells all that it knows, and one that sends its own record tells that.
use Rattle.std.proofs.Common.{◌≡◌, ◌≤◌, ◌+◌, max, Bool, true, false, cond, not, List, [], ◌∷◌, map, Option, Some, None, is_some, ◌⊎◌, inl, inr, refl, sym, ap, ◌∙◌, arith}
use Rattle.std.specs.Prelude.{◌&&◌, nat_lt, flat_map}
use Rattle.std.specs.Option.{option_map_or}
use Rattle.std.specs.List.{AllByRecursion}
use Rattle.std.specs.List.Sorted.{IsStrictlySortedBy}
use Rattle.std.specs.Cmp.Lexicographic.{slice_cmp}
use Rattle.std.specs.Ordering.{nat_cmp}
use Rattle.std.specs.declared.cmp.Ordering.TheVariants.{Less}
use Rattle.std.proofs.lemmas.Bool.{false≢true, and_parts, ltb-true, ltb-false}
use Rattle.zr_id.specs.Record.{LinkedState, RecordState}
use Rattle.zr_id.specs.Zid.{is_named}
use Rattle.zr_graph.specs.Record.{ids, record_of, IsAscending}
use Rattle.zr_graph.specs.Base.{BaseState, IsInOrder, own_seq, is_newer, kept, relinked}
use Rattle.zr_graph.proofs.Names.{same_is, same_refl, comes}
use Rattle.zr_graph.proofs.Places.{record_of-put}
use Rattle.zr_lists.proofs.Finds.{find_in}
use Rattle.zr_lists.proofs.Options.{read_cond}
use Rattle.zr_msg.specs.declared.msg.Msg.{Msg}
use Rattle.zr_msg.specs.declared.msg.Msg.TheVariants.{Sub, Unsub, Token, Untoken, Able, Unable, Interest, EndInterest, ToldSub, ToldAble, ToldUnsub, ToldToken, ToldUntoken, ToldUnable, ToldEnd, Push, Request, Response, Final, State, Step, Snap}
use Rattle.zr_node_spec.specs.Table.{own_links, own_record, all_records}
use Rattle.zr_law_settled.proofs.Spreading.{Name, Known, Note, best, AllOf}

-- ---- readings

abbrev pub Links : Type 0
Links = List LinkedState

-- what a record tells; one that is not there tells nothing
abbrev pub known : Option RecordState → Known Links
known None = record { number = 0; value = [] }
known (Some r) = record { number = r.seq + 1; value = r.links }

-- what a base knows of each router
abbrev pub known_of : BaseState → Name → Known Links
known_of b z = known (record_of b.records z)

abbrev pub note_of : RecordState → Note Links
note_of r = record { source = r.id; known = record { number = r.seq + 1; value = r.links } }

-- what a message tells: only records tell of links
abbrev pub notes_in : Msg → List (Note Links)
notes_in (Sub id key) = []
notes_in (Unsub id) = []
notes_in (Token id key) = []
notes_in (Untoken id) = []
notes_in (Able id key complete) = []
notes_in (Unable id) = []
notes_in (Interest id current future kinds key aggregate) = []
notes_in (EndInterest id) = []
notes_in (ToldSub id key interest) = []
notes_in (ToldToken id key interest) = []
notes_in (ToldAble id key complete interest) = []
notes_in (ToldUnsub id) = []
notes_in (ToldUntoken id) = []
notes_in (ToldUnable id) = []
notes_in (ToldEnd interest) = []
notes_in (Push tree content) = []
notes_in (Request tree id target content) = []
notes_in (Response id content) = []
notes_in (Final id extras) = []
notes_in (State links) = note_of links ∷ []
notes_in (Step source number added decl) = []
notes_in (Snap source number decls) = []

-- what messages tell, in order
abbrev pub told : List Msg → List (Note Links)
told msgs = flat_map notes_in msgs

-- ---- bases

pub own_seq_is : (b : BaseState) → is_some (record_of b.records b.me) ≡ true → own_seq b + 1 ≡ (known_of b b.me).number
own_seq_is b own = by (record_of b.records b.me) own
  where
    by : (o : Option RecordState) → is_some o ≡ true → option_map_or (λ r. r.seq) o 0 + 1 ≡ (known o).number
    by None h = absurd (false≢true h)
    by (Some r) h = refl

pub own_links_is : (b : BaseState) → own_links b ≡ (known_of b b.me).value
own_links_is b = by (record_of b.records b.me)
  where
    by : (o : Option RecordState) → option_map_or (λ r. r.links) o [] ≡ (known o).value
    by None = refl
    by (Some r) = refl

pub known_kept : (b : BaseState) (r : RecordState) (z : Name) → known_of (kept b r) z ≡ cond (is_named r.id z) (note_of r).known (known_of b z)
known_kept b r z = ap known (record_of-put b.records r z) ∙ read_cond known (is_named r.id z) (Some r) (record_of b.records z)

-- once its links changed a router knows its new record, and the others as before
pub known_relinked : (b : BaseState) (links : Links) (z : Name) → is_some (record_of b.records b.me) ≡ true →
    known_of (relinked b links) z ≡ cond (is_named b.me z) (record { number = (known_of b b.me).number + 1; value = links }) (known_of b z)
known_relinked b links z own =
    known_kept b (record { id = b.me; seq = own_seq b + 1; links = links }) z
    ∙ ap (λ n. cond (is_named b.me z) (record { number = n + 1; value = links }) (known_of b z)) (own_seq_is b own)

-- a newer record is another router's, and its number is no lower than that of the one that is known
pub newer_is : (b : BaseState) (r : RecordState) → is_newer b r ≡ true → (is_named r.id b.me ≡ false) × ((known_of b r.id).number ≤ r.seq + 1)
newer_is b r h =
    let parts = and_parts (not (is_named r.id b.me)) (option_map_or (λ q. nat_lt q.seq r.seq) (record_of b.records r.id) true) h in
    (other (is_named r.id b.me) parts.0, by (record_of b.records r.id) parts.1)
  where
    other : (t : Bool) → not t ≡ true → t ≡ false
    other true e = absurd (false≢true e)
    other false e = refl

    by : (o : Option RecordState) → option_map_or (λ q. nat_lt q.seq r.seq) o true ≡ true → (known o).number ≤ r.seq + 1
    by None e = omega arith
    by (Some q) e = let lt = ltb-true q.seq r.seq e in omega arith

-- another record is the router's own, or has a number that is no higher than that of the one that is known
pub older_is : (b : BaseState) (r : RecordState) → is_newer b r ≡ false → (is_named r.id b.me ≡ true) ⊎ (r.seq + 1 ≤ (known_of b r.id).number)
older_is b r h = at (is_named r.id b.me) refl h
  where
    by : (o : Option RecordState) → option_map_or (λ q. nat_lt q.seq r.seq) o true ≡ false → r.seq + 1 ≤ (known o).number
    by None e = absurd (false≢true (sym e))
    by (Some q) e = let le = ltb-false q.seq r.seq e in omega arith

    at : (t : Bool) → is_named r.id b.me ≡ t → (not t && option_map_or (λ q. nat_lt q.seq r.seq) (record_of b.records r.id) true) ≡ false → (is_named r.id b.me ≡ true) ⊎ (r.seq + 1 ≤ (known_of b r.id).number)
    at true e k = inl e
    at false e k = inr (by (record_of b.records r.id) k)

-- ---- what is sent

-- all records tell all that is known
pub all_tell : (rs : List RecordState) (z : Name) → (known (record_of rs z)).number ≤ best z (told (map (λ r. State r) rs))
all_tell [] z = omega arith
all_tell (r ∷ rs) z = by (is_named r.id z) (all_tell rs z)
  where
    by : (t : Bool) → (known (record_of rs z)).number ≤ best z (told (map (λ r. State r) rs)) →
        (known (cond t (Some r) (record_of rs z))).number ≤ max (cond t (r.seq + 1) 0) (best z (told (map (λ r. State r) rs)))
    by true ih = omega arith
    by false ih = omega (arith, ih)

-- records in order are each what is known of its router
all_of_base : (t : Name → Known Links) (rs : List RecordState) → IsAscending (ids rs) → ((z : Name) (r : RecordState) → record_of rs z ≡ Some r → t z ≡ (note_of r).known) →
    AllOf t (told (map (λ r. State r) rs))
unfolding IsStrictlySortedBy
all_of_base t [] up h = tt
all_of_base t (r ∷ rs) up h = (h r.id r (ap (λ b. cond b (Some r) (record_of rs r.id)) (same_refl r.id)), all_of_base t rs up.1 (λ z q found. h z q (later z q found)))
  where
    apart : (qs : List RecordState) → AllByRecursion (λ y. slice_cmp nat_cmp r.id y ≡ Less) (ids qs) → (z : Name) (q : RecordState) → record_of qs z ≡ Some q → is_named r.id z ≡ false
    apart [] a z q found = absurd (cc)
    apart (s ∷ qs) a z q found = by (is_named s.id z) refl found (apart qs a.1 z q)
      where
        by : (b : Bool) → is_named s.id z ≡ b → cond b (Some s) (record_of qs z) ≡ Some q → (record_of qs z ≡ Some q → is_named r.id z ≡ false) → is_named r.id z ≡ false
        by true e k ih = ap (λ y. is_named r.id y) (sym (same_is s.id z e)) ∙ (comes r.id s.id a.0).apart
        by false e k ih = ih k

    later : (z : Name) (q : RecordState) → record_of rs z ≡ Some q → record_of (r ∷ rs) z ≡ Some q
    later z q found = ap (λ b. cond b (Some r) (record_of rs z)) (apart rs up.0 z q found) ∙ found

pub base_tells : (b : BaseState) → IsInOrder b → AllOf (known_of b) (told (all_records b))
base_tells b h = all_of_base (known_of b) b.records h.ascending (λ z r found. ap known found)

-- the own record is what is known of the router itself
pub own_tells : (b : BaseState) → AllOf (known_of b) (told (own_record b))
own_tells b = by (record_of b.records b.me) refl
  where
    by : (o : Option RecordState) → record_of b.records b.me ≡ o → AllOf (known_of b) (told (option_map_or (λ r. State r ∷ []) o []))
    by None e = tt
    by (Some r) e = let named = same_is r.id b.me (find_in (λ q. is_named q.id b.me) b.records r e).1 in (ap (known_of b) named ∙ ap known e, tt)

pub own_told : (b : BaseState) → (known_of b b.me).number ≤ best b.me (told (own_record b))
own_told b = by (record_of b.records b.me) refl
  where
    by : (o : Option RecordState) → record_of b.records b.me ≡ o → (known o).number ≤ best b.me (told (option_map_or (λ r. State r ∷ []) o []))
    by None e = omega arith
    by (Some r) e =
        let named : is_named r.id b.me ≡ true = (find_in (λ q. is_named q.id b.me) b.records r e).1 in
        here (is_named r.id b.me) named
      where
        here : (t : Bool) → t ≡ true → r.seq + 1 ≤ max (cond t (r.seq + 1) 0) 0
        here true k = omega arith
        here false k = absurd (false≢true k)
