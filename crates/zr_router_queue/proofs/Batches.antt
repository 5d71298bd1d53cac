-- The bytes of the parcels among what a ring was given.
use Rattle.std.proofs.Common.{◌≡◌, ◌+◌, ◌-◌, ℕ, Bool, true, false, Option, None, is_none, option_map, List, [], ◌∷◌, ◌++◌, length, Some, slice_get, refl, sym, ap, ◌∙◌, arith, append_assoc}
use Rattle.std.specs.Prelude.{is_some}
use Rattle.std.proofs.lemmas.Bool.{false≢true, true≢false}
use Rattle.std.proofs.lemmas.List.{length-append, append-nil}
use Rattle.zr_ring.specs.declared.parcel.Note.{Ghosts}
use Rattle.zr_ring.specs.declared.parcel.Parcel.{Parcel}
use Rattle.zr_ring.specs.declared.parcel.Item.{Item}
use Rattle.zr_ring.specs.declared.parcel.Item.TheVariants.{One, Last}
use Rattle.zr_ring.specs.Items.{ends_given, end_of, AddsEnd}
use Rattle.zr_ring.proofs.Items.{end_of_last}
use Rattle.zr_ring.specs.declared.giver.Giver.{Giver}
use Rattle.zr_ring.specs.Giver.{sent, is_going, number}
use Rattle.zr_router_queue.specs.Note.{batches_of, full_reason}
use Rattle.zr_router_queue.specs.Ends.{last_reason}
use Rattle.zr_router_queue.specs.Tables.{LinkQueue, with_parcels}

-- the element between what is before it and what is behind it
pub get_between : {X : Type 0} (xs : List X) (x : X) (ys : List X) → slice_get (xs ++ x ∷ ys) (length xs) ≡ Some x
get_between [] x ys = refl
get_between (z ∷ xs) x ys = get_between xs x ys

-- the element at the end of what is before it
pub stands_next : (xs before : List (List ℕ)) (x : List ℕ) (more : List (List ℕ)) (place : ℕ) → xs ≡ before ++ x ∷ more → place ≡ length before → slice_get xs place ≡ Some x
stands_next xs before x more place is at = ap (λ z. slice_get z place) is ∙ ap (λ n. slice_get (before ++ x ∷ more) n) at ∙ get_between before x more

open_count : (x : Bool) (n : ℕ) → x ≡ true → n - ends_given x ≡ n
open_count true n e = omega arith
open_count false n e = absurd (false≢true e)

shut_count : (x : Bool) (n : ℕ) → x ≡ false → (n + 1) - ends_given x ≡ n
shut_count true n e = absurd (true≢false e)
shut_count false n e = omega arith

module _ {N : Type 0} {g : Ghosts N} where
  pub batches_append : (xs ys : List (Item N g)) → batches_of (xs ++ ys) ≡ batches_of xs ++ batches_of ys
  batches_append [] ys = refl
  batches_append (One p ∷ xs) ys = ap (λ z. p.bytes ∷ z) (batches_append xs ys)
  batches_append (Last e ∷ xs) ys = batches_append xs ys

  -- ---- what a giver was given, seen as batches

  -- one parcel more: it is counted, and stands behind
  pub given_more : (old new : Giver N g) (p : Parcel N g) → is_going old ≡ true → is_going new ≡ true → sent new ≡ sent old ++ One p ∷ [] →
      number old ≡ length (batches_of (sent old)) →
      (batches_of (sent new) ≡ batches_of (sent old) ++ p.bytes ∷ []) × (number new ≡ length (batches_of (sent new))) × (number new ≡ number old + 1)
  given_more old new p was going more numbered =
      let e : batches_of (sent new) ≡ batches_of (sent old) ++ p.bytes ∷ [] = ap batches_of more ∙ batches_append (sent old) (One p ∷ []) in
      let counted : number old ≡ length (sent old) = open_count (is_going old) (length (sent old)) was in
      let all : length (sent new) ≡ length (sent old) + 1 = ap length more ∙ length-append (sent old) (One p ∷ []) in
      let bytes : length (batches_of (sent new)) ≡ length (batches_of (sent old)) + 1 = ap length e ∙ length-append (batches_of (sent old)) (p.bytes ∷ []) in
      let here : number new ≡ length (sent new) = open_count (is_going new) (length (sent new)) going in
      (e, omega (arith, counted, all, bytes, here, numbered), omega (arith, counted, all, here))

  -- the end: it is no parcel
  pub given_end : (old new : Giver N g) (reason : Option ℕ) (note : N) → is_going old ≡ true → is_going new ≡ false → AddsEnd (sent old) (sent new) reason note →
      number old ≡ length (batches_of (sent old)) →
      (batches_of (sent new) ≡ batches_of (sent old)) × (number new ≡ length (batches_of (sent new)))
  given_end old new reason note was shut adds numbered =
      let e : batches_of (sent new) ≡ batches_of (sent old) = ap batches_of adds.1 ∙ batches_append (sent old) (Last adds.0 ∷ []) ∙ append-nil (batches_of (sent old)) in
      let counted : number old ≡ length (sent old) = open_count (is_going old) (length (sent old)) was in
      let all : length (sent new) ≡ length (sent old) + 1 = ap length adds.1 ∙ length-append (sent old) (Last adds.0 ∷ []) in
      let here : number new ≡ length (sent old) = ap (λ n. n - ends_given (is_going new)) all ∙ shut_count (is_going new) (length (sent old)) shut in
      (e, here ∙ sym counted ∙ numbered ∙ ap length (sym e))

  -- ---- the end among what was given

  -- the end that was added is the end, where there was none
  pub end_of_end : (before after : List (Item N g)) (reason : Option ℕ) (note : N) → end_of before ≡ None → AddsEnd before after reason note → end_of after ≡ Some reason
  end_of_end before after reason note none adds = ap end_of adds.1 ∙ end_of_last before adds.0 none ∙ ap (λ r. Some r) adds.3

-- what is made of none is none, whatever is made of it
pub none_too : {X Y Z : Type 0} (f : X → Y) (h : X → Z) (o : Option X) → option_map f o ≡ None → option_map h o ≡ None
none_too f h None e = refl
none_too f h (Some x) e = absurd (false≢true (ap is_none e))

-- a link that no event has closed, and one that an event has
pub is_none_of : {X : Type 0} (o : Option X) → is_some o ≡ false → is_none o ≡ true
is_none_of None e = refl
is_none_of (Some x) e = absurd (true≢false e)

pub map_none : {X Y : Type 0} (f : X → Y) (o : Option X) → is_some o ≡ false → option_map f o ≡ None
map_none f None e = refl
map_none f (Some x) e = absurd (true≢false e)

pub map_some : {X : Type 0} (f : X → ℕ) (o : Option X) (reason : Option ℕ) → is_some o ≡ true → option_map (λ x. Some full_reason) o ≡ Some (last_reason (option_map f o) reason)
map_some f None reason e = absurd (false≢true e)
map_some f (Some x) reason e = refl

-- what none is made of is none
pub none_of : {X Y : Type 0} (f : X → Y) (o : Option X) → option_map f o ≡ None → is_none o ≡ true
none_of f None e = refl
none_of f (Some x) e = absurd (false≢true (ap is_none e))

-- ---- batches that are given one by one

-- a queue with one batch more, and those that are left behind it
pub with_next : (q q' : LinkQueue) (b : List ℕ) (rest : List (List ℕ)) → q' ≡ with_parcels q (record { batches = b ∷ []; outbox = q.outbox }) →
    with_parcels q' (record { batches = rest; outbox = q'.outbox }) ≡ with_parcels q (record { batches = b ∷ rest; outbox = q.outbox })
with_next q q' b rest is =
    ap (λ z. with_parcels z (record { batches = rest; outbox = z.outbox })) is
    ∙ ap (λ bs. record { link = q.link; role = q.role; is_up = q.is_up; outbox = q.outbox; batches = bs; closed = q.closed }) (append_assoc q.batches (b ∷ []) rest)
