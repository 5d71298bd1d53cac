-- Lists of parcels, with an end or without, and what takes tell of them.
use Rattle.std.proofs.Common.{◌≡◌, ◌+◌, ℕ, ◌<◌, ◌≤◌, inl, inr, List, [], ◌∷◌, ◌++◌, length, refl, ap, ◌∙◌, Some, None, length-append, arith}
use mathlib.Core.List.{IsPrefix}
use Rattle.zr_ring.specs.declared.parcel.Note.{Ghosts}
use Rattle.zr_ring.specs.declared.parcel.Parcel.{Parcel}
use Rattle.zr_ring.specs.declared.parcel.Ending.{Ending}
use Rattle.zr_ring.specs.declared.parcel.Item.{Item}
use Rattle.zr_ring.specs.declared.parcel.Item.TheVariants.{One, Last}
use Rattle.zr_ring.specs.declared.taker.Took.{Took}
use Rattle.zr_ring.specs.declared.taker.Took.TheVariants as took
use Rattle.zr_ring.specs.Items.{end_of, GoOnFrom}
use Rattle.zr_ring.specs.Taker.{TakesEnd, Tells}

shorter : {A : Type 0} (xs ys : List A) → IsPrefix xs ys → length xs ≤ length ys
shorter xs ys p = let e : length (xs ++ p.0) ≡ length ys = ap length p.1 in omega (arith, length-append xs p.0)

one_shorter : {A : Type 0} (before after given : List A) (x : A) → after ≡ before ++ x ∷ [] → IsPrefix after given
    → length before < length given
one_shorter before after given x is p =
    let e : length after ≡ length (before ++ x ∷ []) = ap length is in
    let le = shorter after given p in
    omega (arith, length-append before (x ∷ []))

module _ {N : Type 0} {g : Ghosts N} where
  -- one parcel more, at the next place: for loops that build what is to be given
  pub go_on_more : (n : ℕ) (parcels : List (Parcel N g)) (p : Parcel N g) → GoOnFrom n parcels → p.place ≡ n + length parcels
      → GoOnFrom n (parcels ++ p ∷ [])
  go_on_more n [] p h e = (let is : p.place ≡ n = omega (arith, e) in is, tt)
  go_on_more n (q ∷ parcels) p h e = (h.0, go_on_more (n + 1) parcels p h.1 (omega (arith, e)))

  pub end_of_one : (xs : List (Item N g)) (p : Parcel N g) → end_of (xs ++ One p ∷ []) ≡ end_of xs
  end_of_one [] p = refl
  end_of_one (One q ∷ xs) p = end_of_one xs p
  end_of_one (Last e ∷ xs) p = refl

  pub end_of_last : (xs : List (Item N g)) (e : Ending N g) → end_of xs ≡ None → end_of (xs ++ Last e ∷ []) ≡ Some e.reason
  end_of_last [] e h = refl
  end_of_last (One q ∷ xs) e h = end_of_last xs e h
  end_of_last (Last f ∷ xs) e h = absurd (cc h)

  -- the end is taken as the next item
  pub takes_end : (before after : List (Item N g)) (e : Ending N g) (given : ℕ) → end_of before ≡ None → e.place ≡ length before
      → after ≡ before ++ Last e ∷ [] → length before < given → TakesEnd before after e.reason given × (end_of after ≡ Some e.reason)
  takes_end before after e given none place is more = (inr (none, e, is, place, refl, more), ap end_of is ∙ end_of_last before e none)

  -- beside the giver a take goes by the number given, if the count that it loaded was no less
  pub tells_beside : (t : Took N g) (before after given : List (Item N g)) (loaded : ℕ) → Tells t before after loaded → length given ≤ loaded
      → IsPrefix before given → IsPrefix after given → Tells t before after (length given)
  tells_beside (took.Parcel p) before after given loaded h le low high = (h.0, h.1, one_shorter before after given (One p) h.0 high, h.3)
  tells_beside (took.Ended reason) before after given loaded (inl h, e) le low high = (inl h, e)
  tells_beside (took.Ended reason) before after given loaded (inr h, e) le low high =
      (inr (h.0, h.1, h.2, h.3, h.4, one_shorter before after given (Last h.1) h.2 high), e)
  tells_beside took.Nothing before after given loaded h le low high =
      let same : loaded ≡ length before = h.1 in
      let short = shorter before given low in (h.0, (omega arith), h.2)
