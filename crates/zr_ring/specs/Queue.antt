-- What a list of entries queues for a link, and the law by which what a note vouches for stays true as the list grows.
use Rattle.std.specs.Prelude.{◌≡◌, ℕ, Bool, false, List, ◌++◌, Some, slice_get}
use Rattle.std.specs.List.{list_any}
use mathlib.Core.List.{IsPrefix}

module _ {E : Type 0} where
  -- The law: while no entry brings the link up anew, what a list queues is a prefix of what every longer legal list queues
  abbrev pub Grows : (List E → Type 0) → (E → Bool) → (List E → List (List ℕ)) → Type 0
  Grows IsLegal renews queued = (list more : List E) → IsLegal (list ++ more) → list_any renews more ≡ false
      → IsPrefix (queued list) (queued (list ++ more))

  -- What it gives: a parcel keeps its place in the queue of every longer legal list
  abbrev pub StaysQueued : (List E → Type 0) → (E → Bool) → (List E → List (List ℕ)) → Type 0
  StaysQueued IsLegal renews queued = (list more : List E) (place : ℕ) (parcel : List ℕ) → IsLegal (list ++ more)
      → list_any renews more ≡ false → slice_get (queued list) place ≡ Some parcel → slice_get (queued (list ++ more)) place ≡ Some parcel
