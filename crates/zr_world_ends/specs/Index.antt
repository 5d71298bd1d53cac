-- The places of the ends at which a step is possible, as marks beside the ends.
use Rattle.std.specs.Prelude.{◌≡◌, ℕ, ◌*◌, ◌/◌, ◌%◌, ◌==◌, ◌<◌, ◌≤◌, Bool, false, Some, List, length, slice_get, slice_index, slice_set}
use Rattle.std.specs.Int.{bit_at}
use Rattle.std.specs.List.{HoldsAt}
use Rattle.std.specs.List.Sorted.{IsStrictlySortedBy}
use Rattle.std.specs.Map.{keys_of}
use Rattle.std.specs.Option.{option_map_or}
use Rattle.zr_world_spec.specs.World.{End, end_cmp}
use Rattle.zr_world_ends.specs.Kept.{KeptEnd, KeptEnds, can_handle, can_take}
use Rattle.zr_world_ends.specs.Named.{at_end, set_at}

-- whether a place is marked: its bit, of the 64 in each word
abbrev pub has_mark : List ℕ → ℕ → Bool
has_mark words q = bit_at (slice_index words (q / 64)) (q % 64) == 1

-- whether an end stands at a place whose state passes a test
abbrev pub passes_at : (KeptEnd → Bool) → KeptEnds → ℕ → Bool
passes_at test ends q = option_map_or (λ e. test e.1) (slice_get ends q) false

-- just the places are marked whose state passes a test
abbrev pub HasJust : (KeptEnd → Bool) → List ℕ → KeptEnds → Type 0
HasJust test words ends = (q : ℕ) → has_mark words q ≡ passes_at test ends q

-- an end stands at a place
pub record IsThere (ends : KeptEnds) (e : End) (at : ℕ) : Type 0 where
  pub within : at < length ends
  pub key_is : HoldsAt (λ x. x.0 ≡ e) ends at
  pub found : HoldsAt (λ x. at_end ends e ≡ Some x.1) ends at
  pub sets : (s : KeptEnd) → slice_set ends at (e, s) ≡ set_at ends e s

-- The ends are in order, and marked are just the places at which a message can be handled, and taken.
pub record IsIndexed (ends : KeptEnds) (to_handle to_take : List ℕ) : Type 0 where
  pub ordered : IsStrictlySortedBy end_cmp (keys_of ends)
  pub handles : HasJust can_handle to_handle ends
  pub takes : HasJust can_take to_take ends
  pub handle_room : length ends ≤ 64 * length to_handle
  pub take_room : length ends ≤ 64 * length to_take
