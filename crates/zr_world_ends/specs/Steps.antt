-- What a call has done at an end.
use Rattle.std.specs.Prelude.{◌≡◌, not, Option, Some, None, Result, Ok, Err}
use Rattle.zr_script_spec.specs.declared.error.ScriptError.{ScriptError}
use Rattle.zr_script_spec.specs.declared.error.ScriptError.TheVariants.{NoMemory, NotLinked}
use Rattle.zr_script_spec.specs.Step.{◌>>=◌}
use Rattle.zr_world_spec.specs.World.{Tagged, EndState, End, Ends, end_of, with_end, with_wire, with_queue}
use Rattle.zr_world_spec.specs.Acts.{end_at, up_at, unbroken_at, oldest, unless}
use Rattle.zr_world_ends.specs.Kept.{KeptEnd, KeptEnds, with_queue as kept_queue}
use Rattle.zr_world_ends.specs.Named.{at_end, set_at}

-- What a call gave and did is what is said; a refusal changes nothing. Memory does not run out.
abbrev pub Gives : {A S : Type 0} → Result A ScriptError → Result (A × S) ScriptError → S → S → Type 0
Gives (Ok a) said old new = said ≡ Ok (a, new)
Gives (Err refusal) said old new = (said ≡ Err refusal) × (new ≡ old)

-- The same, where memory may run out; then nothing is said.
abbrev pub Brings : {A S : Type 0} → Result A ScriptError → Result (A × S) ScriptError → S → S → Type 0
Brings (Ok a) said old new = said ≡ Ok (a, new)
Brings (Err NoMemory) said old new = Unit {0}
Brings (Err refusal) said old new = (said ≡ Err refusal) × (new ≡ old)

-- the ends once the state of one, which was found, has changed: `changed`, by the look-up
abbrev pub changed_at : Ends → End → (EndState → EndState) → Option EndState → Ends
changed_at ends e change None = ends
changed_at ends e change (Some s) = with_end ends e (change s)

-- the oldest message on the wire of an end that is up, and the ends without it
unfoldable pub from_wire : Ends → End → Result (Tagged × Ends) ScriptError
from_wire ends e = do
  s ← end_at (end_of ends e)
  a ← up_at s
  x ← oldest s.wire
  Ok (x.0, with_end ends e (with_wire s x.1))

-- the oldest message in the queue of an end that is up and whose link is unbroken, and the ends without it
unfoldable pub from_queue : Ends → End → Result (Tagged × Ends) ScriptError
from_queue ends e = do
  s ← end_at (end_of ends e)
  a ← up_at s
  b ← unbroken_at s
  x ← oldest s.queue
  Ok (x.0, with_end ends e (with_queue s x.1))

-- so it is with what is kept of them
abbrev pub kept_at : Option KeptEnd → Result KeptEnd ScriptError
kept_at None = Err NotLinked
kept_at (Some k) = Ok k

unfoldable pub from_kept : KeptEnds → End → Result (Tagged × KeptEnds) ScriptError
from_kept ks e = do
  k ← kept_at (at_end ks e)
  a ← unless (not k.up) NotLinked
  b ← unless (not k.unbroken) NotLinked
  x ← oldest k.queue
  Ok (x.0, set_at ks e (kept_queue k x.1))
