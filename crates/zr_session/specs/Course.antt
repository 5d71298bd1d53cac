-- What a part of a stream comes to.
use Rattle.std.specs.Prelude.{ℕ, List, [], ◌∷◌, ◌++◌, Option, Some, None}
use Rattle.zr_session.specs.declared.phase.Phase.{Phase}
use Rattle.zr_session.specs.declared.phase.Phase.TheVariants.{Opening, Established}
use Rattle.zr_session.specs.declared.event.SessionEvent.{SessionEvent}
use Rattle.zr_session.specs.declared.fate.End.{End}

-- The phase behind it, the events, the bytes that are answered at once, and the end of the session, where it came to one. What
-- stands behind the end is not read.
pub record Course : Type 0 where
  pub phase : Phase
  pub events : List SessionEvent
  pub bytes : List ℕ
  pub ends : Option End

-- nothing happens
abbrev pub going : Phase → Course
going p = record { phase = p; events = []; bytes = []; ends = None }

-- the session ends here
abbrev pub stops : Phase → End → Course
stops p how = record { phase = p; events = []; bytes = []; ends = Some how }

-- an event is given
abbrev pub gives : Phase → SessionEvent → Course
gives p event = record { phase = p; events = event ∷ []; bytes = []; ends = None }

-- bytes are answered
abbrev pub answers : Phase → List ℕ → Course
answers p bytes = record { phase = p; events = []; bytes = bytes; ends = None }

abbrev pub joined : Option End → Course → Course → Course
joined (Some how) c next = c
joined None c next = record { phase = next.phase; events = c.events ++ next.events; bytes = c.bytes ++ next.bytes; ends = next.ends }

-- What stands behind a part goes on from its phase.
abbrev pub and_then : Course → (Phase → Course) → Course
and_then c more = joined c.ends c (more c.phase)

-- The answer to OPEN with its length, which an accepting end owes once its session is established.
abbrev pub owed_in : Phase → List ℕ
owed_in (Opening expected) = []
owed_in (Established s) = s.answer
