-- What a call of a host tells.
use Rattle.std.specs.Prelude.{◌≡◌, List, [], ◌∷◌, ◌++◌, Option, Some, None}
use Rattle.rand_core.specs.Stream.{Stream}
use Rattle.zr_outside.specs.declared.host.Accepted.{Accepted}
use Rattle.zr_outside.specs.declared.host.Accepted.TheVariants.{Link, Quiet, End, Failed}
use Rattle.zr_outside.specs.declared.host.Answer.{Answer}
use Rattle.zr_outside.specs.declared.host.Answer.TheVariants as answer
use Rattle.zr_outside.specs.declared.host.Call.{Call}

-- The call stands last among those that are told. A host may stop to tell them, and then tells none any more
abbrev pub Records : Call → Option (List Call) → Option (List Call) → Type 0
Records call None None = Unit {0}
Records call None (Some after) = ⊥
Records call (Some calls) None = Unit {0}
Records call (Some calls) (Some after) = after ≡ calls ++ call ∷ []

-- the generator that was given is the next of those that were left, by its stream, and none was left where none was given
abbrev pub Draws : {W : Type 0} → (W → Stream) → Option W → Option (List Stream) → Option (List Stream) → Type 0
Draws stream given None after = Unit {0}
Draws stream (Some w) (Some streams) after = (rest : List Stream) × (streams ≡ stream w ∷ rest) × (after ≡ Some rest)
Draws stream None (Some streams) after = (streams ≡ []) × (after ≡ Some [])

module _ {S K : Type 0} where
  -- an accept that failed, that found no link yet, and that found the end
  abbrev pub IsLost : Accepted S K → Type 0
  IsLost (Link source sink) = ⊥
  IsLost Quiet = ⊥
  IsLost End = ⊥
  IsLost Failed = Unit {0}

  abbrev pub IsIdle : Accepted S K → Type 0
  IsIdle (Link source sink) = ⊥
  IsIdle Quiet = Unit {0}
  IsIdle End = ⊥
  IsIdle Failed = ⊥

  abbrev pub IsOver : Accepted S K → Type 0
  IsOver (Link source sink) = ⊥
  IsOver Quiet = ⊥
  IsOver End = Unit {0}
  IsOver Failed = ⊥

  abbrev pub answer_of : Accepted S K → Answer
  answer_of (Link source sink) = answer.Link
  answer_of Quiet = answer.Quiet
  answer_of End = answer.End
  answer_of Failed = answer.Failed
