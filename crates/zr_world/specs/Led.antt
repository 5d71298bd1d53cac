-- What the tables of a world ask of it: all of this holds where calls lead to it.
use Rattle.std.specs.Prelude.{◌≡◌, true, Some}
use Rattle.zr_law_carried.specs.Carriable.{IsCarriable}
use Rattle.zr_law_sent.specs.Passing.{MayPass}
use Rattle.zr_msg.specs.declared.msg.Msg.{Msg}
use Rattle.zr_world_spec.specs.Sound.{IsSound, AllAreTaken}
use Rattle.zr_world_spec.specs.World.{EndState, End, Ends, WorldState, end_of}
use Rattle.zr_world_ends.specs.Carried.{neighbour_role}

-- it is sound, no router refuses what waits for it, and what waits may be carried
pub record IsLed (w : WorldState) : Type 0 where
  pub sound : IsSound w
  pub taken : AllAreTaken w
  pub carriable : IsCarriable w

-- the neighbour at an end may pass a message on to it, where the end is there: the link is unbroken, and its role may
abbrev pub MayGoTo : Ends → End → Msg → Type 0
MayGoTo es e msg = (s : EndState) → end_of es e ≡ Some s → (s.unbroken ≡ true) × MayPass (neighbour_role es e) msg
