-- What a part of an event comes to.
use Rattle.std.specs.Prelude.{◌≡◌, ℕ, false, List, Option, Some, None, Result, Ok, Err}
use Rattle.zr_id.specs.declared.link.LinkNo.{LinkNo}
use Rattle.zr_msg.specs.declared.error.NodeError.{NodeError}
use Rattle.zr_msg.specs.declared.msg.Msg.{Msg}
use Rattle.zr_node_spec.specs.Early.{is_early}
use Rattle.zr_node_spec.specs.Event.{Tells, TellsPrefix}
use Rattle.zr_node_spec.specs.State.{NodeState}
use Rattle.zr_node.specs.declared.failure.NodeFailure.{NodeFailure}
use Rattle.zr_node.specs.declared.failure.NodeFailure.TheVariants.{Refused, NoMemory}

-- a part of an event, as the table has it
pub record Part : Type 0 where
  -- the state before it, and the one that it leaves
  pub before : NodeState
  pub left : NodeState
  -- what it sends on each link
  pub sends : ℕ → List Msg
  -- why it is refused, if it is
  pub refused : Option NodeError

-- it is done, and so it wasn't refused
pub record IsLeft (part : Part) (now : NodeState) (said all : List (LinkNo × Msg)) : Type 0 where
  pub allowed : part.refused ≡ None
  pub state : now ≡ part.left
  pub sends : Tells part.sends said all

-- it is refused, and nothing has changed
pub record IsRefused (part : Part) (why : NodeError) (now : NodeState) (said all : List (LinkNo × Msg)) : Type 0 where
  pub refused : part.refused ≡ Some why
  pub state : now ≡ part.before
  pub sends : all ≡ said

-- memory ran out: a prefix was sent, and if it is refused that isn't found without memory
pub record IsLacking (part : Part) (said all : List (LinkNo × Msg)) : Type 0 where
  pub late : is_early part.refused ≡ false
  pub sends : TellsPrefix part.sends said all

-- what is answered of it is right: `said` was sent before it, and `all` is sent now
abbrev pub IsDone : Part → Result (Unit {0}) NodeFailure → NodeState → List (LinkNo × Msg) → List (LinkNo × Msg) → Type 0
IsDone part (Ok x) now said all = IsLeft part now said all
IsDone part (Err (Refused why)) now said all = IsRefused part why now said all
IsDone part (Err NoMemory) now said all = IsLacking part said all
