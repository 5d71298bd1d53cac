-- What a router answers where it doesn't handle an event.
use Rattle.std.specs.Prelude.{◌≡◌, ◌⊎◌, ℕ, false, if◌then◌else◌, Option, Some, None, Result, Ok, Err}
use Rattle.zr_graph.specs.declared.base.ChangeError.{ChangeError}
use Rattle.zr_graph.specs.declared.base.ChangeError.TheVariants as change
use Rattle.zr_local.specs.declared.error.LocalError.{LocalError}
use Rattle.zr_local.specs.declared.error.LocalError.TheVariants as local
use Rattle.zr_log.specs.declared.error.KnownError.{KnownError}
use Rattle.zr_log.specs.declared.error.KnownError.TheVariants as known
use Rattle.zr_msg.specs.declared.error.NodeError.{NodeError}
use Rattle.zr_msg.specs.declared.error.NodeError.TheVariants as node
use Rattle.zr_msg.specs.declared.event.Event.{Event}
use Rattle.zr_query.specs.declared.asking.RequestError.{RequestError}
use Rattle.zr_query.specs.declared.asking.RequestError.TheVariants as request
use Rattle.zr_node_spec.specs.Early.{is_early}
use Rattle.zr_node_spec.specs.State.{NodeState}
use Rattle.zr_node_spec.specs.Table.{refuses}
use Rattle.zr_node.specs.declared.failure.NodeFailure.{NodeFailure}
use Rattle.zr_node.specs.declared.failure.NodeFailure.TheVariants.{Refused, NoMemory}

-- the refusal of a change of the own record, if it is one: out of memory is none
abbrev pub refusal : Result (Unit {0}) ChangeError → Option NodeError
refusal (Ok x) = None
refusal (Err change.Worn) = Some node.Worn
refusal (Err change.NoMemory) = None

-- as failures of the router
abbrev pub change_failure : ChangeError → NodeFailure
change_failure change.Worn = Refused node.Worn
change_failure change.NoMemory = NoMemory

abbrev pub known_failure : KnownError → NodeFailure
known_failure (known.Gap source has came) = Refused (node.Gap source has came)
known_failure (known.TextLimit held more) = Refused (node.TextLimit held more)
known_failure known.Worn = Refused node.Worn
known_failure known.NoMemory = NoMemory

abbrev pub request_failure : RequestError → NodeFailure
request_failure request.NoNumber = Refused node.Worn
request_failure request.NoMemory = NoMemory

-- what became of a client's declarations, as the router answers it
abbrev pub answered : {X : Type 0} → ℕ → Result X LocalError → Result X NodeFailure
answered id (Ok x) = Ok x
answered id (Err local.UnknownId) = Err (Refused (node.NotDeclared id))
answered id (Err (local.TextLimit held more)) = Err (Refused (node.TextLimit held more))
answered id (Err local.NoMemory) = Err NoMemory

-- the refusal was answered, or memory ran out first, where it is none that is found without memory
abbrev pub IsJudged : {X : Type 0} → Option NodeError → Result X NodeFailure → Type 0
IsJudged r (Ok x) = r ≡ None
IsJudged r (Err (Refused e)) = r ≡ Some e
IsJudged r (Err NoMemory) = is_early r ≡ false

-- the refusal was found without memory, or it is none that is found so
abbrev pub IsFound : Option NodeError → Option NodeError → Type 0
IsFound r (Some e) = r ≡ Some e
IsFound r None = is_early r ≡ false

-- where memory ran out, and this is what was found without
abbrev pub lacking : Option NodeError → NodeFailure
lacking (Some e) = Refused e
lacking None = NoMemory

-- the refusal of a router: Spent where memory ran out at an earlier event, and else what the table refuses
abbrev pub refusal_of : NodeState → Event → Option NodeError
refusal_of n event = if n.spent then Some node.Spent else refuses n event

-- it was answered, or memory ran out first
abbrev pub IsAnswered : Option NodeError → Result (Unit {0}) NodeError → Type 0
IsAnswered r (Ok x) = r ≡ None
IsAnswered r (Err e) = (e ≡ node.NoMemory) ⊎ (r ≡ Some e)
