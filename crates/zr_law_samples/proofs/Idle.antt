-- What of a router stays over a phase, in which nothing unsettles: its tables. What is asked of it changes: the requests that are pending, what it
-- holds of their replies, and the live interests of its clients.
use Rattle.std.specs.Prelude.{[]}
use Rattle.zr_node_spec.specs.State.{NodeState}
use Rattle.zr_node_spec.specs.Table.{with_clients, with_pending, with_held}

-- a router of which nothing is asked
abbrev pub idle : NodeState → NodeState
idle node = with_held (with_clients (with_pending node []) []) []

-- the tables of one router, with what is asked of another
abbrev pub asked_as : NodeState → NodeState → NodeState
asked_as node other = with_held (with_clients (with_pending node other.pending) other.clients) other.held
