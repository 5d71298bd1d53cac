-- The log of a router: the changes that it has made, and what routers know of them.
use Rattle.std.specs.Prelude.{◌≡◌, ◌≤◌, ℕ, true, List, [], ◌++◌, length, Option, Some, None}
use Rattle.std.specs.List.{fold}
use Rattle.std.specs.Option.{option_map_or}
use Rattle.zr_tree.specs.Walk.{IsWalk}
use Rattle.zr_local.specs.declared.row.Row.{Row}
use Rattle.zr_log.specs.Log.{Change, known}
use Rattle.zr_log.specs.Known.{position, decls}
use Rattle.zr_node_spec.specs.Changes.{changes}
use Rattle.zr_world_spec.specs.World.{RouterState, router_of, is_settled}
use Rattle.zr_world_spec.specs.Joined.{graph}
use Rattle.zr_world_spec.specs.Moments.{Numbered, Moment, beginning, onward, reached}

-- ---- the log

-- the rows of router x at a moment: none, where it is not there
abbrev pub rows_at : List ℕ → Option Moment → List Row
rows_at x None = []
rows_at x (Some m) = option_map_or (λ r. r.node.rows) (router_of m.world.routers x) []

-- the moment that some acts lead to, and the changes that router x has made by them
pub record Logged : Type 0 where
  pub moment : Option Moment
  pub log : List Change

-- one more act: the changes of the rows, if they change
abbrev pub logged_by : List ℕ → Logged → Numbered → Logged
logged_by x so_far act =
    record {
      moment = onward so_far.moment act;
      log = so_far.log ++ changes (rows_at x so_far.moment) (rows_at x (onward so_far.moment act));
    }

abbrev pub logged : List Numbered → List ℕ → Logged
logged acts x = fold (logged_by x) (record { moment = Some beginning; log = [] }) acts

-- the log of router x: the changes that it has made by some acts, in their order
abbrev pub log_of : List Numbered → List ℕ → List Change
log_of acts x = (logged acts x).log

-- ---- what is known of it

-- a router knows all of a log: its length, and the set that its changes lead to
pub record KnowsLog (log : List Change) (r : RouterState) (x : List ℕ) : Type 0 where
  pub position_is : position r.node.known x ≡ length log
  pub decls_are : decls r.node.known x ≡ known log (length log)

-- at each moment to which acts lead each router knows all of its own log, and none knows more of it than there is
pub record AreLogged (acts : List Numbered) (m : Moment) (x : List ℕ) (r : RouterState) : Type 0 where
  pub own : KnowsLog (log_of acts x) r x
  pub others : (y : List ℕ) (q : RouterState) → router_of m.world.routers y ≡ Some q → position q.node.known x ≤ length (log_of acts x)

abbrev pub LogsAreMade : Type 0
LogsAreMade = (acts : List Numbered) (m : Moment) (x : List ℕ) (r : RouterState) → reached acts ≡ Some m → router_of m.world.routers x ≡ Some r → AreLogged acts m x r

-- at each moment to which acts lead: where it is settled, each router y knows all of the log of each router x that it reaches
abbrev pub SettledLogsAreKnown : Type 0
SettledLogsAreKnown = (acts : List Numbered) (m : Moment) (x y : List ℕ) (path : List (List ℕ)) (rx ry : RouterState) → reached acts ≡ Some m → is_settled m.world ≡ true →
    router_of m.world.routers x ≡ Some rx → router_of m.world.routers y ≡ Some ry → IsWalk (graph m.world) y path x → KnowsLog (log_of acts x) ry x
