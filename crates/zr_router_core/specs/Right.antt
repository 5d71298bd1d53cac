-- What holds of a router and of what its clients were told, before and after each event.
use Rattle.std.specs.Prelude.{◌≡◌, ℕ, Bool, false, []}
use Rattle.zr_local.specs.Clients.{interests_on}
use Rattle.zr_local.specs.Rows.{AreInOrder}
use Rattle.zr_log.specs.Known.{AreInOrder as LogsInOrder}
use Rattle.zr_msg.specs.declared.event.Event.{Event}
use Rattle.zr_node_spec.specs.Tables.{TableState, leads_to_client}
use Rattle.zr_node_spec.specs.Event.{AreLinks, MayCome}
use Rattle.zr_node_spec.specs.State.{NodeState, tables}
use Rattle.zr_told_spec.specs.Rows.{Maps, map_on, others, IsAsWanted, one_lacks_ids}
use Rattle.zr_told_spec.specs.Told.{ToldMap}

-- the client of each link was told of what it wants of what others declare, no other link has live interests, and there are ids for what is wanted
pub record IsRight (t : TableState) (told : ℕ → ToldMap) : Type 0 where
  pub wanted : (k : ℕ) → IsAsWanted (others t k) (interests_on t.clients k) (told k)
  pub clients : (k : ℕ) → leads_to_client t.links k ≡ false → interests_on t.clients k ≡ []
  pub ids : one_lacks_ids t t.clients ≡ false

-- a router to which memory has not run out, and what its clients were told
pub record IsSound (node : NodeState) (told : Maps) : Type 0 where
  pub awake : node.spent ≡ false
  pub right : IsRight (tables node) (λ k. map_on told k)

-- a router that counts as spent or not
abbrev pub spent_as : NodeState → Bool → NodeState
spent_as n spent = record { links = n.links; base = n.base; rows = n.rows; clients = n.clients; known = n.known; pending = n.pending; held = n.held; spent = spent }

-- what is known of a router's parts between events
pub record AreOrdered (n : NodeState) : Type 0 where
  pub own : n.known.me ≡ n.base.me
  pub rows : AreInOrder n.rows
  pub logs : LogsInOrder n.known

-- what is known before an event comes
pub record IsBefore (n : NodeState) (event : Event) (told : ℕ → ToldMap) : Type 0 where
  pub ordered : AreOrdered n
  pub links : AreLinks n.base.me n.links
  pub may : MayCome n event
  pub right : IsRight (tables n) told
