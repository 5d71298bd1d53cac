-- What holds of a router's parts together.
use Rattle.std.specs.Prelude.{◌≡◌, List, Option, IfSome}
use Rattle.zr_id.specs.Record.{RecordState}
use Rattle.zr_graph.specs.Base.{BaseState}
use Rattle.zr_node_spec.specs.Tables.{TableState}
use Rattle.zr_node_spec.specs.Event.{AreLinks}
use Rattle.zr_push.specs.Routes.{AreRoutes}
use Rattle.zr_push.specs.declared.routes.Routes.{Routes}
use Rattle.zr_push_sought.specs.Holders.{HoldJust}
use Rattle.zr_push_sought.specs.Pairs.{declared_by}
use Rattle.zr_push_sought.specs.declared.holders.Holders.{Holders}

-- the links are those of one router, whose own log is among those that are known; the children and the trees that it keeps are those by its records; the
-- indexes hold just what its clients and the other sources have declared; and the routes that it remembers are those by its tables
pub record IsWhole (t : TableState) (children : Option BaseState) (kept : Option (List RecordState)) (indexes : Holders) (remembered : Routes) : Type 0 where
  pub links : AreLinks t.base.me t.links
  pub own : t.known.me ≡ t.base.me
  pub family : IfSome children (λ b. b ≡ t.base)
  pub trees : IfSome kept (λ r. r ≡ t.base.records)
  pub holders : HoldJust (declared_by t) indexes
  pub routes : AreRoutes remembered t
