-- What a router remembers stays right where nothing changes that it is of, or where it is forgotten.
use Rattle.std.proofs.Common.{◌≡◌, ℕ, List, Option, None, IfSome, sym, subst, ◌∙◌}
use Rattle.zr_id.specs.Record.{RecordState}
use Rattle.zr_graph.specs.Base.{BaseState}
use Rattle.zr_local.specs.State.{LocalState}
use Rattle.zr_local.specs.declared.row.Row.{Row}
use Rattle.zr_node_spec.specs.Event.{AreLinks}
use Rattle.zr_node_spec.specs.Tables.{TableState}
use Rattle.zr_push.specs.Routes.{AreRoutes}
use Rattle.zr_push.specs.declared.routes.Routes.{Routes}
use Rattle.zr_push_sought.specs.Holders.{HoldJust}
use Rattle.zr_push_sought.specs.Pairs.{all_declared, declared_by}
use Rattle.zr_push_sought.specs.declared.holders.Holders.{Holders}
use Rattle.zr_node.specs.Whole.{IsWhole}

-- interests lead no message on
pub routes_stay : (routes : Routes) (t : TableState) (local : LocalState) → local.rows ≡ t.rows → AreRoutes routes t
    → AreRoutes routes (record { links = t.links; base = t.base; rows = local.rows; clients = local.clients; known = t.known })
routes_stay routes t local e h =
    subst (λ (rows : List Row). AreRoutes routes (record { links = t.links; base = t.base; rows = rows; clients = local.clients; known = t.known })) (sym e) h

-- and nobody has declared anything by them
pub holders_stay : (holders : Holders) (t : TableState) (local : LocalState) → local.rows ≡ t.rows → HoldJust (declared_by t) holders → HoldJust (all_declared local.rows t.base.me t.known.logs) holders
holders_stay holders t local e h = subst (λ (rows : List Row). HoldJust (all_declared rows t.base.me t.known.logs) holders) (sym e) h

-- once the records have changed, and nothing is kept or remembered that was worked out of the old ones, a router's parts hold together
pub whole_anew : (t : TableState) (base : BaseState) (children : Option BaseState) (trees : Option (List RecordState)) (holders : Holders) (routes : Routes)
    → base.me ≡ t.base.me → AreLinks t.base.me t.links → t.known.me ≡ t.base.me → children ≡ None → trees ≡ None → HoldJust (declared_by t) holders → ((now : TableState) → AreRoutes routes now)
    → IsWhole (record { links = t.links; base = base; rows = t.rows; clients = t.clients; known = t.known }) children trees holders routes
whole_anew t base children trees holders routes me links own no_children no_trees held right = record {
  links = subst (λ (name : List ℕ). AreLinks name t.links) (sym me) links;
  own = own ∙ sym me;
  family = subst (λ (c : Option BaseState). IfSome c (λ b. b ≡ base)) (sym no_children) tt;
  trees = subst (λ (k : Option (List RecordState)). IfSome k (λ r. r ≡ base.records)) (sym no_trees) tt;
  holders = subst (λ (name : List ℕ). HoldJust (all_declared t.rows name t.known.logs) holders) (sym me) held;
  routes = right (record { links = t.links; base = base; rows = t.rows; clients = t.clients; known = t.known });
}
