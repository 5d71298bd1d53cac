-- What a router remembers of the trees and keys on which samples and requests came.
use Rattle.std.specs.Prelude.{◌≡◌, ℕ, IfSome}
use Rattle.std.specs.BTreeMap.{get}
use Rattle.std.specs.Ordering.{nat_cmp}
use Rattle.zr_node_spec.specs.Tables.{TableState}
use Rattle.zr_push.specs.Route.{route_of}
use Rattle.zr_push.specs.declared.routes.Routes.{Routes}

-- each route that is remembered is that of its tree, what is sought and its key by these tables
abbrev pub AreRoutes : Routes → TableState → Type 0
AreRoutes routes t = (n : ℕ) → IfSome (get nat_cmp routes.known n) (λ r. r.route ≡ route_of t r.tree r.sought r.key)
