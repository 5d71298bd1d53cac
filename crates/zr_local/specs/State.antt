-- What is kept of the clients of one router, and why a client's declaration or interest is refused.
use Rattle.std.specs.Prelude.{ℕ, ◌+◌, List, Option, Some, None}
use Rattle.zr_id.specs.declared.link.LinkNo.{LinkNo}
use Rattle.zr_log_set.specs.Decls.{decl_weight}
use Rattle.zr_local.specs.Clients.{clients_weight, weight_but}
use Rattle.zr_local.specs.Interests.{interest_weight}
use Rattle.zr_local.specs.Rows.{row_key, undeclared, weight_of, over_limit}
use Rattle.zr_local.specs.declared.error.LocalError.{LocalError}
use Rattle.zr_local.specs.declared.interest.ClientInterests.{ClientInterests}
use Rattle.zr_local.specs.declared.interest.Interest.{Interest}
use Rattle.zr_local.specs.declared.row.Row.{Row}

-- what the clients have declared, and their live interests
pub record LocalState : Type 0 where
  pub rows : List Row
  pub clients : List ClientInterests

-- what all declarations and live interests weigh together
abbrev pub held_weight : LocalState → ℕ
held_weight l = weight_of l.rows + clients_weight l.clients

-- a declaration is refused where it and all but what it replaces would weigh more than they may
abbrev pub refuses_declare : LocalState → Row → Option LocalError
refuses_declare l r = over_limit (weight_of (undeclared l.rows (row_key r)) + clients_weight l.clients) (decl_weight r.decl)

-- and so is an interest; one that ends never is
abbrev pub refuses_interest : LocalState → LinkNo → ℕ → Option Interest → Option LocalError
refuses_interest l link id None = None
refuses_interest l link id (Some i) = over_limit (weight_of l.rows + weight_but l.clients link id) (interest_weight i)
