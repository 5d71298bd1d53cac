-- What holds of the rows of pending requests of one router.
use Rattle.std.specs.Prelude.{◌≡◌, ℕ, ◌≤◌, true, length, is_some, IfSome}
use Rattle.std.specs.List.{AllByRecursion}
use Rattle.zr_id.specs.declared.link.LinkNo.{LinkNo}
use Rattle.zr_pend_spec.specs.Pending.{IsSound, branches, numbers_on}
use Rattle.zr_pend_spec.specs.Held.{AreGatherings}
use Rattle.zr_node_spec.specs.Tables.{AreNumbered, link_at, leads_to_client}
use Rattle.zr_node_spec.specs.State.{NodeState}

-- the links are in order of their numbers, the rows are sound, and all that they name are links that are up; replies are gathered for askers of
-- rows, each of them once, and for clients alone
pub record AreOfLinks (node : NodeState) : Type 0 where
  pub numbered : AreNumbered node.links
  pub sound : IsSound node.pending
  pub askers : AllByRecursion (λ r. IfSome r.asker (λ a. is_some (link_at node.links a.link.0) ≡ true)) node.pending
  pub branches : AllByRecursion (λ b. is_some (link_at node.links b.link.0) ≡ true) (branches node.pending)
  pub gatherings : AreGatherings node.pending node.held
  pub of_clients : AllByRecursion (λ g. leads_to_client node.links g.asker.link.0 ≡ true) node.held

-- so few numbers are pending on each link
abbrev pub AreFew : ℕ → NodeState → Type 0
AreFew n node = (link : LinkNo) → length (numbers_on link node.pending) ≤ n
