use Rattle.std.proofs.Common.{ap, not}
use Rattle.zr_told_spec.specs.Hub.{HubState}
use Rattle.zr_router_core.proofs.Calm as law
use Rattle.zr_router_core.proofs.hub.Hub.is_calm.Goals as goal

pub returns-clause-calm : goal.returns-clause-calm
returns-clause-calm c = law.is_calm c.self.inside.node c.self.inside.told c.self.inside.spent c.args.self.now c.self.view_is (λ e. (c.self.invariant e).0)

pub returns-clause-exactly : goal.returns-clause-exactly
returns-clause-exactly c = ap (λ (h : HubState). not h.node.spent) c.self.view_is
