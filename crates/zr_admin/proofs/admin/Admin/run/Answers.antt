use Rattle.std.proofs.Common.{List, subst}
use Rattle.std.specs.Prelude.{Result}
use Rattle.zr_port.specs.Coming.{sight}
use Rattle.zr_ring.specs.Taker.{taken}
use Rattle.zr_admin.specs.Inner.{AllSteps, ComesTo, inner_at}
use Rattle.zr_admin.specs.declared.error.AdminError.{AdminError}
use Rattle.zr_admin.specs.declared.error.Stepped.{Stepped}
use Rattle.zr_admin.proofs.admin.Admin.run.Goals as goal

pub returns-clause-steps : goal.returns-clause-steps
returns-clause-steps g c =
    let s = c.args.self.now in
    let n = c.run.new in
    subst (λ p. (results : List (Result Stepped AdminError)) × ComesTo c.args.turns c.run.result results × AllSteps s.link (λ h m e. g.P.Port.refuses_message p h s.link m e) (λ h. g.P.Glancing.glance_of p h) s.id results
    (inner_at (taken s.taker) s.hearing (sight s.pass)) (inner_at (taken n.taker) n.hearing (sight n.pass))) c.deref.ensures c.run.ensures.steps
