use Rattle.std.proofs.Common.{subst}
use Rattle.zr_port.specs.Coming.{sight}
use Rattle.zr_ring.specs.Taker.{taken}
use Rattle.zr_admin.specs.Inner.{Steps, inner_at}
use Rattle.zr_admin.proofs.admin.Admin.step.Goals as goal

pub returns-clause-steps : goal.returns-clause-steps
returns-clause-steps g c =
    let s = c.args.self.now in
    let n = c.step.new in
    subst (λ p. Steps s.link (λ h m e. g.P.Port.refuses_message p h s.link m e) (λ h. g.P.Glancing.glance_of p h) s.id c.step.result (inner_at (taken s.taker) s.hearing (sight s.pass))
    (inner_at (taken n.taker) n.hearing (sight n.pass))) c.deref.ensures c.step.ensures.steps
