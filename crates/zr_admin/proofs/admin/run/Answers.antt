-- Each step stands behind those before it.
use Rattle.std.proofs.Common.{◌∙◌, sym, arith}
use Rattle.zr_port.specs.Coming.{sight}
use Rattle.zr_ring.specs.Taker.{taken}
use Rattle.zr_admin.specs.Inner.{inner_at}
use Rattle.zr_admin.proofs.Running.{last_made, one_made}
use Rattle.zr_admin.proofs.admin.run.Goals as goal

pub returns-in-Some-clause-steps : goal.returns-in-Some-clause-steps
returns-in-Some-clause-steps g c =
    let s = c.step-stepped in
    last_made c.args.link (λ h m e. g.P.Port.refuses_message c.args.port.now h c.args.link m e) (λ h. g.P.Glancing.glance_of c.args.port.now h) c.args.id c.args.turns c.loop.counter c.in-Some.end s.result
    (inner_at (taken c.args.taker.now) c.args.hearing.now (sight c.args.pass.now)) (inner_at (taken c.loop.taker) c.loop.hearing (sight c.loop.pass))
    (inner_at (taken s.new.taker) s.new.hearing (sight s.new.pass)) c.loop.invariant.made (sym c.end_by.ensures ∙ c.in-Some.is) s.ensures.steps

pub loop-preserved : goal.loop-preserved
loop-preserved g c =
    let s = c.step-stepped in
    let inv = c.loop.invariant in
    record {
      same = ((s.ensures.same.0.0 ∙ inv.same.0.0, s.ensures.same.0.1 ∙ inv.same.0.1), (s.ensures.same.1.0 ∙ inv.same.1.0, s.ensures.same.1.1 ∙ inv.same.1.1));
      calls = omega (arith, s.ensures.called, inv.calls);
      made = one_made c.args.link (λ h m e. g.P.Port.refuses_message c.args.port.now h c.args.link m e) (λ h. g.P.Glancing.glance_of c.args.port.now h) c.args.id c.loop.counter s.result
          (inner_at (taken c.args.taker.now) c.args.hearing.now (sight c.args.pass.now)) (inner_at (taken c.loop.taker) c.loop.hearing (sight c.loop.pass))
          (inner_at (taken s.new.taker) s.new.hearing (sight s.new.pass)) inv.made (sym c.end_by.ensures ∙ c.in_default.is) s.ensures.steps;
    }
