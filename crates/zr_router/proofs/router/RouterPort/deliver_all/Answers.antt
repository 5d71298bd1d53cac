-- What is delivered under one lock stands behind what was delivered under those before.
use Rattle.std.proofs.Common.{◌≡◌, ◌∙◌, inl, inr, length, refl, sym, ap, subst, arith}
use Rattle.std.proofs.lemmas.List.{nil_from_length}
use Rattle.std.specs.List.{AllByRecursion}
use Rattle.std.specs.Vec.Iter.{into_iter_items}
use Rattle.zr_port.specs.Coming.{ComesUpTo, sight}
use Rattle.zr_port.proofs.Coming.{comes_begun, comes_later, comes_then}
use Rattle.zr_wire.specs.Writing.{IsSpelled}
use Rattle.zr_router.specs.Refusals.{RefusesMessage}
use Rattle.zr_router.proofs.router.RouterPort.deliver_all.Goals as goal

pub loop-link-init : goal.loop-link-init
loop-link-init g c =
    let is = c.into_iter-rest.ensures.rest in
    let pass = c.args.pass.now in
    record {
      same = (refl, refl);
      delivered = subst (λ xs. ComesUpTo c.args.link (λ h m e. RefusesMessage g.B.Naming.policy g.B.Naming.me h c.args.link m e) c.args.messages.items xs (sight pass) (sight pass)) (sym is)
          (comes_begun c.args.link (λ h m e. RefusesMessage g.B.Naming.policy g.B.Naming.me h c.args.link m e) c.args.messages.items (sight pass));
      spelled = subst (λ xs. AllByRecursion IsSpelled xs) (sym is) c.requires.spelled;
      counted = omega (arith, c.into_iter-rest.ensures.len, c.args.messages.ok, ap length is);
      legal = inl is;
    }

pub returns-in-Err-clause-prefix : goal.returns-in-Err-clause-prefix
returns-in-Err-clause-prefix g c =
    let stopped = c.in-Err.ensures.stopped in
    comes_later c.args.link (λ h m e. RefusesMessage g.B.Naming.policy g.B.Naming.me h c.args.link m e) c.args.messages.items stopped.0 (sight c.args.pass.now) (sight c.deliver_more.new.pass)
    (comes_then c.args.link (λ h m e. RefusesMessage g.B.Naming.policy g.B.Naming.me h c.args.link m e) _ _ _ (sight c.args.pass.now) (sight c.loop-link.pass) (sight c.deliver_more.new.pass) c.loop-link.invariant.delivered stopped.1)

pub returns-in-Err-clause-stopped : goal.returns-in-Err-clause-stopped
returns-in-Err-clause-stopped g c =
    let stopped = c.in-Err.ensures.stopped in (
      stopped.0,
      comes_then c.args.link (λ h m e. RefusesMessage g.B.Naming.policy g.B.Naming.me h c.args.link m e) _ _ _ (sight c.args.pass.now) (sight c.loop-link.pass) (sight c.deliver_more.new.pass) c.loop-link.invariant.delivered stopped.1,
      stopped.2,
    )

pub loop-link-preserved : goal.loop-link-preserved
loop-link-preserved g c =
    let inv = c.loop-link.invariant in
    let done = c.in_default.ensures in
    record {
      same = (done.same.0 ∙ inv.same.0, done.same.1 ∙ inv.same.1);
      delivered = comes_then c.args.link (λ h m e. RefusesMessage g.B.Naming.policy g.B.Naming.me h c.args.link m e) _ _ _ (sight c.args.pass.now) (sight c.loop-link.pass) (sight c.deliver_more.new.pass) inv.delivered done.delivered;
      spelled = done.left.0;
      counted = done.left.1;
      legal = inr (done.legal, done.allowed);
    }

pub returns-clause-prefix : goal.returns-clause-prefix
returns-clause-prefix g c =
    comes_later c.args.link (λ h m e. RefusesMessage g.B.Naming.policy g.B.Naming.me h c.args.link m e) c.args.messages.items (into_iter_items c.loop-link.rest) (sight c.args.pass.now) (sight c.loop-link.pass) c.loop-link.invariant.delivered

pub returns-clause-all : goal.returns-clause-all
returns-clause-all g c =
    let inv = c.loop-link.invariant in
    let none : length (into_iter_items c.loop-link.rest) ≡ 0 = omega (arith, c.loop-link-test.false, c.len.ensures, inv.counted) in
    subst (λ xs. ComesUpTo c.args.link (λ h m e. RefusesMessage g.B.Naming.policy g.B.Naming.me h c.args.link m e) c.args.messages.items xs (sight c.args.pass.now) (sight c.loop-link.pass))
    (nil_from_length (into_iter_items c.loop-link.rest) none) inv.delivered
