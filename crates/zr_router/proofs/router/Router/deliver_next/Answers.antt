-- One message has come behind none before it; one that is refused and not passed over is the first of the rest.
use Rattle.std.proofs.Common.{◌≡◌, true, sym, subst}
use Rattle.std.specs.Vec.Iter.{into_iter_items}
use Rattle.zr_hist.specs.Words.{list_of}
use Rattle.zr_port.specs.Coming.{sight}
use Rattle.zr_router_queue.specs.History.{is_legal}
use Rattle.zr_router.specs.Allowed.{AreAllowed}
use Rattle.zr_router.specs.Refusals.{RefusesMessage}
use Rattle.zr_router.specs.Runs.{IsStep}
use Rattle.zr_router.proofs.Next.{next_comes, next_stops}
use Rattle.zr_router.proofs.router.Router.deliver_next.Goals as goal

pub returns-clause-legal : goal.returns-clause-legal
returns-clause-legal g c =
    let done = c.deliver_next-result.ensures in
    subst (λ h. is_legal g.B.Naming.me h ≡ true) (sym done.seen) done.legal

pub returns-clause-allowed : goal.returns-clause-allowed
returns-clause-allowed g c =
    let done = c.deliver_next-result.ensures in
    subst (λ h. AreAllowed g.B.Naming.policy g.B.Naming.me h) (sym done.seen) done.allowed

pub returns-clause-delivered : goal.returns-clause-delivered
returns-clause-delivered g c =
    let r = c.deliver_next-result in
    next_comes c.args.link (λ h m e. RefusesMessage g.B.Naming.policy g.B.Naming.me h c.args.link m e) r.result (into_iter_items c.args.rest.now) (into_iter_items c.next.new.self) c.in-Some.msg
    (sight c.args.pass.now) (sight r.new.pass)
    (λ x. IsStep g.B.Naming.policy g.B.Naming.me c.args.link x (list_of c.deref_mut.result.now.kept) c.deref_mut.result.now.ends.items (list_of r.new.self.kept) r.new.self.ends.items)
    c.in-Some.ensures.items r.ensures.came

pub returns-clause-stopped : goal.returns-clause-stopped
returns-clause-stopped g c =
    let r = c.deliver_next-result in
    next_stops c.args.link (λ h m e. RefusesMessage g.B.Naming.policy g.B.Naming.me h c.args.link m e) r.result (into_iter_items c.args.rest.now) (into_iter_items c.next.new.self) c.in-Some.msg
    c.args.pass.now r.new.pass (list_of c.deref_mut.result.now.kept) (list_of r.new.self.kept) c.in-Some.ensures.items r.ensures.prefix r.ensures.seen r.ensures.unchanged r.ensures.stops r.ensures.refused
