use Rattle.std.proofs.Common.{◌≡◌, ◌⊎◌, true, length}
use Rattle.std.specs.List.{AllByRecursion}
use Rattle.std.specs.Vec.Iter.{into_iter_items, into_iter_len}
use Rattle.zr_hist.specs.Words.{IsSamePass, seen}
use Rattle.zr_port.specs.Coming.{ComesUpTo, sight}
use Rattle.zr_router_queue.specs.History.{is_legal}
use Rattle.zr_wire.specs.Writing.{IsSpelled}
use Rattle.zr_router.specs.Allowed.{AreAllowed}
use Rattle.zr_router.specs.Refusals.{RefusesMessage}
use Rattle.zr_router.proofs.router.RouterPort.deliver_all.Given as goal

abbrev pub invariant-loop-link : goal.invariant-loop-link
invariant-loop-link g l = record {
  same : IsSamePass l.fn.pass l.pass;
  delivered : ComesUpTo l.link (λ h m e. RefusesMessage g.B.Naming.policy g.B.Naming.me h l.link m e) l.fn.messages.items (into_iter_items l.rest) (sight l.fn.pass) (sight l.pass);
  spelled : AllByRecursion IsSpelled (into_iter_items l.rest);
  counted : into_iter_len l.rest ≡ length (into_iter_items l.rest);
  legal : (into_iter_items l.rest ≡ l.fn.messages.items) ⊎ ((is_legal g.B.Naming.me (seen l.pass) ≡ true) × AreAllowed g.B.Naming.policy g.B.Naming.me (seen l.pass));
}

abbrev pub decreases-loop-link : goal.decreases-loop-link
decreases-loop-link g l = into_iter_len l.rest
