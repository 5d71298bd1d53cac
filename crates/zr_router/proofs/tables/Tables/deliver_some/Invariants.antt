use Rattle.std.proofs.Common.{◌≡◌, true, length}
use Rattle.std.specs.List.{AllByRecursion}
use Rattle.std.specs.Vec.Iter.{into_iter_items, into_iter_len}
use Rattle.zr_hist.specs.Words.{IsSamePass, list_of, mine, seen}
use Rattle.zr_port.specs.Coming.{ComesUpTo, sight}
use Rattle.zr_router_queue.specs.History.{is_legal}
use Rattle.zr_wire.specs.Writing.{IsSpelled}
use Rattle.zr_router.specs.Allowed.{AreAllowed}
use Rattle.zr_router.specs.Refusals.{RefusesMessage}
use Rattle.zr_router.specs.Runs.{RunsUpTo}
use Rattle.zr_router.proofs.Delivered.{Owns, Stands}
use Rattle.zr_router.proofs.tables.Tables.deliver_some.Given as goal

abbrev pub invariant-loop : goal.invariant-loop
invariant-loop g l = record {
  same : IsSamePass l.fn.pass l.pass;
  delivered : ComesUpTo l.link (λ h m e. RefusesMessage g.B.Naming.policy g.B.Naming.me h l.link m e) (into_iter_items l.fn.messages) (into_iter_items l.messages) (sight l.fn.pass) (sight l.pass);
  run : RunsUpTo g.B.Naming.policy g.B.Naming.me l.link (into_iter_items l.fn.messages) (into_iter_items l.messages) (list_of l.fn.self.kept) l.fn.self.ends.items (list_of l.self.kept) l.self.ends.items;
  own : Owns (list_of l.fn.self.kept) (list_of l.self.kept) (mine l.fn.pass) (mine l.pass);
  spelled : AllByRecursion IsSpelled (into_iter_items l.messages);
  counted : into_iter_len l.messages ≡ length (into_iter_items l.messages);
  stays : l.fn.self.is_spent ≡ true → l.self.is_spent ≡ true;
  was : l.self.is_spent ≡ true → l.fn.self.is_spent ≡ true;
  stands : Stands l.counter (into_iter_len l.messages) (into_iter_len l.fn.messages) (seen l.pass) (seen l.fn.pass) (list_of l.self.kept) (list_of l.fn.self.kept) (λ h. (is_legal g.B.Naming.me h ≡ true) × AreAllowed g.B.Naming.policy g.B.Naming.me h) l.self.is_spent;
}
