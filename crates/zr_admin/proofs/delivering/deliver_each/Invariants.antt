-- The messages so far were delivered.
use Rattle.std.proofs.Common.{◌≡◌, length}
use Rattle.std.specs.List.{AllByRecursion}
use Rattle.std.specs.Vec.Iter.{into_iter_items, into_iter_len}
use mathlib.Core.List.{IsPrefix}
use Rattle.zr_hist.specs.Words.{IsSamePass, seen}
use Rattle.zr_port.specs.Coming.{sight}
use Rattle.zr_wire.specs.Writing.{IsSpelled}
use Rattle.zr_admin.specs.Inner.{DeliversUpTo}
use Rattle.zr_admin.proofs.delivering.deliver_each.Given as goal

abbrev pub invariant-loop-msg : goal.invariant-loop-msg
invariant-loop-msg g l = record {
  same : IsSamePass l.fn.pass l.pass;
  prefix : IsPrefix (seen l.fn.pass) (seen l.pass);
  spelled : AllByRecursion IsSpelled (into_iter_items l.rest);
  sent : DeliversUpTo l.link (λ h m e. g.P.Port.refuses_message l.port h l.link m e) (into_iter_items l.fn.messages) (into_iter_items l.rest) (sight l.fn.pass) (sight l.pass);
  long : into_iter_len l.rest ≡ length (into_iter_items l.rest);
}

abbrev pub decreases-loop-msg : goal.decreases-loop-msg
decreases-loop-msg g l = into_iter_len l.rest
