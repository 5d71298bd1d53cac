-- What is left to be logged leads to what all of it leads to, and the log is of the same router.
use Rattle.std.proofs.Common.{◌≡◌, drop}
use Rattle.zr_node_spec.specs.Changes.{after_changes}
use Rattle.zr_node.proofs.Logged.{alike}
use Rattle.zr_node.proofs.asked.log_each.Given as goal

abbrev pub invariant-loop-decl : goal.invariant-loop-decl
invariant-loop-decl l = record {
  left : after_changes l.known (alike l.added (drop l.decl-index l.decls)) ≡ after_changes l.fn.known (alike l.added l.decls);
  same : l.known.me ≡ l.fn.known.me;
}
