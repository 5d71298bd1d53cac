-- What was put and what is left make all.
use Rattle.std.proofs.Common.{◌≡◌, ◌++◌}
use Rattle.zr_told_interested.proofs.by_key.links_in.Given as goal

abbrev pub invariant-loop-link : goal.invariant-loop-link
invariant-loop-link l = l.links.items ++ l.link-iterator ≡ l.found.keys
