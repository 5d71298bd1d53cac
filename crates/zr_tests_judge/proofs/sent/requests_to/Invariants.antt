-- What was added, and the requests among the messages that are left.
use Rattle.std.proofs.Common.{◌≡◌, ◌++◌, map, filter, drop}
use Rattle.zr_guarantee.specs.Sent.{is_request, requests_to}
use Rattle.zr_tests_judge.proofs.sent.requests_to.Given as goal

abbrev pub invariant-loop-x : goal.invariant-loop-x
invariant-loop-x l = l.lines.items ++ map (λ x. x.tag) (filter (λ x. is_request l.number x.msg) (drop l.x-index l.x-items)) ≡ requests_to l.report l.receiver l.number
