-- What was added, and what is a sample or a request among the messages that are left.
use Rattle.std.proofs.Common.{◌≡◌, ◌++◌, filter, drop}
use Rattle.std.specs.List.{flat_map}
use Rattle.zr_guarantee.specs.Broker.{is_line_of}
use Rattle.zr_guarantee.specs.Sent.{item_of, sent_to}
use Rattle.zr_tests_judge.proofs.sent.sent.Given as goal

abbrev pub invariant-loop-x : goal.invariant-loop-x
invariant-loop-x l =
    l.sent.items ++ filter (λ i. is_line_of l.phase l.publisher i.line) (flat_map (λ t. item_of t.msg t.tag) (drop l.x-index l.x-items))
    ≡ filter (λ i. is_line_of l.phase l.publisher i.line) (sent_to l.report l.receiver)
