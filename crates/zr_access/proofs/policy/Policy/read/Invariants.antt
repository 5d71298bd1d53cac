-- What was read and what the rest still says are together what the text says.
use Rattle.std.proofs.Common.{◌≡◌, ◌+◌, ◌≤◌, length}
use Rattle.std.specs.Option.{option_copied, option_map_or}
use Rattle.zr_lists.specs.Cut.{parts}
use Rattle.zr_access.specs.Text.{most_lines, policy_of, read_lines}
use Rattle.zr_access.proofs.policy.Policy.read.Given as goal

abbrev pub invariant-loop-rest : goal.invariant-loop-rest
invariant-loop-rest l = record {
  said : read_lines l.number l.policy (parts 10 (option_copied l.rest)) ≡ policy_of l.bytes;
  few : l.number ≤ most_lines;
}

abbrev pub decreases-loop-rest : goal.decreases-loop-rest
decreases-loop-rest l = option_map_or (λ bytes. length bytes.now + 1) l.rest 0
