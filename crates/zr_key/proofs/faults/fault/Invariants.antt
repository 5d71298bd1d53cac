-- What is left decides what is wrong with the whole text.
use Rattle.std.proofs.Common.{◌≡◌, ◌+◌, length}
use Rattle.std.specs.Option.{option_copied, option_map_or}
use Rattle.zr_lists.specs.Cut.{parts}
use Rattle.zr_key.specs.Key.{first_fault, chunks}
use Rattle.zr_key.proofs.faults.fault.Given as goal

abbrev pub invariant-loop-rest : goal.invariant-loop-rest
invariant-loop-rest l = first_fault (parts 47 (option_copied l.rest)) ≡ first_fault (chunks l.text)

abbrev pub decreases-loop-rest : goal.decreases-loop-rest
decreases-loop-rest l = option_map_or (λ bytes. length bytes.now + 1) l.rest 0
