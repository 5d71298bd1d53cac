-- What was passed, and of what is left that up to the next final.
use Rattle.std.proofs.Common.{◌≡◌, ◌++◌, drop, take}
use Rattle.zr_guarantee.specs.Sent.{up_to_final}
use Rattle.zr_tests_judge.proofs.sent.up_to_final.Given as goal

abbrev pub invariant-loop-place : goal.invariant-loop-place
invariant-loop-place l = take l.place l.told ++ up_to_final l.number (drop l.place l.told) ≡ up_to_final l.number l.told
