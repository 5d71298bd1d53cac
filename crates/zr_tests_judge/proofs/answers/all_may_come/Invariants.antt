-- What is left decides, behind what was passed.
use Rattle.std.proofs.Common.{◌≡◌, [], drop, take}
use Rattle.zr_guarantee.specs.Latest.{all_may_come}
use Rattle.zr_tests_judge.specs.Judge.{acts_of}
use Rattle.zr_tests_judge.proofs.answers.all_may_come.Given as goal

abbrev pub invariant-loop-place : goal.invariant-loop-place
invariant-loop-place l =
    all_may_come (acts_of l.talk) l.talk.report l.receiver (take l.place l.told) (drop l.place l.told)
    ≡ all_may_come (acts_of l.talk) l.talk.report l.receiver [] l.told
