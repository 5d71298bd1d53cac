-- What was put so far is held.
use Rattle.std.proofs.Common.{List, ◌++◌, take}
use Rattle.zr_push_sought.specs.Holders.{HoldJust}
use Rattle.zr_push_sought.specs.Pairs.{Declared, of_sources}
use Rattle.zr_push_sought.proofs.holders.Holders.put_logs.Given as goal

abbrev pub invariant-loop-log : goal.invariant-loop-log
invariant-loop-log l = (rest : List Declared) → HoldJust rest l.fn.self → HoldJust (of_sources l.me (take l.log-index l.logs) ++ rest) l.self
