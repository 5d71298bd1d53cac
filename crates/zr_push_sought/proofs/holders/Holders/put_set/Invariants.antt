-- What was put so far is held.
use Rattle.std.proofs.Common.{List, ◌++◌, take}
use Rattle.zr_push_sought.specs.Holders.{HoldJust}
use Rattle.zr_push_sought.specs.Pairs.{Declared, of_set}
use Rattle.zr_push_sought.proofs.holders.Holders.put_set.Given as goal

abbrev pub invariant-loop-decl : goal.invariant-loop-decl
invariant-loop-decl l = (rest : List Declared) → HoldJust rest l.fn.self → HoldJust (of_set l.name (take l.decl-index l.decls) ++ rest) l.self
