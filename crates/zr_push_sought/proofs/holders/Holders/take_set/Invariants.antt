-- What is left to be taken is still held.
use Rattle.std.proofs.Common.{List, ◌++◌, drop}
use Rattle.zr_push_sought.specs.Holders.{HoldJust}
use Rattle.zr_push_sought.specs.Pairs.{Declared, of_set}
use Rattle.zr_push_sought.proofs.holders.Holders.take_set.Given as goal

abbrev pub invariant-loop-decl : goal.invariant-loop-decl
invariant-loop-decl l = (rest : List Declared) → HoldJust (of_set l.name l.decls ++ rest) l.fn.self → HoldJust (of_set l.name (drop l.decl-index l.decls) ++ rest) l.self
