use Rattle.std.proofs.Common.{◌≡◌, take, true}
use Rattle.std.specs.List.{list_all}
use Rattle.zr_oam.specs.Writing.{is_decl}
use Rattle.zr_law_sent.proofs.types.of_decls.Given as goal

abbrev pub invariant-loop-decl : goal.invariant-loop-decl
invariant-loop-decl l = list_all is_decl (take l.decl-index l.decls) ≡ true
