use Rattle.std.proofs.Common.{◌≡◌, ◌++◌, drop}
use Rattle.std.specs.List.{flat_map}
use Rattle.zr_oam.specs.Writing.{writes_decl}
use Rattle.zr_oam.proofs.writing.put_decls.Given as goal

abbrev pub invariant-loop-decl : goal.invariant-loop-decl
invariant-loop-decl l = l.out.items ++ flat_map (λ d. writes_decl d) (drop l.decl-index l.decls) ≡ l.fn.out.items ++ flat_map (λ d. writes_decl d) l.decls
