-- What was found so far is nothing, and what is left decides.
use Rattle.std.proofs.Common.{◌≡◌, drop}
use Rattle.std.specs.List.{list_any}
use Rattle.std.specs.Option.{option_copied}
use Rattle.zr_told.specs.Plan.{is_sought}
use Rattle.zr_told.proofs.search.is_in.Given as goal

abbrev pub invariant-loop-decl : goal.invariant-loop-decl
invariant-loop-decl l = list_any (is_sought (option_copied l.interest) l.place) (drop l.decl-index l.decls) ≡ list_any (is_sought (option_copied l.interest) l.place) l.decls
