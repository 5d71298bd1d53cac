-- What was found so far is nothing, and what is left decides.
use Rattle.std.proofs.Common.{◌≡◌, drop, filter}
use Rattle.std.specs.List.{list_any, flat_map}
use Rattle.std.specs.Option.{option_copied}
use Rattle.zr_told.specs.Plan.{is_sought}
use Rattle.zr_told_spec.specs.Rows.{is_source}
use Rattle.zr_told.proofs.search.is_in_logs.Given as goal

abbrev pub invariant-loop-log : goal.invariant-loop-log
invariant-loop-log l = list_any (is_sought (option_copied l.interest) l.place) (flat_map (λ g. g.decls) (filter (λ g. is_source l.tables g) (drop l.log-index l.logs))) ≡ list_any (is_sought (option_copied l.interest) l.place) (flat_map (λ g. g.decls) (filter (λ g. is_source l.tables g) l.logs))
