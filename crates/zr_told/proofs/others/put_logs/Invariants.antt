-- What was put and what is left make all.
use Rattle.std.proofs.Common.{◌≡◌, ◌++◌, drop, filter}
use Rattle.std.specs.List.{flat_map}
use Rattle.zr_told.specs.Tokens.{is_kept}
use Rattle.zr_told_spec.specs.Rows.{is_source}
use Rattle.zr_told.proofs.others.put_logs.Given as goal

abbrev pub invariant-loop-log : goal.invariant-loop-log
invariant-loop-log l =
    l.decls.items ++ filter (is_kept l.tokens) (flat_map (λ g. g.decls) (filter (λ g. is_source l.tables g) (drop l.log-index l.logs)))
    ≡ l.fn.decls.items ++ filter (is_kept l.tokens) (flat_map (λ g. g.decls) (filter (λ g. is_source l.tables g) l.logs))
