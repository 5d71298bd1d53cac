-- What was added and what is left make all.
use Rattle.std.proofs.Common.{◌≡◌, ℕ, List, ◌++◌, ◌||◌, drop}
use Rattle.std.specs.List.{flat_map}
use Rattle.zr_token.specs.Tally.{reaches}
use Rattle.zr_told.specs.Tokens.{has_source, log_pairs, sources}
use Rattle.zr_told.proofs.tokens.add_logs.Given as goal

abbrev pub invariant-loop-log : goal.invariant-loop-log
invariant-loop-log l =
    (l.tally.pairs ++ flat_map log_pairs (sources l.tables (drop l.log-index l.logs)) ≡ l.fn.tally.pairs ++ flat_map log_pairs (sources l.tables l.logs))
    × ((s : List ℕ) → (has_source (sources l.tables (drop l.log-index l.logs)) s || reaches l.tally s) ≡ (has_source (sources l.tables l.logs) s || reaches l.fn.tally s))
