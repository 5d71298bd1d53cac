-- Others declare no more than a router knows.
use Rattle.std.proofs.Common.{◌≡◌, ℕ, ◌+◌, ◌≤◌, ◌&&◌, not, Bool, true, false, cond, List, [], ◌∷◌, length, length-append, filter, arith}
use Rattle.std.specs.Prelude.{nat_eq}
use Rattle.std.specs.List.{flat_map, sum_by}
use Rattle.std.proofs.lemmas.List.{length-map}
use Rattle.std.proofs.lemmas.List.Sums.{sum_by-cons}
use Rattle.zr_lists.proofs.Filters.{filter_shorter}
use Rattle.zr_id.specs.Zid.{is_named}
use Rattle.zr_tree.specs.Tree.{reached}
use Rattle.zr_local.specs.Rows.{decls_of, left}
use Rattle.zr_local.specs.declared.row.Row.{Row}
use Rattle.zr_log.specs.declared.log.Log.{Log}
use Rattle.zr_node_spec.specs.Tables.{TableState, graph}
use Rattle.zr_told_spec.specs.Rows.{is_source, others}
use Rattle.zr_router_core.specs.Room.{foreign_count, decl_count}

rows_few : (k : ℕ) (rows : List Row) → length (decls_of (left rows k)) ≤ length rows
rows_few k rows = let e = length-map (left rows k) (λ (r : Row). r.decl) in let f = filter_shorter (λ (r : Row). not (nat_eq r.link.0 k)) rows in omega (arith, e, f)

logs_few : (t : TableState) (logs : List Log) → length (flat_map (λ l. l.decls) (filter (λ l. is_source t l) logs)) ≤ sum_by (foreign_count t.base.me) logs
logs_few t [] = omega arith
logs_few t (l ∷ logs) = by (is_named l.source t.base.me) (reached (graph t) t.base.me l.source) (logs_few t logs) (sum_by-cons (foreign_count t.base.me) l logs)
  where
    rest : List Log
    rest = filter (λ l. is_source t l) logs

    by : (named reached : Bool) → length (flat_map (λ l. l.decls) rest) ≤ sum_by (foreign_count t.base.me) logs →
        sum_by (foreign_count t.base.me) (l ∷ logs) ≡ cond named 0 (length l.decls) + sum_by (foreign_count t.base.me) logs →
        length (flat_map (λ l. l.decls) (cond (not named && reached) (l ∷ rest) rest)) ≤ sum_by (foreign_count t.base.me) (l ∷ logs)
    by true reached ih e = omega (arith, ih, e)
    by false true ih e = let f = length-append l.decls (flat_map (λ l. l.decls) rest) in omega (arith, ih, e, f)
    by false false ih e = omega (arith, ih, e)

pub others_few : (t : TableState) (k : ℕ) → length (others t k) ≤ decl_count t
others_few t k =
    let e = length-append (decls_of (left t.rows k)) (flat_map (λ l. l.decls) (filter (λ l. is_source t l) t.known.logs)) in
    omega (arith, e, rows_few k t.rows, logs_few t t.known.logs)
