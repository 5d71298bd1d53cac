-- The changes lead from the set before them to the set after them.
use Rattle.std.proofs.Common.{◌≡◌, List, [], ◌∷◌, Bool, true, false, ◌&&◌, ◌||◌, not, nat_lt, refl, ◌∙◌}
use Rattle.std.specs.List.{fold}
use Rattle.zr_msg.specs.declared.decl.Decl.{Decl}
use Rattle.zr_log_set.specs.Decls.{is_decl, IsSet, has, with_decl, without_decl}
use Rattle.zr_log_set.proofs.Decls.{sets_same, set_from, set_without, set_all, has_from, has_less, has_all}
use Rattle.zr_local.specs.declared.row.Row.{Row}
use Rattle.zr_local.specs.Rows.{decls_of, declared_set, gone, came}
use Rattle.zr_local.specs.Owners.{rows_with}
use Rattle.zr_local.proofs.Changed.{has_rows, has_gone}

set_out : (acc ds : List Decl) → IsSet acc → IsSet (fold without_decl acc ds)
set_out acc [] up = up
set_out acc (d ∷ ds) up = set_out (without_decl acc d) ds (set_without acc d up)

regroup : (a b c : Bool) → ((not b && a) && not c) ≡ (a && not (b || c))
regroup true true c = refl
regroup true false c = refl
regroup false true c = refl
regroup false false c = refl

has_out : (acc ds : List Decl) (e : Decl) → has (fold without_decl acc ds) e ≡ (has acc e && not (has ds e))
has_out acc [] e = by_test (has acc e)
  where
    by_test : (t : Bool) → t ≡ (t && true)
    by_test true = refl
    by_test false = refl
has_out acc (d ∷ ds) e = has_out (without_decl acc d) ds e ∙ rw (has_less acc d e) (regroup (has acc e) (is_decl d e) (has ds e))

leads : (a b : Bool) → ((b && not (not a && b)) || (not b && a)) ≡ a
leads true true = refl
leads true false = refl
leads false true = refl
leads false false = refl

has_set : (rows : List Row) (e : Decl) → has (declared_set rows) e ≡ nat_lt 0 (rows_with rows e)
has_set rows e = has_all (decls_of rows) e ∙ has_rows rows e

pub lead_on : (before after : List Row) → fold with_decl (fold without_decl (declared_set before) (gone before after)) (came before after) ≡ declared_set after
lead_on before after =
    let out = fold without_decl (declared_set before) (gone before after) in
    sets_same (fold with_decl out (came before after)) (declared_set after)
    (set_from out (came before after) (set_out (declared_set before) (gone before after) (set_all (decls_of before))))
    (set_all (decls_of after))
    (λ e.
    has_from out (came before after) e
    ∙ rw (has_out (declared_set before) (gone before after) e, has_set before e, has_gone before after e, has_gone after before e, has_set after e)
    (leads (nat_lt 0 (rows_with after e)) (nat_lt 0 (rows_with before e))))
