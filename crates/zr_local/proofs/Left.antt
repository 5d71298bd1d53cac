-- What stays once the client of a link has left: rows and what is noted of them still belong together, and nothing came.
use Rattle.std.proofs.Common.{◌≡◌, ℕ, ◌+◌, ◌-◌, ◌==◌, ◌&&◌, not, nat_lt, List, [], ◌∷◌, false, cond, filter, refl, sym, ◌∙◌, arith}
use Rattle.std.specs.List.{fold}
use Rattle.std.proofs.lemmas.Bool.Decides.{nat_tests}
use Rattle.std.proofs.lemmas.List.Filters.{sum_by-filter_both}
use Rattle.std.proofs.lemmas.List.Kept.{IsStrictlySortedBy-filter}
use Rattle.std.proofs.lemmas.List.Sums.{sum_by-cons}
use Rattle.zr_msg.specs.declared.decl.Decl.{Decl}
use Rattle.zr_log_set.specs.Decls.{is_decl, decl_weight}
use Rattle.zr_log_set.proofs.Decls.{sets_same, set_none, set_all, has_all}
use Rattle.zr_local.specs.declared.row.Row.{Row}
use Rattle.zr_local.specs.declared.owners.Owned.{Owned}
use Rattle.zr_local.specs.Rows.{key_cmp, row_key, left, decls_of, declared_set, gone, came, weight_of}
use Rattle.zr_local.specs.Owners.{count_of, once_less, rows_with, on_link, IsSound}
use Rattle.zr_local.proofs.Changed.{has_filter, set_filter, has_rows, has_gone, set_gone}
use Rattle.zr_local.proofs.Counts.{count-less}
use Rattle.zr_local.proofs.Rows.{weigh_rows}

-- each row is of the link, or stays
pub parts_have : (rows : List Row) (link : ℕ) (d : Decl) → rows_with (on_link rows link) d + rows_with (left rows link) d ≡ rows_with rows d
parts_have rows link d = sum_by-filter_both (λ (r : Row). r.link.0 == link) (λ (r : Row). not (r.link.0 == link)) (λ r. refl) (λ (r : Row). cond (is_decl r.decl d) 1 0) rows

pub parts_weigh : (rows : List Row) (link : ℕ) → weight_of (on_link rows link) + weight_of (left rows link) ≡ weight_of rows
parts_weigh rows link =
    rw (weigh_rows (on_link rows link), weigh_rows (left rows link), weigh_rows rows)
    (sum_by-filter_both (λ (r : Row). r.link.0 == link) (λ (r : Row). not (r.link.0 == link)) (λ r. refl) (λ (r : Row). decl_weight r.decl) rows)

pub counts-less : (os : List Owned) (rows : List Row) (e : Decl) → count_of (fold once_less os (decls_of rows)) e ≡ count_of os e - rows_with rows e
counts-less os [] e = omega arith
counts-less os (r ∷ rows) e =
    counts-less (once_less os r.decl) rows e
    ∙ omega (arith, count-less os r.decl e, sum_by-cons (λ (x : Row). cond (is_decl x.decl e) 1 0) r rows)

pub sound_left : (rows : List Row) (os : List Owned) (link : ℕ) → IsSound rows os →
    IsSound (left rows link) (fold once_less os (decls_of (on_link rows link)))
sound_left rows os link s = record {
  ascending = IsStrictlySortedBy-filter (λ (x y : Row). key_cmp (row_key x) (row_key y)) (λ (r : Row). not (r.link.0 == link)) rows s.ascending;
  counted = λ d. counts-less os (on_link rows link) d ∙ omega (arith, s.counted d, parts_have rows link d);
}

last_of : (a b c : ℕ) → a + b ≡ c → ((b == 0) && nat_lt 0 a) ≡ (not (nat_lt 0 b) && nat_lt 0 c)
last_of a b c e = grind (arith, nat_tests)

first_of_none : (a b c : ℕ) → a + b ≡ c → false ≡ (not (nat_lt 0 c) && nat_lt 0 b)
first_of_none a b c e = grind (arith, nat_tests)

pub gone_left : (rows : List Row) (os : List Owned) (link : ℕ) → IsSound rows os →
    filter (λ d. count_of (fold once_less os (decls_of (on_link rows link))) d == 0) (declared_set (on_link rows link)) ≡ gone rows (left rows link)
gone_left rows os link s =
    let on = on_link rows link in
    let stay = left rows link in
    let noted = fold once_less os (decls_of on) in
    let last = λ (d : Decl). count_of noted d == 0 in
    sets_same (filter last (declared_set on)) (gone rows stay) (set_filter last (declared_set on) (set_all (decls_of on))) (set_gone rows stay)
    (λ e.
    has_filter last (declared_set on) e
    ∙ rw (has_all (decls_of on) e, has_rows on e, (sound_left rows os link s).counted e)
    (last_of (rows_with on e) (rows_with stay e) (rows_with rows e) (parts_have rows link e))
    ∙ sym (has_gone rows stay e))

pub nothing_comes : (rows : List Row) (link : ℕ) → [] ≡ came rows (left rows link)
nothing_comes rows link =
    let stay = left rows link in
    sets_same [] (came rows stay) set_none (set_gone stay rows)
    (λ e. first_of_none (rows_with (on_link rows link) e) (rows_with stay e) (rows_with rows e) (parts_have rows link e) ∙ sym (has_gone stay rows e))
