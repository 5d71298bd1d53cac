-- The order of rows, and how many rows have a declaration once one is put, inserted or taken out at a place.
use Rattle.std.proofs.Common.{◌≡◌, ℕ, ◌+◌, ◌<◌, List, [], ◌∷◌, cond, Ordering, Less, Equal, Greater, get_or, set, length, refl, sym, ap, ◌∙◌, rules}
use Rattle.std.specs.Cmp.{IsTotalOrder}
use Rattle.std.specs.Cmp.Rules.{comparing}
use Rattle.std.specs.List.{insert, remove, sum_by}
use Rattle.std.specs.Ordering.{nat_cmp, ordering_then}
use Rattle.std.proofs.lemmas.List.Sums.{sum_by-cons, sum_by-insert, sum_by-remove, sum_by-set}
use Rattle.std.proofs.lemmas.Map.Lookups.{exact_unsigned}
use Rattle.zr_msg.specs.declared.decl.Decl.{Decl}
use Rattle.zr_log_set.specs.Decls.{is_decl, decl_weight}
use Rattle.zr_lists.proofs.Order.{IsExactOrder}
use Rattle.zr_local.specs.declared.row.Row.{Row}
use Rattle.zr_local.specs.Rows.{Key, key_cmp, decls_of, weight_of}
use Rattle.zr_local.specs.Owners.{one, rows_with}

key_exact : (k l : Key) → key_cmp k l ≡ Equal → k ≡ l
key_exact k l h = by_link (nat_cmp k.link l.link) refl h
  where
    by_kind : (r : Ordering) → nat_cmp k.kind l.kind ≡ r → k.link ≡ l.link → ordering_then r (nat_cmp k.id l.id) ≡ Equal → k ≡ l
    by_kind Less e p t = cc
    by_kind Equal e p t =
        let q : k.kind ≡ l.kind = exact_unsigned _ _ e in
        let s : k.id ≡ l.id = exact_unsigned _ _ t in
        λ i. record { link = p i; kind = q i; id = s i }
    by_kind Greater e p t = cc

    by_link : (r : Ordering) → nat_cmp k.link l.link ≡ r → ordering_then r (ordering_then (nat_cmp k.kind l.kind) (nat_cmp k.id l.id)) ≡ Equal → k ≡ l
    by_link Less e t = cc
    by_link Equal e t = by_kind (nat_cmp k.kind l.kind) refl (exact_unsigned _ _ e) t
    by_link Greater e t = cc

key_total : IsTotalOrder key_cmp
key_total = search (comparing, rules)

pub key_order : IsExactOrder key_cmp
key_order = record { total = key_total; exact = key_exact }

pub with-insert : (rows : List Row) (i : ℕ) (r : Row) (d : Decl) → rows_with (insert rows i r) d ≡ rows_with rows d + one r.decl d
with-insert rows i r d = sum_by-insert (λ (x : Row). cond (is_decl x.decl d) 1 0) rows i r

pub with-set : (rows : List Row) (i : ℕ) (r x : Row) (d : Decl) → i < length rows → rows_with (set rows i r) d + one (get_or rows i x).decl d ≡ rows_with rows d + one r.decl d
with-set rows i r x d lt = sum_by-set (λ (y : Row). cond (is_decl y.decl d) 1 0) rows i r x lt

pub with-remove : (rows : List Row) (i : ℕ) (x : Row) (d : Decl) → i < length rows → rows_with (remove rows i) d + one (get_or rows i x).decl d ≡ rows_with rows d
with-remove rows i x d lt = sum_by-remove (λ (y : Row). cond (is_decl y.decl d) 1 0) rows i x lt

pub weigh_rows : (rows : List Row) → weight_of rows ≡ sum_by (λ (r : Row). decl_weight r.decl) rows
weigh_rows [] = refl
weigh_rows (r ∷ rows) =
    sum_by-cons decl_weight r.decl (decls_of rows) ∙ ap (λ n. decl_weight r.decl + n) (weigh_rows rows) ∙ sym (sum_by-cons (λ (x : Row). decl_weight x.decl) r rows)

pub weight-insert : (rows : List Row) (i : ℕ) (r : Row) → weight_of (insert rows i r) ≡ weight_of rows + decl_weight r.decl
weight-insert rows i r = rw (weigh_rows (insert rows i r), weigh_rows rows) (sum_by-insert (λ (x : Row). decl_weight x.decl) rows i r)

pub weight-set : (rows : List Row) (i : ℕ) (r x : Row) → i < length rows → weight_of (set rows i r) + decl_weight (get_or rows i x).decl ≡ weight_of rows + decl_weight r.decl
weight-set rows i r x lt = rw (weigh_rows (set rows i r), weigh_rows rows) (sum_by-set (λ (y : Row). decl_weight y.decl) rows i r x lt)

pub weight-remove : (rows : List Row) (i : ℕ) (x : Row) → i < length rows → weight_of (remove rows i) + decl_weight (get_or rows i x).decl ≡ weight_of rows
weight-remove rows i x lt = rw (weigh_rows (remove rows i), weigh_rows rows) (sum_by-remove (λ (y : Row). decl_weight y.decl) rows i x lt)
