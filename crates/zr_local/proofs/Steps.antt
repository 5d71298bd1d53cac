-- What became new or last once a row is put, inserted or taken out at its place.
use Rattle.std.proofs.Common.{◌≡◌, ℕ, ◌+◌, List, Some, None, get_or, sym, ap, ◌∙◌, arith}
use Rattle.std.specs.List.{remove}
use Rattle.zr_msg.specs.declared.decl.Decl.{Decl}
use Rattle.zr_lists.specs.Place.{IsAt, IsGap}
use Rattle.zr_local.specs.declared.row.Row.{Row}
use Rattle.zr_local.specs.declared.owners.Owned.{Owned}
use Rattle.zr_local.specs.Rows.{Key, key_cmp, row_key, declared, undeclared, weight_of, gone, came}
use Rattle.zr_local.specs.Owners.{one, rows_with, where_counted, IsSound}
use Rattle.zr_local.proofs.Changed.{gone_is, came_is}
use Rattle.zr_log_set.specs.Decls.{decl_weight}
use Rattle.zr_local.proofs.Rows.{with-insert, with-set, with-remove, weight-set, weight-remove}
use Rattle.zr_local.proofs.Sound.{set_is, insert_is, remove_is}

module _ (rows : List Row) (os : List Owned) (s : IsSound rows os) where
  inserted : (r : Row) (i : ℕ) → IsGap key_cmp row_key rows (row_key r) i → (d : Decl) → rows_with (declared rows r) d ≡ rows_with rows d + one r.decl d
  inserted r i h d = rw (← insert_is rows r i h) (with-insert rows i r d)

  pub gone_insert : (r : Row) (i : ℕ) → IsGap key_cmp row_key rows (row_key r) i → where_counted os 1 None (Some r.decl) ≡ gone rows (declared rows r)
  gone_insert r i h = gone_is os rows (declared rows r) (rows_with rows) None (Some r.decl) s.counted (λ d. omega arith) (inserted r i h)

  pub came_insert : (r : Row) (i : ℕ) → IsGap key_cmp row_key rows (row_key r) i → where_counted os 0 (Some r.decl) None ≡ came rows (declared rows r)
  came_insert r i h = came_is os rows (declared rows r) (rows_with rows) None (Some r.decl) s.counted (λ d. omega arith) (inserted r i h)

  before : (k : Key) (x : Row) (i : ℕ) → IsAt key_cmp row_key rows k i → (d : Decl) → rows_with rows d ≡ rows_with (remove rows i) d + one (get_or rows i x).decl d
  before k x i h d = sym (with-remove rows i x d h.within)

  exchanged : (r x : Row) (i : ℕ) → IsAt key_cmp row_key rows (row_key r) i → (d : Decl) → rows_with (declared rows r) d ≡ rows_with (remove rows i) d + one r.decl d
  exchanged r x i h d = rw (← set_is rows r i h) (omega (arith, with-set rows i r x d h.within, with-remove rows i x d h.within))

  pub gone_set : (r x : Row) (i : ℕ) → IsAt key_cmp row_key rows (row_key r) i → where_counted os 1 (Some (get_or rows i x).decl) (Some r.decl) ≡ gone rows (declared rows r)
  gone_set r x i h =
      gone_is os rows (declared rows r) (rows_with (remove rows i)) (Some (get_or rows i x).decl) (Some r.decl) s.counted (before (row_key r) x i h) (exchanged r x i h)

  pub came_set : (r x : Row) (i : ℕ) → IsAt key_cmp row_key rows (row_key r) i → where_counted os 0 (Some r.decl) (Some (get_or rows i x).decl) ≡ came rows (declared rows r)
  came_set r x i h =
      came_is os rows (declared rows r) (rows_with (remove rows i)) (Some (get_or rows i x).decl) (Some r.decl) s.counted (before (row_key r) x i h) (exchanged r x i h)

  removed : (k : Key) (i : ℕ) → IsAt key_cmp row_key rows k i → (d : Decl) → rows_with (undeclared rows k) d ≡ rows_with (remove rows i) d + 0
  removed k i h d = rw (← remove_is rows k i h) (omega arith)

  pub gone_remove : (k : Key) (x : Row) (i : ℕ) → IsAt key_cmp row_key rows k i → where_counted os 1 (Some (get_or rows i x).decl) None ≡ gone rows (undeclared rows k)
  gone_remove k x i h =
      gone_is os rows (undeclared rows k) (rows_with (remove rows i)) (Some (get_or rows i x).decl) None s.counted (before k x i h) (removed k i h)

  pub came_remove : (k : Key) (x : Row) (i : ℕ) → IsAt key_cmp row_key rows k i → where_counted os 0 None (Some (get_or rows i x).decl) ≡ came rows (undeclared rows k)
  came_remove k x i h =
      came_is os rows (undeclared rows k) (rows_with (remove rows i)) (Some (get_or rows i x).decl) None s.counted (before k x i h) (removed k i h)

-- ---- what stands at the place, as it was read
pub others_weigh : (rows : List Row) (k : Key) (i : ℕ) (x : Row) → IsAt key_cmp row_key rows k i → x ≡ get_or rows i x → weight_of (undeclared rows k) + decl_weight x.decl ≡ weight_of rows
others_weigh rows k i x h e =
    let sum : weight_of (remove rows i) + decl_weight (get_or rows i x).decl ≡ weight_of rows = weight-remove rows i x h.within in
    ap (λ (y : Row). weight_of (undeclared rows k) + decl_weight y.decl) e ∙ rw (← remove_is rows k i h) sum

pub declared_weigh : (rows : List Row) (r : Row) (i : ℕ) → IsAt key_cmp row_key rows (row_key r) i → weight_of (undeclared rows (row_key r)) + decl_weight r.decl ≡ weight_of (declared rows r)
declared_weigh rows r i h =
    rw (← remove_is rows (row_key r) i h, ← set_is rows r i h) (omega (arith, weight-set rows i r r h.within, weight-remove rows i r h.within))

module _ (rows : List Row) (os : List Owned) (s : IsSound rows os) where
  pub gone_exchanged : (r x : Row) (i : ℕ) → IsAt key_cmp row_key rows (row_key r) i → x ≡ get_or rows i x → where_counted os 1 (Some x.decl) (Some r.decl) ≡ gone rows (declared rows r)
  gone_exchanged r x i h e = ap (λ (y : Row). where_counted os 1 (Some y.decl) (Some r.decl)) e ∙ gone_set rows os s r x i h

  pub came_exchanged : (r x : Row) (i : ℕ) → IsAt key_cmp row_key rows (row_key r) i → x ≡ get_or rows i x → where_counted os 0 (Some r.decl) (Some x.decl) ≡ came rows (declared rows r)
  came_exchanged r x i h e = ap (λ (y : Row). where_counted os 0 (Some r.decl) (Some y.decl)) e ∙ came_set rows os s r x i h

  pub gone_removed : (k : Key) (x : Row) (i : ℕ) → IsAt key_cmp row_key rows k i → x ≡ get_or rows i x → where_counted os 1 (Some x.decl) None ≡ gone rows (undeclared rows k)
  gone_removed k x i h e = ap (λ (y : Row). where_counted os 1 (Some y.decl) None) e ∙ gone_remove rows os s k x i h

  pub came_removed : (k : Key) (x : Row) (i : ℕ) → IsAt key_cmp row_key rows k i → x ≡ get_or rows i x → where_counted os 0 None (Some x.decl) ≡ came rows (undeclared rows k)
  came_removed k x i h e = ap (λ (y : Row). where_counted os 0 None (Some y.decl)) e ∙ came_remove rows os s k x i h
