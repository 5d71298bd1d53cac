-- What a change of a router's rows costs. Where rows go, the set loses no more declarations than there are rows less (`less_costs`); a row that is
-- put in makes two changes at most (`more_costs`). The rows weigh no more than before, and what is put in (`less_weigh`, `more_weigh`). And what
-- is new in the set is of the rows (`added_of`).
use Rattle.std.proofs.Common.{◌≡◌, ◌≤◌, ◌+◌, ℕ, Bool, true, false, cond, not, List, [], ◌∷◌, length, map, Ordering, Less, Equal, Greater, refl, sym, ap, ◌∙◌, inl, inr, arith, length-append}
use Rattle.std.specs.Prelude.{◌||◌, filter}
use Rattle.std.specs.List.{AllByRecursion, fold, sum_by}
use Rattle.std.specs.Ordering.{is_eq, is_lt}
use Rattle.std.proofs.lemmas.Bool.{false≢true, or_left, or_right}
use Rattle.std.proofs.lemmas.List.{length-map, map-append}
use Rattle.std.proofs.lemmas.List.Filters.{length-filter_both}
use Rattle.std.proofs.lemmas.List.Folds.{fold-map, list_any-append}
use Rattle.std.proofs.lemmas.List.Sums.{sum_by-cons, length-filter}
use Rattle.zr_msg.specs.Decl.{decl_cmp}
use Rattle.zr_msg.specs.declared.decl.Decl.{Decl}
use Rattle.zr_lists.specs.Ascending.{before_key, behind_key}
use Rattle.zr_log_set.specs.Decls.{is_decl, has, with_decl, set_of, decl_weight}
use Rattle.zr_lists.proofs.Order.{comes, comes_back, is_itself}
use Rattle.zr_lists.proofs.Puts.{All-put}
use Rattle.zr_log_set.proofs.Decls.{decl_order}
use Rattle.zr_local.specs.Rows.{row_key, key_cmp, declared, decls_of, declared_set, gone, came, weight_of}
use Rattle.zr_local.specs.declared.row.Row.{Row}
use Rattle.zr_local.proofs.Rows.{key_order, weigh_rows}
use Rattle.zr_log.specs.Log.{Change}
use Rattle.zr_node_spec.specs.Changes.{changes}
use Rattle.zr_lists.proofs.Each.{All-append, All-filter}
use Rattle.zr_lists.proofs.Finds.{In, in_any, map_in, filter_in}
use Rattle.zr_lists.proofs.Sums.{filter_sum, put_sum, put_sum_le}
use Rattle.zr_law_settled.proofs.WeightsSums.{AreOf, set_sum}

-- ---- counts

one_at_most : (t : Bool) → cond t 1 0 ≤ 1
one_at_most true = omega arith
one_at_most false = omega arith

-- one for a declaration that is not among others
abbrev one_new : List Decl → Decl → ℕ
one_new others d = cond (not (has others d)) 1 0

-- of the set of rows no more declarations pass a test than of the rows
some_of : (q : Decl → Bool) (rows : List Row) → length (filter q (declared_set rows)) ≤ sum_by (λ r. cond (q r.decl) 1 0) rows
some_of q rows =
    let each : sum_by (λ d. cond (q d) 1 0) (decls_of rows) ≡ sum_by (λ r. cond (q r.decl) 1 0) rows = fold-map (λ (n : ℕ) (d : Decl). n + cond (q d) 1 0) (λ (r : Row). r.decl) 0 rows in
    omega (arith, length-filter q (declared_set rows), set_sum (λ d. cond (q d) 1 0) (decls_of rows), each)

-- rows have their declarations
pub has_row : (rows : List Row) (y : Row) → In y rows → has (decls_of rows) y.decl ≡ true
has_row rows y i = in_any (λ e. is_decl e y.decl) (decls_of rows) y.decl (map_in (λ (r : Row). r.decl) rows y i) (is_itself decl_cmp decl_order y.decl)

-- rows whose declarations were there bring none
none_new : (before rows : List Row) → ((y : Row) → In y rows → has (decls_of before) y.decl ≡ true) → sum_by (λ r. one_new (decls_of before) r.decl) rows ≡ 0
none_new before [] h = refl
none_new before (r ∷ rows) h =
    let here : one_new (decls_of before) r.decl ≡ 0 = ap (λ t. cond (not t) 1 0) (h r (inl refl)) in
    omega (arith, sum_by-cons (λ (q : Row). one_new (decls_of before) q.decl) r rows, here, none_new before rows (λ y i. h y (inr i)))

-- where the declarations of some rows stay, only those of the others may go
fewer : (p : Row → Bool) (after rows : List Row) → ((y : Row) → In y rows → p y ≡ true → has (decls_of after) y.decl ≡ true) →
    sum_by (λ r. one_new (decls_of after) r.decl) rows + length (filter p rows) ≤ length rows
fewer p after [] h = omega arith
fewer p after (r ∷ rows) h = omega (arith, sum_by-cons (λ (q : Row). one_new (decls_of after) q.decl) r rows, one (p r) refl, fewer p after rows (λ y i. h y (inr i)))
  where
    one : (t : Bool) → p r ≡ t → one_new (decls_of after) r.decl + length (cond t (r ∷ filter p rows) (filter p rows)) ≤ 1 + length (filter p rows)
    one true e = let here : one_new (decls_of after) r.decl ≡ 0 = ap (λ t. cond (not t) 1 0) (h r (inl refl) e) in omega (arith, here)
    one false e = omega (arith, one_at_most (not (has (decls_of after) r.decl)))

changes_count : (before after : List Row) → length (changes before after) ≡ length (gone before after) + length (came before after)
changes_count before after = omega (
  arith,
  length-append (map lost (gone before after)) (map won (came before after)),
  length-map (gone before after) lost,
  length-map (came before after) won,
)
  where
    lost : Decl → Change
    lost d = record { added = false; decl = d }

    won : Decl → Change
    won d = record { added = true; decl = d }

-- ---- rows go

pub less_costs : (p : Row → Bool) (rows : List Row) → length (changes rows (filter p rows)) + length (filter p rows) ≤ length rows
less_costs p rows = omega (
  arith,
  changes_count rows (filter p rows),
  some_of (λ d. not (has (decls_of (filter p rows)) d)) rows,
  fewer p (filter p rows) rows (λ y i t. has_row (filter p rows) y (filter_in p rows y i t)),
  some_of (λ d. not (has (decls_of rows) d)) (filter p rows),
  filter_sum (λ (r : Row). one_new (decls_of rows) r.decl) p rows,
  none_new rows rows (λ y i. has_row rows y i),
)

pub less_weigh : (p : Row → Bool) (rows : List Row) → weight_of (filter p rows) ≤ weight_of rows
less_weigh p rows = omega (arith, weigh_rows rows, weigh_rows (filter p rows), filter_sum (λ (r : Row). decl_weight r.decl) p rows)

-- ---- a row comes, or takes the place of that of its key

ones : {X : Type 0} (xs : List X) → sum_by (λ (x : X). 1) xs ≡ length xs
ones [] = refl
ones (x ∷ xs) = omega (arith, sum_by-cons (λ y. 1) x xs, ones xs)

module _ (rows : List Row) (r : Row) where
  abbrev is_in_place : Row → Bool
  is_in_place y = is_eq (key_cmp (row_key y) (row_key r))

  abbrev stays : Row → Bool
  stays y = not (is_in_place y)

  -- the rows before the new one, and those behind it
  abbrev lower : List Row
  lower = before_key key_cmp row_key rows (row_key r)

  abbrev higher : List Row
  higher = behind_key key_cmp row_key rows (row_key r)

  parts_have : (d : Decl) → has (decls_of (declared rows r)) d ≡ (has (decls_of lower) d || (is_decl r.decl d || has (decls_of higher) d))
  parts_have d =
      ap (λ ds. has ds d) (map-append (λ (q : Row). q.decl) lower (r ∷ higher)) ∙ list_any-append (λ e. is_decl e d) (decls_of lower) (decls_of (r ∷ higher))

  -- a row of another key stays
  there_then : (y : Row) → In y rows → stays y ≡ true → has (decls_of (declared rows r)) y.decl ≡ true
  there_then y i other = parts_have y.decl ∙ by (key_cmp (row_key y) (row_key r)) refl
    where
      by : (o : Ordering) → key_cmp (row_key y) (row_key r) ≡ o → (has (decls_of lower) y.decl || (is_decl r.decl y.decl || has (decls_of higher) y.decl)) ≡ true
      by Less e = or_left (has (decls_of lower) y.decl) _ (has_row lower y (filter_in (λ q. is_lt (key_cmp (row_key q) (row_key r))) rows y i (comes key_cmp key_order (row_key y) (row_key r) e).before))
      by Equal e = absurd (false≢true (sym (ap (λ o. not (is_eq o)) e) ∙ other))
      by Greater e = or_right (has (decls_of lower) y.decl) _ (or_right (is_decl r.decl y.decl) _
          (has_row higher y (filter_in (λ q. is_lt (key_cmp (row_key r) (row_key q))) rows y i (comes_back key_cmp key_order (row_key y) (row_key r) e).before)))

  pub more_costs : length (changes rows (declared rows r)) + length (declared rows r) ≤ length rows + 2
  more_costs = omega (
    arith,
    changes_count rows (declared rows r),
    some_of (λ d. not (has (decls_of (declared rows r)) d)) rows,
    fewer stays (declared rows r) rows there_then,
    some_of (λ d. not (has (decls_of rows) d)) (declared rows r),
    put_sum_le (λ (q : Row). one_new (decls_of rows) q.decl) key_cmp row_key key_order rows r,
    none_new rows rows (λ y i. has_row rows y i),
    one_at_most (not (has (decls_of rows) r.decl)),
    put_sum (λ (q : Row). 1) key_cmp row_key key_order rows r,
    ones (declared rows r),
    ones (filter is_in_place rows),
    ones rows,
    length-filter_both is_in_place stays (λ y. refl) rows,
  )

  pub more_weigh : weight_of (declared rows r) ≤ weight_of rows + decl_weight r.decl
  more_weigh = omega (arith, weigh_rows rows, weigh_rows (declared rows r), put_sum_le (λ (q : Row). decl_weight q.decl) key_cmp row_key key_order rows r)

-- ---- what is new

pub set_of_these : (ever ds : List Decl) → AreOf ever ds → AreOf ever (set_of ds)
set_of_these ever ds h = from [] ds tt h
  where
    from : (acc ds : List Decl) → AreOf ever acc → AreOf ever ds → AreOf ever (fold with_decl acc ds)
    from acc [] k h = k
    from acc (d ∷ ds) k h = from (with_decl acc d) ds (All-put decl_cmp (λ (e : Decl). e) decl_order (λ e. has ever e ≡ true) acc d k h.0) h.1

-- what a change adds was declared
abbrev pub IsAdded : List Decl → Change → Type 0
IsAdded ever c = c.added ≡ true → has ever c.decl ≡ true

pub added_of : (ever : List Decl) (before after : List Row) → AllByRecursion (λ q. has ever q.decl ≡ true) after → AllByRecursion (IsAdded ever) (changes before after)
added_of ever before after h =
    All-append (IsAdded ever) (map (λ d. record { added = false; decl = d }) (gone before after)) (map (λ d. record { added = true; decl = d }) (came before after))
    (lost (gone before after)) (won (came before after) (All-filter (λ d. not (has (decls_of before) d)) (λ d. has ever d ≡ true) (declared_set after) (set_of_these ever (decls_of after) (rows_of after h))))
  where
    lost : (ds : List Decl) → AllByRecursion (IsAdded ever) (map (λ d. record { added = false; decl = d }) ds)
    lost [] = tt
    lost (d ∷ ds) = ((λ e. absurd (false≢true e)), lost ds)

    won : (ds : List Decl) → AreOf ever ds → AllByRecursion (IsAdded ever) (map (λ d. record { added = true; decl = d }) ds)
    won [] k = tt
    won (d ∷ ds) k = ((λ e. k.0), won ds k.1)

    rows_of : (rows : List Row) → AllByRecursion (λ q. has ever q.decl ≡ true) rows → AreOf ever (decls_of rows)
    rows_of [] k = tt
    rows_of (q ∷ rows) k = (k.0, rows_of rows k.1)
