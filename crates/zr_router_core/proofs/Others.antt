-- What others declare, before and after an event: but at the places that changed, a test finds the same.
use Rattle.std.proofs.Common.{◌≡◌, ℕ, ◌+◌, ◌==◌, Bool, true, false, cond, not, ◌&&◌, ◌||◌, ◌++◌, List, [], ◌∷◌, Option, Some, None, map, filter, refl, sym, ap, ◌∙◌}
use Rattle.std.specs.List.{list_any, flat_map, fold}
use Rattle.std.specs.Cmp.Lexicographic.{slice_cmp}
use Rattle.std.specs.Option.{option_map, option_map_or, option_to_list}
use Rattle.std.specs.Ordering.{is_eq, nat_cmp}
use Rattle.std.proofs.lemmas.List.Folds.{list_any-append}
use Rattle.zr_id.specs.Zid.{is_named}
use Rattle.zr_graph.specs.Base.{BaseState}
use Rattle.zr_graph.proofs.Names.{same_refl as name_itself}
use Rattle.zr_tree.specs.Tree.{reached}
use Rattle.zr_tree.specs.Walk.{graph_of}
use Rattle.zr_msg.specs.Decl.{decl_cmp}
use Rattle.zr_msg.specs.declared.decl.Decl.{Decl}
use Rattle.zr_lists.specs.Ascending.{put, without}
use Rattle.zr_log_set.proofs.Decls.{decl_order}
use Rattle.zr_lists.proofs.Order.{is_same, name_order}
use Rattle.zr_local.specs.Owners.{on_link}
use Rattle.zr_local.specs.Rows.{AreInOrder, Key, row_key, key_cmp, row_at, declared, undeclared, left, decls_of}
use Rattle.zr_local.specs.declared.row.Row.{Row}
use Rattle.zr_local.proofs.Rows.{key_order}
use Rattle.zr_log.specs.Known.{KnownState, log_of, position, decls, with_log, after_own, after_step, is_next}
use Rattle.zr_log.specs.Known.{AreInOrder as LogsInOrder}
use Rattle.zr_log.specs.Log.{Change, changed}
use Rattle.zr_log.specs.declared.log.Log.{Log}
use Rattle.zr_log.proofs.Logs.{source_of}
use Rattle.zr_node_spec.specs.Changes.{after_changes}
use Rattle.zr_node_spec.specs.Tables.{TableState}
use Rattle.zr_node_spec.proofs.Links.{find_passes}
use Rattle.zr_told_spec.specs.Place.{same, place_of}
use Rattle.zr_told_spec.specs.Rows.{is_source, others, IsSameBut}
use Rattle.zr_told_spec.specs.declared.place.Place.{Place}
use Rattle.zr_told_spec.proofs.Places.{same_refl}
use Rattle.zr_router_core.specs.Places.{row_place, places_under, places_declared, places_on}
use Rattle.zr_router_core.proofs.Puts.{any_put, any_at}

-- ---- what a test finds

-- of a client but that of a link, and in the log of another router that is reached
abbrev pub row_has : ℕ → (Decl → Bool) → Row → Bool
row_has k g r = not (r.link.0 == k) && g r.decl

abbrev pub log_has : BaseState → (Decl → Bool) → Log → Bool
log_has b g l = (not (is_named l.source b.me) && reached (graph_of b.records) b.me l.source) && list_any g l.decls

any_rows : (g : Decl → Bool) (k : ℕ) (rows : List Row) → list_any g (decls_of (left rows k)) ≡ list_any (row_has k g) rows
any_rows g k [] = refl
any_rows g k (r ∷ rows) = by (r.link.0 == k) (any_rows g k rows)
  where
    by : (t : Bool) → list_any g (decls_of (left rows k)) ≡ list_any (row_has k g) rows → list_any g (decls_of (cond (not t) (r ∷ left rows k) (left rows k))) ≡ ((not t && g r.decl) || list_any (row_has k g) rows)
    by true ih = ih
    by false ih = ap (λ z. g r.decl || z) ih

any_logs : (g : Decl → Bool) (t : TableState) (logs : List Log) → list_any g (flat_map (λ l. l.decls) (filter (λ l. is_source t l) logs)) ≡ list_any (log_has t.base g) logs
any_logs g t [] = refl
any_logs g t (l ∷ logs) = by (is_source t l) (any_logs g t logs)
  where
    by : (s : Bool) → list_any g (flat_map (λ l. l.decls) (filter (λ l. is_source t l) logs)) ≡ list_any (log_has t.base g) logs →
        list_any g (flat_map (λ l. l.decls) (cond s (l ∷ filter (λ l. is_source t l) logs) (filter (λ l. is_source t l) logs))) ≡ ((s && list_any g l.decls) || list_any (log_has t.base g) logs)
    by true ih = list_any-append g l.decls _ ∙ ap (λ z. list_any g l.decls || z) ih
    by false ih = ih

pub any_others : (g : Decl → Bool) (t : TableState) (k : ℕ) → list_any g (others t k) ≡ (list_any (row_has k g) t.rows || list_any (log_has t.base g) t.known.logs)
any_others g t k =
    list_any-append g (decls_of (left t.rows k)) _
    ∙ ap (λ z. z || list_any g (flat_map (λ l. l.decls) (filter (λ l. is_source t l) t.known.logs))) (any_rows g k t.rows)
    ∙ ap (λ z. list_any (row_has k g) t.rows || z) (any_logs g t t.known.logs)

-- ---- tests that find nothing at some places

abbrev pub IsOutside : List Place → (Decl → Bool) → Type 0
IsOutside qs g = (d : Decl) → list_any (same (place_of d)) qs ≡ true → g d ≡ false

pub same_others : (qs : List Place) (t u : TableState) (k : ℕ) → t.base ≡ u.base
    → ((g : Decl → Bool) → IsOutside qs g → list_any (row_has k g) t.rows ≡ list_any (row_has k g) u.rows)
    → ((g : Decl → Bool) → IsOutside qs g → list_any (log_has t.base g) t.known.logs ≡ list_any (log_has t.base g) u.known.logs)
    → IsSameBut qs (others t k) (others u k)
same_others qs t u k base rows logs f =
    any_others g t k ∙ ap (λ z. z || list_any (log_has t.base g) t.known.logs) (rows g out) ∙ ap (λ z. list_any (row_has k g) u.rows || z) (logs g out)
    ∙ ap (λ b. list_any (row_has k g) u.rows || list_any (log_has b g) u.known.logs) base
    ∙ sym (any_others g u k)
  where
    g : Decl → Bool
    g d = not (list_any (same (place_of d)) qs) && f d

    out : IsOutside qs g
    out d h = ap (λ z. not z && f d) h

-- ---- rows

hides : (k : ℕ) (g : Decl → Bool) (r : Row) → g r.decl ≡ false → row_has k g r ≡ false
hides k g r h = ap (λ z. not (r.link.0 == k) && z) h ∙ by (not (r.link.0 == k))
  where
    by : (t : Bool) → (t && false) ≡ false
    by true = refl
    by false = refl

in_last : (f : Place → Bool) (xs : List Place) (q : Place) → f q ≡ true → list_any f (xs ++ q ∷ []) ≡ true
in_last f xs q h = list_any-append f xs (q ∷ []) ∙ ap (λ z. list_any f xs || (z || false)) h ∙ by (list_any f xs)
  where
    by : (t : Bool) → (t || true) ≡ true
    by true = refl
    by false = refl

in_first : (f : Place → Bool) (xs ys : List Place) → list_any f xs ≡ true → list_any f (xs ++ ys) ≡ true
in_first f xs ys h = list_any-append f xs ys ∙ ap (λ z. z || list_any f ys) h

-- what stands under a key is hidden where its place is among those that changed
under_hidden : (rows : List Row) (key : Key) (qs : List Place) (k : ℕ) (g : Decl → Bool) → ((p : Place) → list_any (same p) (places_under rows key) ≡ true → list_any (same p) qs ≡ true) → IsOutside qs g
    → option_map_or (row_has k g) (row_at rows key) false ≡ false
under_hidden rows key qs k g within out = by (row_at rows key) refl
  where
    by : (o : Option Row) → row_at rows key ≡ o → option_map_or (row_has k g) o false ≡ false
    by None e = refl
    by (Some r) e =
        hides k g r
        (out r.decl (within (place_of r.decl) (ap (λ (z : Option Row). list_any (same (place_of r.decl)) (option_to_list (option_map row_place z))) e ∙ ap (λ z. z || false) (same_refl (place_of r.decl)))))

pub rows_declared_same : (rows : List Row) (r : Row) (k : ℕ) (g : Decl → Bool) → AreInOrder rows → IsOutside (places_declared rows r) g → list_any (row_has k g) rows ≡ list_any (row_has k g) (declared rows r)
rows_declared_same rows r k g up out =
    any_at key_cmp row_key key_order (row_has k g) (row_key r) rows up
    ∙ ap (λ z. z || list_any (row_has k g) (without key_cmp row_key rows (row_key r)))
    (under_hidden rows (row_key r) (places_declared rows r) k g (λ p h. in_first (same p) (places_under rows (row_key r)) (row_place r ∷ []) h) out
    ∙ sym (hides k g r (out r.decl (in_last (same (place_of r.decl)) (places_under rows (row_key r)) (row_place r) (same_refl (place_of r.decl))))))
    ∙ sym (any_put key_cmp row_key key_order (row_has k g) rows r)

pub rows_undeclared_same : (rows : List Row) (key : Key) (k : ℕ) (g : Decl → Bool) → AreInOrder rows → IsOutside (places_under rows key) g → list_any (row_has k g) rows ≡ list_any (row_has k g) (undeclared rows key)
rows_undeclared_same rows key k g up out =
    any_at key_cmp row_key key_order (row_has k g) key rows up
    ∙ ap (λ z. z || list_any (row_has k g) (without key_cmp row_key rows key)) (under_hidden rows key (places_under rows key) k g (λ p h. h) out)

-- all that the client of a link declares is hidden
pub rows_left_same : (rows : List Row) (link k : ℕ) (g : Decl → Bool) → IsOutside (places_on rows link) g → list_any (row_has k g) rows ≡ list_any (row_has k g) (left rows link)
rows_left_same [] link k g out = refl
rows_left_same (r ∷ rows) link k g out = by (r.link.0 == link) (λ o. rows_left_same rows link k g o) out
  where
    more : (q : Place) (d : Decl) → list_any (same (place_of d)) (places_on rows link) ≡ true → list_any (same (place_of d)) (q ∷ places_on rows link) ≡ true
    more q d h = ap (λ z. same (place_of d) q || z) h ∙ last (same (place_of d) q)
      where
        last : (t : Bool) → (t || true) ≡ true
        last true = refl
        last false = refl

    by : (t : Bool) → (IsOutside (places_on rows link) g → list_any (row_has k g) rows ≡ list_any (row_has k g) (left rows link)) → IsOutside (map row_place (cond t (r ∷ on_link rows link) (on_link rows link))) g → (row_has k g r || list_any (row_has k g) rows) ≡ list_any (row_has k g) (cond (not t) (r ∷ left rows link) (left rows link))
    by true ih o =
        ap (λ z. z || list_any (row_has k g) rows) (hides k g r (o r.decl (ap (λ z. z || list_any (same (place_of r.decl)) (places_on rows link)) (same_refl (place_of r.decl)))))
        ∙ ih (λ d h. o d (more (row_place r) d h))
    by false ih o = ap (λ z. row_has k g r || z) (ih o)

-- ---- logs

module _ {X K : Type 0} where
  -- who is taken out was not found
  any_without : (cmp : K → K → Rattle.std.specs.declared.cmp.Ordering.Ordering) (key : X → K) (f : X → Bool) (k : K) (xs : List X) → ((x : X) → is_eq (cmp (key x) k) ≡ true → f x ≡ false) → list_any f (without cmp key xs k) ≡ list_any f xs
  any_without cmp key f k [] h = refl
  any_without cmp key f k (x ∷ xs) h = by (is_eq (cmp (key x) k)) (h x) (any_without cmp key f k xs h)
    where
      by : (t : Bool) → (t ≡ true → f x ≡ false) → list_any f (without cmp key xs k) ≡ list_any f xs → list_any f (cond (not t) (x ∷ without cmp key xs k) (without cmp key xs k)) ≡ (f x || list_any f xs)
      by true n ih = ih ∙ ap (λ z. z || list_any f xs) (sym (n refl))
      by false n ih = ap (λ z. f x || z) ih

-- the own log is none of another router
own_hidden : (b : BaseState) (g : Decl → Bool) (l : Log) → l.source ≡ b.me → log_has b g l ≡ false
own_hidden b g l e = ap (λ z. (not z && reached (graph_of b.records) b.me l.source) && list_any g l.decls) (ap (λ z. is_named z b.me) e ∙ name_itself b.me)

own_same : (b : BaseState) (g : Decl → Bool) (known : KnownState) (c : Change) → known.me ≡ b.me → list_any (log_has b g) known.logs ≡ list_any (log_has b g) (after_own known c).logs
own_same b g known c e =
    sym (any_without (slice_cmp nat_cmp) source_of (log_has b g) known.me known.logs (λ l h. own_hidden b g l (is_same (slice_cmp nat_cmp) name_order l.source known.me h ∙ e)))
    ∙ ap (λ z. z || list_any (log_has b g) (without (slice_cmp nat_cmp) source_of known.logs known.me)) (sym (own_hidden b g new e))
    ∙ sym (any_put (slice_cmp nat_cmp) source_of name_order (log_has b g) known.logs new)
  where
    new : Log
    new = record { source = known.me; position = position known known.me + 1; decls = changed (decls known known.me) c }

pub own_changes_same : (b : BaseState) (g : Decl → Bool) (cs : List Change) (known : KnownState) → known.me ≡ b.me → list_any (log_has b g) known.logs ≡ list_any (log_has b g) (after_changes known cs).logs
own_changes_same b g [] known e = refl
own_changes_same b g (c ∷ cs) known e = own_same b g known c e ∙ own_changes_same b g cs (after_own known c) e

-- a set that changes at a hidden declaration
set_same : (g : Decl → Bool) (c : Change) (ds : List Decl) → g c.decl ≡ false → list_any g (changed ds c) ≡ list_any g ds
set_same g c ds h = by c.added
  where
    away : list_any g (without decl_cmp (λ d. d) ds c.decl) ≡ list_any g ds
    away = any_without decl_cmp (λ (d : Decl). d) g c.decl ds (λ d e. ap g (is_same decl_cmp decl_order d c.decl e) ∙ h)

    by : (t : Bool) → list_any g (cond t (put decl_cmp (λ d. d) ds c.decl) (without decl_cmp (λ d. d) ds c.decl)) ≡ list_any g ds
    by true = any_put decl_cmp (λ (d : Decl). d) decl_order g ds c.decl ∙ ap (λ z. z || list_any g (without decl_cmp (λ d. d) ds c.decl)) h ∙ away
    by false = away

pub step_same : (b : BaseState) (g : Decl → Bool) (known : KnownState) (source : List ℕ) (number : ℕ) (c : Change) → LogsInOrder known → g c.decl ≡ false
    → list_any (log_has b g) known.logs ≡ list_any (log_has b g) (after_step known source number c).logs
step_same b g known source number c up h = by (is_next known source number)
  where
    new : Log
    new = record { source = source; position = number; decls = changed (decls known source) c }

    sees : Bool
    sees = not (is_named source b.me) && reached (graph_of b.records) b.me source

    nothing : (t : Bool) → (t && false) ≡ false
    nothing true = refl
    nothing false = refl

    here : (o : Option Log) → log_of known source ≡ o → option_map_or (log_has b g) o false ≡ (sees && list_any g (option_map_or (λ l. l.decls) o []))
    here None e = sym (nothing sees)
    here (Some l) e =
        let i : l.source ≡ source = is_same (slice_cmp nat_cmp) name_order l.source source (find_passes (λ x. is_eq (slice_cmp nat_cmp (source_of x) source)) known.logs l e) in
        ap (λ z. (not (is_named z b.me) && reached (graph_of b.records) b.me z) && list_any g l.decls) i

    by : (t : Bool) → list_any (log_has b g) known.logs ≡ list_any (log_has b g) (cond t (with_log known source number (changed (decls known source) c)) known).logs
    by true =
        any_at (slice_cmp nat_cmp) source_of name_order (log_has b g) source known.logs up.ascending
        ∙ ap (λ z. z || list_any (log_has b g) (without (slice_cmp nat_cmp) source_of known.logs source)) (here (log_of known source) refl ∙ ap (λ z. sees && z) (sym (set_same g c (decls known source) h)))
        ∙ sym (any_put (slice_cmp nat_cmp) source_of name_order (log_has b g) known.logs new)
    by false = refl
