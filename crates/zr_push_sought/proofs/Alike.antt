-- Lists of what was declared that have the same, each as often: who holds the one holds the other. What stands at a place, and the rest.
use Rattle.std.proofs.Common.{◌≡◌, ℕ, Result, Ok, Err, ◌+◌, ◌<◌, ◌==◌, not, Bool, true, false, cond, List, [], ◌∷◌, ◌++◌, map, Ordering, Less, Option, Some, None, length, take, drop, get_or, refl, sym, ap, ◌∙◌, arith}
use Rattle.std.specs.Cmp.Lexicographic.{slice_cmp}
use Rattle.std.specs.List.{AllByRecursion, flat_map, sum_by}
use Rattle.std.specs.Option.{option_map_or}
use Rattle.std.specs.Ordering.{is_eq, nat_cmp}
use Rattle.std.proofs.lemmas.List.{at_drop_more}
use Rattle.std.proofs.lemmas.List.Concat.{flat_map-cons}
use Rattle.std.proofs.lemmas.List.Filters.{sum_by-filter_both}
use Rattle.std.proofs.lemmas.List.Sums.{sum_by-append, sum_by-cons, sum_by_more}
use Rattle.std.proofs.lemmas.Map.Keys.{sorted_head, sorted_tail}
use Rattle.std.proofs.lemmas.Option.{IfSome_then}
use Rattle.zr_id.specs.Zid.{is_named}
use Rattle.zr_index.specs.Pairs.{Pairs, AreSame}
use Rattle.zr_index.specs.declared.index.Index.{Index}
use Rattle.zr_lists.specs.Ascending.{IsAscending, at_key, put, without}
use Rattle.zr_lists.specs.Place.{IsAt, IsPlace}
use Rattle.zr_lists.proofs.Elements.{each_in, in_each}
use Rattle.zr_lists.proofs.Filters.{filter_all}
use Rattle.zr_lists.proofs.Finds.{find_in, filter-filter}
use Rattle.zr_lists.proofs.Order.{IsExactOrder, comes, is_same, name_order}
use Rattle.zr_lists.proofs.Puts.{ascending_put, ascending_without, at-put, at-without}
use Rattle.zr_lists.proofs.Same.{same}
use Rattle.zr_local.proofs.Live.{others_weigh, put_weighs}
use Rattle.zr_local.specs.Owners.{on_link}
use Rattle.zr_local.specs.Rows.{left}
use Rattle.zr_local.specs.declared.holder.Holder.{Holder}
use Rattle.zr_local.specs.declared.row.Row.{Row}
use Rattle.zr_log.specs.declared.log.Log.{Log}
use Rattle.zr_msg.specs.declared.decl.Decl.{Decl}
use Rattle.zr_push_sought.specs.Holders.{HoldsJust, HoldJust}
use Rattle.zr_push_sought.specs.Pairs.{Declared, of_clients, of_log, of_row, of_set, of_sources, pair_of, pairs_of}
use Rattle.zr_push_sought.specs.declared.holders.Holders.{Holders}
use Rattle.zr_push_sought.specs.declared.sought.Sought.{Sought}
use Rattle.zr_push_sought.specs.declared.sought.Sought.TheVariants.{Subscribers, Queryables}

abbrev pub AreAlike : List Declared → List Declared → Type 0
AreAlike xs ys = (g : Declared → ℕ) → sum_by g xs ≡ sum_by g ys

-- ---- who holds the one holds the other

pub map_weighs : {X Y : Type 0} (h : X → Y) (g : Y → ℕ) (xs : List X) → sum_by g (map h xs) ≡ sum_by (λ x. g (h x)) xs
map_weighs h g [] = refl
map_weighs h g (x ∷ xs) = sum_by-cons g (h x) (map h xs) ∙ ap (λ n. g (h x) + n) (map_weighs h g xs) ∙ sym (sum_by-cons (λ y. g (h y)) x xs)

pub flat_weighs : {X Y : Type 0} (k : X → List Y) (g : Y → ℕ) (xs : List X) → sum_by g (flat_map k xs) ≡ sum_by (λ x. sum_by g (k x)) xs
flat_weighs k g [] = refl
flat_weighs k g (x ∷ xs) =
    ap (sum_by g) (flat_map-cons k x xs)
    ∙ sum_by-append g (k x) (flat_map k xs)
    ∙ ap (λ n. sum_by g (k x) + n) (flat_weighs k g xs)
    ∙ sym (sum_by-cons (λ y. sum_by g (k y)) x xs)

alike_pairs : (sought : Sought) (xs ys : List Declared) → AreAlike xs ys → AreSame (pairs_of sought xs) (pairs_of sought ys)
alike_pairs sought xs ys h f =
    flat_weighs (λ x. pair_of sought x) f xs
    ∙ h (λ x. sum_by f (pair_of sought x))
    ∙ sym (flat_weighs (λ x. pair_of sought x) f ys)

holds_alike : (ps qs : Pairs Holder) (index : Option (Index Holder)) → AreSame ps qs → HoldsJust ps index → HoldsJust qs index
holds_alike ps qs index same h = IfSome_then index h (λ i is f. is f ∙ same f)

pub hold_alike : (h : Holders) (xs ys : List Declared) → AreAlike xs ys → HoldJust xs h → HoldJust ys h
hold_alike h xs ys alike just = record {
  subscribers = holds_alike (pairs_of Subscribers xs) (pairs_of Subscribers ys) h.subscribers.index (alike_pairs Subscribers xs ys alike) just.subscribers;
  queryables = holds_alike (pairs_of Queryables xs) (pairs_of Queryables ys) h.queryables.index (alike_pairs Queryables xs ys alike) just.queryables;
}

-- ---- what stands at a place

module _ {X : Type 0} (h : X → Declared) where
  -- the next one, and those behind it
  pub next_out : (xs : List X) (i : ℕ) (x : X) (rest : List Declared) → i < length xs → x ≡ get_or xs i x → map h (drop i xs) ++ rest ≡ h x ∷ (map h (drop (i + 1) xs) ++ rest)
  next_out xs i x rest less is =
      at_drop_more (λ ys. map h ys ++ rest) xs i x less ∙ ap (λ y. map h (y ∷ drop (i + 1) xs) ++ rest) (sym is)

  pub next_in : (xs : List X) (i : ℕ) (x : X) (rest : List Declared) → i < length xs → x ≡ get_or xs i x → AreAlike (h x ∷ (map h (take i xs) ++ rest)) (map h (take (i + 1) xs) ++ rest)
  next_in xs i x rest less is g =
      omega (
        arith,
        sum_by-cons g (h x) (map h (take i xs) ++ rest),
        sum_by-append g (map h (take i xs)) rest,
        sum_by-append g (map h (take (i + 1) xs)) rest,
        map_weighs h g (take i xs),
        map_weighs h g (take (i + 1) xs),
        sum_by_more (λ y. g (h y)) xs i x less,
        ap (λ y. g (h y)) is,
      )

  module _ {K : Type 0} (cmp : K → K → Ordering) (key : X → K) (o : IsExactOrder cmp) where
    -- the one at a place, and the others
    pub out_of_place : (xs : List X) (k : K) (i : ℕ) (x : X) (rest : List Declared) → IsAt cmp key xs k i → x ≡ get_or xs i x → AreAlike (map h xs ++ rest) (h x ∷ (map h (without cmp key xs k) ++ rest))
    out_of_place xs k i x rest at is g =
        omega (
          arith,
          sum_by-append g (map h xs) rest,
          sum_by-cons g (h x) (map h (without cmp key xs k) ++ rest),
          sum_by-append g (map h (without cmp key xs k)) rest,
          map_weighs h g xs,
          map_weighs h g (without cmp key xs k),
          others_weigh cmp key o (λ y. g (h y)) xs k i x at,
          ap (λ y. g (h y)) is,
        )

-- the rows of a link, and the others
pub link_apart : (rows : List Row) (link : ℕ) (rest : List Declared) → AreAlike (of_clients rows ++ rest) (of_clients (on_link rows link) ++ (of_clients (left rows link) ++ rest))
link_apart rows link rest g =
    omega (
      arith,
      sum_by-append g (of_clients rows) rest,
      sum_by-append g (of_clients (on_link rows link)) (of_clients (left rows link) ++ rest),
      sum_by-append g (of_clients (left rows link)) rest,
      map_weighs of_row g rows,
      map_weighs of_row g (on_link rows link),
      map_weighs of_row g (left rows link),
      sum_by-filter_both (λ (r : Row). r.link.0 == link) (λ (r : Row). not (r.link.0 == link)) (λ r. refl) (λ (r : Row). g (of_row r)) rows,
    )

pub log_in : (me : List ℕ) (logs : List Log) (i : ℕ) (l : Log) (rest : List Declared) → i < length logs → l ≡ get_or logs i l → AreAlike (of_log me l ++ (of_sources me (take i logs) ++ rest)) (of_sources me (take (i + 1) logs) ++ rest)
log_in me logs i l rest less is g =
    omega (
      arith,
      sum_by-append g (of_log me l) (of_sources me (take i logs) ++ rest),
      sum_by-append g (of_sources me (take i logs)) rest,
      sum_by-append g (of_sources me (take (i + 1) logs)) rest,
      flat_weighs (λ (x : Log). of_log me x) g (take i logs),
      flat_weighs (λ (x : Log). of_log me x) g (take (i + 1) logs),
      sum_by_more (λ (x : Log). sum_by g (of_log me x)) logs i l less,
      ap (λ (x : Log). sum_by g (of_log me x)) is,
    )

pub alike_back : (xs ys : List Declared) → AreAlike xs ys → AreAlike ys xs
alike_back xs ys h g = sym (h g)

-- where nothing stands at a key, all are the others
pub not_there : {X K : Type 0} (cmp : K → K → Ordering) (key : X → K) (xs : List X) (k : K) (r : Result ℕ ℕ) → IsPlace cmp key xs k r → ((at : ℕ) → r ≡ Ok at → ⊥) → without cmp key xs k ≡ xs
not_there cmp key xs k (Ok at) place none = absurd (none at refl)
not_there cmp key xs k (Err at) place none = place.others

-- ---- what one change leaves as it is

module _ {X K : Type 0} (cmp : K → K → Ordering) (key : X → K) (o : IsExactOrder cmp) where
  -- what doesn't stand under a key stays where something is put there
  pub without-put : (xs : List X) (x : X) → IsAscending cmp key xs → without cmp key (put cmp key xs x) (key x) ≡ without cmp key xs (key x)
  without-put xs x up =
      same cmp key o (without cmp key (put cmp key xs x) (key x)) (without cmp key xs (key x)) (ascending_without cmp key o (put cmp key xs x) (key x) (ascending_put cmp key o xs x up)) (ascending_without cmp key o xs (key x) up)
      (λ k. at-without cmp key o (put cmp key xs x) (key x) k ∙ by k (is_eq (cmp (key x) k)) refl ∙ sym (at-without cmp key o xs (key x) k))
    where
      by : (k : K) (t : Bool) → is_eq (cmp (key x) k) ≡ t → cond t None (at_key cmp key (put cmp key xs x) k) ≡ cond t None (at_key cmp key xs k)
      by k true e = refl
      by k false e = at-put cmp key o xs x k ∙ ap (λ t. cond t (Some x) (at_key cmp key xs k)) e

  -- and where it is taken out once more
  pub without-without : (xs : List X) (k : K) → without cmp key (without cmp key xs k) k ≡ without cmp key xs k
  without-without xs k = filter-filter (λ x. not (is_eq (cmp (key x) k))) (λ x. not (is_eq (cmp (key x) k))) xs (λ x i t. t)

  -- what stands under a key, and the rest
  pub at_weighs : (f : X → ℕ) (xs : List X) (k : K) → IsAscending cmp key xs → sum_by f xs ≡ option_map_or f (at_key cmp key xs k) 0 + sum_by f (without cmp key xs k)
  at_weighs f [] k up = refl
  at_weighs f (x ∷ xs) k up = by (is_eq (cmp (key x) k)) refl (at_weighs f xs k (sorted_tail (λ (y z : X). cmp (key y) (key z)) x xs up))
    where
      after : AllByRecursion (λ y. cmp (key x) (key y) ≡ Less) xs
      after = sorted_head (λ (y z : X). cmp (key y) (key z)) x xs up

      apart : key x ≡ k → (y : X) → cmp (key x) (key y) ≡ Less → not (is_eq (cmp (key y) k)) ≡ true
      apart e y l = ap (λ (z : K). not (is_eq (cmp (key y) z))) (sym e) ∙ ap not (comes cmp o (key x) (key y) l).apart_back

      by : (t : Bool) → is_eq (cmp (key x) k) ≡ t → sum_by f xs ≡ option_map_or f (at_key cmp key xs k) 0 + sum_by f (without cmp key xs k)
          → sum_by f (x ∷ xs) ≡ option_map_or f (cond t (Some x) (at_key cmp key xs k)) 0 + sum_by f (cond (not t) (x ∷ without cmp key xs k) (without cmp key xs k))
      by true e rest =
          let all : without cmp key xs k ≡ xs = filter_all (λ y. not (is_eq (cmp (key y) k))) xs (in_each _ xs (λ y i. apart (is_same cmp o (key x) k e) y (each_in _ xs y after i))) in
          sum_by-cons f x xs ∙ ap (λ (ys : List X). f x + sum_by f ys) (sym all)
      by false e rest =
          let both : sum_by f (x ∷ xs) ≡ option_map_or f (at_key cmp key xs k) 0 + sum_by f (x ∷ without cmp key xs k) =
          omega (arith, sum_by-cons f x xs, sum_by-cons f x (without cmp key xs k), rest) in
          both

-- ---- logs

-- what the log of a router tells, and the other logs
abbrev pub set_of_log : List Log → List ℕ → List Decl
set_of_log logs name = option_map_or (λ l. l.decls) (at_key (slice_cmp nat_cmp) (λ l. l.source) logs name) []

abbrev pub other_logs : List Log → List ℕ → List Log
other_logs logs name = without (slice_cmp nat_cmp) (λ l. l.source) logs name

module _ (me : List ℕ) (g : Declared → ℕ) where
  abbrev log_weight : Log → ℕ
  log_weight l = sum_by g (of_log me l)

  set_weighs : (logs : List Log) (name : List ℕ) → is_named name me ≡ false → (o : Option Log) → at_key (slice_cmp nat_cmp) (λ l. l.source) logs name ≡ o
      → option_map_or log_weight o 0 ≡ sum_by g (of_set name (option_map_or (λ l. l.decls) o []))
  set_weighs logs name other None e = refl
  set_weighs logs name other (Some l) e =
      let named : l.source ≡ name = is_same (slice_cmp nat_cmp) name_order l.source name ((find_in (λ (x : Log). is_named x.source name) logs l e).1) in
      let own : is_named l.source me ≡ false = ap (λ (n : List ℕ). is_named n me) named ∙ other in
      ap (λ (t : Bool). sum_by g (cond t [] (of_set l.source l.decls))) own ∙ ap (λ (n : List ℕ). sum_by g (of_set n l.decls)) named

  own_weighs : (l : Log) → is_named l.source me ≡ true → log_weight l ≡ 0
  own_weighs l e = ap (λ (t : Bool). sum_by g (cond t [] (of_set l.source l.decls))) e

  others_weigh_all : (logs : List Log) (name : List ℕ) → is_named name me ≡ true → sum_by log_weight (other_logs logs name) ≡ sum_by log_weight logs
  others_weigh_all [] name own = refl
  others_weigh_all (l ∷ logs) name own = by (is_named l.source name) refl (others_weigh_all logs name own)
    where
      by : (t : Bool) → is_named l.source name ≡ t → sum_by log_weight (other_logs logs name) ≡ sum_by log_weight logs → sum_by log_weight (cond (not t) (l ∷ other_logs logs name) (other_logs logs name)) ≡ sum_by log_weight (l ∷ logs)
      by true e ih =
          let none : log_weight l ≡ 0 = own_weighs l (ap (λ (n : List ℕ). is_named n me) (is_same (slice_cmp nat_cmp) name_order l.source name e) ∙ own) in
          omega (arith, ih, none, sum_by-cons log_weight l logs)
      by false e ih = omega (arith, ih, sum_by-cons log_weight l logs, sum_by-cons log_weight l (other_logs logs name))

-- the log of another router, and the others
pub log_apart : (me : List ℕ) (logs : List Log) (name : List ℕ) → IsAscending (slice_cmp nat_cmp) (λ l. l.source) logs → is_named name me ≡ false → (before : List Declared)
    → AreAlike (before ++ of_sources me logs) (of_set name (set_of_log logs name) ++ (before ++ of_sources me (other_logs logs name)))
log_apart me logs name up other before g =
    omega (
      arith,
      sum_by-append g before (of_sources me logs),
      sum_by-append g (of_set name (set_of_log logs name)) (before ++ of_sources me (other_logs logs name)),
      sum_by-append g before (of_sources me (other_logs logs name)),
      flat_weighs (λ (l : Log). of_log me l) g logs,
      flat_weighs (λ (l : Log). of_log me l) g (other_logs logs name),
      at_weighs (slice_cmp nat_cmp) (λ (l : Log). l.source) name_order (log_weight me g) logs name up,
      set_weighs me g logs name other (at_key (slice_cmp nat_cmp) (λ (l : Log). l.source) logs name) refl,
    )

-- the own log tells nothing that its clients' rows don't
pub own_tells : (me : List ℕ) (logs : List Log) (l : Log) (before : List Declared) → is_named l.source me ≡ true
    → AreAlike (before ++ of_sources me logs) (before ++ of_sources me (put (slice_cmp nat_cmp) (λ x. x.source) logs l))
own_tells me logs l before own g =
    omega (
      arith,
      sum_by-append g before (of_sources me logs),
      sum_by-append g before (of_sources me (put (slice_cmp nat_cmp) (λ (x : Log). x.source) logs l)),
      flat_weighs (λ (x : Log). of_log me x) g logs,
      flat_weighs (λ (x : Log). of_log me x) g (put (slice_cmp nat_cmp) (λ (x : Log). x.source) logs l),
      put_weighs (slice_cmp nat_cmp) (λ (x : Log). x.source) name_order (log_weight me g) logs l,
      own_weighs me g l own,
      others_weigh_all me g logs l.source own,
    )
