-- What rows weigh once a client has declared something or taken it back, live interests once one has come or gone, and a set once it has one declaration
-- more or less.
use Rattle.std.proofs.Common.{◌≡◌, ℕ, ◌+◌, ◌≤◌, ◌||◌, ◌&&◌, nat_lt, not, Bool, true, false, cond, List, [], ◌∷◌, Some, None, refl, sym, ap, subst, ◌∙◌, arith}
use Rattle.std.specs.List.{filter, sum_by}
use Rattle.std.specs.Option.{option_map_or}
use Rattle.std.specs.Ordering.{is_eq, is_lt, nat_cmp}
use Rattle.std.proofs.lemmas.Bool.{false≢true, ltb-false}
use Rattle.std.proofs.lemmas.List.Filters.{sum_by-filter_both}
use Rattle.std.proofs.lemmas.List.Sums.{sum_by-append, sum_by-cons}
use Rattle.zr_id.specs.declared.link.LinkNo.{LinkNo}
use Rattle.zr_msg.specs.declared.decl.Decl.{Decl}
use Rattle.zr_lists.specs.Ascending.{at_key, before_key, behind_key, has_key, without}
use Rattle.zr_log_set.specs.Decls.{IsSet, is_decl, has, with_decl, without_decl, decl_weight, weight, most_weight}
use Rattle.zr_log_set.proofs.Decls.{has_less, has_more, set_with, set_without, sets_same, with_weighs}
use Rattle.zr_lists.proofs.Order.{comes, nat_order}
use Rattle.zr_lists.proofs.Sorted.{less_from_test}
use Rattle.zr_local.specs.Clients.{client_link, client_weight, clients_left, clients_weight, forgotten, interests_on, with_interests}
use Rattle.zr_local.specs.Interests.{interest_id, interest_weight, interests_weight}
use Rattle.zr_local.specs.Rows.{Key, declared, key_cmp, left, row_key, undeclared, weight_of}
use Rattle.zr_local.specs.declared.interest.ClientInterests.{ClientInterests}
use Rattle.zr_local.specs.declared.interest.Interest.{Interest}
use Rattle.zr_local.specs.declared.row.Row.{Row}
use Rattle.zr_local.proofs.Left.{parts_weigh}
use Rattle.zr_local.proofs.Live.{put_weighs}
use Rattle.zr_local.proofs.Rows.{key_order, weigh_rows}
use Rattle.zr_log.specs.Log.{Change, change_held, change_more, changed}

-- two parts that share nothing, within a third one
apart_weigh : {X : Type 0} (f : X → ℕ) (p q s : X → Bool) → ((x : X) → p x ≡ true → (q x ≡ false) × (s x ≡ true)) → ((x : X) → q x ≡ true → s x ≡ true) → (xs : List X) →
    sum_by f (filter p xs) + sum_by f (filter q xs) ≤ sum_by f (filter s xs)
apart_weigh {X} f p q s in_p in_q [] = omega arith
apart_weigh {X} f p q s in_p in_q (x ∷ xs) = by (p x) (q x) (s x) (in_p x) (in_q x) (apart_weigh f p q s in_p in_q xs)
  where
    by : (a b c : Bool) → (a ≡ true → (b ≡ false) × (c ≡ true)) → (b ≡ true → c ≡ true) → sum_by f (filter p xs) + sum_by f (filter q xs) ≤ sum_by f (filter s xs) →
        sum_by f (cond a (x ∷ filter p xs) (filter p xs)) + sum_by f (cond b (x ∷ filter q xs) (filter q xs)) ≤ sum_by f (cond c (x ∷ filter s xs) (filter s xs))
    by true true c i j ih = absurd (false≢true (sym (i refl).0))
    by true false true i j ih = omega (arith, ih, sum_by-cons f x (filter p xs), sum_by-cons f x (filter s xs))
    by true false false i j ih = absurd (false≢true (i refl).1)
    by false true true i j ih = omega (arith, ih, sum_by-cons f x (filter q xs), sum_by-cons f x (filter s xs))
    by false true false i j ih = absurd (false≢true (j refl))
    by false false true i j ih = omega (arith, ih, sum_by-cons f x (filter s xs))
    by false false false i j ih = ih

-- ---- rows

abbrev row_weight : Row → ℕ
row_weight r = decl_weight r.decl

pub declared_light : (rows : List Row) (r : Row) → weight_of (declared rows r) ≤ weight_of (undeclared rows (row_key r)) + decl_weight r.decl
declared_light rows r =
    let k = row_key r in
    let low : List Row = before_key key_cmp row_key rows k in
    let high : List Row = behind_key key_cmp row_key rows k in
    let parts : sum_by row_weight low + sum_by row_weight high ≤ sum_by row_weight (undeclared rows k) =
    apart_weigh row_weight (λ x. is_lt (key_cmp (row_key x) k)) (λ x. is_lt (key_cmp k (row_key x))) (λ x. not (is_eq (key_cmp (row_key x) k)))
    (λ x t. let c = comes key_cmp key_order (row_key x) k (less_from_test (key_cmp (row_key x) k) t) in (c.not_after, ap not c.apart))
    (λ x t. ap not (comes key_cmp key_order k (row_key x) (less_from_test (key_cmp k (row_key x)) t)).apart_back)
    rows in
    omega (arith, parts, sum_by-append row_weight low (r ∷ high), sum_by-cons row_weight r high, weigh_rows (declared rows r), weigh_rows (undeclared rows k))

pub undeclared_light : (rows : List Row) (k : Key) → weight_of (undeclared rows k) ≤ weight_of rows
undeclared_light rows k =
    omega (
      arith,
      sum_by-filter_both (λ (r : Row). is_eq (key_cmp (row_key r) k)) (λ (r : Row). not (is_eq (key_cmp (row_key r) k))) (λ r. refl) row_weight rows,
      weigh_rows rows,
      weigh_rows (undeclared rows k),
    )

pub left_light : (rows : List Row) (link : ℕ) → weight_of (left rows link) ≤ weight_of rows
left_light rows link = omega (arith, parts_weigh rows link)

-- ---- live interests

-- what is left of a list weighs no more
rest_light : {X : Type 0} (f : X → ℕ) (p : X → Bool) (xs : List X) → sum_by f (filter (λ x. not (p x)) xs) ≤ sum_by f xs
rest_light f p xs = omega (arith, sum_by-filter_both p (λ x. not (p x)) (λ x. refl) f xs)

pub clients_left_light : (cs : List ClientInterests) (link : ℕ) → clients_weight (clients_left cs link) ≤ clients_weight cs
clients_left_light cs link = rest_light client_weight (λ c. is_eq (nat_cmp c.link.0 link)) cs

-- the interests of a client weigh what they weigh beside those of the others
beside_others : (cs : List ClientInterests) (link : ℕ) → interests_weight (interests_on cs link) + clients_weight (clients_left cs link) ≤ clients_weight cs
beside_others [] link = omega arith
beside_others (c ∷ cs) link = by (is_eq (nat_cmp c.link.0 link)) (beside_others cs link)
  where
    by : (t : Bool) → interests_weight (interests_on cs link) + clients_weight (clients_left cs link) ≤ clients_weight cs →
        interests_weight (option_map_or (λ x. x.interests) (cond t (Some c) (at_key nat_cmp client_link cs link)) []) + clients_weight (cond (not t) (c ∷ clients_left cs link) (clients_left cs link))
        ≤ clients_weight (c ∷ cs)
    by true ih = omega (arith, clients_left_light cs link, sum_by-cons client_weight c cs)
    by false ih = omega (arith, ih, sum_by-cons client_weight c (clients_left cs link), sum_by-cons client_weight c cs)

pub forgotten_light : (cs : List ClientInterests) (link : LinkNo) (id : ℕ) → clients_weight (forgotten cs link id) ≤ clients_weight cs
forgotten_light cs link id = by (has_key nat_cmp client_link cs link.0)
  where
    rest : List Interest
    rest = without nat_cmp interest_id (interests_on cs link.0) id

    by : (t : Bool) → clients_weight (cond t (with_interests cs link rest) cs) ≤ clients_weight cs
    by true =
        omega (
          arith,
          put_weighs nat_cmp client_link nat_order client_weight cs (record { link = link; interests = rest }),
          rest_light interest_weight (λ i. is_eq (nat_cmp i.id id)) (interests_on cs link.0),
          beside_others cs link.0,
        )
    by false = omega arith

-- ---- sets

-- one that is put in weighs what it weighs beside the others
pub with_light : (ds : List Decl) (d : Decl) → IsSet ds → weight (with_decl ds d) ≤ weight (without_decl ds d) + decl_weight d
with_light ds d up =
    subst (λ xs. weight xs ≤ weight (without_decl ds d) + decl_weight d)
    (sets_same (with_decl (without_decl ds d) d) (with_decl ds d) (set_with (without_decl ds d) d (set_without ds d up)) (set_with ds d up)
    (λ e. has_more (without_decl ds d) d e ∙ ap (λ b. is_decl d e || b) (has_less ds d e) ∙ either (is_decl d e) (has ds e) ∙ sym (has_more ds d e)))
    (with_weighs (without_decl ds d) d)
  where
    either : (a b : Bool) → (a || (not a && b)) ≡ (a || b)
    either true b = refl
    either false b = refl

pub changed_light : (ds : List Decl) (c : Change) → IsSet ds → weight (changed ds c) ≤ change_held ds c + change_more c
changed_light ds c up = by c.added
  where
    by : (b : Bool) → weight (cond b (with_decl ds c.decl) (without_decl ds c.decl)) ≤ weight (without_decl ds c.decl) + cond b (decl_weight c.decl) 0
    by true = with_light ds c.decl up
    by false = omega arith

-- ---- limits

-- what isn't refused by a test fails it
pub not_refused : {E : Type 0} (b : Bool) (e : E) → cond b (Some e) None ≡ None → b ≡ false
not_refused true e is = cc
not_refused false e is = refl

pub within_limit : {E : Type 0} (weighed : ℕ) (e : E) → cond (nat_lt most_weight weighed) (Some e) None ≡ None → weighed ≤ most_weight
within_limit weighed e is = ltb-false most_weight weighed (not_refused (nat_lt most_weight weighed) e is)
