-- What clients' interests are, and what they weigh, once one is kept or forgotten at its place.
use Rattle.std.proofs.Common.{◌≡◌, ℕ, ◌+◌, not, Bool, true, false, cond, List, [], ◌∷◌, Ordering, Less, Equal, Greater, Option, Result, Ok, Err, OnOk, OnErr, get_or, set, refl, sym, ap, ◌∙◌, arith}
use Rattle.std.specs.List.{insert, sum_by}
use Rattle.std.specs.List.Sorted.{IsStrictlySortedBy}
use Rattle.std.specs.Option.{option_map_or}
use Rattle.std.specs.Ordering.{nat_cmp, is_eq, is_lt}
use Rattle.std.proofs.lemmas.List.Sums.{sum_by-append, sum_by-cons, sum_by-remove}
use Rattle.std.proofs.lemmas.Option.{slice_get-get_or}
use Rattle.zr_id.specs.declared.link.LinkNo.{LinkNo}
use Rattle.zr_lists.specs.Ascending.{before_key, behind_key, has_key, put, without}
use Rattle.zr_lists.specs.Place.{IsAt, IsGap}
use Rattle.zr_lists.proofs.Order.{IsExactOrder, comes, comes_back, not_before_itself, nat_order}
use Rattle.zr_lists.proofs.Puts.{ascending_put, put_at, put_in, removed_at, place_has}
use Rattle.zr_local.specs.Clients.{AreByLink, client_link, interests_on, with_interests, kept, forgotten, clients_left, client_weight, clients_weight, weight_but}
use Rattle.zr_local.specs.Interests.{AreById, interest_id, interest_weight, interests_weight}
use Rattle.zr_local.specs.declared.interest.ClientInterests.{ClientInterests}
use Rattle.zr_local.specs.declared.interest.Interest.{Interest}

-- ---- what weighs beside what stands under the other keys

module _ {X K : Type 0} (cmp : K → K → Ordering) (key : X → K) (o : IsExactOrder cmp) (f : X → ℕ) where
  sides_weigh : (k : K) (xs : List X) → sum_by f (before_key cmp key xs k) + sum_by f (behind_key cmp key xs k) ≡ sum_by f (without cmp key xs k)
  sides_weigh k [] = refl
  sides_weigh k (x ∷ xs) = by_order (cmp (key x) k) refl (sides_weigh k xs)
    where
      by_order : (r : Ordering) → cmp (key x) k ≡ r → sum_by f (before_key cmp key xs k) + sum_by f (behind_key cmp key xs k) ≡ sum_by f (without cmp key xs k) →
          sum_by f (cond (is_lt (cmp (key x) k)) (x ∷ before_key cmp key xs k) (before_key cmp key xs k)) + sum_by f (cond (is_lt (cmp k (key x))) (x ∷ behind_key cmp key xs k) (behind_key cmp key xs k))
          ≡ sum_by f (cond (not (is_eq (cmp (key x) k))) (x ∷ without cmp key xs k) (without cmp key xs k))
      by_order Less e ih =
          let c = comes cmp o (key x) k e in
          rw (c.before, c.not_after, c.apart) (omega (arith, ih, sum_by-cons f x (before_key cmp key xs k), sum_by-cons f x (without cmp key xs k)))
      by_order Equal e ih =
          let before : is_lt (cmp (key x) k) ≡ false = ap is_lt e in
          let behind : is_lt (cmp k (key x)) ≡ false = ap (λ (z : K). is_lt (cmp z (key x))) (sym (o.exact (key x) k e)) ∙ not_before_itself cmp o (key x) in
          let here : is_eq (cmp (key x) k) ≡ true = ap is_eq e in
          rw (before, behind, here) ih
      by_order Greater e ih =
          let c = comes_back cmp o (key x) k e in
          rw (c.before, c.not_after, c.apart_back) (omega (arith, ih, sum_by-cons f x (behind_key cmp key xs k), sum_by-cons f x (without cmp key xs k)))

  pub put_weighs : (xs : List X) (x : X) → sum_by f (put cmp key xs x) ≡ sum_by f (without cmp key xs (key x)) + f x
  put_weighs xs x =
      omega (arith, sum_by-append f (before_key cmp key xs (key x)) (x ∷ behind_key cmp key xs (key x)), sum_by-cons f x (behind_key cmp key xs (key x)), sides_weigh (key x) xs)

  pub others_weigh : (xs : List X) (k : K) (i : ℕ) (d : X) → IsAt cmp key xs k i → sum_by f (without cmp key xs k) + f (get_or xs i d) ≡ sum_by f xs
  others_weigh xs k i d h = rw (← removed_at cmp key o xs k i h) (sum_by-remove f xs i d h.within)

pub by_id_none : AreById []
unfolding IsStrictlySortedBy
by_id_none = tt

pub by_link_none : AreByLink []
unfolding IsStrictlySortedBy
by_link_none = tt

-- ---- the interests of the client of a link, and those of all, at its place

pub found_interests : (cs : List ClientInterests) (link n : ℕ) (d : ClientInterests) → IsAt nat_cmp client_link cs link n → interests_on cs link ≡ (get_or cs n d).interests
found_interests cs link n d h = ap (λ (o : Option ClientInterests). option_map_or (λ c. c.interests) o []) (h.found ∙ slice_get-get_or cs n d h.within)

pub no_interests : (cs : List ClientInterests) (link n : ℕ) → IsGap nat_cmp client_link cs link n → interests_on cs link ≡ []
no_interests cs link n h = ap (λ (o : Option ClientInterests). option_map_or (λ c. c.interests) o []) h.absent

-- other interests of the client that stands at the place
put_there : (cs : List ClientInterests) (link : LinkNo) (n : ℕ) (d : ClientInterests) (is new : List Interest) → IsAt nat_cmp client_link cs link.0 n → is ≡ new →
    set cs n (record { link = (get_or cs n d).link; interests = is }) ≡ with_interests cs link new
put_there cs link n d is new h e =
    let s : (get_or cs n d).link.0 ≡ link.0 = h.key_is d in
    let same : set cs n (record { link = (get_or cs n d).link; interests = is }) ≡ set cs n (record { link = link; interests = new }) =
    λ j. set cs n (record { link = record { 0 = s j }; interests = e j }) in
    same ∙ put_at nat_cmp client_link nat_order cs (record { link = link; interests = new }) n h

pub kept_there : (cs : List ClientInterests) (link : LinkNo) (i : Interest) (n : ℕ) (d : ClientInterests) (news : List ClientInterests) → IsAt nat_cmp client_link cs link.0 n →
    news ≡ set cs n (record { link = (get_or cs n d).link; interests = put nat_cmp interest_id (get_or cs n d).interests i }) → news ≡ kept cs link i
kept_there cs link i n d news h e =
    e
    ∙ put_there cs link n d (put nat_cmp interest_id (get_or cs n d).interests i) (put nat_cmp interest_id (interests_on cs link.0) i) h
    (ap (λ (is : List Interest). put nat_cmp interest_id is i) (sym (found_interests cs link.0 n d h)))

pub forgotten_there : (cs : List ClientInterests) (link : LinkNo) (id n : ℕ) (d : ClientInterests) (news : List ClientInterests) → IsAt nat_cmp client_link cs link.0 n →
    news ≡ set cs n (record { link = (get_or cs n d).link; interests = without nat_cmp interest_id (get_or cs n d).interests id }) → news ≡ forgotten cs link id
forgotten_there cs link id n d news h e =
    e
    ∙ put_there cs link n d (without nat_cmp interest_id (get_or cs n d).interests id) (without nat_cmp interest_id (interests_on cs link.0) id) h
    (ap (λ (is : List Interest). without nat_cmp interest_id is id) (sym (found_interests cs link.0 n d h)))
    ∙ ap (λ t. cond t (with_interests cs link (without nat_cmp interest_id (interests_on cs link.0) id)) cs) (place_has nat_cmp client_link nat_order cs link.0 (Ok n) h)

pub forgotten_gap : (cs : List ClientInterests) (link : LinkNo) (id n : ℕ) → IsGap nat_cmp client_link cs link.0 n → cs ≡ forgotten cs link id
forgotten_gap cs link id n h =
    ap (λ t. cond t (with_interests cs link (without nat_cmp interest_id (interests_on cs link.0) id)) cs) (place_has nat_cmp client_link nat_order cs link.0 (Err n) h)

pub inserted_is : (cs : List ClientInterests) (link : LinkNo) (is : List Interest) (n : ℕ) → IsGap nat_cmp client_link cs link.0 n → insert cs n (record { link = link; interests = is }) ≡ with_interests cs link is
inserted_is cs link is n h = put_in nat_cmp client_link nat_order cs (record { link = link; interests = is }) n h

pub inserted_ascend : (cs : List ClientInterests) (link : LinkNo) (is : List Interest) → AreByLink cs → AreByLink (with_interests cs link is)
inserted_ascend cs link is up = ascending_put nat_cmp client_link nat_order cs (record { link = link; interests = is }) up

pub kept_ascend : (cs : List ClientInterests) (link : LinkNo) (i : Interest) → AreByLink cs → AreByLink (kept cs link i)
kept_ascend cs link i up = ascending_put nat_cmp client_link nat_order cs (record { link = link; interests = put nat_cmp interest_id (interests_on cs link.0) i }) up

pub forgotten_ascend : (cs : List ClientInterests) (link : LinkNo) (id : ℕ) → AreByLink cs → AreByLink (forgotten cs link id)
forgotten_ascend cs link id up = by_test (has_key nat_cmp client_link cs link.0)
  where
    by_test : (t : Bool) → AreByLink (cond t (with_interests cs link (without nat_cmp interest_id (interests_on cs link.0) id)) cs)
    by_test true = ascending_put nat_cmp client_link nat_order cs (record { link = link; interests = without nat_cmp interest_id (interests_on cs link.0) id }) up
    by_test false = up

-- ---- what they weigh

with_weighs : (cs : List ClientInterests) (link : LinkNo) (is : List Interest) → clients_weight (with_interests cs link is) ≡ clients_weight (clients_left cs link.0) + interests_weight is
with_weighs cs link is = put_weighs nat_cmp client_link nat_order client_weight cs (record { link = link; interests = is })

pub kept_weighs : (cs : List ClientInterests) (link : LinkNo) (i : Interest) → clients_weight (kept cs link i) ≡ weight_but cs link i.id + interest_weight i
kept_weighs cs link i =
    omega (arith, with_weighs cs link (put nat_cmp interest_id (interests_on cs link.0) i), put_weighs nat_cmp interest_id nat_order interest_weight (interests_on cs link.0) i)

gap_weighs : (cs : List ClientInterests) (link : LinkNo) (id n : ℕ) → IsGap nat_cmp client_link cs link.0 n → weight_but cs link id ≡ clients_weight cs
gap_weighs cs link id n h =
    let rest : clients_weight (clients_left cs link.0) ≡ clients_weight cs = ap clients_weight h.others in
    let none : interests_weight (without nat_cmp interest_id (interests_on cs link.0) id) ≡ 0 =
    ap (λ (is : List Interest). interests_weight (without nat_cmp interest_id is id)) (no_interests cs link.0 n h) in
    omega (arith, rest, none)

pub forgotten_weighs : (cs : List ClientInterests) (link : LinkNo) (id n : ℕ) → IsAt nat_cmp client_link cs link.0 n → clients_weight (forgotten cs link id) ≡ weight_but cs link id
forgotten_weighs cs link id n h =
    ap (λ t. clients_weight (cond t (with_interests cs link (without nat_cmp interest_id (interests_on cs link.0) id)) cs)) (sym (place_has nat_cmp client_link nat_order cs link.0 (Ok n) h))
    ∙ with_weighs cs link (without nat_cmp interest_id (interests_on cs link.0) id)

pub forgotten_weighs_gap : (cs : List ClientInterests) (link : LinkNo) (id n : ℕ) → IsGap nat_cmp client_link cs link.0 n → clients_weight cs ≡ weight_but cs link id
forgotten_weighs_gap cs link id n h = sym (gap_weighs cs link id n h)

client_weighs : (cs : List ClientInterests) (link n : ℕ) (d : ClientInterests) → IsAt nat_cmp client_link cs link n →
    clients_weight (clients_left cs link) + interests_weight (get_or cs n d).interests ≡ clients_weight cs
client_weighs cs link n d h = others_weigh nat_cmp client_link nat_order client_weight cs link n d h

pub client_apart : (cs : List ClientInterests) (link n : ℕ) (x : ClientInterests) → IsAt nat_cmp client_link cs link n → x ≡ get_or cs n x →
    clients_weight (clients_left cs link) + interests_weight x.interests ≡ clients_weight cs
client_apart cs link n x h e = ap (λ (c : ClientInterests). clients_weight (clients_left cs link) + interests_weight c.interests) e ∙ client_weighs cs link n x h

pub interest_apart : (is : List Interest) (id n : ℕ) (x : Interest) → IsAt nat_cmp interest_id is id n → x ≡ get_or is n x →
    interests_weight (without nat_cmp interest_id is id) + interest_weight x ≡ interests_weight is
interest_apart is id n x h e =
    ap (λ (i : Interest). interests_weight (without nat_cmp interest_id is id) + interest_weight i) e ∙ others_weigh nat_cmp interest_id nat_order interest_weight is id n x h

pub one_weighs : (cs : List ClientInterests) (link : LinkNo) (id n w : ℕ) (x : ClientInterests) → IsAt nat_cmp client_link cs link.0 n → x ≡ get_or cs n x →
    w + interests_weight (without nat_cmp interest_id x.interests id) ≡ interests_weight x.interests → w + weight_but cs link id ≡ clients_weight cs
one_weighs cs link id n w x h e s =
    let here : interests_on cs link.0 ≡ x.interests = found_interests cs link.0 n x h ∙ ap (λ (c : ClientInterests). c.interests) (sym e) in
    let rest : interests_weight (without nat_cmp interest_id (interests_on cs link.0) id) ≡ interests_weight (without nat_cmp interest_id x.interests id) =
    ap (λ (is : List Interest). interests_weight (without nat_cmp interest_id is id)) here in
    let mine : interests_weight (get_or cs n x).interests ≡ interests_weight x.interests = ap (λ (c : ClientInterests). interests_weight c.interests) (sym e) in
    omega (arith, s, rest, mine, client_weighs cs link.0 n x h)

pub none_weighs : (cs : List ClientInterests) (link : LinkNo) (id n : ℕ) → IsGap nat_cmp client_link cs link.0 n → 0 + weight_but cs link id ≡ clients_weight cs
none_weighs cs link id n h = omega (arith, gap_weighs cs link id n h)

-- ---- what a call leaves where it succeeds, and where it fails

pub in_either : {X E : Type 0} (r : Result X E) (A B C : Type 0) → OnOk r A → OnErr r B → (A → C) → (B → C) → C
in_either (Ok x) A B C a b f g = f a
in_either (Err e) A B C a b f g = g b

pub on_ok : {X E : Type 0} (r : Result X E) (A B : Type 0) → (A → B) → OnOk r A → OnOk r B
on_ok (Ok x) A B f a = f a
on_ok (Err e) A B f a = a
