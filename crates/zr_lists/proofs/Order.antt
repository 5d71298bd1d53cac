-- What one comparison of two keys says of all tests on the two, in a total order whose ties are equal.
use Rattle.std.proofs.Common.{◌≡◌, true, false, Ordering, Less, Equal, Greater, sym, ap, ◌∙◌, refl}
use Rattle.std.specs.Cmp.{IsTotalOrder}
use Rattle.std.specs.Cmp.Lexicographic.{slice_cmp, nat_list_cmp_total}
use Rattle.std.specs.Ordering.{is_eq, is_lt, nat_cmp, ordering_reverse}
use Rattle.std.proofs.lemmas.Bool.{true≢false}
use Rattle.std.proofs.lemmas.Cmp.{nat_cmp_total, tied_itself}
use Rattle.std.proofs.lemmas.Map.Lookups.{exact_bytes, exact_unsigned}

-- an order whose ties are equal
pub record IsExactOrder {K : Type 0} (cmp : K → K → Ordering) : Type 0 where
  pub total : IsTotalOrder cmp
  pub exact : (k l : K) → cmp k l ≡ Equal → k ≡ l

-- what it says that k comes before l
pub record Comes {K : Type 0} (cmp : K → K → Ordering) (k l : K) : Type 0 where
  pub less : cmp k l ≡ Less
  pub greater : cmp l k ≡ Greater
  pub before : is_lt (cmp k l) ≡ true
  pub not_after : is_lt (cmp l k) ≡ false
  pub apart : is_eq (cmp k l) ≡ false
  pub apart_back : is_eq (cmp l k) ≡ false

module _ {K : Type 0} (cmp : K → K → Ordering) (o : IsExactOrder cmp) where
  pub comes : (k l : K) → cmp k l ≡ Less → Comes cmp k l
  comes k l h =
      let back : cmp l k ≡ Greater = o.total.antisymm l k ∙ ap ordering_reverse h in
      record {
        less = h;
        greater = back;
        before = ap is_lt h;
        not_after = ap is_lt back;
        apart = ap is_eq h;
        apart_back = ap is_eq back;
      }

  pub comes_back : (k l : K) → cmp k l ≡ Greater → Comes cmp l k
  comes_back k l h = comes l k (o.total.antisymm l k ∙ ap ordering_reverse h)

  pub is_itself : (k : K) → is_eq (cmp k k) ≡ true
  is_itself k = ap is_eq (tied_itself o.total k)

  pub not_before_itself : (k : K) → is_lt (cmp k k) ≡ false
  not_before_itself k = ap is_lt (tied_itself o.total k)

  pub is_same : (k l : K) → is_eq (cmp k l) ≡ true → k ≡ l
  is_same k l h = by_order (cmp k l) refl h
    where
      by_order : (r : Ordering) → cmp k l ≡ r → is_eq r ≡ true → k ≡ l
      by_order Less e t = cc
      by_order Equal e t = o.exact k l e
      by_order Greater e t = cc

  pub apart_back : (k l : K) → is_eq (cmp k l) ≡ false → is_eq (cmp l k) ≡ false
  apart_back k l f = by_order (cmp l k) refl
    where
      by_order : (r : Ordering) → cmp l k ≡ r → is_eq r ≡ false
      by_order Less g = refl
      by_order Equal g = absurd (true≢false (sym (is_itself k) ∙ ap (λ (z : K). is_eq (cmp k z)) (sym (o.exact l k g)) ∙ f))
      by_order Greater g = refl

-- ---- orders of numbers and of bytes

pub nat_order : IsExactOrder nat_cmp
nat_order = record { total = nat_cmp_total; exact = λ k l h. exact_unsigned k l h }

pub name_order : IsExactOrder (slice_cmp nat_cmp)
name_order = record { total = nat_list_cmp_total; exact = λ k l h. exact_bytes k l h }
