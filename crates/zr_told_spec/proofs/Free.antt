-- The least id that isn't in use is the least number that isn't pending on a link where these ids are pending.
use Rattle.std.proofs.Common.{◌≡◌, ℕ, suc, ◌+◌, ◌<◌, ◌≤◌, ◌==◌, ◌||◌, ◌&&◌, Bool, true, false, List, [], ◌∷◌, length, map, None, refl, sym, ap, ◌∙◌, arith}
use Rattle.std.specs.List.{list_any}
use mathlib.Core.Logic.{◌⊎◌, inl, inr}
use Rattle.std.proofs.lemmas.Bool.{cases_lt}
use Rattle.std.proofs.Math.Bool.{or-false}
use Rattle.zr_id.specs.declared.link.LinkNo.{LinkNo}
use Rattle.zr_pend_spec.specs.declared.branch.Branch.{Branch}
use Rattle.zr_pend_spec.specs.Row.{RowState}
use Rattle.zr_pend_spec.specs.Pending.{first_free, is_pending, branch, numbers_on, free_number}
use Rattle.zr_pend_spec.proofs.Free.{free_is_least}
use Rattle.zr_told_spec.specs.Ids.{IsLeast}
use Rattle.zr_told_spec.specs.Told.{ToldMap, is_used, free_id}

abbrev some_link : LinkNo
some_link = record { 0 = 0 }

abbrev branches : ToldMap → List Branch
branches m = map (λ e. record { link = some_link; number = e.1.id }) m

abbrev rows : ToldMap → List RowState
rows m = record { asker = None; branches = branches m } ∷ []

in_branches : (m : ToldMap) (n : ℕ) → list_any (λ b. b.link.0 == 0 && b.number == n) (branches m) ≡ is_used m n
in_branches [] n = refl
in_branches (e ∷ es) n = ap (λ z. e.1.id == n || z) (in_branches es n)

pending_used : (m : ToldMap) (n : ℕ) → is_pending (branch some_link n) (rows m) ≡ is_used m n
pending_used m n = or-false _ ∙ in_branches m n

count : (m : ToldMap) → length (numbers_on some_link (rows m)) ≡ length m
count [] = refl
count (e ∷ es) = ap suc (count es)

pub free_number_is : (m : ToldMap) → free_number some_link (rows m) ≡ free_id m
free_number_is m = λ i. first_free (λ n. pending_used m n i) (count m i) 1

pub free_is_least_id : (m : ToldMap) → IsLeast (is_used m) (free_id m)
free_is_least_id m =
    let l = free_is_least some_link (rows m) in
    let e : free_number some_link (rows m) ≡ free_id m = free_number_is m in
    record {
      positive = let p = l.positive in omega (arith, e, p);
      free = sym (pending_used m (free_id m)) ∙ ap (λ z. is_pending (branch some_link z) (rows m)) (sym e) ∙ l.free;
      least = λ k le lt. sym (pending_used m k) ∙ l.least k le (omega (arith, e, lt));
    }

pub free_within : (m : ToldMap) → free_id m ≤ length m + 1
free_within m =
    let l = free_is_least some_link (rows m) in
    let p = l.within in
    omega (arith, free_number_is m, count m, p)

-- there is one least number alone
pub least_is_one : (used : ℕ → Bool) (a b : ℕ) → IsLeast used a → IsLeast used b → a ≡ b
least_is_one used a b p q = by (cases_lt a b) (cases_lt b a)
  where
    by : ((a < b) ⊎ (b ≤ a)) → ((b < a) ⊎ (a ≤ b)) → a ≡ b
    by (inl l) r = let no : false ≡ true = sym p.free ∙ q.least a p.positive l in cc
    by (inr l) (inl r) = let no : false ≡ true = sym q.free ∙ p.least b q.positive r in cc
    by (inr l) (inr r) = omega (arith, l, r)
