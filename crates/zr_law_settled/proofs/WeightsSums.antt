-- Sums over sets of declarations: a set whose declarations are all among others weighs no more than these (`part_weighs`).
use Rattle.std.proofs.Common.{◌≡◌, ◌≤◌, ◌+◌, ℕ, Bool, true, false, cond, not, List, [], ◌∷◌, Less, refl, sym, ap, ◌∙◌, arith}
use Rattle.std.specs.Prelude.{◌&&◌, ◌||◌}
use Rattle.std.specs.List.{AllByRecursion, fold, sum_by}
use Rattle.std.specs.Ordering.{is_eq}
use Rattle.std.proofs.lemmas.Bool.{false≢true}
use Rattle.std.proofs.lemmas.List.Sums.{sum_by-cons}
use Rattle.std.proofs.lemmas.Map.Keys.{sorted_head, sorted_tail}
use Rattle.zr_msg.specs.Decl.{decl_cmp}
use Rattle.zr_msg.specs.declared.decl.Decl.{Decl}
use Rattle.zr_log_set.specs.Decls.{is_decl, IsSet, has, with_decl, without_decl, set_of, decl_weight, weight}
use Rattle.zr_lists.proofs.Order.{is_same, apart_back}
use Rattle.zr_log_set.proofs.Decls.{decl_order, has_less, set_without}
use Rattle.zr_lists.proofs.Each.{All-kept}
use Rattle.zr_lists.proofs.Sums.{filter_sum, put_sum_le}

-- ---- sets

pub set_sum : (f : Decl → ℕ) (ds : List Decl) → sum_by f (set_of ds) ≤ sum_by f ds
set_sum f ds = omega (arith, from [] ds)
  where
    from : (acc ds : List Decl) → sum_by f (fold with_decl acc ds) ≤ sum_by f acc + sum_by f ds
    from acc [] = omega arith
    from acc (d ∷ ds) = omega (arith, from (with_decl acc d) ds, put_sum_le f decl_cmp (λ (e : Decl). e) decl_order acc d, sum_by-cons f d ds)

-- these are among others
abbrev pub AreOf : List Decl → List Decl → Type 0
AreOf ever ds = AllByRecursion (λ d. has ever d ≡ true) ds

-- one that is there weighs something
without_weighs : (ever : List Decl) (d : Decl) → has ever d ≡ true → weight (without_decl ever d) + decl_weight d ≤ weight ever
without_weighs [] d h = absurd (false≢true h)
without_weighs (e ∷ ever) d h = by (is_decl e d) refl h (without_weighs ever d)
  where
    by : (t : Bool) → is_decl e d ≡ t → (t || has ever d) ≡ true → (has ever d ≡ true → weight (without_decl ever d) + decl_weight d ≤ weight ever) →
        weight (cond (not t) (e ∷ without_decl ever d) (without_decl ever d)) + decl_weight d ≤ weight (e ∷ ever)
    by true t h ih =
        let same : decl_weight e ≡ decl_weight d = ap decl_weight (is_same decl_cmp decl_order e d t) in
        omega (arith, sum_by-cons decl_weight e ever, filter_sum decl_weight (λ x. not (is_eq (decl_cmp x d))) ever, same)
    by false t h ih = omega (arith, sum_by-cons decl_weight e ever, sum_by-cons decl_weight e (without_decl ever d), ih h)

-- those that come behind one are others
others_of : (ever : List Decl) (d : Decl) (ds : List Decl) → AllByRecursion (λ y. decl_cmp d y ≡ Less) ds → AreOf ever ds → AreOf (without_decl ever d) ds
others_of ever d [] less h = tt
others_of ever d (y ∷ ds) less h =
    (has_less ever d y ∙ ap (λ t. not t && has ever y) (ap is_eq less.0) ∙ h.0, others_of ever d ds less.1 h.1)

pub part_weighs : (ds ever : List Decl) → IsSet ds → AreOf ever ds → weight ds ≤ weight ever
part_weighs [] ever up h = omega arith
part_weighs (d ∷ ds) ever up h = omega (
  arith,
  sum_by-cons decl_weight d ds,
  without_weighs ever d h.0,
  part_weighs ds (without_decl ever d) (sorted_tail decl_cmp d ds up) (others_of ever d ds (sorted_head decl_cmp d ds up) h.1),
)

-- a set without a declaration, and the declaration
pub rest_weighs : (set ever : List Decl) (d : Decl) → IsSet set → AreOf ever set → has ever d ≡ true → weight (without_decl set d) + decl_weight d ≤ weight ever
rest_weighs set ever d up h there = omega (
  arith,
  without_weighs ever d there,
  part_weighs (without_decl set d) (without_decl ever d) (set_without set d up)
      (All-kept (λ y. has ever y ≡ true) (λ y. has (without_decl ever d) y ≡ true) (λ y. not (is_eq (decl_cmp y d))) set (λ y k t. apart y k t (is_decl y d) refl) h),
)
  where
    apart : (y : Decl) → has ever y ≡ true → not (is_decl y d) ≡ true → (t : Bool) → is_decl y d ≡ t → has (without_decl ever d) y ≡ true
    apart y k n true e = absurd (false≢true (sym (ap not e) ∙ n))
    apart y k n false e = has_less ever d y ∙ ap (λ t. not t && has ever y) (apart_back decl_cmp decl_order y d e) ∙ k
