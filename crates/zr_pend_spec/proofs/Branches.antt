-- Lists of branches that are distinct: what holds of their parts and of what a filter leaves.
use Rattle.std.proofs.Common.{◌≡◌, ◌||◌, Bool, true, false, cond, List, [], ◌∷◌, ◌++◌, filter, refl, sym, ap, ◌∙◌}
use Rattle.std.specs.List.{list_any}
use Rattle.std.proofs.lemmas.Bool.{eqb-true, eq-eqb, false_from_ne_true, and_from, or_from, or_left, or_right, not-true, not_from_false}
use Rattle.std.proofs.lemmas.List.Folds.{list_any-append}
use Rattle.zr_lists.proofs.Parts.{and_left, and_right, left_false, right_false}
use Rattle.zr_pend_spec.specs.declared.branch.Branch.{Branch}
use Rattle.zr_pend_spec.specs.Row.{is_branch}
use Rattle.zr_pend_spec.specs.Pending.{are_distinct}

pub is_branch_itself : (x : Branch) → is_branch x x ≡ true
is_branch_itself x = and_from _ _ (eq-eqb x.link.0 x.link.0 refl) (eq-eqb x.number x.number refl)

-- of two branches that are one, each third is both or neither
pub is_branch_alike : (x y z : Branch) → is_branch x y ≡ true → is_branch x z ≡ is_branch y z
is_branch_alike x y z h =
    let e : y.link.0 ≡ x.link.0 = eqb-true _ _ (and_left _ _ h) in
    let f : y.number ≡ x.number = eqb-true _ _ (and_right _ _ h) in
    rw (e, f) refl

pub any_alike : (x y : Branch) (bs : List Branch) → is_branch x y ≡ true → list_any (λ b. is_branch x b) bs ≡ list_any (λ b. is_branch y b) bs
any_alike x y [] h = refl
any_alike x y (b ∷ bs) h = ap (λ t. t || list_any (λ c. is_branch x c) bs) (is_branch_alike x y b h) ∙ ap (λ t. is_branch y b || t) (any_alike x y bs h)

none_filtered : (p q : Branch → Bool) (bs : List Branch) → list_any q bs ≡ false → list_any q (filter p bs) ≡ false
none_filtered p q [] h = refl
none_filtered p q (b ∷ bs) h = by (p b) (none_filtered p q bs (right_false _ _ h))
  where
    by : (t : Bool) → list_any q (filter p bs) ≡ false → list_any q (cond t (b ∷ filter p bs) (filter p bs)) ≡ false
    by true ih = or_from _ _ (left_false _ _ h) ih
    by false ih = ih

pub distinct_filtered : (p : Branch → Bool) (bs : List Branch) → are_distinct bs ≡ true → are_distinct (filter p bs) ≡ true
distinct_filtered p [] h = refl
distinct_filtered p (b ∷ bs) h = by (p b) (distinct_filtered p bs (and_right _ _ h))
  where
    by : (t : Bool) → are_distinct (filter p bs) ≡ true → are_distinct (cond t (b ∷ filter p bs) (filter p bs)) ≡ true
    by true ih = and_from _ _ (not_from_false _ (none_filtered p (λ c. is_branch b c) bs (not-true _ (and_left _ _ h)))) ih
    by false ih = ih

-- two lists of which no branch of the first is in the second
pub distinct_joined : (xs ys : List Branch) → are_distinct xs ≡ true → are_distinct ys ≡ true →
    ((b : Branch) → list_any (λ c. is_branch b c) xs ≡ true → list_any (λ c. is_branch b c) ys ≡ false) → are_distinct (xs ++ ys) ≡ true
distinct_joined [] ys dx dy h = dy
distinct_joined (x ∷ xs) ys dx dy h =
    and_from _ _
    (not_from_false _ (list_any-append (λ c. is_branch x c) xs ys ∙ or_from _ _ (not-true _ (and_left _ _ dx)) (h x (or_left _ _ (is_branch_itself x)))))
    (distinct_joined xs ys (and_right _ _ dx) dy (λ b k. h b (or_right _ _ k)))

pub distinct_behind : (xs ys : List Branch) → are_distinct (xs ++ ys) ≡ true → are_distinct ys ≡ true
distinct_behind [] ys h = h
distinct_behind (x ∷ xs) ys h = distinct_behind xs ys (and_right _ _ h)

-- what is in the first of two is not in the second
pub distinct_apart : (xs ys : List Branch) (b : Branch) → are_distinct (xs ++ ys) ≡ true → list_any (λ c. is_branch b c) xs ≡ true → list_any (λ c. is_branch b c) ys ≡ false
distinct_apart [] ys b h k = cc
distinct_apart (x ∷ xs) ys b h k = by (is_branch b x) refl (distinct_apart xs ys b (and_right _ _ h)) k
  where
    by : (t : Bool) → is_branch b x ≡ t → (list_any (λ c. is_branch b c) xs ≡ true → list_any (λ c. is_branch b c) ys ≡ false)
        → (t || list_any (λ c. is_branch b c) xs) ≡ true → list_any (λ c. is_branch b c) ys ≡ false
    by true e ih q = any_alike b x ys e ∙ right_false _ _ (sym (list_any-append (λ c. is_branch x c) xs ys) ∙ not-true _ (and_left _ _ h))
    by false e ih q = ih q

pub distinct_apart_back : (xs ys : List Branch) (b : Branch) → are_distinct (xs ++ ys) ≡ true → list_any (λ c. is_branch b c) ys ≡ true → list_any (λ c. is_branch b c) xs ≡ false
distinct_apart_back xs ys b h k = false_from_ne_true _ (λ t. let no = distinct_apart xs ys b h t in cc)
