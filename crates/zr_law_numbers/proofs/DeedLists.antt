-- Lists of deeds, one behind another: what they lead from and to. A branch that ends leads from the rows before to those after (`ends_lead`), and so
-- do several (`all_ends_lead`).
use Rattle.std.proofs.Common.{◌≡◌, ℕ, ◌==◌, ◌&&◌, not, Bool, true, false, cond, List, [], ◌∷◌, ◌++◌, map, append-nil, Option, Some, None, refl, sym, ap, subst, ◌∙◌}
use Rattle.std.specs.List.{flat_map, list_all}
use Rattle.std.specs.Option.{option_map_or, option_to_list}
use Rattle.std.proofs.lemmas.Bool.{eqb-true, eq-eqb, false_from_ne_true, false≢true, and_from}
use Rattle.std.proofs.lemmas.Grind.{flat_map-append}
use Rattle.std.proofs.lemmas.List.Folds.{list_all-append}
use Rattle.zr_id.specs.declared.link.LinkNo.{LinkNo}
use Rattle.zr_pend_spec.specs.declared.branch.Asker.{Asker}
use Rattle.zr_pend_spec.specs.declared.branch.Branch.{Branch}
use Rattle.zr_pend_spec.specs.Row.{RowState, is_last}
use Rattle.zr_pend_spec.specs.Pending.{IsSound, asked, finished, final_to, all_finished, finals}
use Rattle.zr_pend_spec.proofs.Sound.{finished_sound}
use Rattle.zr_pend_spec.proofs.ReadingsOfDrop.{is_who}
use Rattle.zr_law_queries.specs.Link.{reply}
use Rattle.zr_law_numbers.specs.Waiting.{Place, Said}
use Rattle.zr_law_numbers.specs.Deeds.{Half, Deed, Replies, Ends, IsHalf, with_deed, with_deeds, MayDoAll, is_own, asked_by_deed, answered_by_deed}
use Rattle.zr_law_numbers.proofs.RowsKept.{found_asked, kept_finished}

-- ---- one list behind another

pub with-append : (h : Half) (xs ys : List Deed) → with_deeds h (xs ++ ys) ≡ with_deeds (with_deeds h xs) ys
with-append h [] ys = refl
with-append h (d ∷ ds) ys = with-append (with_deed h d) ds ys

pub may-append : (h : Half) (xs ys : List Deed) → MayDoAll h xs → MayDoAll (with_deeds h xs) ys → MayDoAll h (xs ++ ys)
may-append h [] ys m k = k
may-append h (d ∷ ds) ys m k = (m.0, may-append (with_deed h d) ds ys m.1 k)

-- halves that agree are one
pub same_half : (h g : Half) → IsHalf h g → h ≡ g
same_half h g s = λ i. record { keeps = λ n. s.keeps n i; back = λ n. s.back n i }

-- a router's own deeds lead from one half to another
pub record Leads (h : Half) (deeds : List Deed) (g : Half) : Type 0 where
  pub owns : list_all is_own deeds ≡ true
  pub may : MayDoAll h deeds
  pub leaves : IsHalf g (with_deeds h deeds)

pub nothing_leads : (h g : Half) → IsHalf g h → Leads h [] g
nothing_leads h g s = record { owns = refl; may = tt; leaves = s }

pub leads-append : (h : Half) (xs : List Deed) (g : Half) (ys : List Deed) (k : Half) → Leads h xs g → Leads g ys k → Leads h (xs ++ ys) k
leads-append h xs g ys k first second =
    let same : g ≡ with_deeds h xs = same_half g (with_deeds h xs) first.leaves in
    record {
      owns = list_all-append is_own xs ys ∙ and_from _ _ first.owns second.owns;
      may = may-append h xs ys first.may (subst (λ z. MayDoAll z ys) same second.may);
      leaves = subst (λ z. IsHalf k z) (ap (λ z. with_deeds z ys) same ∙ sym (with-append h xs ys)) second.leaves;
    }

-- ---- ends

-- who asked over a link under a number
abbrev pub asks_on : LinkNo → ℕ → Asker
asks_on to n = record { link = to; number = n }

-- the rows' requests of a link, beside what is pending there
abbrev pub half_by : List RowState → LinkNo → (ℕ → Option (Option Place)) → Half
half_by rows to pending = record { keeps = λ n. asked (asks_on to n) rows; back = pending }

-- replies under a number
abbrev pub says : ℕ → List Said → List Deed
says number rs = map (λ s. Replies number s) rs

pub says_with : (h : Half) (n : ℕ) (rs : List Said) (ds : List Deed) → with_deeds h (says n rs ++ ds) ≡ with_deeds h ds
says_with h n [] ds = refl
says_with h n (r ∷ rs) ds = says_with h n rs ds

pub says_own : (n : ℕ) (rs : List Said) (ds : List Deed) → list_all is_own (says n rs ++ ds) ≡ list_all is_own ds
says_own n [] ds = refl
says_own n (r ∷ rs) ds = says_own n rs ds

pub says_may : (h : Half) (n : ℕ) (rs : List Said) (ds : List Deed) → h.keeps n ≡ true → MayDoAll h ds → MayDoAll h (says n rs ++ ds)
says_may h n [] ds k m = m
says_may h n (r ∷ rs) ds k m = (k, says_may h n rs ds k m)

pub says_asks : (n : ℕ) (rs : List Said) (ds : List Deed) → flat_map asked_by_deed (says n rs ++ ds) ≡ flat_map asked_by_deed ds
says_asks n [] ds = refl
says_asks n (r ∷ rs) ds = says_asks n rs ds

pub says_answers : (n : ℕ) (rs : List Said) (ds : List Deed) → flat_map answered_by_deed (says n rs ++ ds) ≡ map (λ r. reply n r) rs ++ flat_map answered_by_deed ds
says_answers n [] ds = refl
says_answers n (r ∷ rs) ds = ap (λ z. reply n r ∷ z) (says_answers n rs ds)

-- who gets a final is said what was held and then ended, where it is on the link
abbrev pub ends_for : (Asker → List Said) → LinkNo → Asker → List Deed
ends_for out to a = cond (to.0 == a.link.0) (says a.number (out a) ++ Ends a.number ∷ []) []

abbrev pub ends_of : (Asker → List Said) → LinkNo → Option Asker → List Deed
ends_of out to o = option_map_or (λ a. ends_for out to a) o []

and_true : (t : Bool) → t ≡ (t && true)
and_true true = refl
and_true false = refl

pub swapped : (m n : ℕ) (t : Bool) → (m == n) ≡ t → (n == m) ≡ t
swapped m n true e = eq-eqb n m (sym (eqb-true m n e))
swapped m n false e = false_from_ne_true (n == m) (λ t. absurd (false≢true (sym e ∙ eq-eqb m n (sym (eqb-true n m t)))))

ends_keep : (out : Asker → List Said) (to : LinkNo) (h : Half) (o : Option Asker) (n : ℕ) → (with_deeds h (ends_of out to o)).keeps n ≡ (h.keeps n && not (is_who (asks_on to n) o))
ends_keep out to h None n = and_true (h.keeps n)
ends_keep out to h (Some a) n = by (to.0 == a.link.0) refl
  where
    own : (t : Bool) → cond t false (h.keeps n) ≡ (h.keeps n && not t)
    own true = none (h.keeps n)
      where
        none : (x : Bool) → false ≡ (x && false)
        none true = refl
        none false = refl
    own false = and_true (h.keeps n)

    by : (t : Bool) → (to.0 == a.link.0) ≡ t → (with_deeds h (cond t (says a.number (out a) ++ Ends a.number ∷ []) [])).keeps n ≡ (h.keeps n && not (a.link.0 == to.0 && a.number == n))
    by true e = ap (λ (z : Half). z.keeps n) (says_with h a.number (out a) (Ends a.number ∷ [])) ∙ own (a.number == n) ∙ ap (λ t. h.keeps n && not (t && a.number == n)) (sym (swapped to.0 a.link.0 true e))
    by false e = and_true (h.keeps n) ∙ ap (λ t. h.keeps n && not (t && a.number == n)) (sym (swapped to.0 a.link.0 false e))

ends_back : (out : Asker → List Said) (to : LinkNo) (h : Half) (o : Option Asker) → (with_deeds h (ends_of out to o)).back ≡ h.back
ends_back out to h None = refl
ends_back out to h (Some a) = by (to.0 == a.link.0)
  where
    by : (t : Bool) → (with_deeds h (cond t (says a.number (out a) ++ Ends a.number ∷ []) [])).back ≡ h.back
    by true = ap (λ (z : Half). z.back) (says_with h a.number (out a) (Ends a.number ∷ []))
    by false = refl

ends_own : (out : Asker → List Said) (to : LinkNo) (o : Option Asker) → list_all is_own (ends_of out to o) ≡ true
ends_own out to None = refl
ends_own out to (Some a) = by (to.0 == a.link.0)
  where
    by : (t : Bool) → list_all is_own (cond t (says a.number (out a) ++ Ends a.number ∷ []) []) ≡ true
    by true = says_own a.number (out a) (Ends a.number ∷ [])
    by false = refl

-- a branch ends, and with it the row that has no other
pub ends_lead : (out : Asker → List Said) (rows : List RowState) (b : Branch) (to : LinkNo) (pending : ℕ → Option (Option Place)) → IsSound rows →
    Leads (half_by rows to pending) (ends_of out to (final_to rows b)) (half_by (finished rows b) to pending)
ends_lead out rows b to pending s = record {
  owns = ends_own out to (final_to rows b);
  may = may (final_to rows b) refl;
  leaves = record {
    keeps = λ n. kept_finished rows b (asks_on to n) s ∙ sym (ends_keep out to (half_by rows to pending) (final_to rows b) n);
    back = λ n. ap (λ (f : ℕ → Option (Option Place)). f n) (sym (ends_back out to (half_by rows to pending) (final_to rows b)));
  };
}
  where
    may : (o : Option Asker) → final_to rows b ≡ o → MayDoAll (half_by rows to pending) (ends_of out to o)
    may None e = tt
    may (Some a) e = by (to.0 == a.link.0) refl
      where
        by : (t : Bool) → (to.0 == a.link.0) ≡ t → MayDoAll (half_by rows to pending) (cond t (says a.number (out a) ++ Ends a.number ∷ []) [])
        by true f =
            let kept : asked (asks_on to a.number) rows ≡ true = ap (λ k. asked (asks_on (record { 0 = k }) a.number) rows) (eqb-true to.0 a.link.0 f) ∙ found_asked (λ r. is_last b r) rows a e in
            says_may (half_by rows to pending) a.number (out a) (Ends a.number ∷ []) kept (kept, tt)
        by false f = tt

-- several branches end, one after another
pub all_ends_lead : (out : Asker → List Said) (rows : List RowState) (bs : List Branch) (to : LinkNo) (pending : ℕ → Option (Option Place)) → IsSound rows →
    Leads (half_by rows to pending) (flat_map (λ a. ends_for out to a) (finals rows bs)) (half_by (all_finished rows bs) to pending)
all_ends_lead out rows [] to pending s = nothing_leads (half_by rows to pending) (half_by rows to pending) (record { keeps = λ n. refl; back = λ n. refl })
all_ends_lead out rows (b ∷ bs) to pending s =
    subst (λ ds. Leads (half_by rows to pending) ds (half_by (all_finished (finished rows b) bs) to pending))
    (ap (λ ds. ds ++ flat_map (λ a. ends_for out to a) (finals (finished rows b) bs)) (one (final_to rows b)) ∙ sym (flat_map-append (λ a. ends_for out to a) (option_to_list (final_to rows b)) (finals (finished rows b) bs)))
    (leads-append (half_by rows to pending) (ends_of out to (final_to rows b)) (half_by (finished rows b) to pending) (flat_map (λ a. ends_for out to a) (finals (finished rows b) bs)) (half_by (all_finished (finished rows b) bs) to pending)
    (ends_lead out rows b to pending s) (all_ends_lead out (finished rows b) bs to pending (finished_sound rows b s)))
  where
    one : (o : Option Asker) → ends_of out to o ≡ flat_map (λ a. ends_for out to a) (option_to_list o)
    one None = refl
    one (Some a) = sym (append-nil (ends_for out to a))
