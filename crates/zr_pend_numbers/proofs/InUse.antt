-- What one link more or less, one branch more or less, and branches one after another make of the numbers that are in use.
use Rattle.std.proofs.Common.{◌≡◌, ℕ, zero, suc, ◌+◌, ◌<◌, ◌==◌, ◌&&◌, ◌||◌, not, Bool, true, false, cond, List, [], ◌∷◌, length, drop, get_or, Result, Ok, Err, OnOk, OnErr, refl, sym, ap, ◌∙◌, arith}
use Rattle.std.specs.List.{list_any, list_all}
use Rattle.std.specs.declared.option.Option.{Option}
use Rattle.std.specs.declared.option.Option.TheVariants.{None, Some}
use Rattle.std.specs.Option.{unwrap_or}
use Rattle.std.specs.Ordering.{is_eq, nat_cmp}
use Rattle.std.proofs.lemmas.Bool.{eqb-true, not-true}
use Rattle.std.proofs.lemmas.List.{drop_more}
use Rattle.zr_lists.proofs.Numbers.{nat_eq_is, nat_eq_turned}
use Rattle.zr_lists.proofs.Parts.{and_left, and_right, left_false, right_false}
use Rattle.zr_pend_spec.specs.declared.branch.Branch.{Branch}
use Rattle.zr_pend_spec.specs.Row.{is_branch}
use Rattle.zr_pend_numbers.specs.Numbers.{Uses, is_in, is_used, used_on}

-- ---- those of one link among those of all

pub with_link : (link k : ℕ) (m : List ℕ) (o n : Option (List ℕ)) → n ≡ cond (is_eq (nat_cmp link k)) (Some m) o → unwrap_or n [] ≡ cond (link == k) m (unwrap_or o [])
with_link link k m o n h = ap (λ z. unwrap_or z []) h ∙ ap (λ z. unwrap_or (cond z (Some m) o) []) (nat_eq_is link k) ∙ by (link == k)
  where
    by : (b : Bool) → unwrap_or (cond b (Some m) o) [] ≡ cond b m (unwrap_or o [])
    by true = refl
    by false = refl

pub without_link : (link k : ℕ) (o n : Option (List ℕ)) → n ≡ cond (is_eq (nat_cmp link k)) None o → unwrap_or n [] ≡ cond (link == k) [] (unwrap_or o [])
without_link link k o n h = ap (λ z. unwrap_or z []) h ∙ ap (λ z. unwrap_or (cond z None o) []) (nat_eq_is link k) ∙ by (link == k)
  where
    by : (b : Bool) → unwrap_or (cond b None o) [] ≡ cond b [] (unwrap_or o [])
    by true = refl
    by false = refl

-- ---- one branch

module _ (uses news : Uses) (b : Branch) (w : List ℕ) (e : (k : ℕ) → used_on news k ≡ cond (b.link.0 == k) w (used_on uses k)) where
  pub put_used : ((m : ℕ) → is_in m w ≡ (b.number == m || is_in m (used_on uses b.link.0))) → (c : Branch) → is_used news c ≡ (is_branch c b || is_used uses c)
  put_used h c = ap (λ ns. is_in c.number ns) (e c.link.0) ∙ by (b.link.0 == c.link.0) refl
    where
      by : (t : Bool) → (b.link.0 == c.link.0) ≡ t → is_in c.number (cond t w (used_on uses c.link.0)) ≡ (t && b.number == c.number || is_used uses c)
      by true q = h c.number ∙ ap (λ k. b.number == c.number || is_in c.number (used_on uses k)) (eqb-true b.link.0 c.link.0 q)
      by false q = refl

  pub take_used : ((m : ℕ) → is_in m w ≡ (not (b.number == m) && is_in m (used_on uses b.link.0))) → (c : Branch) → is_used news c ≡ (not (is_branch c b) && is_used uses c)
  take_used h c = ap (λ ns. is_in c.number ns) (e c.link.0) ∙ by (b.link.0 == c.link.0) refl
    where
      by : (t : Bool) → (b.link.0 == c.link.0) ≡ t → is_in c.number (cond t w (used_on uses c.link.0)) ≡ (not (t && b.number == c.number) && is_used uses c)
      by true q = h c.number ∙ ap (λ k. not (b.number == c.number) && is_in c.number (used_on uses k)) (eqb-true b.link.0 c.link.0 q)
      by false q = refl

-- on a link that has no number in use nothing is taken
pub take_unused : (uses : Uses) (b : Branch) → used_on uses b.link.0 ≡ [] → (c : Branch) → is_used uses c ≡ (not (is_branch c b) && is_used uses c)
take_unused uses b h c = by (b.link.0 == c.link.0) refl
  where
    by : (t : Bool) → (b.link.0 == c.link.0) ≡ t → is_used uses c ≡ (not (t && b.number == c.number) && is_used uses c)
    by false q = refl
    by true q =
        let none : is_used uses c ≡ false = ap (λ k. is_in c.number (used_on uses k)) (sym (eqb-true b.link.0 c.link.0 q)) ∙ ap (λ ns. is_in c.number ns) h in
        none ∙ nothing (not (b.number == c.number)) ∙ ap (λ t. not (b.number == c.number) && t) (sym none)
      where
        nothing : (s : Bool) → false ≡ (s && false)
        nothing true = refl
        nothing false = refl

-- a link that went down
pub forget_used : (uses news : Uses) (link : ℕ) → ((k : ℕ) → used_on news k ≡ cond (link == k) [] (used_on uses k)) → (c : Branch) → is_used news c ≡ (not (c.link.0 == link) && is_used uses c)
forget_used uses news link e c = ap (λ ns. is_in c.number ns) (e c.link.0) ∙ by (link == c.link.0) ∙ ap (λ t. not t && is_used uses c) (sym (nat_eq_is link c.link.0) ∙ nat_eq_turned link c.link.0)
  where
    by : (t : Bool) → is_in c.number (cond t [] (used_on uses c.link.0)) ≡ (not t && is_used uses c)
    by true = refl
    by false = refl

-- ---- branches one after another

abbrev pub is_among : Branch → List Branch → Bool
is_among c bs = list_any (λ b. is_branch c b) bs

-- what is put of branches so far, and what it leaves of others
pub record IsPut (bs : List Branch) (i : ℕ) (olds news : Branch → Bool) : Type 0 where
  pub left : (c : Branch) → (is_among c (drop i bs) || news c) ≡ (is_among c bs || olds c)
  pub others : (c : Branch) → is_among c bs ≡ false → news c ≡ olds c

among_at : (bs : List Branch) (i : ℕ) (d c : Branch) → i < length bs → is_among c bs ≡ false → is_branch c (get_or bs i d) ≡ false
among_at bs i d c lt h = by bs i lt h
  where
    by : (cs : List Branch) (j : ℕ) → j < length cs → is_among c cs ≡ false → is_branch c (get_or cs j d) ≡ false
    by [] j l k = absurd (omega arith)
    by (x ∷ xs) zero l k = left_false _ _ k
    by (x ∷ xs) (suc j) l k = by xs j (omega arith) (right_false _ _ k)

pub put_more : (bs : List Branch) (i : ℕ) (d : Branch) (olds news more : Branch → Bool) → i < length bs → ((c : Branch) → more c ≡ (is_branch c (get_or bs i d) || news c)) → IsPut bs i olds news → IsPut bs (i + 1) olds more
put_more bs i d olds news more lt e h = record {
  left = λ c. ap (λ t. is_among c (drop (i + 1) bs) || t) (e c) ∙ swap (is_among c (drop (i + 1) bs)) (is_branch c (get_or bs i d)) (news c) ∙ ap (λ cs. is_among c cs || news c) (sym (drop_more bs i d lt)) ∙ h.left c;
  others = λ c k. e c ∙ ap (λ t. t || news c) (among_at bs i d c lt k) ∙ h.others c k;
}
  where
    swap : (s t u : Bool) → (s || (t || u)) ≡ ((t || s) || u)
    swap true true u = refl
    swap true false u = refl
    swap false true u = refl
    swap false false u = refl

pub take_more : (bs : List Branch) (i : ℕ) (d c : Branch) (all was new : Bool) → i < length bs → new ≡ (not (is_branch c (get_or bs i d)) && was) → (not (is_among c (drop i bs)) && was) ≡ all →
    (not (is_among c (drop (i + 1) bs)) && new) ≡ all
take_more bs i d c all was new lt e h =
    ap (λ t. not (is_among c (drop (i + 1) bs)) && t) e
    ∙ swap (is_among c (drop (i + 1) bs)) (is_branch c (get_or bs i d))
    ∙ ap (λ cs. not (is_among c cs) && was) (sym (drop_more bs i d lt))
    ∙ h
  where
    swap : (s t : Bool) → (not s && (not t && was)) ≡ (not (t || s) && was)
    swap true true = refl
    swap true false = refl
    swap false true = refl
    swap false false = refl

-- where numbers that weren't in use are taken away again, all is as it was
pub same_used : (uses : Uses) (b c : Branch) → is_branch c b ≡ true → is_used uses b ≡ is_used uses c
same_used uses b c h = ap (λ k. is_in b.number (used_on uses k)) (eqb-true b.link.0 c.link.0 (and_left _ _ h)) ∙ ap (λ n. is_in n (used_on uses c.link.0)) (eqb-true b.number c.number (and_right _ _ h))

unused : (uses : Uses) (c : Branch) (bs : List Branch) → list_all (λ b. not (is_used uses b)) bs ≡ true → is_among c bs ≡ true → is_used uses c ≡ false
unused uses c [] f h = cc
unused uses c (b ∷ bs) f h = by (is_branch c b) refl (unused uses c bs (and_right _ _ f)) h
  where
    by : (t : Bool) → is_branch c b ≡ t → (is_among c bs ≡ true → is_used uses c ≡ false) → (t || is_among c bs) ≡ true → is_used uses c ≡ false
    by true q ih k = sym (same_used uses b c q) ∙ not-true _ (and_left _ _ f)
    by false q ih k = ih k

pub put_undone : (bs : List Branch) (uses : Uses) (mids news : Branch → Bool) → list_all (λ b. not (is_used uses b)) bs ≡ true → ((c : Branch) → is_among c bs ≡ false → mids c ≡ is_used uses c) →
    ((c : Branch) → news c ≡ (not (is_among c bs) && mids c)) → (c : Branch) → news c ≡ is_used uses c
put_undone bs uses mids news fresh others e c = e c ∙ by (is_among c bs) refl
  where
    by : (t : Bool) → is_among c bs ≡ t → (not t && mids c) ≡ is_used uses c
    by true q = sym (unused uses c bs fresh q)
    by false q = others c q

-- ---- what follows of a result

pub on_ok : {X E : Type 0} {A B : Type 0} (r : Result X E) → (A → B) → OnOk r A → OnOk r B
on_ok (Ok x) f h = f h
on_ok (Err e) f h = tt

pub on_err : {X E : Type 0} {A B : Type 0} (r : Result X E) → (A → B) → OnErr r A → OnErr r B
on_err (Ok x) f h = tt
on_err (Err e) f h = f h

pub always_on_err : {X E : Type 0} {A : Type 0} (r : Result X E) → A → OnErr r A
always_on_err (Ok x) h = tt
always_on_err (Err e) h = h
