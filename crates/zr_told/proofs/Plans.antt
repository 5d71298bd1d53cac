-- Right marks give the plan of what a client is to be told, and whether ids last for it.
use Rattle.std.proofs.Common.{◌≡◌, ℕ, ◌+◌, ◌≤◌, ◌++◌, Bool, true, false, cond, List, length, Option, Some, None, append_assoc, refl, subst, Result, Ok, Err, IfOk, sym, ap, ◌∙◌, arith}
use Rattle.std.specs.Prelude.{nat_lt, OnOk}
use Rattle.std.specs.List.{fold}
use Rattle.std.proofs.lemmas.List.{map-append}
use Rattle.zr_id.specs.declared.link.LinkNo.{LinkNo}
use Rattle.zr_msg.specs.declared.msg.Msg.{Msg}
use Rattle.zr_msg.specs.declared.decl.Decl.{Decl}
use Rattle.zr_told_spec.specs.Place.{Ascends}
use Rattle.zr_told_spec.specs.Wanted.{Wanted, is_complete_at, wanted}
use Rattle.zr_told_spec.specs.Told.{ToldMap, gone, kept, fresh, undeclared, declared, entered, retell, retold}
use Rattle.zr_told.specs.Plan.{Marks, AreRight, IsPlan, is_answered, marks_of, marks_at, count_new, forgotten, marked_gone, marked_fresh}
use Rattle.zr_told_spec.specs.Rows.{IsAsWantedBut, most_id, lacks_ids, is_again, sent_on, told_interest}
use Rattle.zr_told.specs.declared.book.Plan.{Plan}
use Rattle.zr_told.specs.declared.error.ToldError.{ToldError}
use Rattle.zr_local.specs.declared.interest.Interest.{Interest}
use Rattle.zr_told_spec.specs.declared.place.Place.{Place}
use Rattle.zr_told_spec.proofs.Wants.{wanted_by}
use Rattle.zr_told_spec.proofs.Sorted.{wanted_ascends, as_many}
use Rattle.zr_told.proofs.Fitting.{Small, ids_fit}
use Rattle.zr_told.proofs.Planned.{gone_marked, fresh_marked, forgotten_gone}
use Rattle.zr_told.proofs.Counted.{counted_wanted}
use Rattle.zr_told.proofs.Marked.{marks_right}
use Rattle.zr_told.proofs.Touches.{touched_is_right}

lt_same : (a b c d : ℕ) → a + d ≡ c + b → nat_lt a b ≡ nat_lt c d
lt_same a b c d e = grind (arith, e)

fits_most : (n : ℕ) → nat_lt most_id n ≡ false → n ≤ most_id
fits_most n h = grind (arith, h)

module _ (again : Place → Bool) (ds : List Decl) (is : List Interest) (m : ToldMap) (ms : Marks) (r : AreRight again (is_complete_at ds) (wanted ds is) m ms) (t : Ascends m) (u : Ascends ms) where
  gone_is : marked_gone m ms ≡ gone (wanted ds is) m
  gone_is = gone_marked again (is_complete_at ds) (wanted ds is) m ms (wanted_by ds is) r (wanted_ascends ds is) t u

  fresh_is : marked_fresh m ms ≡ fresh again (wanted ds is) (kept (wanted ds is) m)
  fresh_is = fresh_marked again (is_complete_at ds) (wanted ds is) m ms (wanted_by ds is) r (wanted_ascends ds is) t u

  -- ids last for what is marked just where they last for what is wanted
  pub lacks_is : nat_lt (most_id + length (marked_gone m ms)) (length m + count_new m (marked_fresh m ms)) ≡ lacks_ids ds is
  lacks_is =
      ap (λ z. nat_lt (most_id + length z) (length m + count_new m (marked_fresh m ms))) gone_is
      ∙ ap (λ z. nat_lt (most_id + length (gone (wanted ds is) m)) (length m + count_new m z)) fresh_is
      ∙ lt_same (most_id + length (gone (wanted ds is) m)) (length m + count_new m (fresh again (wanted ds is) (kept (wanted ds is) m))) most_id (length (wanted ds is))
      (let e = counted_wanted again (wanted ds is) m (wanted_ascends ds is) t in omega (arith, e))

  pub is_plan : (p : Plan) → p.gone.items ≡ marked_gone m ms → p.fresh.items ≡ marked_fresh m ms → Small most_id m → lacks_ids ds is ≡ false → IsPlan again (wanted ds is) m p
  is_plan p g f s l =
      let x : p.gone.items ≡ gone (wanted ds is) m = g ∙ gone_is in
      let y : p.fresh.items ≡ fresh again (wanted ds is) (kept (wanted ds is) m) = f ∙ fresh_is in
      let k : forgotten m p.gone.items ≡ kept (wanted ds is) m = ap (λ z. forgotten m z) x ∙ forgotten_gone (wanted ds is) m t in
      let i = ids_fit again (wanted ds is) m most_id (wanted_ascends ds is) t s (fits_most (length (wanted ds is)) l) in
      let n : length (retold again (wanted ds is) m) ≤ most_id =
      let c = as_many again (is_complete_at ds) (wanted ds is) m (wanted_by ds is) (wanted_ascends ds is) t in
      let l = fits_most (length (wanted ds is)) l in omega (arith, c, l) in
      record { gone = x; fresh = y; kept = k; ids = rw (k, y) (i, n) }

  pub plan_if : (r : Result Plan ToldError) → IfOk r (λ p. p.gone.items ≡ marked_gone m ms) → IfOk r (λ p. p.fresh.items ≡ marked_fresh m ms) → IfOk r (λ p. Small most_id m) →
      OnOk r (nat_lt (most_id + length (marked_gone m ms)) (length m + count_new m (marked_fresh m ms)) ≡ false) → IfOk r (λ p. IsPlan again (wanted ds is) m p)
  plan_if (Ok p) g f s l = is_plan p g f s (sym lacks_is ∙ l)
  plan_if (Err e) g f s l = tt

  pub last_if : (r : Result Plan ToldError) → OnOk r (nat_lt (most_id + length (marked_gone m ms)) (length m + count_new m (marked_fresh m ms)) ≡ false) → OnOk r (lacks_ids ds is ≡ false)
  last_if (Ok p) l = sym lacks_is ∙ l
  last_if (Err e) l = tt

-- ---- what is told by a plan

pub plan_tells : (again : Place → Bool) (ws : Wanted) (m : ToldMap) (p : Plan) (interest : Option ℕ) → IsPlan again ws m p →
    undeclared m p.gone.items ++ declared interest (forgotten m p.gone.items) p.fresh.items ≡ retell again interest ws m
plan_tells again ws m p interest i = λ j. undeclared m (i.gone j) ++ declared interest (i.kept j) (i.fresh j)

pub plan_told : (again : Place → Bool) (ws : Wanted) (m : ToldMap) (p : Plan) → IsPlan again ws m p → fold entered (forgotten m p.gone.items) p.fresh.items ≡ retold again ws m
plan_told again ws m p i = λ j. fold entered (i.kept j) (i.fresh j)

-- the interest of which all is told is one in what is declared later
pub again_is : (future : Bool) (ds : List Decl) (i : Interest) → is_answered ds (cond future (Some i) None) ≡ is_again future ds i
again_is true ds i = refl
again_is false ds i = refl

-- so is what it is told
pub interest_told : (future : Bool) (es ds : List Decl) (is : List Interest) (i : Interest) (m : ToldMap) (p : Plan) (o : Option Interest) → es ≡ ds → o ≡ cond future (Some i) None →
    IsPlan (is_answered es o) (wanted es is) m p → fold entered (forgotten m p.gone.items) p.fresh.items ≡ told_interest future ds is i m
interest_told future es ds is i m p o e q k =
    plan_told (is_answered es o) (wanted es is) m p k
    ∙ (λ j. retold (is_answered (e j) (q j)) (wanted (e j) is) m)
    ∙ ap (λ z. retold z (wanted ds is) m) (again_is future ds i)

pub interest_tells : (future : Bool) (es ds : List Decl) (is : List Interest) (i : Interest) (m : ToldMap) (p : Plan) (o : Option Interest) (n k : Option ℕ) → es ≡ ds → o ≡ cond future (Some i) None → n ≡ k →
    IsPlan (is_answered es o) (wanted es is) m p → undeclared m p.gone.items ++ declared n (forgotten m p.gone.items) p.fresh.items ≡ retell (is_again future ds i) k (wanted ds is) m
interest_tells future es ds is i m p o n k e q r l =
    plan_tells (is_answered es o) (wanted es is) m p n l
    ∙ (λ j. retell (is_answered (e j) (q j)) (r j) (wanted (e j) is) m)
    ∙ ap (λ z. retell z k (wanted ds is) m) (again_is future ds i)

-- all is said in one
pub said_after : (link : LinkNo) (xs : List (LinkNo × Msg)) (ms ns : List Msg) → (xs ++ sent_on link ms) ++ sent_on link ns ≡ xs ++ sent_on link (ms ++ ns)
said_after link xs ms ns = append_assoc xs (sent_on link ms) (sent_on link ns) ∙ ap (λ z. xs ++ z) (sym (map-append (λ m. (link, m)) ms ns))

-- ---- by marks on all places

module _ (m : ToldMap) (ds : List Decl) (is : List Interest) (a : Option Interest) (ms : Marks) (e : ms ≡ marks_of m ds is a) (t : Ascends m) (u : Ascends ms) where
  right_all : AreRight (is_answered ds a) (is_complete_at ds) (wanted ds is) m ms
  right_all = subst (λ z. AreRight (is_answered ds a) (is_complete_at ds) (wanted ds is) m z) (sym e) (marks_right m ds is a)

  pub all_plan : (r : Result Plan ToldError) → IfOk r (λ p. p.gone.items ≡ marked_gone m ms) → IfOk r (λ p. p.fresh.items ≡ marked_fresh m ms) → IfOk r (λ p. Small most_id m) →
      OnOk r (nat_lt (most_id + length (marked_gone m ms)) (length m + count_new m (marked_fresh m ms)) ≡ false) → IfOk r (λ p. IsPlan (is_answered ds a) (wanted ds is) m p)
  all_plan = plan_if (is_answered ds a) ds is m ms right_all t u

  pub all_last : (r : Result Plan ToldError) → OnOk r (nat_lt (most_id + length (marked_gone m ms)) (length m + count_new m (marked_fresh m ms)) ≡ false) → OnOk r (lacks_ids ds is ≡ false)
  all_last = last_if (is_answered ds a) ds is m ms right_all t u

  pub all_lacks : nat_lt (most_id + length (marked_gone m ms)) (length m + count_new m (marked_fresh m ms)) ≡ true → lacks_ids ds is ≡ true
  all_lacks h = sym (lacks_is (is_answered ds a) ds is m ms right_all t u) ∙ h

-- ---- by marks on what changed

module _ (m : ToldMap) (ds : List Decl) (is : List Interest) (qs : List Place) (w : IsAsWantedBut qs ds is m) (ms : Marks) (e : ms ≡ marks_at ds is qs) (t : Ascends m) (u : Ascends ms) where
  right_there : AreRight (λ q. false) (is_complete_at ds) (wanted ds is) m ms
  right_there = subst (λ z. AreRight (λ q. false) (is_complete_at ds) (wanted ds is) m z) (sym e) (touched_is_right qs ds is m w)

  pub change_plan : (r : Result Plan ToldError) → IfOk r (λ p. p.gone.items ≡ marked_gone m ms) → IfOk r (λ p. p.fresh.items ≡ marked_fresh m ms) → IfOk r (λ p. Small most_id m) →
      OnOk r (nat_lt (most_id + length (marked_gone m ms)) (length m + count_new m (marked_fresh m ms)) ≡ false) → IfOk r (λ p. IsPlan (λ q. false) (wanted ds is) m p)
  change_plan = plan_if (λ q. false) ds is m ms right_there t u

  pub change_last : (r : Result Plan ToldError) → OnOk r (nat_lt (most_id + length (marked_gone m ms)) (length m + count_new m (marked_fresh m ms)) ≡ false) → OnOk r (lacks_ids ds is ≡ false)
  change_last = last_if (λ q. false) ds is m ms right_there t u

  pub change_lacks : nat_lt (most_id + length (marked_gone m ms)) (length m + count_new m (marked_fresh m ms)) ≡ true → lacks_ids ds is ≡ true
  change_lacks h = sym (lacks_is (λ q. false) ds is m ms right_there t u) ∙ h
