-- Each step on the word keeps the rule, each split and join of views too.
-- A step's lemma takes the view of its seat as an equation with its own fields, which is the ghost field of the `Pass` or what was
-- lent; `stays` serves the steps that leave the list as it is, `appends` is the one that doesn't. `seats_set` and `seats_more` carry
-- `Fits` of all seats over the change of one, `both_seats` over that of two.
use Rattle.std.proofs.Common.{◌≡◌, ◌≢◌, ℕ, ◌+◌, Bool, true, false, eqb, eq-eqb, List, [], ◌∷◌, ◌++◌, length, get_or, set, sym, refl, ap, ◌∙◌, subst, ⊎_elim, tests, arith, length-append, length-set}
use mathlib.Core.Option.{none, some}
use mathlib.Core.List.{IsPrefix}
use prog.Atomic.{either}
use lib.ListN.{get_elem?, length-map}
use Rattle.std.specs.Prelude.{nat_le}
use Rattle.atomic_table.specs.Table.{State, Me, step, keeps, stepped, Allows, Splits, Joins, opening, Final, Seen}
use Rattle.atomic_table.proofs.Lists.{at_set}
use Rattle.zr_lists.proofs.Prefixes.{prefix_self}
use Rattle.zr_hist.specs.declared.rule.View.{View}
use Rattle.zr_hist.specs.Rule.{IsSublist, entries, made_by, no_view, kept_view, pass_view, appending_view, joining_view, longer, Fits, IsOneList, appended, looked, looked_beside, compared}
use Rattle.zr_hist.proofs.Views.{at_below, seats_set, seats_more}
use Rattle.zr_hist.proofs.Lists.{prefix_nil, prefix_more, prefix_shorter, own_entry, others_entry, entries_last, made_by_sublist}

abbrev St : Type 0 → Type 0
St E = State E (View E)

abbrev M : Type 0 → Type 0
M E = Me E (View E)

abbrev Log : Type 0 → Type 0
Log E = List (ℕ × E)

module _ {E : Type 0} where
  pub is_appending : (v : View E) (seen mine : List E) (looks : ℕ) (list : List E) → v ≡ appending_view seen mine looks list
      → v ≡ appending_view v.seen v.mine v.looks v.list
  is_appending v seen mine looks list e = e ∙ sym (ap (λ u. appending_view u.seen u.mine u.looks u.list) e)

  pub is_joining : (v : View E) (seen mine : List E) (looks : ℕ) (list : List E) → v ≡ joining_view seen mine looks list
      → v ≡ joining_view v.seen v.mine v.looks v.list
  is_joining v seen mine looks list e = e ∙ sym (ap (λ u. joining_view u.seen u.mine u.looks u.list) e)

  both_sublist : {xs ys zs ws : List E} → IsSublist xs ys → xs ≡ zs → ys ≡ ws → IsSublist zs ws
  both_sublist {ys} {zs} h e f = subst (λ (l : List E). IsSublist zs l) f (subst (λ (l : List E). IsSublist l ys) e h)

  -- a pass fits
  fits_pass : (log : Log E) (holder id : ℕ) (seen mine : List E) (looks : ℕ) → IsPrefix seen (entries log) → mine ≡ made_by id log → Fits log holder id (pass_view seen mine looks)
  fits_pass log holder id seen mine looks p m = record { seen = p; list = prefix_nil (entries log); mine = λ _. m; kept = λ e. absurd (cc e) }

  fits_none : (log : Log E) (holder id : ℕ) → Fits log holder id no_view
  fits_none log holder id = record { seen = prefix_nil (entries log); list = prefix_nil (entries log); mine = λ e. absurd (cc e); kept = λ e. absurd (cc e) }

  -- where the seat that may append is another one now, no other may
  moved : (log : Log E) (holder to j : ℕ) (v : View E) → j ≢ holder → Fits log holder j v → Fits log to j v
  moved log holder to j v ne fit = record { seen = fit.seen; list = fit.list; mine = fit.mine; kept = λ e. absurd (ne (fit.kept e).0) }

  found : (s : St E) (r : IsOneList s) → get_or s.words 0 0 ≡ length r.log
  found s r = ap (λ ws. get_or ws 0 0) r.counted

  -- a step that leaves the list as it is
  stays : (s : St E) (r : IsOneList s) (id : ℕ) (me : M E) (w : View E) → Fits r.log r.holder id w → IsOneList (stepped s 0 (get_or s.words 0 0) id me.1 w keeps)
  stays s r id me w fit = record {
    log = r.log;
    holder = r.holder;
    counted = ap (λ ws. set ws 0 (get_or ws 0 0)) r.counted;
    each_seat = seats_set (Fits r.log r.holder) s.views id w fit (λ j v ne e. r.each_seat j v e);
    no_later = λ j le. r.no_later j (omega (arith, length-set s.views id w));
  }

  pub starts : IsOneList (opening {S = E} (0 ∷ []) [] (kept_view []))
  starts = record {
    log = [];
    holder = 0;
    counted = refl;
    each_seat = seats_more (Fits [] 0) [] (kept_view []) (record { seen = prefix_nil []; list = prefix_nil []; mine = λ e. absurd (cc e); kept = λ e. (refl, refl) }) (λ j v e. absurd (cc e));
    no_later = λ j le. refl;
  }

  pub looks : (slots id : ℕ) (me : M E) → me.0 ≡ pass_view me.0.seen me.0.mine me.0.looks → Allows IsOneList slots id me 0 (λ n. n) (looked (step slots 0 0 0 none) me)
  looks slots id me is s r deep at small =
      let fit = r.each_seat id me.0 at in
      let w : View E = pass_view (entries r.log) me.0.mine (me.0.looks + 1) in (
        w,
        keeps,
        tt,
        stays s r id me w (fits_pass r.log r.holder id (entries r.log) me.0.mine (me.0.looks + 1) (prefix_self (entries r.log)) (fit.mine (ap (λ v. v.is_pass) is))),
        (
          refl,
          fit.seen,
          length-map r.log (λ e. e.1) ∙ sym (found s r),
          refl,
          subst (λ (xs : List E). IsSublist xs (entries r.log)) (sym (fit.mine (ap (λ v. v.is_pass) is))) (made_by_sublist id r.log),
        ),
      )

  pub looks_beside : (slots id : ℕ) (me : M E) → me.0 ≡ appending_view me.0.seen me.0.mine me.0.looks me.0.list → Allows IsOneList slots id me 0 (λ n. n) (looked_beside (step slots 0 0 0 none) me)
  looks_beside slots id me is s r deep at small =
      let fit = r.each_seat id me.0 at in
      let k = fit.kept (ap (λ v. v.is_kept) is) in
      let w : View E = appending_view me.0.list me.0.mine (me.0.looks + 1) me.0.list in (
        w,
        keeps,
        tt,
        stays s r id me w (record { seen = fit.list; list = fit.list; mine = λ _. fit.mine (ap (λ v. v.is_pass) is); kept = λ _. k }),
        (
          refl,
          subst (IsPrefix me.0.seen) (sym k.1) fit.seen,
          ap length k.1 ∙ length-map r.log (λ e. e.1) ∙ sym (found s r),
          refl,
          both_sublist (made_by_sublist id r.log) (sym (fit.mine (ap (λ v. v.is_pass) is))) (sym k.1),
        ),
      )

  longest : (b : Bool) (a c all : List E) → nat_le (length a) (length c) ≡ b → IsPrefix a all → IsPrefix c all
      → IsPrefix (longer a c) all × IsPrefix a (longer a c) × IsPrefix c (longer a c)
  longest true a c all is p q = rw is (q, prefix_shorter a c all p q (grind (arith, tests)), prefix_self c)
  longest false a c all is p q = rw is (p, prefix_self a, prefix_shorter c a all q p (grind (arith, tests)))

  pub compares : (slots id : ℕ) (me : M E) → me.0 ≡ joining_view me.0.seen me.0.mine me.0.looks me.0.list → Allows IsOneList slots id me 0 (λ n. n) (compared (step slots 0 0 0 none) me)
  compares slots id me is s r deep at small =
      let fit = r.each_seat id me.0 at in
      let l = longest (nat_le (length me.0.seen) (length me.0.list)) me.0.seen me.0.list (entries r.log) refl fit.seen fit.list in
      let w : View E = pass_view (longer me.0.seen me.0.list) me.0.mine me.0.looks in (
        w,
        keeps,
        tt,
        stays s r id me w (fits_pass r.log r.holder id _ me.0.mine me.0.looks l.0 (fit.mine (ap (λ v. v.is_pass) is))),
        (refl, l.1, l.2, refl),
      )

  -- a seat that did not append still fits
  later : (log : Log E) (holder by j : ℕ) (e : E) (v : View E) → by ≡ holder → j ≢ by → Fits log holder j v → Fits (log ++ (by, e) ∷ []) holder j v
  later log holder by j e v is ne fit = record {
    seen = subst (IsPrefix v.seen) (sym (entries_last log by e)) (prefix_more v.seen (entries log) (e ∷ []) fit.seen);
    list = subst (IsPrefix v.list) (sym (entries_last log by e)) (prefix_more v.list (entries log) (e ∷ []) fit.list);
    mine = λ l. fit.mine l ∙ sym (others_entry log by j e (λ h. ne (sym h)));
    kept = λ k. absurd (ne ((fit.kept k).0 ∙ sym is));
  }

  pub appends : (slots id : ℕ) (me : M E) (old : ℕ) (e : E) → me.0 ≡ appending_view me.0.seen me.0.mine me.0.looks me.0.list → old ≡ length me.0.list
      → Allows IsOneList slots id me 0 (λ n. either (eqb n old) (old + 1) n) (appended (step slots 0 old (old + 1) (some e)) me)
  appends slots id me old e is long s r deep at small =
      let fit = r.each_seat id me.0 at in
      let k = fit.kept (ap (λ v. v.is_kept) is) in
      let log' : Log E = r.log ++ (id, e) ∷ [] in
      let n : get_or s.words 0 0 ≡ old = found s r ∙ sym (length-map r.log (λ x. x.1)) ∙ sym (ap length k.1) ∙ sym long in
      let list' : List E = me.0.list ++ e ∷ [] in
      let whole : entries log' ≡ list' = entries_last r.log id e ∙ ap (λ z. z ++ e ∷ []) (sym k.1) in
      let own : me.0.mine ++ e ∷ [] ≡ made_by id log' = ap (λ z. z ++ e ∷ []) (fit.mine (ap (λ v. v.is_pass) is)) ∙ sym (own_entry r.log id e) in
      let w : View E = appending_view list' (me.0.mine ++ e ∷ []) (me.0.looks + 1) list' in
      let to : either (eqb (get_or s.words 0 0) old) (old + 1) (get_or s.words 0 0) ≡ length log' =
      ap (λ b. either b (old + 1) (get_or s.words 0 0)) (eq-eqb (get_or s.words 0 0) old n) ∙ (omega (arith, length-append r.log ((id, e) ∷ []), n, found s r)) in (
        w,
        keeps,
        tt,
        record {
          log = log';
          holder = r.holder;
          counted = ap (λ ws. set ws 0 (either (eqb (get_or s.words 0 0) old) (old + 1) (get_or s.words 0 0))) r.counted ∙ ap (λ z. z ∷ []) to;
          each_seat = seats_set (Fits log' r.holder) s.views id w
              (record { seen = subst (IsPrefix list') (sym whole) (prefix_self list'); list = subst (IsPrefix list') (sym whole) (prefix_self list'); mine = λ _. own; kept = λ _. (k.0, sym whole) })
              (λ j v ne f. later r.log r.holder id j e v k.0 ne (r.each_seat j v f));
          no_later = λ j le. let b = at_below s.views id me.0 at in
              others_entry r.log id j e (omega (arith, length-set s.views id w)) ∙ r.no_later j (omega (arith, length-set s.views id w));
        },
        ((refl, subst (IsPrefix me.0.seen) (sym k.1) fit.seen, both_sublist (made_by_sublist id log') (sym own) whole), refl),
      )

  pub splits : (id : ℕ) (v : View E) → Splits (IsOneList {E = E}) id v v (pass_view v.seen [] 0)
  splits id v s r at = record {
    log = r.log;
    holder = r.holder;
    counted = r.counted;
    each_seat = seats_more (Fits r.log r.holder) (set s.views id v) (pass_view v.seen [] 0)
        (fits_pass r.log r.holder _ v.seen [] 0 (r.each_seat id v at).seen (sym (r.no_later (length (set s.views id v)) (omega (arith, length-set s.views id v)))))
        (seats_set (Fits r.log r.holder) s.views id v (r.each_seat id v at) (λ j u ne e. r.each_seat j u e));
    no_later = λ j le. r.no_later j (omega (arith, length-set s.views id v, length-append (set s.views id v) (pass_view v.seen [] 0 ∷ [])));
  }

  pub returns_right : (id : ℕ) (v : View E) → v ≡ appending_view v.seen v.mine v.looks v.list → Splits (IsOneList {E = E}) id v (pass_view v.seen v.mine v.looks) (kept_view v.list)
  returns_right id v is s r at =
      let fit = r.each_seat id v at in
      let k = fit.kept (ap (λ u. u.is_kept) is) in
      let left : View E = pass_view v.seen v.mine v.looks in
      let views : List (View E) = set s.views id left in
      let to : ℕ = length views in record {
        log = r.log;
        holder = to;
        counted = r.counted;
        each_seat = seats_more (Fits r.log to) views (kept_view v.list) (record { seen = fit.list; list = fit.list; mine = λ e. absurd (cc e); kept = λ _. (refl, k.1) })
            (seats_set (Fits r.log to) s.views id left (fits_pass r.log to id v.seen v.mine v.looks fit.seen (fit.mine (ap (λ u. u.is_pass) is)))
            (λ j u ne e. moved r.log r.holder to j u (λ h. ne (h ∙ sym k.0)) (r.each_seat j u e)));
        no_later = λ j le. r.no_later j (omega (arith, length-set s.views id left, length-append views (kept_view v.list ∷ [])));
      }

  -- two seats change
  both_seats : (s : St E) (r : IsOneList s) (holder id other : ℕ) (a b : View E) → Fits r.log holder id a → Fits r.log holder other b
      → ((j : ℕ) (v : View E) → j ≢ id → j ≢ other → get_elem? s.views j ≡ some v → Fits r.log holder j v) → ¬ (other ≡ id)
      → IsOneList record { words = s.words; homes = s.homes; views = set (set s.views id a) other b }
  both_seats s r holder id other a b fa fb others ne = record {
    log = r.log;
    holder = holder;
    counted = r.counted;
    each_seat = seats_set (Fits r.log holder) (set s.views id a) other b fb
        (λ j v apart e. ⊎_elim (λ h. subst (λ (z : ℕ × View E). Fits r.log holder z.0 z.1) (λ i. (sym h.0 i, h.1 i)) fa) (λ h. others j v h.0 apart h.1) (at_set s.views id j a v e));
    no_later = λ j le. r.no_later j (omega (arith, length-set s.views id a, length-set (set s.views id a) other b));
  }

  elsewhere : (views : List (View E)) (id other : ℕ) (a w : View E) → ¬ (other ≡ id) → get_elem? (set views id a) other ≡ some w → get_elem? views other ≡ some w
  elsewhere views id other a w ne e = ⊎_elim (λ h. absurd (ne h.0)) (λ h. h.1) (at_set views id other a w e)

  pub lends_right : (id : ℕ) (v : View E) (other : ℕ) (w : View E) → v ≡ pass_view v.seen v.mine v.looks → w ≡ kept_view w.list → Joins (IsOneList {E = E}) id v other w (appending_view v.seen v.mine v.looks w.list) no_view
  lends_right id v other w is whole s r at ne at' =
      let a : View E = appending_view v.seen v.mine v.looks w.list in
      let fit = r.each_seat id v at in
      let its = r.each_seat other w (elsewhere s.views id other a w ne at') in
      let k = its.kept (ap (λ u. u.is_kept) whole) in
      both_seats s r id id other a no_view (record { seen = fit.seen; list = its.list; mine = λ _. fit.mine (ap (λ u. u.is_pass) is); kept = λ _. (refl, k.1) }) (fits_none r.log id other)
      (λ j u n m e. moved r.log r.holder id j u (λ h. m (h ∙ sym k.0)) (r.each_seat j u e)) ne

  pub joins : (id : ℕ) (v : View E) (other : ℕ) (w : View E) → v ≡ pass_view v.seen v.mine v.looks → Joins (IsOneList {E = E}) id v other w (joining_view v.seen v.mine v.looks w.seen) no_view
  joins id v other w is s r at ne at' =
      let a : View E = joining_view v.seen v.mine v.looks w.seen in
      let fit = r.each_seat id v at in
      let its = r.each_seat other w (elsewhere s.views id other a w ne at') in
      both_seats s r r.holder id other a no_view (record { seen = fit.seen; list = its.seen; mine = λ _. fit.mine (ap (λ u. u.is_pass) is); kept = λ e. absurd (cc e) }) (fits_none r.log r.holder other)
      (λ j u n m e. r.each_seat j u e) ne

  pub closes : (id : ℕ) (v : View E) (ws : List ℕ) (xs : List E) → v ≡ appending_view v.seen v.mine v.looks v.list → Final (Seen (IsOneList {E = E}) id v) ws xs
      → (ws ≡ length v.list ∷ []) × IsPrefix v.seen v.list
  closes id v ws xs is (s, h, words, deep, slots) =
      let r = h.0 in
      let fit = r.each_seat id v h.1 in
      let k = fit.kept (ap (λ u. u.is_kept) is) in
      (sym words ∙ r.counted ∙ ap (λ z. z ∷ []) (sym (length-map r.log (λ e. e.1)) ∙ sym (ap length k.1)), subst (IsPrefix v.seen) (sym k.1) fit.seen)
