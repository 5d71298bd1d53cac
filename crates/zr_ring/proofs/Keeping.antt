-- Each step on a ring's words keeps the rule, each split and join of views too.
-- A step's lemma takes the view of its seat as an equation with its own fields, which is the ghost field `knows` of the end. `stays` serves
-- the steps by which the progress stays, `turns` the others, with a lemma of `Slots` each. Those named `_here` go over what an exchange
-- of the slot in hand left.
use Rattle.std.proofs.Common.{◌≡◌, ◌≢◌, ℕ, zero, suc, ◌+◌, ◌%◌, ◌<◌, ◌≤◌, Bool, true, false, List, [], ◌∷◌, ◌++◌, map, replicate, length, take, drop, get_or, set, sym, refl, ap, ◌∙◌, subst, ⊎_elim, arith, mod-lt, length-append, length-set, take-append-drop, get_or-set_same, get_or-set_other}
use mathlib.Core.Logic.{dite}
use mathlib.Core.Option.{none, some}
use mathlib.Core.Option as maybe
use native.Mathlib.Decide.{ℕ_discrete}
use lib.ListN.{get_elem?, length-map, length-replicate}
use Rattle.std.specs.Prelude.{Option, Some, None}
use Rattle.atomic_table.specs.Table.{State, Me, Act, step, keeps, takes, gives, chain, rest, put_back, carried_after, stepped, Allows, Splits, Joins, opening}
use Rattle.atomic_table.proofs.Lists.{at_set}
use Rattle.zr_ring.specs.declared.name.RingName.{RingName}
use Rattle.zr_ring.specs.declared.rule.EndView.{EndView}
use Rattle.zr_ring.specs.declared.rule.View.{View}
use Rattle.zr_ring.specs.Rule.{SeatState, Progress, AreSlots, Fits, IsRing, one_if, end_view, no_view, view, giver_view, taker_view, loaded_taken, began, gave, gave_last, saw_given, took, looked, loaded_given_beside, loaded_taken_beside}
use Rattle.zr_hist.proofs.Views.{at_end, seats_set, seats_more}
use Rattle.zr_ring.proofs.Lists.{there, take_one_more, take_front, take_length}
use Rattle.zr_ring.proofs.Slots.{taker_takes_slot, taker_returns_slot, giver_takes_slot, giver_returns_slot}

abbrev Whole : Type 0 → Type 0
Whole X = State (Option X) (View X)

abbrev Homes : Type 0 → Type 0
Homes X = List (maybe.Option (Option X))

module _ {X : Type 0} (stands : RingName → ℕ → X → Type 0) where
  -- what the giver knows, and what the taker knows
  abbrev Gives : Progress X → ℕ → EndView X → Type 0
  Gives z id h = (id ≡ z.giver) × (h.list ≡ z.given) × (h.known ≤ z.taken) × (h.holds ≡ z.giver_holds) × (h.name ≡ z.name)

  abbrev Takes : Progress X → ℕ → EndView X → Type 0
  Takes z id h = (id ≡ z.taker) × (h.list ≡ take (z.taken + one_if z.taker_holds) z.given) × (h.known ≤ length z.given) × (h.holds ≡ z.taker_holds) × (h.name ≡ z.name)

  giver_only : (z : Progress X) (id : ℕ) (h : EndView X) → Gives z id h → Fits z id (giver_view h)
  giver_only z id h g = record { gives = λ _. g; takes = λ e. absurd (cc e) }

  taker_only : (z : Progress X) (id : ℕ) (h : EndView X) → Takes z id h → Fits z id (taker_view h)
  taker_only z id h t = record { gives = λ e. absurd (cc e); takes = λ _. t }

  fits_neither : (z : Progress X) (id : ℕ) → Fits z id (view no_view no_view)
  fits_neither z id = record { gives = λ e. absurd (cc e); takes = λ e. absurd (cc e) }

  -- a step by which the progress stays
  stays : (s : Whole X) (r : IsRing stands s) (id i : ℕ) (me : SeatState X) (w : View X) → Fits r.progress id w → i < 48 → IsRing stands (stepped s i (get_or s.words i 0) id me.1 w keeps)
  stays s r id i me w fit small = record {
    progress = r.progress;
    wide = length-set s.words i (get_or s.words i 0) ∙ r.wide;
    given_is = same_word s.words i 16 ∙ r.given_is;
    taken_is = same_word s.words i 32 ∙ r.taken_is;
    slots_are = r.slots_are;
    each_seat = seats_set (Fits r.progress) s.views id w fit (λ j d ne e. r.each_seat j d e);
  }
    where
      same_word : (ws : List ℕ) (i j : ℕ) → get_or (set ws i (get_or ws i 0)) j 0 ≡ get_or ws j 0
      same_word [] i j = refl
      same_word (w ∷ ws) zero zero = refl
      same_word (w ∷ ws) zero (suc j) = refl
      same_word (w ∷ ws) (suc i) zero = refl
      same_word (w ∷ ws) (suc i) (suc j) = same_word ws i j

  pub loads_taken : (slots id : ℕ) (me : SeatState X) → me.0 ≡ giver_view (end_view me.0.giver.name me.0.giver.holds me.0.giver.list me.0.giver.known me.0.giver.loads)
      → Allows (IsRing stands) slots id me 32 (λ n. n) (loaded_taken (step slots 32 0 0 none) me)
  loads_taken slots id me is s r deep at small =
      let h : EndView X = me.0.giver in
      let g = (r.each_seat id me.0 at).gives (ap (λ d. d.giver.is_here) is) in
      let n : ℕ = get_or s.words 32 0 in
      let found : n ≡ r.progress.taken = r.taken_is in
      let known : h.known ≤ r.progress.taken = g.2 in
      let behind = r.slots_are.behind in
      let long : length h.list ≡ length r.progress.given = ap length g.1 in
      let h' : EndView X = end_view h.name h.holds h.list n (h.loads + 1) in (
        giver_view h',
        keeps,
        tt,
        stays s r id 32 me (giver_view h') (giver_only r.progress id h' (g.0, g.1, (let b : n ≤ r.progress.taken = omega arith in b), g.3, g.4)) (omega arith),
        (refl, refl, (let b : h.known ≤ n = omega arith in b), (let b : n ≤ length h.list = omega arith in b)),
      )

  pub looks : (slots id : ℕ) (me : SeatState X) → me.0 ≡ taker_view (end_view me.0.taker.name me.0.taker.holds me.0.taker.list me.0.taker.known me.0.taker.loads)
      → Allows (IsRing stands) slots id me 16 (λ n. n) (looked (step slots 16 0 0 none) me)
  looks slots id me is s r deep at small =
      let h : EndView X = me.0.taker in
      let t = (r.each_seat id me.0 at).takes (ap (λ d. d.taker.is_here) is) in
      let n : ℕ = get_or s.words 16 0 in
      let found : n ≡ length r.progress.given = r.given_is in
      let known : h.known ≤ length r.progress.given = t.2 in
      let h' : EndView X = end_view h.name h.holds h.list n (h.loads + 1) in (
        taker_view h',
        keeps,
        tt,
        stays s r id 16 me (taker_view h') (taker_only r.progress id h' (t.0, t.1, (let b : n ≤ length r.progress.given = omega arith in b), t.3, t.4)) (omega arith),
        (refl, refl, (let b : h.known ≤ n = omega arith in b)),
      )

  pub loads_given_beside : (slots id : ℕ) (me : SeatState X) → me.0.giver.is_here ≡ true → me.0.taker.is_here ≡ true
      → Allows (IsRing stands) slots id me 16 (λ n. n) (loaded_given_beside (step slots 16 0 0 none) me)
  loads_given_beside slots id me gsits tsits s r deep at small =
      let fit = r.each_seat id me.0 at in
      let g = fit.gives gsits in
      let t = fit.takes tsits in
      let h : EndView X = me.0.taker in
      let n : ℕ = get_or s.words 16 0 in
      let found : n ≡ length r.progress.given = r.given_is in
      let h' : EndView X = end_view h.name h.holds h.list n h.loads in
      let w : View X = view me.0.giver h' in
      let k : ℕ = r.progress.taken + one_if r.progress.taker_holds in (
        w,
        keeps,
        tt,
        stays s r id 16 me w (record { gives = λ _. g; takes = λ _. (t.0, t.1, (let b : n ≤ length r.progress.given = omega arith in b), t.3, t.4) }) (omega arith),
        (refl, refl, found ∙ sym (ap length g.1), (drop k r.progress.given, ap (λ l. l ++ drop k r.progress.given) t.1 ∙ take-append-drop k r.progress.given ∙ sym g.1)),
      )

  pub loads_taken_beside : (slots id : ℕ) (me : SeatState X) → me.0.giver.is_here ≡ true → me.0.taker.is_here ≡ true
      → Allows (IsRing stands) slots id me 32 (λ n. n) (loaded_taken_beside (step slots 32 0 0 none) me)
  loads_taken_beside slots id me gsits tsits s r deep at small =
      let fit = r.each_seat id me.0 at in
      let g = fit.gives gsits in
      let t = fit.takes tsits in
      let h : EndView X = me.0.giver in
      let n : ℕ = get_or s.words 32 0 in
      let found : n ≡ r.progress.taken = r.taken_is in
      let known : h.known ≤ r.progress.taken = g.2 in
      let h' : EndView X = end_view h.name h.holds h.list n h.loads in
      let w : View X = view h' me.0.taker in
      let k : ℕ = r.progress.taken + one_if r.progress.taker_holds in (
        w,
        keeps,
        tt,
        stays s r id 32 me w (record { gives = λ _. (g.0, g.1, (let b : n ≤ r.progress.taken = omega arith in b), g.3, g.4); takes = λ _. t }) (omega arith),
        (
          refl,
          refl,
          (let b : h.known ≤ n = omega arith in b),
          ap (λ (b : ℕ). b + one_if me.0.taker.holds) found ∙ ap (λ b. r.progress.taken + one_if b) t.3 ∙ sym (take_length k r.progress.given r.slots_are.behind) ∙ sym (ap length t.1),
        ),
      )

  -- the progress where the slots, and one seat, change
  turns : (s : Whole X) (r : IsRing stands s) (id : ℕ) (z : Progress X) (words : List ℕ) (homes : Homes X) (w : View X) → length words ≡ 48 → get_or words 16 0 ≡ length z.given → get_or words 32 0 ≡ z.taken
      → length homes ≡ length s.homes → AreSlots stands (length s.homes) z homes → Fits z id w → ((j : ℕ) (d : View X) → j ≢ id → get_elem? s.views j ≡ some d → Fits z j d)
      → IsRing stands record { words = words; homes = homes; views = set s.views id w }
  turns s r id z words homes w wide a b same slots_are fit others = record {
    progress = z;
    wide = wide;
    given_is = a;
    taken_is = b;
    slots_are = subst (λ (c : ℕ). AreSlots stands c z homes) (sym same) slots_are;
    each_seat = seats_set (Fits z) s.views id w fit others;
  }

  pub begins : (slots id : ℕ) (me : SeatState X) → me.0 ≡ giver_view (end_view me.0.giver.name false me.0.giver.list me.0.giver.known me.0.giver.loads) → me.1 ≡ [] → length me.0.giver.list < me.0.giver.known + slots
      → Allows (IsRing stands) slots id me 16 (λ n. n) (began (step slots 16 0 0 none) me)
  begins slots id me is bare near s r deep at small =
      let z = r.progress in
      let h : EndView X = me.0.giver in
      let g = (r.each_seat id me.0 at).gives (ap (λ d. d.giver.is_here) is) in
      let idle : z.giver_holds ≡ false = sym g.3 ∙ ap (λ d. d.giver.holds) is in
      let known : h.known ≤ z.taken = g.2 in
      let cap : ℕ = length s.homes in
      let long : length h.list ≡ length z.given = ap length g.1 in
      let i : ℕ = length z.given % cap in
      let room : length z.given < z.taken + cap = omega arith in
      let i_is : i ≡ length h.list % slots = ap (λ (y : ℕ × ℕ). y.0 % y.1) (λ k. (sym long k, deep k)) in
      let z' : Progress X = record z { giver_holds = true } in
      let h' : EndView X = end_view h.name true h.list h.known h.loads in
      let n : ℕ = get_or s.words 16 0 in
      let w : View X = giver_view h' in
      let homes' : Homes X = set s.homes i none in (
        w,
        takes i None,
        r.slots_are.empty (length z.given) (omega arith) room (λ f. absurd (cc (f, idle))),
        turns s r id z' (set s.words 16 n) homes' w (length-set s.words 16 n ∙ r.wide) (get_or-set_same s.words 16 n 0 (omega (arith, r.wide)) ∙ r.given_is)
            (get_or-set_other s.words 16 32 n 0 (λ e. absurd (omega arith)) ∙ r.taken_is) (length-set s.homes i none) (giver_takes_slot stands cap z s.homes r.slots_are idle room)
            (giver_only z' id h' (g.0, g.1, g.2, refl, g.4))
            (λ j d ne e. let f = r.each_seat j d e in record { gives = λ u. absurd (ne ((f.gives u).0 ∙ sym g.0)); takes = f.takes }),
        (refl, ap (λ l. (i, None) ∷ l) bare ∙ ap (λ (y : ℕ). (y, None) ∷ []) i_is),
      )

  abbrev item_or : X → List (ℕ × Option X) → X
  item_or d [] = d
  item_or d ((k, None) ∷ l) = d
  item_or d ((k, Some y) ∷ l) = y

  -- the others know no more of what was given
  others_give : (z : Progress X) (given : List X) (giver_holds : Bool) (id j : ℕ) (d : View X) (x : X) → id ≡ z.giver → j ≢ id → z.taken + one_if z.taker_holds ≤ length z.given → Fits z j d
      → Fits record z { given = z.given ++ x ∷ []; giver_holds = giver_holds } j d
  others_give z given giver_holds id j d x is ne low f = record {
    gives = λ u. absurd (ne ((f.gives u).0 ∙ sym is));
    takes = λ u. let t = f.takes u in let known : d.taker.known ≤ length z.given = t.2 in
        (t.0, t.1 ∙ sym (take_front (z.taken + one_if z.taker_holds) z.given (x ∷ []) low), (let b : d.taker.known ≤ length (z.given ++ x ∷ []) = omega (arith, length-append z.given (x ∷ [])) in b), t.3, t.4);
  }

  pub gives_one : (slots id : ℕ) (me : SeatState X) (k new : ℕ) (x : X) → me.0 ≡ giver_view (end_view me.0.giver.name true me.0.giver.list me.0.giver.known me.0.giver.loads) → me.1 ≡ (k, Some x) ∷ []
      → k ≡ length me.0.giver.list % slots → new ≡ length me.0.giver.list + 1 → stands me.0.giver.name (length me.0.giver.list) x → length me.0.giver.list + 1 < me.0.giver.known + slots
      → Allows (IsRing stands) slots id me 16 (λ _. new) (λ _. gave (step slots 16 new 0 none) me new)
  gives_one slots id me k new x is carries k_is new_is at_place near s r deep at small =
      let z = r.progress in
      let h : EndView X = me.0.giver in
      let g = (r.each_seat id me.0 at).gives (ap (λ d. d.giver.is_here) is) in
      let holds : z.giver_holds ≡ true = sym g.3 ∙ ap (λ d. d.giver.holds) is in
      let known : h.known ≤ z.taken = g.2 in
      let cap : ℕ = length s.homes in
      let cap_is : cap ≡ slots = deep in
      let long : length h.list ≡ length z.given = ap length g.1 in
      let low = r.slots_are.behind in
      let i : ℕ = length z.given % cap in
      let i_is : i ≡ k = ap (λ (y : ℕ × ℕ). y.0 % y.1) (λ j. (sym long j, deep j)) ∙ sym k_is in
      let z₁ : Progress X = record z { given = z.given ++ x ∷ []; giver_holds = false } in
      let homes₁ : Homes X = set s.homes i (some (Some x)) in
      let s₁ = giver_returns_slot stands cap z s.homes x r.slots_are holds (subst (λ (u : RingName × ℕ). stands u.0 u.1 x) (λ j. (g.4 j, long j)) at_place) in
      let more : length (z.given ++ x ∷ []) ≡ length z.given + 1 = length-append z.given (x ∷ []) in
      let room : length (z.given ++ x ∷ []) < z.taken + cap = omega arith in
      let i₂ : ℕ = length (z.given ++ x ∷ []) % cap in
      let homes₂ : Homes X = set homes₁ i₂ none in
      let z₂ : Progress X = record z { given = z.given ++ x ∷ []; giver_holds = true } in
      let s₂ = giver_takes_slot stands cap z₁ homes₁ s₁ refl room in
      let h' : EndView X = end_view h.name true (h.list ++ x ∷ []) h.known h.loads in
      let w : View X = giver_view h' in
      let act : Act (Option X) = chain gives (takes i₂ None) in
      let carried : me.1 ≡ (i, Some x) ∷ [] = carries ∙ ap (λ (y : ℕ). (y, Some x) ∷ []) (sym i_is) in
      let i₂_is : i₂ ≡ (length h.list + 1) % slots = ap (λ (y : ℕ × ℕ). y.0 % y.1) (λ j. ((more ∙ ap (λ (y : ℕ). y + 1) (sym long)) j, deep j)) in
      let same : length homes₂ ≡ length s.homes = length-set homes₁ i₂ none ∙ length-set s.homes i (some (Some x)) in (
        w,
        act,
        subst (λ c. Rattle.atomic_table.specs.Table.Valid s.homes c act) (sym carried) (tt, s₁.empty (length (z.given ++ x ∷ [])) (omega arith) room (λ f. absurd (cc f))),
        subst (λ c. IsRing stands (stepped s 16 new id c w act)) (sym carried)
            (turns s r id z₂ (set s.words 16 new) homes₂ w (length-set s.words 16 new ∙ r.wide) (get_or-set_same s.words 16 new 0 (omega (arith, r.wide)) ∙ (omega arith))
            (get_or-set_other s.words 16 32 new 0 (λ e. absurd (omega arith)) ∙ r.taken_is) same s₂
            (giver_only z₂ id h' (g.0, ap (λ l. l ++ x ∷ []) g.1, g.2, refl, g.4))
            (λ j d ne e. others_give z z.given true id j d x g.0 ne low (r.each_seat j d e))),
        (λ k' x' e. let x_is : x ≡ x' = ap (item_or x) (sym carries ∙ e) in
            (ap (λ (y : X). giver_view (end_view h.name true (h.list ++ y ∷ []) h.known h.loads)) x_is, ap (λ c. (i₂, None) ∷ rest c) carried ∙ ap (λ (y : ℕ). (y, None) ∷ []) i₂_is)),
      )

  pub gives_last : (slots id : ℕ) (me : SeatState X) (k new : ℕ) (x : X) → me.0 ≡ giver_view (end_view me.0.giver.name true me.0.giver.list me.0.giver.known me.0.giver.loads) → me.1 ≡ (k, Some x) ∷ []
      → k ≡ length me.0.giver.list % slots → new ≡ length me.0.giver.list + 1 → stands me.0.giver.name (length me.0.giver.list) x
      → Allows (IsRing stands) slots id me 16 (λ _. new) (λ _. gave_last (step slots 16 new 0 none) me new)
  gives_last slots id me k new x is carries k_is new_is at_place s r deep at small =
      let z = r.progress in
      let h : EndView X = me.0.giver in
      let g = (r.each_seat id me.0 at).gives (ap (λ d. d.giver.is_here) is) in
      let holds : z.giver_holds ≡ true = sym g.3 ∙ ap (λ d. d.giver.holds) is in
      let cap : ℕ = length s.homes in
      let long : length h.list ≡ length z.given = ap length g.1 in
      let low = r.slots_are.behind in
      let i : ℕ = length z.given % cap in
      let i_is : i ≡ k = ap (λ (y : ℕ × ℕ). y.0 % y.1) (λ j. (sym long j, deep j)) ∙ sym k_is in
      let z₁ : Progress X = record z { given = z.given ++ x ∷ []; giver_holds = false } in
      let homes₁ : Homes X = set s.homes i (some (Some x)) in
      let s₁ = giver_returns_slot stands cap z s.homes x r.slots_are holds (subst (λ (u : RingName × ℕ). stands u.0 u.1 x) (λ j. (g.4 j, long j)) at_place) in
      let more : length (z.given ++ x ∷ []) ≡ length z.given + 1 = length-append z.given (x ∷ []) in
      let h' : EndView X = end_view h.name false (h.list ++ x ∷ []) h.known h.loads in
      let w : View X = giver_view h' in
      let carried : me.1 ≡ (i, Some x) ∷ [] = carries ∙ ap (λ (y : ℕ). (y, Some x) ∷ []) (sym i_is) in (
        w,
        gives,
        tt,
        subst (λ c. IsRing stands (stepped s 16 new id c w gives)) (sym carried)
            (turns s r id z₁ (set s.words 16 new) homes₁ w (length-set s.words 16 new ∙ r.wide) (get_or-set_same s.words 16 new 0 (omega (arith, r.wide)) ∙ (omega arith))
            (get_or-set_other s.words 16 32 new 0 (λ e. absurd (omega arith)) ∙ r.taken_is) (length-set s.homes i (some (Some x))) s₁
            (giver_only z₁ id h' (g.0, ap (λ l. l ++ x ∷ []) g.1, g.2, refl, g.4))
            (λ j d ne e. others_give z z.given false id j d x g.0 ne low (r.each_seat j d e))),
        (λ k' x' e. let x_is : x ≡ x' = ap (item_or x) (sym carries ∙ e) in (ap (λ (y : X). giver_view (end_view h.name false (h.list ++ y ∷ []) h.known h.loads)) x_is, ap rest carried)),
      )

  pub sees_given : (slots id : ℕ) (me : SeatState X) → me.0 ≡ taker_view (end_view me.0.taker.name false me.0.taker.list me.0.taker.known me.0.taker.loads) → Allows (IsRing stands) slots id me 16 (λ n. n) (saw_given stands (step slots 16 0 0 none) me)
  sees_given slots id me is s r deep at small =
      let z = r.progress in
      let h : EndView X = me.0.taker in
      let t = (r.each_seat id me.0 at).takes (ap (λ d. d.taker.is_here) is) in
      let idle : z.taker_holds ≡ false = sym t.3 ∙ ap (λ d. d.taker.holds) is in
      let none_out : one_if z.taker_holds ≡ 0 = ap one_if idle in
      let n : ℕ = get_or s.words 16 0 in
      let found : n ≡ length z.given = r.given_is in
      let known : h.known ≤ length z.given = t.2 in
      let behind = r.slots_are.behind in
      let list_is : h.list ≡ take z.taken z.given = t.1 ∙ ap (λ (b : ℕ). take b z.given) (let b : z.taken + one_if z.taker_holds ≡ z.taken = omega arith in b) in
      let long : length h.list ≡ z.taken = ap length list_is ∙ take_length z.taken z.given (omega arith) in
      let cap : ℕ = length s.homes in
      let b₁ : h.known ≤ n = omega arith in
      let b₂ : length h.list ≤ n = omega arith in
      let b₃ : n ≤ length z.given = omega arith in
      dite (ℕ_discrete n (length h.list))
      (λ e. let h' : EndView X = end_view h.name false h.list n (h.loads + 1) in (
        taker_view h',
        keeps,
        tt,
        stays s r id 16 me (taker_view h') (taker_only z id h' (t.0, t.1, b₃, sym idle, t.4)) (omega arith),
        (b₁, b₂, (λ _. (refl, refl)), λ ne. absurd (ne e)),
      ))
      (λ ne. let some_item : z.taken < length z.given = omega arith in
      let got = there z.given z.taken some_item in
      let x : X = got.0 in
      let i : ℕ = z.taken % cap in
      let i_is : i ≡ length h.list % slots = ap (λ (y : ℕ × ℕ). y.0 % y.1) (λ k. (sym long k, deep k)) in
      let h' : EndView X = end_view h.name true (h.list ++ x ∷ []) n (h.loads + 1) in
      let w : View X = taker_view h' in
      let z' : Progress X = record z { taker_holds = true } in
      let homes' : Homes X = set s.homes i none in (
        w,
        takes i (Some x),
        r.slots_are.full z.taken x (omega arith) (λ e. absurd (cc (e, idle))) got.1,
        turns s r id z' (set s.words 16 n) homes' w (length-set s.words 16 n ∙ r.wide) (get_or-set_same s.words 16 n 0 (omega (arith, r.wide)) ∙ found)
            (get_or-set_other s.words 16 32 n 0 (λ e. absurd (omega arith)) ∙ r.taken_is) (length-set s.homes i none) (taker_takes_slot stands cap z s.homes r.slots_are idle some_item)
            (taker_only z' id h' (t.0, ap (λ l. l ++ x ∷ []) list_is ∙ sym (take_one_more z.given z.taken x got.1) ∙ ap (λ (b : ℕ). take b z.given) (let b : suc z.taken ≡ z.taken + 1 = omega arith in b), b₃, refl, t.4))
            (λ j d other e. let f = r.each_seat j d e in record { gives = f.gives; takes = λ u. absurd (other ((f.takes u).0 ∙ sym t.0)) }),
        (b₁, b₂, (λ e. absurd (ne e)), λ _. (x, subst (λ (u : RingName × ℕ). stands u.0 u.1 x) (λ k. (sym t.4 k, sym long k)) (r.slots_are.placed z.taken x got.1), refl, ap (λ (y : ℕ). (y, Some x) ∷ me.1) i_is)),
      ))

  pub takes_one : (slots id : ℕ) (me : SeatState X) (k count new : ℕ) → me.0 ≡ taker_view (end_view me.0.taker.name true me.0.taker.list me.0.taker.known me.0.taker.loads) → me.1 ≡ (k, None) ∷ []
      → length me.0.taker.list ≡ count + 1 → k ≡ count % slots → new ≡ count + 1 → Allows (IsRing stands) slots id me 32 (λ _. new) (λ _. took (step slots 32 new 0 none) me new)
  takes_one slots id me k count new is carries size k_is new_is s r deep at small =
      let z = r.progress in
      let h : EndView X = me.0.taker in
      let t = (r.each_seat id me.0 at).takes (ap (λ d. d.taker.is_here) is) in
      let holds : z.taker_holds ≡ true = sym t.3 ∙ ap (λ d. d.taker.holds) is in
      let one : one_if z.taker_holds ≡ 1 = ap one_if holds in
      let known : h.known ≤ length z.given = t.2 in
      let behind = r.slots_are.behind in
      let long : length h.list ≡ z.taken + one_if z.taker_holds = ap length t.1 ∙ take_length (z.taken + one_if z.taker_holds) z.given behind in
      let same : z.taken ≡ count = omega arith in
      let cap : ℕ = length s.homes in
      let i : ℕ = z.taken % cap in
      let i_is : i ≡ k = ap (λ (y : ℕ × ℕ). y.0 % y.1) (λ j. (same j, deep j)) ∙ sym k_is in
      let carried : me.1 ≡ (i, None) ∷ [] = carries ∙ ap (λ (y : ℕ). (y, None) ∷ []) (sym i_is) in
      let z' : Progress X = record z { taker_holds = false; taken = z.taken + 1 } in
      let h' : EndView X = end_view h.name false h.list h.known h.loads in
      let w : View X = taker_view h' in
      let homes' : Homes X = set s.homes i (some None) in (
        w,
        gives,
        tt,
        subst (λ c. IsRing stands (stepped s 32 new id c w gives)) (sym carried)
            (turns s r id z' (set s.words 32 new) homes' w (length-set s.words 32 new ∙ r.wide) (get_or-set_other s.words 32 16 new 0 (λ e. absurd (omega arith)) ∙ r.given_is)
            (get_or-set_same s.words 32 new 0 (omega (arith, r.wide)) ∙ (omega arith)) (length-set s.homes i (some None)) (taker_returns_slot stands cap z s.homes r.slots_are holds)
            (taker_only z' id h' (t.0, t.1 ∙ ap (λ (b : ℕ). take b z.given) (let b : z.taken + one_if z.taker_holds ≡ z.taken + 1 + 0 = omega arith in b), t.2, refl, t.4))
            (λ j d ne e. let f = r.each_seat j d e in record {
              gives = λ u. let v = f.gives u in let k : d.giver.known ≤ z.taken = v.2 in (v.0, v.1, (let b : d.giver.known ≤ z.taken + 1 = omega arith in b), v.3, v.4);
              takes = λ u. absurd (ne ((f.takes u).0 ∙ sym t.0));
            })),
        (refl, ap rest carried),
      )

  -- the seats where the giver's part goes to the seat `to`
  not_giver : (z : Progress X) (to id j : ℕ) (d : View X) → id ≡ z.giver → j ≢ id → Fits z j d → Fits record z { giver = to } j d
  not_giver z to id j d is ne f = record { gives = λ u. absurd (ne ((f.gives u).0 ∙ sym is)); takes = f.takes }

  pub splits_giver : (id : ℕ) (v : View X) → v.giver.is_here ≡ true → Splits (IsRing stands) id v (view no_view v.taker) (view v.giver no_view)
  splits_giver id v is_here s r at =
      let z = r.progress in
      let fit = r.each_seat id v at in
      let g = fit.gives is_here in
      let left : View X = view no_view v.taker in
      let views : List (View X) = set s.views id left in
      let z' : Progress X = record z { giver = length views } in record {
        progress = z';
        wide = r.wide;
        given_is = r.given_is;
        taken_is = r.taken_is;
        slots_are = record { some_slot = r.slots_are.some_slot; deep = r.slots_are.deep; behind = r.slots_are.behind; within = r.slots_are.within; room = r.slots_are.room; full = r.slots_are.full; empty = r.slots_are.empty; placed = r.slots_are.placed };
        each_seat = seats_more (Fits z') views (giver_view v.giver) (giver_only z' (length views) v.giver (refl, g.1, g.2, g.3, g.4))
            (seats_set (Fits z') s.views id left (record { gives = λ e. absurd (cc e); takes = fit.takes }) (λ j d ne e. not_giver z (length views) id j d g.0 ne (r.each_seat j d e)));
      }

  pub joins_giver : (id : ℕ) (v : View X) (other : ℕ) (w : View X) → w.giver.is_here ≡ true → Joins (IsRing stands) id v other w (view w.giver v.taker) (view no_view no_view)
  joins_giver id v other w is_here s r at ne at' =
      let z = r.progress in
      let both : View X = view w.giver v.taker in
      let fit = r.each_seat id v at in
      let at_other : get_elem? s.views other ≡ some w = ⊎_elim (λ h. absurd (ne h.0)) (λ h. h.1) (at_set s.views id other both w at') in
      let g = (r.each_seat other w at_other).gives is_here in
      let z' : Progress X = record z { giver = id } in record {
        progress = z';
        wide = r.wide;
        given_is = r.given_is;
        taken_is = r.taken_is;
        slots_are = record { some_slot = r.slots_are.some_slot; deep = r.slots_are.deep; behind = r.slots_are.behind; within = r.slots_are.within; room = r.slots_are.room; full = r.slots_are.full; empty = r.slots_are.empty; placed = r.slots_are.placed };
        each_seat = seats_set (Fits z') (set s.views id both) other (view no_view no_view) (fits_neither z' other)
            (λ j d apart e. ⊎_elim
            (λ h. subst (λ (y : ℕ × View X). Fits z' y.0 y.1) (λ i. (sym h.0 i, h.1 i)) (record { gives = λ _. (refl, g.1, g.2, g.3, g.4); takes = fit.takes }))
            (λ h. not_giver z id other j d g.0 apart (r.each_seat j d h.1)) (at_set s.views id j both d e));
      }

module _ {X : Type 0} where
  pub is_giver_view : {name : RingName} (d : View X) (holds : Bool) (list : List X) (known loads : ℕ) → d ≡ giver_view (end_view name holds list known loads) → d ≡ giver_view (end_view d.giver.name d.giver.holds d.giver.list d.giver.known d.giver.loads)
  is_giver_view d holds list known loads e = e ∙ sym (ap (λ u. giver_view (end_view u.giver.name u.giver.holds u.giver.list u.giver.known u.giver.loads)) e)

  pub is_taker_view : {name : RingName} (d : View X) (holds : Bool) (list : List X) (known loads : ℕ) → d ≡ taker_view (end_view name holds list known loads) → d ≡ taker_view (end_view d.taker.name d.taker.holds d.taker.list d.taker.known d.taker.loads)
  is_taker_view d holds list known loads e = e ∙ sym (ap (λ u. taker_view (end_view u.taker.name u.taker.holds u.taker.list u.taker.known u.taker.loads)) e)

  pub holds_now : (d : View X) (holds : Bool) → d ≡ giver_view (end_view d.giver.name holds d.giver.list d.giver.known d.giver.loads) → holds ≡ true → d ≡ giver_view (end_view d.giver.name true d.giver.list d.giver.known d.giver.loads)
  holds_now d holds e is = e ∙ ap (λ b. giver_view (end_view d.giver.name b d.giver.list d.giver.known d.giver.loads)) is

  pub still_holds : {name : RingName} (d : View X) (holds o : Bool) (list : List X) (known loads : ℕ) → d ≡ giver_view (end_view name o list known loads) → holds ≡ o → d ≡ giver_view (end_view d.giver.name holds d.giver.list d.giver.known d.giver.loads)
  still_holds d holds o list known loads e is = is_giver_view d o list known loads e ∙ ap (λ b. giver_view (end_view d.giver.name b d.giver.list d.giver.known d.giver.loads)) (ap (λ u. u.giver.holds) e ∙ sym is)

  pub gave_facts : (me m m' : SeatState X) (slots k new : ℕ) (x : X) → m ≡ (me.0, (k, Some x) ∷ rest me.1) → rest me.1 ≡ [] → gave (step slots 16 new 0 none) m new m'
      → (m'.0 ≡ giver_view (end_view me.0.giver.name true (me.0.giver.list ++ x ∷ []) me.0.giver.known me.0.giver.loads)) × (m'.1 ≡ ((length me.0.giver.list + 1) % slots, None) ∷ [])
  gave_facts me m m' slots k new x e bare g = let t = g k x (ap (λ u. u.1) e ∙ ap (λ l. (k, Some x) ∷ l) bare) in
      (t.0 ∙ ap (λ (u : SeatState X). giver_view (end_view u.0.giver.name true (u.0.giver.list ++ x ∷ []) u.0.giver.known u.0.giver.loads)) e, t.1 ∙ ap (λ (u : SeatState X). ((length u.0.giver.list + 1) % slots, None) ∷ []) e)

  pub gave_last_facts : (me m m' : SeatState X) (slots k new : ℕ) (x : X) → m ≡ (me.0, (k, Some x) ∷ rest me.1) → rest me.1 ≡ [] → gave_last (step slots 16 new 0 none) m new m'
      → (m'.0 ≡ giver_view (end_view me.0.giver.name false (me.0.giver.list ++ x ∷ []) me.0.giver.known me.0.giver.loads)) × (m'.1 ≡ [])
  gave_last_facts me m m' slots k new x e bare g = let t = g k x (ap (λ u. u.1) e ∙ ap (λ l. (k, Some x) ∷ l) bare) in
      (t.0 ∙ ap (λ (u : SeatState X). giver_view (end_view u.0.giver.name false (u.0.giver.list ++ x ∷ []) u.0.giver.known u.0.giver.loads)) e, t.1)

  -- the same steps, after x was put into the slot in end_view
  pub gives_one_here : (stands : RingName → ℕ → X → Type 0) (slots id : ℕ) (me me' : SeatState X) (k new : ℕ) (x : X) → me' ≡ (me.0, (k, Some x) ∷ rest me.1) → me.0 ≡ giver_view (end_view me.0.giver.name true me.0.giver.list me.0.giver.known me.0.giver.loads)
      → rest me.1 ≡ [] → k ≡ length me.0.giver.list % slots → new ≡ length me.0.giver.list + 1 → stands me.0.giver.name (length me.0.giver.list) x → length me.0.giver.list + 1 < me.0.giver.known + slots
      → Allows (IsRing stands) slots id me' 16 (λ _. new) (λ _. gave (step slots 16 new 0 none) me' new)
  gives_one_here stands slots id me me' k new x e is bare k_is new_is at_place near = subst (λ (m : SeatState X). Allows (IsRing stands) slots id m 16 (λ _. new) (λ _. gave (step slots 16 new 0 none) m new)) (sym e)
      (gives_one stands slots id (me.0, (k, Some x) ∷ rest me.1) k new x is (ap (λ l. (k, Some x) ∷ l) bare) k_is new_is at_place near)

  pub gives_last_here : (stands : RingName → ℕ → X → Type 0) (slots id : ℕ) (me me' : SeatState X) (k new : ℕ) (x : X) → me' ≡ (me.0, (k, Some x) ∷ rest me.1) → me.0 ≡ giver_view (end_view me.0.giver.name true me.0.giver.list me.0.giver.known me.0.giver.loads)
      → rest me.1 ≡ [] → k ≡ length me.0.giver.list % slots → new ≡ length me.0.giver.list + 1 → stands me.0.giver.name (length me.0.giver.list) x
      → Allows (IsRing stands) slots id me' 16 (λ _. new) (λ _. gave_last (step slots 16 new 0 none) me' new)
  gives_last_here stands slots id me me' k new x e is bare k_is new_is at_place = subst (λ (m : SeatState X). Allows (IsRing stands) slots id m 16 (λ _. new) (λ _. gave_last (step slots 16 new 0 none) m new)) (sym e)
      (gives_last stands slots id (me.0, (k, Some x) ∷ rest me.1) k new x is (ap (λ l. (k, Some x) ∷ l) bare) k_is new_is at_place)

  pub takes_one_here : (stands : RingName → ℕ → X → Type 0) (slots id : ℕ) (me me' : SeatState X) (k count new : ℕ) → me' ≡ (me.0, (k, None) ∷ rest me.1) → me.0 ≡ taker_view (end_view me.0.taker.name true me.0.taker.list me.0.taker.known me.0.taker.loads)
      → rest me.1 ≡ [] → length me.0.taker.list ≡ count + 1 → k ≡ count % slots → new ≡ count + 1 → Allows (IsRing stands) slots id me' 32 (λ _. new) (λ _. took (step slots 32 new 0 none) me' new)
  takes_one_here stands slots id me me' k count new e is bare size k_is new_is = subst (λ (m : SeatState X). Allows (IsRing stands) slots id m 32 (λ _. new) (λ _. took (step slots 32 new 0 none) m new)) (sym e)
      (takes_one stands slots id (me.0, (k, None) ∷ rest me.1) k count new is (ap (λ l. (k, None) ∷ l) bare) size k_is new_is)

blank : {X : Type 0} (n i : ℕ) → i < n → get_elem? (map some (replicate {A = Option X} n None)) i ≡ some (some None)
blank zero i near = absurd (omega arith)
blank (suc n) zero near = refl
blank (suc n) (suc i) near = blank n i (omega arith)

pub starts : {X : Type 0} (stands : RingName → ℕ → X → Type 0) (name : RingName) (n : ℕ) → 0 < n → IsRing stands (opening (replicate 48 0) (replicate {A = Option X} n None) (view (end_view name false [] 0 0) (end_view name false [] 0 0)))
starts {X} stands name n pos = let xs : List (Option X) = replicate n None in let deep : length (map some xs) ≡ n = length-map xs some ∙ length-replicate n None in
    let z : Progress X = record { name = name; given = []; taken = 0; giver_holds = false; taker_holds = false; giver = 0; taker = 0 } in record {
      progress = z;
      wide = refl;
      given_is = refl;
      taken_is = refl;
      slots_are = record {
        some_slot = omega arith;
        deep = refl;
        behind = omega arith;
        within = omega arith;
        room = λ e. absurd (cc e);
        full = λ k x le ne at. absurd (maybe.some-ne-none x (sym at));
        empty = λ k le near ne. blank n (k % length (map some xs)) (subst (λ (j : ℕ). k % j < n) (sym deep) (mod-lt k pos));
        placed = λ k x at. absurd (maybe.some-ne-none x (sym at));
      };
      each_seat = λ j d e. ⊎_elim (λ (none_there : get_elem? [] j ≡ some d). absurd (maybe.some-ne-none d (sym none_there)))
          (λ h. subst (λ (y : ℕ × View X). Fits z y.0 y.1) (λ i. (sym h.0 i, h.1 i)) (record { gives = λ _. (refl, refl, omega arith, refl, refl); takes = λ _. (refl, refl, omega arith, refl, refl) }))
          (at_end [] (view (end_view name false [] 0 0) (end_view name false [] 0 0)) d j e);
    }
