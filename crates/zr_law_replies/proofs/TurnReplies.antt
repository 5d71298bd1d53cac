-- Of what a client was sent, what belongs to one turn of a number: where a test is passed only by replies of that turn under that number, what passes it of all is
-- what passes it of that turn's replies under the number (`in_turn`), and nothing behind the turn's final does (`behind_turn`). And the turn has its final where so many were sent (`final_told`).
use Rattle.std.proofs.Common.{◌≡◌, ◌<◌, ℕ, zero, suc, ◌+◌, ◌==◌, Bool, true, false, cond, List, [], ◌∷◌, filter, Option, Some, None, refl, sym, ap, ◌∙◌, subst, arith}
use Rattle.std.specs.Prelude.{◌||◌, nat_le, IfSome}
use Rattle.std.specs.List.{cons_option, list_any}
use Rattle.std.proofs.Math.Dec.{leb-suc-zero, leb-suc-suc}
use Rattle.std.proofs.lemmas.Bool.{false≢true, eq-eqb, le-leb}
use Rattle.std.proofs.lemmas.List.Sums.{sum_by-cons}
use Rattle.zr_guarantee.specs.Item.{Reply}
use Rattle.zr_guarantee.specs.Sent.{Told, reply_in, replies_in, is_final, finals_in, behind_finals}
use Rattle.zr_law_replies.specs.Answers.{up_to_final, told_in_turn}
use Rattle.zr_law_replies.proofs.Turns.{final_is_none, Turned}

module _ (passes : Reply → Bool) (n t : ℕ) where
  -- what passes is of this turn under this number, where so many finals of the number stand before the messages
  abbrev pub Only : ℕ → List Told → Type 0
  Only k [] = Unit {0}
  Only k (x ∷ told) = IfSome (reply_in x.tag x.msg) (λ r. passes r ≡ true → (r.number ≡ n) × (k ≡ t)) × Only (cond (is_final n x.msg) (suc k) k) told

  -- what is known of each reply, under whichever number it was sent, says so
  pub only_by : (P : ℕ → ℕ → Reply → Type 0) → ((j k : ℕ) (r : Reply) → P j k r → r.number ≡ j → passes r ≡ true → (j ≡ n) × (k ≡ t)) →
      (told : List Told) → (h : (j : ℕ) → (k : ℕ) × Turned (P j) j k told) → Only (h n).0 told
  only_by P each [] h = tt
  only_by P each (x ∷ told) h = (by (reply_in x.tag x.msg) (λ j. (h j).1.0), only_by P each told (λ j. (cond (is_final j x.msg) (suc (h j).0) (h j).0, (h j).1.1)))
    where
      by : (o : Option Reply) → ((j : ℕ) → IfSome o (λ r. (r.number == j) ≡ true → P j (h j).0 r)) → IfSome o (λ r. passes r ≡ true → (r.number ≡ n) × ((h n).0 ≡ t))
      by None says = tt
      by (Some r) says = λ p.
          let got = each r.number (h r.number).0 r (says r.number (eq_self r.number)) refl p in
          (got.0, ap (λ j. (h j).0) (sym got.0) ∙ got.1)
        where
          eq_self : (k : ℕ) → (k == k) ≡ true
          eq_self k = eq-eqb k k refl

  -- behind the turn nothing passes
  pub none_later : (k : ℕ) (told : List Told) → t < k → Only k told → filter passes (replies_in told) ≡ []
  none_later k [] later h = refl
  none_later k (x ∷ told) later h = by (reply_in x.tag x.msg) h.0 (none_later (cond (is_final n x.msg) (suc k) k) told (more (is_final n x.msg)) h.1)
    where
      more : (b : Bool) → t < cond b (suc k) k
      more true = omega arith
      more false = later

      by : (o : Option Reply) → IfSome o (λ r. passes r ≡ true → (r.number ≡ n) × (k ≡ t)) → filter passes (replies_in told) ≡ [] → filter passes (cons_option o (replies_in told)) ≡ []
      by None says ih = ih
      by (Some r) says ih = at (passes r) refl
        where
          at : (b : Bool) → passes r ≡ b → cond b (r ∷ filter passes (replies_in told)) (filter passes (replies_in told)) ≡ []
          at false e = ih
          at true e = let same : k ≡ t = (says e).1 in absurd (omega arith)

  -- the replies under the number
  abbrev pub numbered : List Told → List Reply
  numbered told = filter (λ r. r.number == n) (replies_in told)

  -- what passes of the messages up to the next final is what passes of all
  up_to : (told : List Told) → Only t told → filter passes (replies_in told) ≡ filter passes (numbered (up_to_final n told))
  up_to [] h = refl
  up_to (x ∷ told) h = by (is_final n x.msg) refl h.1 (λ k. up_to told k)
    where
      by : (b : Bool) → is_final n x.msg ≡ b → Only (cond b (suc t) t) told → (Only t told → filter passes (replies_in told) ≡ filter passes (numbered (up_to_final n told))) →
          filter passes (replies_in (x ∷ told)) ≡ filter passes (numbered (cond b (x ∷ []) (x ∷ up_to_final n told)))
      by true e k ih =
          ap (λ o. filter passes (cons_option o (replies_in told))) (final_is_none n x.tag x.msg e) ∙ none_later (suc t) told (omega arith) k
          ∙ sym (ap (λ o. filter passes (filter (λ r. r.number == n) (cons_option o []))) (final_is_none n x.tag x.msg e))
      by false e k ih = first (reply_in x.tag x.msg) h.0 (ih k)
        where
          first : (o : Option Reply) → IfSome o (λ r. passes r ≡ true → (r.number ≡ n) × (t ≡ t)) → filter passes (replies_in told) ≡ filter passes (numbered (up_to_final n told)) →
              filter passes (cons_option o (replies_in told)) ≡ filter passes (filter (λ r. r.number == n) (cons_option o (replies_in (up_to_final n told))))
          first None says i = i
          first (Some r) says i = at (passes r) refl (r.number == n) refl
            where
              at : (b : Bool) → passes r ≡ b → (d : Bool) → (r.number == n) ≡ d →
                  cond b (r ∷ filter passes (replies_in told)) (filter passes (replies_in told)) ≡ filter passes (cond d (r ∷ numbered (up_to_final n told)) (numbered (up_to_final n told)))
              at true f true g = ap (λ z. r ∷ z) i ∙ ap (λ b. cond b (r ∷ filter passes (numbered (up_to_final n told))) (filter passes (numbered (up_to_final n told)))) (sym f)
              at false f true g = i ∙ ap (λ b. cond b (r ∷ filter passes (numbered (up_to_final n told))) (filter passes (numbered (up_to_final n told)))) (sym f)
              at false f false g = i
              at true f false g = absurd (false≢true (sym g ∙ eq-eqb r.number n (says f).0))

  -- before the turn nothing passes
  in_turn_from : (k j : ℕ) → k + j ≡ t → (told : List Told) → Only k told → filter passes (replies_in told) ≡ filter passes (numbered (told_in_turn n j told))
  in_turn_from k zero e told h = up_to told (subst (λ i. Only i told) (let f : k ≡ t = omega arith in f) h)
  in_turn_from k (suc j) e [] h = refl
  in_turn_from k (suc j) e (x ∷ told) h = by (is_final n x.msg) h.1 (λ i. in_turn_from (suc k) j (let f : suc k + j ≡ t = omega arith in f) told i) (λ i. in_turn_from k (suc j) e told i)
    where
      not_here : (o : Option Reply) → IfSome o (λ r. passes r ≡ true → (r.number ≡ n) × (k ≡ t)) → filter passes (cons_option o (replies_in told)) ≡ filter passes (replies_in told)
      not_here None says = refl
      not_here (Some r) says = at (passes r) refl
        where
          at : (b : Bool) → passes r ≡ b → cond b (r ∷ filter passes (replies_in told)) (filter passes (replies_in told)) ≡ filter passes (replies_in told)
          at false f = refl
          at true f = let same : k ≡ t = (says f).1 in absurd (omega arith)

      by : (b : Bool) → Only (cond b (suc k) k) told →
          (Only (suc k) told → filter passes (replies_in told) ≡ filter passes (numbered (told_in_turn n j told))) →
          (Only k told → filter passes (replies_in told) ≡ filter passes (numbered (told_in_turn n (suc j) told))) →
          filter passes (replies_in (x ∷ told)) ≡ filter passes (numbered (up_to_final n (cond b (behind_finals n j told) (behind_finals n (suc j) told))))
      by true i over on = not_here (reply_in x.tag x.msg) h.0 ∙ over i
      by false i over on = not_here (reply_in x.tag x.msg) h.0 ∙ on i

  pub in_turn : (told : List Told) → Only 0 told → filter passes (replies_in told) ≡ filter passes (numbered (told_in_turn n t told))
  in_turn told h = in_turn_from 0 t (let e : 0 + t ≡ t = omega arith in e) told h

  behind_from : (k j : ℕ) → k + j ≡ suc t → (told : List Told) → Only k told → filter passes (replies_in (behind_finals n j told)) ≡ []
  behind_from k zero e told h = none_later k told (let f : t < k = omega arith in f) h
  behind_from k (suc j) e [] h = refl
  behind_from k (suc j) e (x ∷ told) h = by (is_final n x.msg) h.1 (λ i. behind_from (suc k) j (let f : suc k + j ≡ suc t = omega arith in f) told i) (λ i. behind_from k (suc j) e told i)
    where
      by : (b : Bool) → Only (cond b (suc k) k) told → (Only (suc k) told → filter passes (replies_in (behind_finals n j told)) ≡ []) →
          (Only k told → filter passes (replies_in (behind_finals n (suc j) told)) ≡ []) → filter passes (replies_in (cond b (behind_finals n j told) (behind_finals n (suc j) told))) ≡ []
      by true i over on = over i
      by false i over on = on i

  pub behind_turn : (told : List Told) → Only 0 told → filter passes (replies_in (behind_finals n (suc t) told)) ≡ []
  behind_turn told h = behind_from 0 (suc t) (let e : 0 + suc t ≡ suc t = omega arith in e) told h

-- ---- the final of a turn

module _ (n : ℕ) where
  abbrev pub any_final : List Told → Bool
  any_final told = list_any (λ x. is_final n x.msg) told

  up_to_has : (told : List Told) → any_final (up_to_final n told) ≡ nat_le 1 (finals_in n told)
  up_to_has [] = refl
  up_to_has (x ∷ told) = by (is_final n x.msg) refl (up_to_has told) ∙ ap (nat_le 1) (sym (sum_by-cons (λ (y : Told). cond (is_final n y.msg) 1 0) x told))
    where
      by : (b : Bool) → is_final n x.msg ≡ b → any_final (up_to_final n told) ≡ nat_le 1 (finals_in n told) → any_final (cond b (x ∷ []) (x ∷ up_to_final n told)) ≡ nat_le 1 (cond b 1 0 + finals_in n told)
      by true e ih = ap (λ c. c || false) e ∙ sym (le-leb 1 (1 + finals_in n told) (omega arith))
      by false e ih = ap (λ c. c || any_final (up_to_final n told)) e ∙ ih ∙ ap (nat_le 1) (let f : finals_in n told ≡ 0 + finals_in n told = omega arith in f)

  -- a turn has its final exactly where so many finals were sent
  pub final_told : (t : ℕ) (told : List Told) → any_final (told_in_turn n t told) ≡ nat_le (suc t) (finals_in n told)
  final_told zero told = up_to_has told
  final_told (suc t) [] = sym (leb-suc-zero (suc t))
  final_told (suc t) (x ∷ told) = by (is_final n x.msg) (final_told t told) (final_told (suc t) told) ∙ ap (nat_le (suc (suc t))) (sym (sum_by-cons (λ (y : Told). cond (is_final n y.msg) 1 0) x told))
    where
      by : (b : Bool) → any_final (told_in_turn n t told) ≡ nat_le (suc t) (finals_in n told) → any_final (told_in_turn n (suc t) told) ≡ nat_le (suc (suc t)) (finals_in n told) →
          any_final (up_to_final n (cond b (behind_finals n t told) (behind_finals n (suc t) told))) ≡ nat_le (suc (suc t)) (cond b 1 0 + finals_in n told)
      by true over on = over ∙ sym (leb-suc-suc (suc t) (finals_in n told)) ∙ ap (nat_le (suc (suc t))) (let f : suc (finals_in n told) ≡ 1 + finals_in n told = omega arith in f)
      by false over on = on ∙ ap (nat_le (suc (suc t))) (let f : finals_in n told ≡ 0 + finals_in n told = omega arith in f)
