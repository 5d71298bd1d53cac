-- What a client was sent in one turn of a number, once it is sent one message more. In the turn that is open the message stands behind the others, and a turn
-- that is over or has not come stays (`told_now`, `told_before`).
use Rattle.std.proofs.Common.{◌≡◌, ◌≤◌, ◌<◌, ℕ, zero, suc, ◌+◌, Bool, true, false, cond, List, [], ◌∷◌, ◌++◌, map, filter, refl, sym, ap, ◌∙◌, subst, arith, append-nil}
use Rattle.std.specs.Prelude.{nat_lt}
use Rattle.std.specs.List.{flat_map}
use Rattle.std.proofs.lemmas.Bool.{ltb-true, ltb-false}
use Rattle.std.proofs.lemmas.Grind.{flat_map-append}
use Rattle.std.proofs.lemmas.List.{map-append}
use Rattle.std.proofs.lemmas.List.Elements.{filter-append}
use Rattle.std.proofs.lemmas.List.Sums.{sum_by-cons}
use Rattle.zr_guarantee.specs.Sent.{Told, is_final, finals_in, behind_finals}
use Rattle.zr_law_queries.specs.Link.{reply, final, answers_number, answers_with}
use Rattle.zr_law_numbers.specs.Waiting.{Said, answers_in}
use Rattle.zr_law_replies.specs.Answers.{up_to_final, told_in_turn}
use Rattle.zr_law_replies.specs.Stands.{answers_told}

module _ (n : ℕ) where
  finals_first : (y : Told) (told : List Told) → finals_in n (y ∷ told) ≡ cond (is_final n y.msg) 1 0 + finals_in n told
  finals_first y told = sum_by-cons (λ (z : Told). cond (is_final n z.msg) 1 0) y told

  -- ---- up to the first final

  up_more : (told : List Told) (x : Told) → finals_in n told ≡ 0 → up_to_final n (told ++ x ∷ []) ≡ up_to_final n told ++ x ∷ []
  up_more [] x none = by (is_final n x.msg)
    where
      by : (b : Bool) → cond b (x ∷ []) (x ∷ []) ≡ x ∷ []
      by true = refl
      by false = refl
  up_more (y ∷ told) x none = by (is_final n y.msg) (sym (finals_first y told) ∙ none) (λ k. up_more told x k)
    where
      by : (b : Bool) → cond b 1 0 + finals_in n told ≡ 0 → (finals_in n told ≡ 0 → up_to_final n (told ++ x ∷ []) ≡ up_to_final n told ++ x ∷ []) →
          cond b (y ∷ []) (y ∷ up_to_final n (told ++ x ∷ [])) ≡ cond b (y ∷ []) (y ∷ up_to_final n told) ++ x ∷ []
      by true k ih = absurd (omega arith)
      by false k ih = ap (λ z. y ∷ z) (ih (omega arith))

  up_stays : (told : List Told) (x : Told) → 0 < finals_in n told → up_to_final n (told ++ x ∷ []) ≡ up_to_final n told
  up_stays [] x some = absurd (omega arith)
  up_stays (y ∷ told) x some = by (is_final n y.msg) (subst (λ k. 0 < k) (finals_first y told) some) (λ k. up_stays told x k)
    where
      by : (b : Bool) → 0 < cond b 1 0 + finals_in n told → (0 < finals_in n told → up_to_final n (told ++ x ∷ []) ≡ up_to_final n told) →
          cond b (y ∷ []) (y ∷ up_to_final n (told ++ x ∷ [])) ≡ cond b (y ∷ []) (y ∷ up_to_final n told)
      by true k ih = refl
      by false k ih = ap (λ z. y ∷ z) (ih (omega arith))

  -- ---- behind some finals

  behind_more : (turns : ℕ) (told : List Told) (x : Told) → turns ≤ finals_in n told → behind_finals n turns (told ++ x ∷ []) ≡ behind_finals n turns told ++ x ∷ []
  behind_more zero told x le = refl
  behind_more (suc k) [] x le = absurd (omega arith)
  behind_more (suc k) (y ∷ told) x le = by (is_final n y.msg) (subst (λ j. suc k ≤ j) (finals_first y told) le) (λ l. behind_more k told x l) (λ l. behind_more (suc k) told x l)
    where
      by : (b : Bool) → suc k ≤ cond b 1 0 + finals_in n told → (k ≤ finals_in n told → behind_finals n k (told ++ x ∷ []) ≡ behind_finals n k told ++ x ∷ []) →
          (suc k ≤ finals_in n told → behind_finals n (suc k) (told ++ x ∷ []) ≡ behind_finals n (suc k) told ++ x ∷ []) →
          cond b (behind_finals n k (told ++ x ∷ [])) (behind_finals n (suc k) (told ++ x ∷ [])) ≡ cond b (behind_finals n k told) (behind_finals n (suc k) told) ++ x ∷ []
      by true l over on = over (omega arith)
      by false l over on = on (omega arith)

  finals_behind : (turns : ℕ) (told : List Told) → turns ≤ finals_in n told → turns + finals_in n (behind_finals n turns told) ≡ finals_in n told
  finals_behind zero told le = omega arith
  finals_behind (suc k) [] le = absurd (omega arith)
  finals_behind (suc k) (y ∷ told) le =
      by (is_final n y.msg) (subst (λ j. suc k ≤ j) (finals_first y told) le) (λ l. finals_behind k told l) (λ l. finals_behind (suc k) told l) ∙ sym (finals_first y told)
    where
      by : (b : Bool) → suc k ≤ cond b 1 0 + finals_in n told → (k ≤ finals_in n told → k + finals_in n (behind_finals n k told) ≡ finals_in n told) →
          (suc k ≤ finals_in n told → suc k + finals_in n (behind_finals n (suc k) told) ≡ finals_in n told) →
          suc k + finals_in n (cond b (behind_finals n k told) (behind_finals n (suc k) told)) ≡ cond b 1 0 + finals_in n told
      by true l over on = let e : k + finals_in n (behind_finals n k told) ≡ finals_in n told = over (omega arith) in omega arith
      by false l over on = let e : suc k + finals_in n (behind_finals n (suc k) told) ≡ finals_in n told = on (omega arith) in omega arith

  behind_none : (turns : ℕ) → behind_finals n turns [] ≡ []
  behind_none zero = refl
  behind_none (suc k) = refl

  -- a turn that has not come has nothing, with one message more too
  not_come : (turns : ℕ) (told : List Told) → finals_in n told < turns → behind_finals n turns told ≡ []
  not_come zero told lt = absurd (omega arith)
  not_come (suc k) [] lt = refl
  not_come (suc k) (y ∷ told) lt = by (is_final n y.msg) (subst (λ j. j < suc k) (finals_first y told) lt) (λ l. not_come k told l) (λ l. not_come (suc k) told l)
    where
      by : (b : Bool) → cond b 1 0 + finals_in n told < suc k → (finals_in n told < k → behind_finals n k told ≡ []) → (finals_in n told < suc k → behind_finals n (suc k) told ≡ []) →
          cond b (behind_finals n k told) (behind_finals n (suc k) told) ≡ []
      by true l over on = over (omega arith)
      by false l over on = on (omega arith)

  not_yet : (turns : ℕ) (told : List Told) (x : Told) → finals_in n told < turns → behind_finals n turns (told ++ x ∷ []) ≡ []
  not_yet zero told x lt = absurd (omega arith)
  not_yet (suc k) [] x lt = by (is_final n x.msg)
    where
      by : (b : Bool) → cond b (behind_finals n k []) (behind_finals n (suc k) []) ≡ []
      by true = behind_none k
      by false = refl
  not_yet (suc k) (y ∷ told) x lt = by (is_final n y.msg) (subst (λ j. j < suc k) (finals_first y told) lt) (λ l. not_yet k told x l) (λ l. not_yet (suc k) told x l)
    where
      by : (b : Bool) → cond b 1 0 + finals_in n told < suc k → (finals_in n told < k → behind_finals n k (told ++ x ∷ []) ≡ []) → (finals_in n told < suc k → behind_finals n (suc k) (told ++ x ∷ []) ≡ []) →
          cond b (behind_finals n k (told ++ x ∷ [])) (behind_finals n (suc k) (told ++ x ∷ [])) ≡ []
      by true l over on = over (omega arith)
      by false l over on = on (omega arith)

  -- ---- one turn

  module _ (turns : ℕ) (told : List Told) (x : Told) where
    -- the turn that is open
    pub told_now : finals_in n told ≡ turns → told_in_turn n turns (told ++ x ∷ []) ≡ told_in_turn n turns told ++ x ∷ []
    told_now is =
        let left : turns + finals_in n (behind_finals n turns told) ≡ finals_in n told = finals_behind turns told (omega arith) in
        ap (up_to_final n) (behind_more turns told x (omega arith)) ∙ up_more (behind_finals n turns told) x (omega arith)

    -- one that is over
    pub told_before : turns < finals_in n told → told_in_turn n turns (told ++ x ∷ []) ≡ told_in_turn n turns told
    told_before over =
        let left : turns + finals_in n (behind_finals n turns told) ≡ finals_in n told = finals_behind turns told (omega arith) in
        ap (up_to_final n) (behind_more turns told x (omega arith)) ∙ up_stays (behind_finals n turns told) x (omega arith)

    -- one that has not come
    pub told_later : finals_in n told < turns → told_in_turn n turns (told ++ x ∷ []) ≡ told_in_turn n turns told
    told_later lt = ap (up_to_final n) (not_yet turns told x lt ∙ sym (not_come turns told lt))

  -- ---- the answers in it

  pub answers_more : (told : List Told) (x : Told) → answers_told n (told ++ x ∷ []) ≡ answers_told n told ++ filter (answers_number n) (answers_in x.tag x.msg)
  answers_more told x =
      ap (filter (answers_number n)) (flat_map-append (λ (y : Told). answers_in y.tag y.msg) told (x ∷ []) ∙ ap (λ z. flat_map (λ (y : Told). answers_in y.tag y.msg) told ++ z) (append-nil (answers_in x.tag x.msg)))
      ∙ filter-append (answers_number n) (flat_map (λ (y : Told). answers_in y.tag y.msg) told) (answers_in x.tag x.msg)

  -- a message that is no answer under the number adds none to any turn
  pub others_add_none : (turns : ℕ) (told : List Told) (x : Told) → filter (answers_number n) (answers_in x.tag x.msg) ≡ [] →
      answers_told n (told_in_turn n turns (told ++ x ∷ [])) ≡ answers_told n (told_in_turn n turns told)
  others_add_none turns told x none = by (nat_lt (finals_in n told) turns) refl (nat_lt turns (finals_in n told)) refl
    where
      by : (a : Bool) → nat_lt (finals_in n told) turns ≡ a → (b : Bool) → nat_lt turns (finals_in n told) ≡ b → answers_told n (told_in_turn n turns (told ++ x ∷ [])) ≡ answers_told n (told_in_turn n turns told)
      by true lt b e = ap (answers_told n) (told_later turns told x (ltb-true (finals_in n told) turns lt))
      by false ge true gt = ap (answers_told n) (told_before turns told x (ltb-true turns (finals_in n told) gt))
      by false ge false le =
          let least : turns ≤ finals_in n told = ltb-false (finals_in n told) turns ge in
          let most : finals_in n told ≤ turns = ltb-false turns (finals_in n told) le in
          ap (answers_told n) (told_now turns told x (omega arith)) ∙ answers_more (told_in_turn n turns told) x ∙ ap (λ z. answers_told n (told_in_turn n turns told) ++ z) none
          ∙ append-nil (answers_told n (told_in_turn n turns told))

  -- ---- answers put together

  -- one reply more, and the final behind them
  pub with_reply : (rs : List Said) (r : Said) → answers_with n (rs ++ r ∷ []) false ≡ answers_with n rs false ++ reply n r ∷ []
  with_reply rs r = append-nil (map (λ z. reply n z) (rs ++ r ∷ [])) ∙ map-append (λ (z : Said). reply n z) rs (r ∷ []) ∙ ap (λ z. z ++ reply n r ∷ []) (sym (append-nil (map (λ z. reply n z) rs)))

  pub with_end : (rs : List Said) → answers_with n rs true ≡ answers_with n rs false ++ final n ∷ []
  with_end rs = ap (λ z. z ++ final n ∷ []) (sym (append-nil (map (λ (r : Said). reply n r) rs)))
