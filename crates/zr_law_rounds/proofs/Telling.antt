-- Once nothing waits at any share, the lines of shares tell what a fan tells: they are those of moves until nothing is under way, each as often.
use Rattle.std.proofs.Common.{◌≡◌, ℕ, ◌+◌, ◌≤◌, Bool, true, false, cond, not, List, [], ◌∷◌, ◌++◌, map, length, Ok, refl, sym, ap, ◌∙◌, subst, arith}
use Rattle.std.specs.Prelude.{is_some}
use Rattle.std.specs.List.{concat, count_by, flat_map, sum_by}
use Rattle.zr_orders.specs.Bag.{weigh, AreSame, Goes}
use Rattle.zr_orders.proofs.Bag.{weigh-append, weigh_same}
use Rattle.zr_orders.proofs.Passes.{weigh-map, weigh-one}
use Rattle.zr_orders.proofs.Ranked.{texts_same, weigh_sum}
use Rattle.zr_script_spec.specs.declared.report.ReportLine.{ReportLine}
use Rattle.zr_script_spec.specs.declared.report.ReportLine.TheVariants.{Fanned}
use Rattle.zr_script_spec.specs.Report.{line_text}
use Rattle.zr_world_spec.specs.World.{WorldState, router_of}
use Rattle.zr_world_spec.specs.Fan.{is_handled, is_taken_to, most_fan_steps, fanned}
use Rattle.zr_law_fan.specs.Samples.{Move, Handling, Taking, under_way, line_of, next_moves, quieted}
use Rattle.zr_law_fan.proofs.Plain.{fan_is_plain}
use Rattle.zr_world_gang.specs.Shares.{ShareState, lines_in}
use Rattle.zr_law_rounds.specs.Rounds.{waits, Weights, told_in, told_by, line_weight}
use Rattle.zr_law_rounds.specs.Told.{steps_in, told_of, RoundsTell}
use Rattle.zr_law_rounds.proofs.Beginning.{samples_are}

-- ---- weights of lines

-- one weight for lines of each kind
abbrev alike : (List ℕ → ℕ) → Weights
alike f = record { handled = f; taken = f; sent = f }

-- lines of each kind count so much
abbrev counts : ℕ → ℕ → ℕ → Weights
counts a b c = record { handled = λ t. a; taken = λ t. b; sent = λ t. c }

same_either : {X : Type 0} (b : Bool) (x : X) → cond b x x ≡ x
same_either true x = refl
same_either false x = refl

weigh_lines : (f : List ℕ → ℕ) (ss : List ShareState) → weigh f (flat_map lines_in ss) ≡ told_by (alike f) ss
weigh_lines f [] = refl
weigh_lines f (s ∷ ss) =
    let one = weigh-append f (lines_in s) (flat_map lines_in ss) in
    let two = weigh-append f s.handled (s.taken ++ s.sent) in
    let three = weigh-append f s.taken s.sent in
    let rest = weigh_lines f ss in
    omega (arith, one, two, three, rest)

line_alike : (w : WorldState) (f : List ℕ → ℕ) (m : Move) → line_weight w (alike f) m ≡ f (line_text (line_of m))
line_alike w f (Handling e m) = refl
line_alike w f (Taking e m) = same_either (is_some (router_of w.routers e.1)) (f (line_text (line_of (Taking e m))))

-- the lines of shares are those of the moves
lines_are : (w : WorldState) (ss : List ShareState) (moved : List Move) → ((f : Weights) → told_by f ss ≡ weigh (line_weight w f) moved) →
    AreSame (map line_text (map line_of moved)) (flat_map lines_in ss)
lines_are w ss moved told f =
    weigh-map f line_text (map line_of moved) ∙ weigh-map (λ l. f (line_text l)) line_of moved ∙ sym (weigh_same (line_weight w (alike f)) (λ m. f (line_text (line_of m))) (line_alike w f) moved)
    ∙ sym (told (alike f)) ∙ sym (weigh_lines f ss)

-- ---- how many there are

weigh_none : {X : Type 0} (xs : List X) → weigh (λ x. 0) xs ≡ 0
weigh_none [] = refl
weigh_none (x ∷ xs) = let rest = weigh_none xs in omega (arith, rest)

told_handled : (ss : List ShareState) → told_by (counts 1 0 0) ss ≡ sum_by (λ s. length s.handled) ss
told_handled ss = weigh_same (told_in (counts 1 0 0)) (λ s. length s.handled) one ss ∙ weigh_sum (λ s. length s.handled) ss
  where
    one : (s : ShareState) → told_in (counts 1 0 0) s ≡ length s.handled
    one s = let a = weigh-one s.handled in let b = weigh_none s.taken in let c = weigh_none s.sent in omega (arith, a, b, c)

told_taken : (ss : List ShareState) → told_by (counts 0 1 0) ss ≡ sum_by (λ s. length s.taken) ss
told_taken ss = weigh_same (told_in (counts 0 1 0)) (λ s. length s.taken) one ss ∙ weigh_sum (λ s. length s.taken) ss
  where
    one : (s : ShareState) → told_in (counts 0 1 0) s ≡ length s.taken
    one s = let a = weigh_none s.handled in let b = weigh-one s.taken in let c = weigh_none s.sent in omega (arith, a, b, c)

told_sent : (ss : List ShareState) → told_by (counts 0 0 1) ss ≡ sum_by (λ s. length s.sent) ss
told_sent ss = weigh_same (told_in (counts 0 0 1)) (λ s. length s.sent) one ss ∙ weigh_sum (λ s. length s.sent) ss
  where
    one : (s : ShareState) → told_in (counts 0 0 1) s ≡ length s.sent
    one s = let a = weigh_none s.handled in let b = weigh_none s.taken in let c = weigh-one s.sent in omega (arith, a, b, c)

-- lines that pass a test, among those of moves
count_moves : (p : ReportLine → Bool) (moved : List Move) → count_by p (map line_of moved) ≡ weigh (λ m. cond (p (line_of m)) 1 0) moved
count_moves p moved = sym (weigh_sum (λ l. cond (p l) 1 0) (map line_of moved)) ∙ weigh-map (λ l. cond (p l) 1 0) line_of moved

module _ (w : WorldState) (ss : List ShareState) (moved : List Move) (told : (f : Weights) → told_by f ss ≡ weigh (line_weight w f) moved) where
  handled_are : count_by is_handled (map line_of moved) ≡ sum_by (λ s. length s.handled) ss
  handled_are = count_moves is_handled moved ∙ weigh_same (λ m. cond (is_handled (line_of m)) 1 0) (line_weight w (counts 1 0 0)) one moved ∙ sym (told (counts 1 0 0)) ∙ told_handled ss
    where
      one : (m : Move) → cond (is_handled (line_of m)) 1 0 ≡ line_weight w (counts 1 0 0) m
      one (Handling e m) = refl
      one (Taking e m) = sym (same_either (is_some (router_of w.routers e.1)) 0)

  taken_are : count_by (is_taken_to (λ to. is_some (router_of w.routers to))) (map line_of moved) ≡ sum_by (λ s. length s.taken) ss
  taken_are =
      count_moves (is_taken_to (λ to. is_some (router_of w.routers to))) moved
      ∙ weigh_same (λ m. cond (is_taken_to (λ to. is_some (router_of w.routers to)) (line_of m)) 1 0) (line_weight w (counts 0 1 0)) one moved ∙ sym (told (counts 0 1 0)) ∙ told_taken ss
    where
      one : (m : Move) → cond (is_taken_to (λ to. is_some (router_of w.routers to)) (line_of m)) 1 0 ≡ line_weight w (counts 0 1 0) m
      one (Handling e m) = refl
      one (Taking e m) = refl

  sent_are : count_by (is_taken_to (λ to. not (is_some (router_of w.routers to)))) (map line_of moved) ≡ sum_by (λ s. length s.sent) ss
  sent_are =
      count_moves (is_taken_to (λ to. not (is_some (router_of w.routers to)))) moved
      ∙ weigh_same (λ m. cond (is_taken_to (λ to. not (is_some (router_of w.routers to))) (line_of m)) 1 0) (line_weight w (counts 0 0 1)) one moved ∙ sym (told (counts 0 0 1)) ∙ told_sent ss
    where
      other : (b : Bool) → ◌≡◌ {A = ℕ} (cond (not b) 1 0) (cond b 0 1)
      other true = refl
      other false = refl

      one : (m : Move) → cond (is_taken_to (λ to. not (is_some (router_of w.routers to))) (line_of m)) 1 0 ≡ line_weight w (counts 0 0 1) m
      one (Handling e m) = refl
      one (Taking e m) = other (is_some (router_of w.routers e.1))

  length_is : length (map line_of moved) ≡ steps_in ss
  length_is =
      let all = sym (weigh-one (map line_of moved)) ∙ weigh-map (λ l. 1) line_of moved in
      let whole = told (alike (λ t. 1)) in
      let same = weigh_same (λ m. 1) (line_weight w (alike (λ t. 1))) (λ m. sym (line_alike w (λ t. 1) m)) moved in
      let parts = told_parts ss in
      let one = told_handled ss in
      let two = told_taken ss in
      let three = told_sent ss in
      omega (arith, all, whole, same, parts, one, two, three)
    where
      told_parts : (rs : List ShareState) → told_by (alike (λ t. 1)) rs ≡ told_by (counts 1 0 0) rs + (told_by (counts 0 1 0) rs + told_by (counts 0 0 1) rs)
      told_parts [] = refl
      told_parts (r ∷ rs) =
          let rest = told_parts rs in
          let a = weigh_none r.handled in
          let b = weigh_none r.taken in
          let c = weigh_none r.sent in
          omega (arith, rest, a, b, c)

  told_is : fanned w.routers (map line_of moved) ≡ told_of ss
  told_is =
      let texts = texts_same (map line_text (map line_of moved)) (flat_map lines_in ss) (lines_are w ss moved told) in
      λ i. Fanned (concat (texts i)) (length_is i) (record { handled = handled_are i; taken = taken_are i; sent = sent_are i })

pub rounds_tell : RoundsTell
rounds_tell w ss u none few line =
    let gone = u.gone in
    let nothing : (waits ss ++ under_way []) ≡ [] = ap (λ z. z ++ []) none in
    let goes = subst (λ z. Goes (next_moves w) (under_way w.ends) gone.moved z) nothing gone.goes in
    let long : length gone.moved ≤ most_fan_steps = at_most gone.moved (length_is w ss gone.moved gone.told) in
    fan_is_plain w u.sound u.calm (samples_are w u.samples) line gone.moved (record { goes = goes; can = gone.can; few = long }) ∙ ap (λ l. Ok (l ∷ [], quieted w)) (told_is w ss gone.moved gone.told)
  where
    same_length : (ms : List Move) → length (map line_of ms) ≡ length ms
    same_length [] = refl
    same_length (m ∷ ms) = let rest = same_length ms in omega (arith, rest)

    at_most : (ms : List Move) → length (map line_of ms) ≡ steps_in ss → length ms ≤ most_fan_steps
    at_most ms is = let same = same_length ms in omega (arith, same, is, few)
