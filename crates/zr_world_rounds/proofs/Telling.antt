-- Lines of shares counted, and told one share after another.
use Rattle.std.proofs.Common.{◌≡◌, ℕ, ◌+◌, ◌<◌, ◌≤◌, true, List, ◌++◌, Result, Ok, Err, get_or, length, take, refl, sym, ap, ◌∙◌, subst, arith}
use Rattle.std.specs.Prelude.{IfOk}
use Rattle.std.specs.List.{AllByRecursion, concat, flat_map, sum_by}
use Rattle.std.proofs.lemmas.List.{take_all}
use Rattle.std.proofs.lemmas.List.Sums.{sum_by_more}
use Rattle.zr_orders.specs.Ranked.{ranked}
use Rattle.zr_script_spec.specs.declared.report.FanSteps.{FanSteps}
use Rattle.zr_script_spec.specs.declared.report.ReportLine.TheVariants.{Fanned}
use Rattle.zr_world_spec.specs.Fan.{most_fan_steps}
use Rattle.zr_world_gang.specs.Shares.{ShareState, is_behind, last_behind}
use Rattle.zr_law_rounds.specs.Told.{HaveToldLines, IsTold, kinds_in, steps_in, told_of}
use Rattle.zr_law_rounds.proofs.Parts.{AreJoined, joined_next}

-- ---- how many

abbrev steps_of : ShareState → FanSteps
steps_of s = record { handled = length s.handled; taken = length s.taken; sent = length s.sent }

-- one share more
pub kinds_more : (ss : List ShareState) (k : ℕ) (s : ShareState) (kinds more : FanSteps) (handled taken sent : ℕ) → k < length ss → s ≡ get_or ss k s → kinds ≡ kinds_in (take k ss) → more ≡ steps_of s →
    handled ≡ kinds.handled + more.handled → taken ≡ kinds.taken + more.taken → sent ≡ kinds.sent + more.sent → record { handled = handled; taken = taken; sent = sent } ≡ kinds_in (take (k + 1) ss)
kinds_more ss k s kinds more handled taken sent lt is was has one two three = λ i. record {
  handled = (one ∙ (λ j. (was j).handled + (has j).handled) ∙ sum (λ z. length z.handled)) i;
  taken = (two ∙ (λ j. (was j).taken + (has j).taken) ∙ sum (λ z. length z.taken)) i;
  sent = (three ∙ (λ j. (was j).sent + (has j).sent) ∙ sum (λ z. length z.sent)) i;
}
  where
    sum : (f : ShareState → ℕ) → (sum_by f (take k ss) + f s) ≡ sum_by f (take (k + 1) ss)
    sum f = ap (λ z. sum_by f (take k ss) + f z) is ∙ sym (sum_by_more f ss k s lt)

pub kinds_all : (ss : List ShareState) (k : ℕ) (kinds : FanSteps) → length ss ≤ k → kinds ≡ kinds_in (take k ss) → kinds ≡ kinds_in ss
kinds_all ss k kinds long is = is ∙ ap kinds_in (take_all k ss long)

most_is : most_fan_steps ≡ 2300000
unfolding most_fan_steps
most_is = refl

-- all together
steps_are : (ss : List ShareState) (kinds : FanSteps) (behind steps : ℕ) → kinds ≡ kinds_in ss → behind ≡ kinds.taken + kinds.sent → steps ≡ kinds.handled + behind → steps ≡ steps_in ss
steps_are ss kinds behind steps is two one = one ∙ ap (λ n. kinds.handled + n) two ∙ ap (λ (z : FanSteps). z.handled + (z.taken + z.sent)) is

pub few_are : (ss : List ShareState) (kinds : FanSteps) (behind steps : ℕ) → kinds ≡ kinds_in ss → behind ≡ kinds.taken + kinds.sent → steps ≡ kinds.handled + behind → steps ≤ 2300000 → steps_in ss ≤ most_fan_steps
few_are ss kinds behind steps is two one few = let same = steps_are ss kinds behind steps is two one in omega (arith, same, few, most_is)

-- ---- one share after another

pub joined_step : (ss : List ShareState) (k : ℕ) (s : ShareState) (text last text_now last_now : List ℕ) → k < length ss → s ≡ get_or ss k s →
    (AllByRecursion (λ s. IsTold s) ss → AreJoined (take k ss) text last) → is_behind last s.lines ≡ true → text_now ≡ text ++ s.text → last_now ≡ last_behind last s.lines →
    AllByRecursion (λ s. IsTold s) ss → AreJoined (take (k + 1) ss) text_now last_now
joined_step ss k s text last text_now last_now lt is before behind text_is last_is told =
    subst (λ z. AreJoined (take (k + 1) ss) z last_now) (sym text_is)
    (subst (λ z. AreJoined (take (k + 1) ss) (text ++ s.text) z) (sym last_is) (joined_next ss k s text last lt is told (before told) behind))

-- ---- the line

pub line_is : (ss ts : List ShareState) (lines : List ℕ) (kinds : FanSteps) (behind steps : ℕ) → HaveToldLines ss ts → (AllByRecursion (λ s. IsTold s) ts → lines ≡ concat (ranked (flat_map (λ s. s.lines) ts))) →
    kinds ≡ kinds_in ss → behind ≡ kinds.taken + kinds.sent → steps ≡ kinds.handled + behind → Fanned lines steps kinds ≡ told_of ss
line_is ss ts lines kinds behind steps told texts is two one =
    let all = texts told.told ∙ ap concat told.lines in
    let same = steps_are ss kinds behind steps is two one in
    λ i. Fanned (all i) (same i) (is i)

-- what two clauses of a call say together of what it gives
pub both_say : {X E : Type 0} (r : Result X E) (P Q R : X → Type 0) → ((x : X) → P x → Q x → R x) → IfOk r P → IfOk r Q → IfOk r R
both_say (Ok x) P Q R h p q = h x p q
both_say (Err e) P Q R h p q = tt
