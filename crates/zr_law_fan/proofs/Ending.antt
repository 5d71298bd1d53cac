-- How a run ends: as many steps were done as it may have, or no step is possible any more. Then nothing is under way at an end that is up, and whose
-- link is unbroken.
use Rattle.std.proofs.Common.{◌≡◌, ℕ, zero, suc, Bool, true, false, not, List, [], ◌∷◌, ◌++◌, map, length, Option, Some, None, Ok, Err, ◌⊎◌, inl, inr, refl, sym, ap, ◌∙◌, arith}
use Rattle.std.specs.Prelude.{◌&&◌, filter, is_some, IfOk}
use Rattle.std.specs.List.{AllByRecursion, reduce}
use Rattle.std.specs.List.Sorted.{IsStrictlySortedBy}
use Rattle.std.specs.Map.{keys_of}
use Rattle.std.specs.Option.{option_map_or}
use Rattle.std.proofs.lemmas.Bool.{false≢true, and_from}
use Rattle.zr_lists.proofs.Finds.{In, filter_in}
use Rattle.zr_script_spec.specs.declared.command.Act.{Act}
use Rattle.zr_script_spec.specs.declared.report.ReportLine.{ReportLine}
use Rattle.zr_script_spec.specs.Step.{◌>>=◌}
use Rattle.zr_world_spec.specs.World.{Tagged, EndState, End, Ends, WorldState, end_cmp, is_empty}
use Rattle.zr_world_spec.specs.Acts.{Outcome, outcome}
use Rattle.zr_world_spec.specs.Next.{Done, lesser, ends_where, first_where, can_handle, can_take, step_at, next, with_more, world_after, run_steps, all_done}
use Rattle.zr_world_spec.proofs.Ends.{end_found}
use Rattle.zr_world_spec.proofs.Sound.{said_first}
use Rattle.zr_law_fan.specs.Samples.{Move, Handling, Taking, at_end, under_way, can_go}

abbrev pub HasEnded : ℕ → List Act → List ReportLine × WorldState → Type 0
HasEnded n acts x = (next x.1 ≡ None) ⊎ (length acts ≡ n)

pub run_ends : (line n : ℕ) (w : WorldState) → IfOk (all_done w line (run_steps line n w)) (HasEnded n (run_steps line n w))
unfolding run_steps
run_ends line zero w = inr refl
run_ends line (suc n) w = by (next w) refl (λ v. run_ends line n v)
  where
    by : (o : Option Act) → next w ≡ o → ((v : WorldState) → IfOk (all_done v line (run_steps line n v)) (HasEnded n (run_steps line n v))) →
        IfOk (all_done w line (with_more o (λ step. run_steps line n (world_after w (outcome w line step))))) (HasEnded (suc n) (with_more o (λ step. run_steps line n (world_after w (outcome w line step)))))
    by None found ih = inl found
    by (Some step) found ih = at (outcome w line step)
      where
        at : (o : Outcome) → IfOk (o >>= (λ x. all_done x.1 line (run_steps line n (world_after w o)) >>= said_first x.0)) (HasEnded (suc n) (step ∷ run_steps line n (world_after w o)))
        at (Err e) = tt
        at (Ok x) = then (all_done x.1 line (run_steps line n x.1)) (ih x.1)
          where
            then : (d : Done) → IfOk d (HasEnded n (run_steps line n x.1)) → IfOk (d >>= said_first x.0) (HasEnded (suc n) (step ∷ run_steps line n x.1))
            then (Err e) h = tt
            then (Ok y) (inl none) = inl none
            then (Ok y) (inr whole) = inr (omega (arith, whole))

-- ---- no step is possible

reduced : (xs : List End) (x : End) → In x xs → reduce lesser xs ≡ None → ⊥
reduced [] x i none = elim i [ ]
reduced (y ∷ xs) x i none = false≢true (ap is_some (sym none))

none_first : (test : EndState → Bool) (es : Ends) (e : End × EndState) → In e es → test e.1 ≡ true → first_where test es ≡ None → ⊥
none_first test es e i passes none = reduced (ends_where test es) e.0 (mapped (filter (λ z. test z.1) es) (filter_in (λ (z : End × EndState). test z.1) es e i passes)) none
  where
    mapped : (xs : Ends) → In e xs → In e.0 (map (λ z. z.0) xs)
    mapped [] i = elim i [ ]
    mapped (x ∷ xs) (inl same) = inl (ap (λ (z : End × EndState). z.0) same)
    mapped (x ∷ xs) (inr more) = inr (mapped xs more)

no_step : (w : WorldState) → next w ≡ None → (first_where can_handle w.ends ≡ None) × (first_where can_take w.ends ≡ None)
no_step w none = by (first_where can_handle w.ends) (first_where can_take w.ends) refl refl none
  where
    by : (o t : Option End) → first_where can_handle w.ends ≡ o → first_where can_take w.ends ≡ t → step_at o t ≡ None → (first_where can_handle w.ends ≡ None) × (first_where can_take w.ends ≡ None)
    by (Some e) t f g k = absurd (false≢true (ap is_some (sym k)))
    by None (Some e) f g k = absurd (false≢true (ap is_some (sym k)))
    by None None f g k = (f, g)

-- where no step is possible nothing is under way that can go
module _ (w : WorldState) (sorted : IsStrictlySortedBy end_cmp (keys_of w.ends)) (none : next w ≡ None) where
  none_on_wire : (e : End × EndState) → In e w.ends → (xs : List Tagged) → e.1.wire ≡ xs → AllByRecursion (λ m. can_go w m ≡ true) (map (λ m. Handling e.0 m) xs) → xs ≡ []
  none_on_wire e i [] is h = refl
  none_on_wire e i (x ∷ xs) is h =
      let up : e.1.up ≡ true = ap (λ o. option_map_or (λ s. s.up) o false) (sym (end_found w.ends e sorted i)) ∙ h.0 in
      absurd (none_first can_handle w.ends e i (and_from e.1.up (not (is_empty e.1.wire)) up (ap (λ z. not (is_empty z)) is)) (no_step w none).0)

  none_in_queue : (e : End × EndState) → In e w.ends → (xs : List Tagged) → e.1.queue ≡ xs → AllByRecursion (λ m. can_go w m ≡ true) (map (λ m. Taking e.0 m) xs) → xs ≡ []
  none_in_queue e i [] is h = refl
  none_in_queue e i (x ∷ xs) is h =
      let up : (e.1.up && e.1.unbroken) ≡ true = ap (λ o. option_map_or (λ s. s.up && s.unbroken) o false) (sym (end_found w.ends e sorted i)) ∙ h.0 in
      absurd (none_first can_take w.ends e i (and_from (e.1.up && e.1.unbroken) (not (is_empty e.1.queue)) up (ap (λ z. not (is_empty z)) is)) (no_step w none).1)

  halves : (xs ys : List Move) → AllByRecursion (λ m. can_go w m ≡ true) (xs ++ ys) → AllByRecursion (λ m. can_go w m ≡ true) xs × AllByRecursion (λ m. can_go w m ≡ true) ys
  halves [] ys h = (tt, h)
  halves (x ∷ xs) ys h = let more = halves xs ys h.1 in ((h.0, more.0), more.1)

  at_rest : (es : Ends) → ((e : End × EndState) → In e es → In e w.ends) → AllByRecursion (λ m. can_go w m ≡ true) (under_way es) → under_way es ≡ []
  at_rest [] here h = refl
  at_rest (e ∷ es) here h =
      let parts = halves (at_end e.0 e.1) (under_way es) h in
      let both = halves (map (λ m. Handling e.0 m) e.1.wire) (map (λ m. Taking e.0 m) e.1.queue) parts.0 in
      let wire = none_on_wire e (here e (inl refl)) e.1.wire refl both.0 in
      let queue = none_in_queue e (here e (inl refl)) e.1.queue refl both.1 in
      let rest = at_rest es (λ z i. here z (inr i)) parts.1 in
      λ i. (map (λ m. Handling e.0 m) (wire i) ++ map (λ m. Taking e.0 m) (queue i)) ++ rest i

  pub rests : AllByRecursion (λ m. can_go w m ≡ true) (under_way w.ends) → under_way w.ends ≡ []
  rests = at_rest w.ends (λ e i. i)
