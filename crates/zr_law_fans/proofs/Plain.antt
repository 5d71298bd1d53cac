-- Where a fan is accepted in a world of a script, any order of steps until nothing is under way moves what the fan moves.
use Rattle.std.proofs.Common.{◌≡◌, ℕ, true, List, [], ◌∷◌, map, Ok, Err, sym, ap, ◌∙◌, subst}
use Rattle.std.specs.Prelude.{is_ok, IfOk}
use Rattle.std.specs.List.{list_all}
use Rattle.std.proofs.lemmas.Bool.{false≢true}
use Rattle.zr_orders.specs.Bag.{AreSame, Goes}
use Rattle.zr_orders.proofs.Bag.{orders_are_one}
use Rattle.zr_orders.proofs.Passes.{same_map}
use Rattle.zr_script_spec.specs.declared.command.Act.{Act}
use Rattle.zr_script_spec.specs.declared.report.ReportLine.{ReportLine}
use Rattle.zr_script_spec.specs.Step.{◌>>=◌}
use Rattle.zr_world_spec.specs.World.{WorldState}
use Rattle.zr_world_spec.specs.Fan.{most_fan_steps, fanned}
use Rattle.zr_world_spec.specs.Moments.{is_step}
use Rattle.zr_world_spec.specs.Next.{Done, all_done, fan_steps, fan_done}
use Rattle.zr_world_spec.proofs.Lines.{all_steps}
use Rattle.zr_law_fan.specs.Samples.{Move, under_way, line_of, next_moves, HaveMoved}
use Rattle.zr_law_fan.proofs.Running.{runs_move, world_is}
use Rattle.zr_law_fan.proofs.Plain.{fanned_same}
use Rattle.zr_law_fans.specs.Scripts.{FansArePlain}
use Rattle.zr_law_fans.proofs.Accepting.{IsAccepted, accepted, samples_of}
use Rattle.zr_law_fans.proofs.Calm.{goes, scripts_are_calm}
use Rattle.zr_law_fans.proofs.Ends.{fans_end}

-- two runs from one world until nothing is under way
one_end : (w : WorldState) (x y : List ReportLine × WorldState) (some others : List Act) → HaveMoved w x.1 x.0 some → HaveMoved w y.1 y.0 others → under_way x.1.ends ≡ [] → under_way y.1.ends ≡ [] →
    ◌≡◌ {A = List ReportLine × WorldState} (fanned x.1.routers x.0 ∷ [], x.1) (fanned w.routers y.0 ∷ [], y.1)
one_end w x y some others a b none nothing = λ i. (lines i ∷ [], worlds i)
  where
    same : AreSame a.moved b.moved
    same = orders_are_one Move (next_moves w) (under_way w.ends) a.moved b.moved (subst (λ z. Goes (next_moves w) (under_way w.ends) a.moved z) none a.goes)
        (subst (λ z. Goes (next_moves w) (under_way w.ends) b.moved z) nothing b.goes)

    worlds : x.1 ≡ y.1
    worlds = world_is w x.1 a.same none ∙ sym (world_is w y.1 b.same nothing)

    lines : fanned x.1.routers x.0 ≡ fanned w.routers y.0
    lines = (λ i. fanned (a.same.routers i) (a.lines_are i))
        ∙ fanned_same w.routers (map line_of a.moved) (map line_of b.moved) (same_map line_of a.moved b.moved same)
        ∙ ap (fanned w.routers) (sym b.lines_are)

pub fans_are_plain : FansArePlain
unfolding fan_done
fans_are_plain acts m is line fan fans steps x ended =
    by (all_done w line (fan_steps line w)) (moves line (fan_steps line w) (all_steps line most_fan_steps w)) yes.done
  where
    w : WorldState
    w = m.world

    yes : IsAccepted w line fan
    yes = accepted w line fan fans

    moves : (line : ℕ) (several : List Act) → list_all is_step several ≡ true → IfOk (all_done w line several) (λ y. HaveMoved w y.1 y.0 several)
    moves line several ok = runs_move w (goes acts m is).sound (scripts_are_calm acts m is) (samples_of w.ends yes.samples) line several ok

    moved : HaveMoved w x.1 x.0 steps
    moved = subst (λ (d : Done). IfOk d (λ y. HaveMoved w y.1 y.0 steps)) ended.done (moves line steps ended.only_steps)

    tells : List ReportLine × WorldState → Done
    tells y = Ok (fanned y.1.routers y.0 ∷ [], y.1)

    by : (d : Done) → IfOk d (λ y. HaveMoved w y.1 y.0 (fan_steps line w)) → (d >>= tells) ≡ Ok fan → fan ≡ (fanned w.routers x.0 ∷ [], x.1)
    by (Err e) h k = absurd (false≢true (ap is_ok k))
    by (Ok y) h k =
        let pair : (fanned y.1.routers y.0 ∷ [], y.1) ≡ fan = cc in
        let none : under_way y.1.ends ≡ [] = ap (λ (z : List ReportLine × WorldState). under_way z.1.ends) pair ∙ (fans_end acts m is line fan fans).0 in
        sym pair ∙ one_end w y x (fan_steps line w) steps h moved none ended.ended
