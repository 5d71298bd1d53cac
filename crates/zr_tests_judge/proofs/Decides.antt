-- The judgement is right.
use Rattle.std.proofs.Common.{◌≡◌, Bool, true, sym, subst}
use Rattle.std.specs.Prelude.{Result, Ok, Err, IfOk}
use Rattle.std.specs.List.{list_all}
use Rattle.std.proofs.lemmas.Bool.{and_parts, and_from}
use Rattle.zr_world_spec.specs.World.{WorldState, is_quiet}
use Rattle.zr_guarantee.specs.Queries.{queries}
use Rattle.zr_guarantee.specs.Refines.{Refines}
use Rattle.zr_tests_judge.specs.Judge.{Judged, Judges, query_holds, answers_hold, is_delivered, is_answered, judgement}
use Rattle.zr_tests_judge.proofs.Delivered.{delivered}
use Rattle.zr_tests_judge.proofs.Answered.{queries_sound, queries_complete, replies_sound, requests_sound, finals_sound, answers_complete}

module _ (j : Judged) (w : WorldState) (quiet_is : is_quiet w ≡ j.quiet) where
  sound : judgement j ≡ true → Refines j.before j.mark j.phase (record { world = w; report = j.report })
  sound h =
      let parts = and_parts (is_delivered j) (is_answered j) h in
      let answers = and_parts (list_all (λ q. query_holds j q) (queries j.phase)) (list_all (λ x. answers_hold j x) j.report) parts.1 in
      record {
        delivers = (delivered j w quiet_is).0 parts.0;
        answered = queries_sound j w quiet_is (queries j.phase) answers.0;
        no_other_reply = replies_sound j answers.1;
        one_at_a_time = requests_sound j answers.1;
        no_other_final = finals_sound j answers.1;
      }

  complete : Refines j.before j.mark j.phase (record { world = w; report = j.report }) → judgement j ≡ true
  complete h =
      and_from (is_delivered j) (is_answered j) ((delivered j w quiet_is).1 h.delivers)
      (and_from (list_all (λ q. query_holds j q) (queries j.phase)) (list_all (λ x. answers_hold j x) j.report)
      (queries_complete j w quiet_is (queries j.phase) h.answered) (answers_complete j h.no_other_reply h.one_at_a_time h.no_other_final))

judges : (j : Judged) → Judges (judgement j) j
judges j w quiet_is = (sound j w quiet_is, complete j w quiet_is)

-- an answer that is the judgement judges
pub if_judged : {E : Type 0} (answer : Result Bool E) (j : Judged) → IfOk answer (λ b. b ≡ judgement j) → IfOk answer (λ b. Judges b j)
if_judged (Ok b) j e = subst (λ (z : Bool). Judges z j) (sym e) (judges j)
if_judged (Err f) j e = tt
