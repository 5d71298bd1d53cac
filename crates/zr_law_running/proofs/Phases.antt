-- What follows in a run without a change of links or declarations is a phase of the world, where a mark is accepted (`runs_have_phases`).
use Rattle.std.proofs.Common.{◌≡◌, ℕ, suc, Bool, true, false, not, List, [], ◌∷◌, ◌++◌, map, Some, Ok, refl, sym, ap, ◌∙◌, subst, append-nil, append_assoc, leb-true}
use Rattle.std.specs.Prelude.{◌||◌}
use Rattle.std.specs.List.{list_all}
use Rattle.std.proofs.lemmas.Bool.{false≢true, and_parts}
use Rattle.std.proofs.lemmas.List.Elements.{filter_map-append}
use Rattle.zr_msg.specs.declared.event.Event.{Event}
use Rattle.zr_msg.specs.declared.event.Event.TheVariants.{Up, Down, From}
use Rattle.zr_script_spec.specs.declared.error.ScriptError.TheVariants.{NotSettled, NotJoined}
use Rattle.zr_script_spec.specs.declared.command.Act.{Act}
use Rattle.zr_script_spec.specs.declared.command.Act.TheVariants as a
use Rattle.zr_script_spec.specs.declared.report.ReportLine.TheVariants as line
use Rattle.zr_world_spec.specs.World.{WorldState, unsettles, is_settled, most_routers}
use Rattle.zr_world_spec.specs.Joined.{is_joined}
use Rattle.zr_world_spec.specs.Acts.{outcome, mark_step}
use Rattle.zr_world_spec.specs.Moments.{Numbered, is_step, ascends, Moment, reached, then_at}
use Rattle.zr_guarantee.specs.Phase.{stays}
use Rattle.zr_guarantee.specs.Sent.{Told, told_in, told_to}
use Rattle.zr_law_running.specs.Runs.{Heard, Several, at_first, happened, outcome_from, outcome_of}
use Rattle.zr_law_running.specs.Deeds.{deed_of, deeds}
use Rattle.zr_law_running.specs.Allowed.{IsRunFrom, IsRun}
use Rattle.zr_law_running.specs.Laws.{leaves, IsPhaseOf, RunsHavePhases}
use Rattle.zr_law_running.proofs.Steps.{Span, more_accepted, final, by_test}
use Rattle.zr_law_running.proofs.Holding.{messages_to}
use Rattle.zr_law_running.proofs.Draining.{Standing}
use Rattle.zr_law_running.proofs.Coming.{same_report}
use Rattle.zr_law_running.proofs.Running.{any_acts, Allows, AllAllowed, all_allowed, goes_on, begins, moment_of}

-- a mark is accepted
mark_goes : (w : WorldState) (n : ℕ) → is_settled w ≡ true → is_joined w ≡ true → outcome w n a.Mark ≡ Ok (line.Mark n ∷ [], w)
unfolding outcome mark_step
mark_goes w n settled joined = by_test (is_settled w) NotSettled _ _ settled (by_test (is_joined w) NotJoined _ _ joined refl)

steps_stay : (act : Act) → is_step act ≡ true → stays act ≡ true
steps_stay (a.Router id) h = absurd (false≢true h)
steps_stay (a.Client id router) h = absurd (false≢true h)
steps_stay (a.Link one other weight) h = absurd (false≢true h)
steps_stay (a.Up router neighbour) h = absurd (false≢true h)
steps_stay (a.Break router neighbour) h = absurd (false≢true h)
steps_stay (a.Down router neighbour) h = absurd (false≢true h)
steps_stay (a.Sub client id key) h = absurd (false≢true h)
steps_stay (a.Unsub client id) h = absurd (false≢true h)
steps_stay (a.Token client id key) h = absurd (false≢true h)
steps_stay (a.Untoken client id) h = absurd (false≢true h)
steps_stay (a.Able client id key complete) h = absurd (false≢true h)
steps_stay (a.Unable client id) h = absurd (false≢true h)
steps_stay (a.Interest client id mode kinds key aggregate) h = absurd (false≢true h)
steps_stay (a.Uninterest client id) h = absurd (false≢true h)
steps_stay (a.Publish client content) h = absurd (false≢true h)
steps_stay (a.Get client number target content) h = absurd (false≢true h)
steps_stay (a.Reply client number content) h = absurd (false≢true h)
steps_stay (a.End client number) h = absurd (false≢true h)
steps_stay (a.Handle router from) h = refl
steps_stay (a.Take router to) h = refl
steps_stay a.Mark h = absurd (false≢true h)
steps_stay (a.Show router) h = absurd (false≢true h)

-- behind a mark follow acts that change no link and no declaration
abbrev behind_mark : List Numbered → Span
behind_mark before = record { before = before; test = stays; steps = steps_stay }

calm_allowed : (before : List Numbered) (event : Event) → leaves event ≡ true → Allows (behind_mark before) event
calm_allowed before (Up link peer) h = absurd (false≢true h)
calm_allowed before (Down link) h = absurd (false≢true h)
calm_allowed before (From link msg) h = λ act so. by (unsettles msg) h act so
  where
    by : (b : Bool) → not b ≡ true → (act : Act) → (b || stays act) ≡ true → stays act ≡ true
    by true h act so = absurd (false≢true h)
    by false h act so = so

all_calm : (before : List Numbered) (more : List Heard) → list_all (λ h. leaves h.event) more ≡ true → AllAllowed (behind_mark before) more
all_calm before [] h = tt
all_calm before (x ∷ more) h =
    let parts = and_parts (leaves x.event) (list_all (λ h. leaves h.event) more) h in
    (calm_allowed before x.event parts.0, all_calm before more parts.1)

-- a run and what follows it
first_part : (ids : List (List ℕ)) (run more : List Heard) (s : Several) → IsRunFrom ids s (run ++ more) → IsRunFrom ids s run × IsRunFrom ids (outcome_from s run) more
first_part ids [] more s h = (tt, h)
first_part ids (x ∷ run) more s h = let parts = first_part ids run more (happened s x) h.1 in ((h.0, parts.0), parts.1)

both_parts : (run more : List Heard) (s : Several) → outcome_from s (run ++ more) ≡ outcome_from (outcome_from s run) more
both_parts [] more s = refl
both_parts (x ∷ run) more s = both_parts run more (happened s x)

module _ (ids : List (List ℕ)) (run more : List Heard) (is : IsRun ids (run ++ more)) (calm : list_all (λ h. leaves h.event) more ≡ true) (m : Moment) (st : Standing any_acts ids (outcome_of run) m)
    (settled : is_settled m.world ≡ true) (joined : is_joined m.world ≡ true) where
  abbrev before : List Numbered
  before = st.came.acts

  abbrev mark : ℕ
  mark = suc (final 0 before)

  abbrev marked : List Numbered
  marked = before ++ (mark, a.Mark) ∷ []

  abbrev there : Moment
  there = then_at m (line.Mark mark ∷ [], m.world)

  accepted : (ascends 0 marked ≡ true) × (reached marked ≡ Some there)
  accepted = more_accepted before m st.came.ascend st.came.is a.Mark (line.Mark mark ∷ [], m.world) (mark_goes m.world mark settled joined)

  same_told : (q : List ℕ) → messages_to (m.report ++ line.Mark mark ∷ []) q ≡ messages_to m.report q
  same_told q = ap (map (λ (t : Told). t.msg)) (filter_map-append (told_in q) m.report (line.Mark mark ∷ []) ∙ append-nil (told_to m.report q))

  standing : Standing (behind_mark marked) ids (outcome_of run) there
  standing = record {
    came = record {
      acts = [];
      ascend = ap (ascends 0) (append-nil marked) ∙ accepted.0;
      pass = refl;
      is = ap reached (append-nil marked) ∙ accepted.1;
    };
    deeds = ap deeds (append-nil marked) ∙ filter_map-append (λ (z : Numbered). deed_of z.1) before ((mark, a.Mark) ∷ []) ∙ append-nil (deeds before) ∙ st.deeds;
    sound = st.sound;
    homes = st.homes;
    holds = same_report ids (outcome_of run) m.world m.report (m.report ++ line.Mark mark ∷ []) same_told st.holds;
  }

  last : (then : Moment) × Standing (behind_mark marked) ids (outcome_from (outcome_of run) more) then
  last = goes_on (behind_mark marked) ids more (outcome_of run) there (all_calm marked more calm) standing (first_part ids run more at_first is).1

  pub has_phase : IsPhaseOf ids (run ++ more) before
  has_phase =
      let phase : List Numbered = last.1.came.acts in
      let whole : marked ++ phase ≡ before ++ (mark, a.Mark) ∷ phase = append_assoc before ((mark, a.Mark) ∷ []) phase in
      let up : ascends 0 (before ++ (mark, a.Mark) ∷ phase) ≡ true = ap (ascends 0) (sym whole) ∙ last.1.came.ascend in
      let at : reached (before ++ (mark, a.Mark) ∷ phase) ≡ Some last.0 = ap reached (sym whole) ∙ last.1.came.is in
      record {
        mark = mark;
        phase = phase;
        then = last.0;
        ascend = up;
        stays = last.1.came.pass;
        is_reached = at;
        is = moment_of ids (run ++ more) is (behind_mark marked) last.0 (subst (λ s. Standing (behind_mark marked) ids s last.0) (sym (both_parts run more at_first)) last.1);
        deeds_are = ap deeds (sym whole) ∙ last.1.deeds ∙ ap (λ (s : Several). s.deeds) (sym (both_parts run more at_first));
        delivers = λ law. law before phase mark last.0 up last.1.came.pass at;
        refines = λ law fit. law before phase mark last.0 up last.1.came.pass fit at;
      }

pub runs_have_phases : RunsHavePhases
runs_have_phases ids run more routers is calm =
    let b = begins ids routers.apart (leb-true _ most_routers routers.few) in
    let first = (first_part ids run more at_first is).0 in
    let all = goes_on any_acts ids run at_first b.0 (all_allowed run) b.1.state first in
    (all.1.came.acts, all.1.deeds, (all.0, all.1.came.is, moment_of ids run first any_acts all.0 all.1, λ settled joined. has_phase ids run more is calm all.0 all.1 settled joined))
