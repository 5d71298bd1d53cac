-- The accepted acts of a script's lines lead to a moment, which is what the run of the lines tells (`lines_are_moments`). A line either
-- leaves the run as it was, but for its number and a refusal, or adds its acts and what its command does (`line_cases`), which is what these acts do, whatever runs asked for before (`is_led`). What they lead to is an
-- induction over them (`acts_lead`), and so is each over lines.
use Rattle.std.proofs.Common.{◌≡◌, ℕ, zero, suc, Bool, true, false, cond, not, List, [], ◌∷◌, ◌++◌, length, map, Option, Some, None, Result, Ok, Err, ◌≤◌, ◌<◌, ◌+◌, refl, sym, ap, ◌∙◌, subst, append_assoc, append-nil, arith, inl, inr}
use Rattle.std.specs.Prelude.{◌&&◌, ◌||◌, ◌⊎◌, nat_lt, nat_le, filter, flat_map, is_some, is_none, IfSome}
use Rattle.std.specs.List.{AllByRecursion, fold, list_all}
use Rattle.std.proofs.lemmas.Bool.{false≢true, and_parts, and_from, or_left, or_right, or_cases, ltb-true, leb-true, lt-ltb, le-leb}
use Rattle.std.proofs.lemmas.Grind.{flat_map-append}
use Rattle.std.proofs.lemmas.List.Concat.{flat_map-cons}
use Rattle.std.proofs.lemmas.List.Sums.{fold-append}
use Rattle.zr_id.specs.Zid.{is_named}
use Rattle.zr_graph.specs.Record.{ids}
use Rattle.zr_graph.specs.Base.{BaseState}
use Rattle.zr_msg.specs.declared.decl.Kind.TheVariants as k
use Rattle.zr_msg.specs.declared.msg.Msg.TheVariants as m
use Rattle.zr_node_spec.specs.Table.{able_kind}
use Rattle.zr_node_spec.specs.State.{NodeState}
use Rattle.zr_script_spec.specs.declared.error.ScriptError.{ScriptError}
use Rattle.zr_script_spec.specs.declared.error.ScriptError.TheVariants.{Limit, NotSamples, NotSettled}
use Rattle.zr_script_spec.specs.declared.command.Act.{Act}
use Rattle.zr_script_spec.specs.declared.command.Act.TheVariants as c
use Rattle.zr_script_spec.specs.declared.command.Command.{Command}
use Rattle.zr_script_spec.specs.declared.command.Command.TheVariants as command
use Rattle.zr_script_spec.specs.declared.report.ReportLine.{ReportLine}
use Rattle.zr_script_spec.specs.declared.report.ReportLine.TheVariants as line
use Rattle.zr_script_spec.specs.declared.report.ReportLine.TheVariants.{Ran}
use Rattle.zr_script_spec.specs.Step.{◌>>=◌}
use Rattle.zr_script_spec.specs.Command.{command_of}
use Rattle.zr_script_spec.specs.Report.{line_text}
use Rattle.zr_world_spec.specs.World.{End, WorldState, with_booked, most_steps, is_settled}
use Rattle.zr_world_spec.specs.Fan.{are_samples, are_many, are_long, most_fan_steps, fanned}
use Rattle.zr_world_spec.specs.Acts.{Outcome, unless, parent_line, source_line, shown_base, shown, outcome}
use Rattle.zr_world_spec.specs.Next.{step_at, can_handle, can_take, first_where, next, world_after, with_more, run_steps, fan_steps, acts, Done, all_done, book_step, run_done, fan_done, fan_step, applied}
use Rattle.zr_world_spec.specs.Run.{Run, start, stepped, commanded, on_line}
use Rattle.zr_world_spec.specs.Moments.{Numbered, is_step, is_later, ascends, Moment, beginning, went, onward, reached}
use Rattle.zr_world_spec.specs.Accepted.{entries, accepted_from, accepted, is_of_act, Tells, Told, IsTold, LinesAreMoments}
use Rattle.zr_world_spec.proofs.Cases.{for_router, for_client, for_link, for_up, for_break, for_down, for_declare, for_undeclare, interest_says, uninterest_says, publish_says, get_says, reply_says, end_says, for_handle, for_take, for_mark, for_show}
use Rattle.zr_lists.proofs.Tests.{all_both, all_mapped}
use Rattle.zr_world_spec.proofs.Counting.{recounted, outcome_recounted, steps_recounted, acts_recounted, done_recounted}

-- ---- a line

-- acts with the number of their line
abbrev pub numbered : ℕ → List Act → List Numbered
numbered n xs = map (λ a. (n, a)) xs

-- the run behind a line whose command was done
abbrev pub behind : Run → List ReportLine × WorldState → Run
behind r x = record { world = x.1; number = r.number + 1; text = r.text ++ flat_map line_text x.0; refusal = None }

-- what one line does to a run, and which acts it adds
line_cases : (r : Run) (line : List ℕ) (P : Run → List Numbered → Type 0) →
    ((r' : Run) → r'.world ≡ r.world → r'.text ≡ r.text → r.number ≤ r'.number → P r' []) →
    ((asked : Command) (x : List ReportLine × WorldState) → applied r.world (r.number + 1) asked ≡ Ok x →
    P (behind r x) (numbered (r.number + 1) (acts r.world (r.number + 1) asked))) →
    P (on_line r line) (entries (on_line r line).refusal (r.number + 1) r.world (command_of line))
line_cases r line P same step = by_refusal r.refusal refl
  where
    n : ℕ
    n = r.number + 1

    by_done : (asked : Command) (o : Done) → applied r.world n asked ≡ o → P (stepped r o) (entries (stepped r o).refusal n r.world (Ok (Some asked)))
    by_done asked (Ok x) e = step asked x e
    by_done asked (Err f) e = same (record { world = r.world; number = n; text = r.text; refusal = Some f }) refl refl (omega arith)

    by_command : (k : Result (Option Command) ScriptError) → P (commanded r k) (entries (commanded r k).refusal n r.world k)
    by_command (Ok (Some asked)) = by_done asked (applied r.world n asked) refl
    by_command (Ok None) = same (record { world = r.world; number = n; text = r.text; refusal = None }) refl refl (omega arith)
    by_command (Err f) = same (record { world = r.world; number = n; text = r.text; refusal = Some f }) refl refl (omega arith)

    by_refusal : (o : Option ScriptError) → r.refusal ≡ o →
        P (cond (is_some o) r (commanded r (command_of line))) (entries (cond (is_some o) r (commanded r (command_of line))).refusal n r.world (command_of line))
    by_refusal None e = by_command (command_of line)
    by_refusal (Some f) e = subst (λ (z : Option ScriptError). P r (entries z n r.world (command_of line))) (sym e) (same r refl refl (omega arith))

-- ---- numbers

-- a run has steps alone
pub all_steps : (line n : ℕ) (w : WorldState) → list_all is_step (run_steps line n w) ≡ true
unfolding run_steps
all_steps line zero w = refl
all_steps line (suc n) w = by (first_where can_handle w.ends) (first_where can_take w.ends) (λ step. all_steps line n (world_after w (outcome w line step)))
  where
    by : (first second : Option End) → ((step : Act) → list_all is_step (run_steps line n (world_after w (outcome w line step))) ≡ true) →
        list_all is_step (with_more (step_at first second) (λ step. run_steps line n (world_after w (outcome w line step)))) ≡ true
    by (Some e) second ih = ih (c.Handle e.0 e.1)
    by None (Some e) ih = ih (c.Take e.0 e.1)
    by None None ih = refl

-- what ascends from a number ascends from a lesser one
ascends_from : (last n : ℕ) (rest : List Numbered) → last ≤ n → ascends n rest ≡ true → ascends last rest ≡ true
ascends_from last n [] le h = refl
ascends_from last n (x ∷ xs) le h =
    let parts = and_parts (is_later n x) (ascends x.0 xs) h in
    and_from (is_later last x) (ascends x.0 xs) (by (or_cases (nat_lt n x.0) (is_step x.1 && nat_le n x.0) parts.0)) parts.1
  where
    by : (nat_lt n x.0 ≡ true) ⊎ ((is_step x.1 && nat_le n x.0) ≡ true) → is_later last x ≡ true
    by (inl k) = let lt : n < x.0 = ltb-true n x.0 k in or_left (nat_lt last x.0) (is_step x.1 && nat_le last x.0) (lt-ltb last x.0 (omega arith))
    by (inr k) =
        let both = and_parts (is_step x.1) (nat_le n x.0) k in
        let most : n ≤ x.0 = leb-true n x.0 both.1 in
        or_right (nat_lt last x.0) (is_step x.1 && nat_le last x.0) (and_from (is_step x.1) (nat_le last x.0) both.0 (le-leb last x.0 (omega arith)))

-- steps of one number
steps_ascend : (last n : ℕ) (more : List Act) (rest : List Numbered) → last ≤ n → list_all is_step more ≡ true → ascends n rest ≡ true → ascends last (numbered n more ++ rest) ≡ true
steps_ascend last n [] rest le all h = ascends_from last n rest le h
steps_ascend last n (a ∷ more) rest le all h =
    let parts = and_parts (is_step a) (list_all is_step more) all in
    and_from (is_later last (n, a)) (ascends n (numbered n more ++ rest))
    (or_right (nat_lt last n) (is_step a && nat_le last n) (and_from (is_step a) (nat_le last n) parts.0 (le-leb last n le)))
    (steps_ascend n n more rest (omega arith) parts.1 h)

-- the acts of a line
acts_ascend : (w : WorldState) (last n : ℕ) (asked : Command) (rest : List Numbered) → last < n → ascends n rest ≡ true → ascends last (numbered n (acts w n asked) ++ rest) ≡ true
acts_ascend w last n (command.Run steps) rest lt h = steps_ascend last n (run_steps n steps w) rest (omega arith) (all_steps n steps w) h
acts_ascend w last n command.Fan rest lt h = steps_ascend last n (fan_steps n w) rest (omega arith) (all_steps n most_fan_steps w) h
acts_ascend w last n (command.Act act) rest lt h = and_from (is_later last (n, act)) (ascends n rest) (or_left (nat_lt last n) (is_step act && nat_le last n) (lt-ltb last n lt)) h

numbers_ascend : (ls : List (List ℕ)) (r : Run) (last : ℕ) → last ≤ r.number → ascends last (accepted_from r ls) ≡ true
numbers_ascend [] r last le = refl
numbers_ascend (l ∷ ls) r last le =
    line_cases r l (λ r' xs. ascends last (xs ++ accepted_from r' ls) ≡ true)
    (λ r' ew et le'. numbers_ascend ls r' last (omega arith))
    (λ asked x e. acts_ascend r.world last (r.number + 1) asked (accepted_from (behind r x) ls) (omega arith) (numbers_ascend ls (behind r x) (r.number + 1) (omega arith)))

-- the first of some ascending acts ascend
pub prefix_ascends : (last : ℕ) (xs ys : List Numbered) → ascends last (xs ++ ys) ≡ true → ascends last xs ≡ true
prefix_ascends last [] ys h = refl
prefix_ascends last (x ∷ xs) ys h =
    let parts = and_parts (is_later last x) (ascends x.0 (xs ++ ys)) h in
    and_from (is_later last x) (ascends x.0 xs) parts.0 (prefix_ascends x.0 xs ys parts.1)

-- ---- moments

-- nothing follows a refused act
pub refused_stays : (xs : List Numbered) → fold onward None xs ≡ None
refused_stays [] = refl
refused_stays (x ∷ xs) = refused_stays xs

-- what holds of the moment that is reached, if one is
pub at_some : (P : Moment → Type 0) (o : Option Moment) (m : Moment) → o ≡ Some m → IfSome o P → P m
at_some P o m e h = subst (λ (z : Option Moment). IfSome z P) e h

-- the moment that some acts make of another: none where one is refused
abbrev pub made : Moment → Done → Option Moment
made m (Ok x) = Some (record { world = x.1; report = m.report ++ x.0 })
made m (Err e) = None

-- what some acts of a line do is the moment that they lead to
pub acts_lead : (more : List Act) (n : ℕ) (m : Moment) → fold onward (Some m) (numbered n more) ≡ made m (all_done m.world n more)
acts_lead [] n m = ap (λ z. Some (record { world = m.world; report = z })) (sym (append-nil m.report))
acts_lead (a ∷ more) n m = by_act (outcome m.world n a) (acts_lead more n)
  where
    by_act : (o : Outcome) → ((m' : Moment) → fold onward (Some m') (numbered n more) ≡ made m' (all_done m'.world n more)) →
        fold onward (went m o) (numbered n more) ≡ made m (o >>= (λ y. all_done y.1 n more >>= (λ z. Ok (y.0 ++ z.0, z.1))))
    by_act (Err e) ih = refused_stays (numbered n more)
    by_act (Ok y) ih = ih (record { world = y.1; report = m.report ++ y.0 }) ∙ by_rest (all_done y.1 n more)
      where
        by_rest : (o : Done) → made (record { world = y.1; report = m.report ++ y.0 }) o ≡ made m (o >>= (λ z. Ok (y.0 ++ z.0, z.1)))
        by_rest (Ok z) = ap (λ t. Some (record { world = z.1; report = t })) (append_assoc m.report y.0 z.0)
        by_rest (Err e) = refl

-- a moment whose report is of acts
abbrev pub IsOfActs : Moment → Type 0
IsOfActs m = list_all is_of_act m.report ≡ true

-- what a router's tables are shown by are lines of an act
base_tells : (b : BaseState) → list_all is_of_act (shown_base b) ≡ true
base_tells b = all_both is_of_act (map (λ r. line.Record r) b.records) (map (λ root. parent_line b root) (filter (λ id. not (is_named id b.me)) (ids b.records)))
    (all_mapped is_of_act (λ r. line.Record r) (λ r. refl) b.records) (all_mapped is_of_act (λ root. parent_line b root) (λ root. refl) (filter (λ id. not (is_named id b.me)) (ids b.records)))

show_tells : (node : NodeState) → list_all is_of_act (shown node) ≡ true
show_tells node = all_both is_of_act (shown_base node.base) (map source_line node.known.logs) (base_tells node.base) (all_mapped is_of_act source_line (λ log. refl) node.known.logs)

-- each act reports lines of an act
act_tells : (now : Moment) → IsOfActs now → (n : ℕ) (act : Act) → IfSome (went now (outcome now.world n act)) IsOfActs
unfolding outcome
act_tells now h n act = by act
  where
    more : (xs : List ReportLine) → list_all is_of_act xs ≡ true → list_all is_of_act (now.report ++ xs) ≡ true
    more xs k = all_both is_of_act now.report xs h k

    by : (act : Act) → IfSome (went now (outcome now.world n act)) IsOfActs
    by (c.Router id) = for_router now IsOfActs id (λ free room. more [] refl)
    by (c.Client id router) = for_client now IsOfActs n id router (λ r er free room taken. more [] refl)
    by (c.Link one other weight) = for_link now IsOfActs one other weight (λ apart r er q eq new room. more [] refl)
    by (c.Up router name) = for_up now IsOfActs n router name (λ r er there s es unbroken down taken. more [] refl)
    by (c.Break router name) = for_break now IsOfActs router name (λ r er there s es unbroken. more [] refl)
    by (c.Down router name) = for_down now IsOfActs n router name (λ r er there s es up cut l el taken. more [] refl)
    by (c.Sub client id key) = for_declare now IsOfActs n client k.Sub id key (m.Sub id key) (λ s es fresh e ee unbroken r er room. more [] refl)
    by (c.Unsub client id) = for_undeclare now IsOfActs n client k.Sub id (m.Unsub id) (λ s es known e ee unbroken. more [] refl)
    by (c.Token client id key) = for_declare now IsOfActs n client k.Token id key (m.Token id key) (λ s es fresh e ee unbroken r er room. more [] refl)
    by (c.Untoken client id) = for_undeclare now IsOfActs n client k.Token id (m.Untoken id) (λ s es known e ee unbroken. more [] refl)
    by (c.Able client id key complete) = for_declare now IsOfActs n client (able_kind complete) id key (m.Able id key complete) (λ s es fresh e ee unbroken r er room. more [] refl)
    by (c.Unable client id) = for_undeclare now IsOfActs n client k.Able id (m.Unable id) (λ s es known e ee unbroken. more [] refl)
    by (c.Interest client id mode kinds key aggregate) =
        interest_says now IsOfActs n client id mode kinds key aggregate (λ s es e ee unbroken clients same. more [] refl) (λ s es e ee unbroken r er room clients same. more [] refl)
    by (c.Uninterest client id) = uninterest_says now IsOfActs n client id (λ s es e ee unbroken clients same. more [] refl)
    by (c.Publish client content) = publish_says now IsOfActs n client content (λ s es e ee unbroken clients same. more [] refl)
    by (c.Get client number target content) = get_says now IsOfActs n client number target content (λ s es e ee unbroken clients same. more [] refl)
    by (c.Reply client number content) = reply_says now IsOfActs n client number content (λ s es e ee unbroken clients same. more [] refl)
    by (c.End client number) = end_says now IsOfActs n client number (λ s es e ee unbroken clients same. more [] refl)
    by (c.Handle router from) = for_handle now IsOfActs router from (λ r er there s es up msg tag xs front l el taken. all_both is_of_act now.report _ h refl)
    by (c.Take router to) = for_take now IsOfActs router to (λ r er there s es up unbroken msg tag xs front. all_both is_of_act now.report _ h refl)
    by c.Mark = for_mark now IsOfActs n (λ settled joined. all_both is_of_act now.report _ h refl)
    by (c.Show router) = for_show now IsOfActs router (λ r er. more (line.Show router ∷ shown r.node) (show_tells r.node))

-- so do any acts
acts_tell : (xs : List Numbered) (o : Option Moment) → IfSome o IsOfActs → IfSome (fold onward o xs) IsOfActs
acts_tell [] o h = h
acts_tell (x ∷ xs) o h = acts_tell xs (onward o x) (by o h)
  where
    by : (o : Option Moment) → IfSome o IsOfActs → IfSome (onward o x) IsOfActs
    by None k = tt
    by (Some now) k = act_tells now k x.0 x.1

-- ---- what is told

-- a report line that tells itself
abbrev itself : ReportLine → ReportLine × List ReportLine
itself l = (l, l ∷ [])

tells_itself : (l : ReportLine) → is_of_act l ≡ true → Tells l (l ∷ [])
tells_itself (line.Handled router from msg tag) h = refl
tells_itself (line.Taken router to msg tag) h = refl
tells_itself (line.Ran steps quiet) h = absurd (false≢true h)
tells_itself (line.Fanned lines steps kinds) h = absurd (false≢true h)
tells_itself (line.Mark n) h = refl
tells_itself (line.Show router) h = refl
tells_itself (line.Record links) h = refl
tells_itself (line.Parent root parent) h = refl
tells_itself (line.Source source number decls) h = refl

abbrev AllTell : Told → Type 0
AllTell told = AllByRecursion (λ t. Tells t.0 t.1) told

all_themselves : (xs : List ReportLine) → list_all is_of_act xs ≡ true → AllTell (map itself xs)
all_themselves [] h = tt
all_themselves (x ∷ xs) h = let parts = and_parts (is_of_act x) (list_all is_of_act xs) h in (tells_itself x parts.0, all_themselves xs parts.1)

all_tell : (xs ys : Told) → AllTell xs → AllTell ys → AllTell (xs ++ ys)
all_tell [] ys a b = b
all_tell (x ∷ xs) ys a b = (a.0, all_tell xs ys a.1 b)

abbrev texts : Told → List ℕ
texts told = flat_map (λ t. line_text t.0) told

abbrev sayings : Told → List ReportLine
sayings told = flat_map (λ t. t.1) told

texts_both : (xs ys : Told) → texts (xs ++ ys) ≡ texts xs ++ texts ys
texts_both xs ys = flat_map-append (λ t. line_text t.0) xs ys

sayings_both : (xs ys : Told) → sayings (xs ++ ys) ≡ sayings xs ++ sayings ys
sayings_both xs ys = flat_map-append (λ t. t.1) xs ys

texts_themselves : (xs : List ReportLine) → flat_map line_text xs ≡ texts (map itself xs)
texts_themselves [] = refl
texts_themselves (x ∷ xs) =
    flat_map-cons line_text x xs ∙ ap (λ z. line_text x ++ z) (texts_themselves xs)
    ∙ sym (flat_map-cons (λ (t : ReportLine × List ReportLine). line_text t.0) (itself x) (map itself xs))

one_text : (l : ReportLine) (said : List ReportLine) → flat_map line_text (l ∷ []) ≡ texts ((l, said) ∷ [])
one_text l said = flat_map-cons line_text l [] ∙ sym (flat_map-cons (λ (t : ReportLine × List ReportLine). line_text t.0) (l, said) [])

one_saying : (l : ReportLine) (said : List ReportLine) → sayings ((l, said) ∷ []) ≡ said
one_saying l said = flat_map-cons (λ (t : ReportLine × List ReportLine). t.1) (l, said) [] ∙ append-nil said

sayings_themselves : (xs : List ReportLine) → sayings (map itself xs) ≡ xs
sayings_themselves [] = refl
sayings_themselves (x ∷ xs) = flat_map-cons (λ (t : ReportLine × List ReportLine). t.1) (itself x) (map itself xs) ∙ ap (λ z. x ∷ z) (sayings_themselves xs)

-- what a fan does that is not refused, in a world with any count of steps, is what its steps do
pub fan_led : (w : WorldState) (booked n : ℕ) (x : List ReportLine × WorldState) → fan_step (with_booked w booked) n ≡ Ok x →
    (y : List ReportLine × WorldState) × (all_done w n (fan_steps n w) ≡ Ok y) × (x ≡ (fanned y.1.routers y.0 ∷ [], with_booked y.1 booked))
unfolding fan_step fan_done
fan_led w booked n x h = by (not (is_settled w)) (not (are_samples w)) (are_many w || are_long w) h
  where
    v : WorldState
    v = with_booked w booked

    tells : List ReportLine × WorldState → Done
    tells y = Ok (fanned y.1.routers y.0 ∷ [], y.1)

    steps_are : all_done v n (fan_steps n v) ≡ recounted booked (all_done w n (fan_steps n w))
    steps_are = ap (all_done v n) (steps_recounted n most_fan_steps w booked) ∙ done_recounted n (fan_steps n w) w booked

    by_steps : (d : Done) → all_done w n (fan_steps n w) ≡ d → (recounted booked d >>= tells) ≡ Ok x →
        (y : List ReportLine × WorldState) × (all_done w n (fan_steps n w) ≡ Ok y) × (x ≡ (fanned y.1.routers y.0 ∷ [], with_booked y.1 booked))
    by_steps (Err e) eq k = absurd (cc)
    by_steps (Ok y) eq k = (y, eq, let same : (fanned y.1.routers y.0 ∷ [], with_booked y.1 booked) ≡ x = cc in sym same)

    by : (a b c : Bool) → (unless a NotSettled >>= (λ s. unless b NotSamples >>= (λ t. unless c Limit >>= (λ u. fan_done n v)))) ≡ Ok x →
        (y : List ReportLine × WorldState) × (all_done w n (fan_steps n w) ≡ Ok y) × (x ≡ (fanned y.1.routers y.0 ∷ [], with_booked y.1 booked))
    by true b c k = absurd (cc)
    by false true c k = absurd (cc)
    by false false true k = absurd (cc)
    by false false false k = by_steps (all_done w n (fan_steps n w)) refl (ap (λ (d : Done). d >>= tells) (sym steps_are) ∙ k)

-- What the command of a line does is what its acts do, in a world with any count of steps; and its report lines tell what these reported.
record IsLed (w : WorldState) (n : ℕ) (asked : Command) (x : List ReportLine × WorldState) : Type 0 where
  said : List ReportLine
  after : WorldState
  is_done : all_done w n (acts w n asked) ≡ Ok (said, after)
  world_is : x.1 ≡ with_booked after x.1.booked
  told : Told
  each : list_all is_of_act said ≡ true → AllTell told
  text_is : flat_map line_text x.0 ≡ texts told
  said_is : sayings told ≡ said

is_led : (w : WorldState) (booked n : ℕ) (asked : Command) (x : List ReportLine × WorldState) → applied (with_booked w booked) n asked ≡ Ok x → IsLed w n asked x
unfolding applied run_done book_step
is_led w booked n (command.Act act) x h = by (outcome w n act) refl (sym (outcome_recounted w booked n act) ∙ h)
  where
    by : (o : Outcome) → outcome w n act ≡ o → recounted booked o ≡ Ok x → IsLed w n (command.Act act) x
    by (Err e) eq k = absurd (cc)
    by (Ok y) eq k =
        let same : (y.0, with_booked y.1 booked) ≡ x = cc in
        subst (λ (z : List ReportLine × WorldState). IsLed w n (command.Act act) z) same (record {
          said = y.0 ++ [];
          after = y.1;
          is_done = ap (λ (o : Outcome). o >>= (λ z. all_done z.1 n [] >>= (λ t. Ok (z.0 ++ t.0, t.1)))) eq;
          world_is = refl;
          told = map itself y.0;
          each = λ of. all_themselves y.0 (ap (list_all is_of_act) (sym (append-nil y.0)) ∙ of);
          text_is = texts_themselves y.0;
          said_is = sayings_themselves y.0 ∙ sym (append-nil y.0);
        })
is_led w booked n (command.Run steps) x h = by_room (nat_le (booked + steps) most_steps) h
  where
    counted : WorldState
    counted = with_booked w (booked + steps)

    end : WorldState → ReportLine
    end v = Ran (length (run_steps n steps counted)) (is_none (next v))

    by_room : (b : Bool) → (cond b (Ok counted) (Err Limit) >>= run_done n steps) ≡ Ok x → IsLed w n (command.Run steps) x
    by_room false k = absurd (cc)
    by_room true k = by_steps (all_done w n (run_steps n steps w)) refl (ap (λ (d : Done). d >>= (λ y. Ok (y.0 ++ end y.1 ∷ [], y.1))) (sym steps_are) ∙ k)
      where
        steps_are : all_done counted n (run_steps n steps counted) ≡ recounted (booked + steps) (all_done w n (run_steps n steps w))
        steps_are = ap (all_done counted n) (steps_recounted n steps w (booked + steps)) ∙ done_recounted n (run_steps n steps w) w (booked + steps)

        by_steps : (d : Done) → all_done w n (run_steps n steps w) ≡ d → (recounted (booked + steps) d >>= (λ y. Ok (y.0 ++ end y.1 ∷ [], y.1))) ≡ Ok x → IsLed w n (command.Run steps) x
        by_steps (Err e) eq k = absurd (cc)
        by_steps (Ok y) eq k =
            let same : (y.0 ++ end (with_booked y.1 (booked + steps)) ∷ [], with_booked y.1 (booked + steps)) ≡ x = cc in
            subst (λ (z : List ReportLine × WorldState). IsLed w n (command.Run steps) z) same (record {
              said = y.0;
              after = y.1;
              is_done = eq;
              world_is = refl;
              told = map itself y.0 ++ (end (with_booked y.1 (booked + steps)), []) ∷ [];
              each = λ of. all_tell (map itself y.0) _ (all_themselves y.0 of) (refl, tt);
              text_is =
                  flat_map-append line_text y.0 (end (with_booked y.1 (booked + steps)) ∷ [])
                  ∙ (λ i. texts_themselves y.0 i ++ one_text (end (with_booked y.1 (booked + steps))) [] i)
                  ∙ sym (texts_both (map itself y.0) ((end (with_booked y.1 (booked + steps)), []) ∷ []));
              said_is =
                  sayings_both (map itself y.0) ((end (with_booked y.1 (booked + steps)), []) ∷ [])
                  ∙ (λ i. sayings_themselves y.0 i ++ one_saying (end (with_booked y.1 (booked + steps))) [] i) ∙ append-nil y.0;
            })
is_led w booked n command.Fan x h =
    let led = fan_led w booked n x h in
    subst (λ (z : List ReportLine × WorldState). IsLed w n command.Fan z) (sym led.2) (record {
      said = led.0.0;
      after = led.0.1;
      is_done = led.1;
      world_is = refl;
      told = (fanned led.0.1.routers led.0.0, led.0.0) ∷ [];
      each = λ of. ((refl, refl), tt);
      text_is = one_text (fanned led.0.1.routers led.0.0) led.0.0;
      said_is = one_saying (fanned led.0.1.routers led.0.0) led.0.0;
    })

-- the moment behind a line is told by the run behind it
line_told : (r : Run) (m : Moment) (asked : Command) (x : List ReportLine × WorldState) → (h : IsTold r m) → (led : IsLed m.world (r.number + 1) asked x) →
    list_all is_of_act led.said ≡ true → IsTold (behind r x) (record { world = led.after; report = m.report ++ led.said })
line_told r m asked x h led steps = record {
  world_is = led.world_is;
  told = h.told ++ led.told;
  each = all_tell h.told led.told h.each (led.each steps);
  text_is = ap (λ z. z ++ flat_map line_text x.0) h.text_is ∙ ap (λ z. texts h.told ++ z) led.text_is ∙ sym (texts_both h.told led.told);
  report_is = ap (λ z. z ++ led.said) h.report_is ∙ ap (λ z. sayings h.told ++ z) (sym led.said_is) ∙ sym (sayings_both h.told led.told);
}

-- from a moment that a run tells, the run of more lines tells the moment that their accepted acts lead to
lines_lead : (ls : List (List ℕ)) (r : Run) (m : Moment) → IsTold r m →
    (m' : Moment) × (fold onward (Some m) (accepted_from r ls) ≡ Some m') × IsTold (fold on_line r ls) m'
lines_lead [] r m h = (m, refl, h)
lines_lead (l ∷ ls) r m h =
    line_cases r l (λ r' xs. (m' : Moment) × (fold onward (Some m) (xs ++ accepted_from r' ls) ≡ Some m') × IsTold (fold on_line r' ls) m')
    (λ r' ew et le. lines_lead ls r' m (record { world_is = ew ∙ h.world_is ∙ ap (λ w. with_booked m.world w.booked) (sym ew); told = h.told; each = h.each; text_is = et ∙ h.text_is; report_is = h.report_is }))
    (λ asked x e. by asked x e (lines_lead ls))
  where
    by : (asked : Command) (x : List ReportLine × WorldState) → applied r.world (r.number + 1) asked ≡ Ok x →
        ((q : Run) (k : Moment) → IsTold q k → (m' : Moment) × (fold onward (Some k) (accepted_from q ls) ≡ Some m') × IsTold (fold on_line q ls) m') →
        (m' : Moment) × (fold onward (Some m) (numbered (r.number + 1) (acts r.world (r.number + 1) asked) ++ accepted_from (behind r x) ls) ≡ Some m')
        × IsTold (fold on_line (behind r x) ls) m'
    by asked x e ih =
        let rest = ih (behind r x) after (line_told r m asked x h led steps) in
        (rest.0, fold-append onward (Some m) its_acts (accepted_from (behind r x) ls) ∙ ap (λ o. fold onward o (accepted_from (behind r x) ls)) leads ∙ rest.1, rest.2)
      where
        its_acts : List Numbered
        its_acts = numbered (r.number + 1) (acts r.world (r.number + 1) asked)

        led : IsLed m.world (r.number + 1) asked x
        led = is_led m.world r.world.booked (r.number + 1) asked x (ap (λ w. applied w (r.number + 1) asked) (sym h.world_is) ∙ e)

        after : Moment
        after = record { world = led.after; report = m.report ++ led.said }

        leads : fold onward (Some m) its_acts ≡ Some after
        leads = ap (λ several. fold onward (Some m) (numbered (r.number + 1) several))
            (ap (λ w. acts w (r.number + 1) asked) h.world_is ∙ acts_recounted m.world r.world.booked (r.number + 1) asked)
            ∙ acts_lead (acts m.world (r.number + 1) asked) (r.number + 1) m ∙ ap (made m) led.is_done

        -- the same without what was reported before
        bare : Moment
        bare = record { world = m.world; report = [] }

        leads_bare : fold onward (Some bare) its_acts ≡ Some (record { world = led.after; report = led.said })
        leads_bare = ap (λ several. fold onward (Some bare) (numbered (r.number + 1) several))
            (ap (λ w. acts w (r.number + 1) asked) h.world_is ∙ acts_recounted m.world r.world.booked (r.number + 1) asked)
            ∙ acts_lead (acts m.world (r.number + 1) asked) (r.number + 1) bare ∙ ap (made bare) led.is_done

        steps : list_all is_of_act led.said ≡ true
        steps = at_some IsOfActs (fold onward (Some bare) its_acts) (record { world = led.after; report = led.said }) leads_bare (acts_tell its_acts (Some bare) refl)

pub lines_are_moments : LinesAreMoments
lines_are_moments ls =
    let leads = lines_lead ls start beginning (record { world_is = refl; told = []; each = tt; text_is = refl; report_is = refl }) in
    (numbers_ascend ls start 0 (omega arith), (leads.0, record { is_reached = leads.1; is_told = leads.2 }))

-- the first of some lines' acts lead to a moment
pub prefix_reached : (ls : List (List ℕ)) (before rest : List Numbered) → accepted ls ≡ before ++ rest → (m : Moment) × (reached before ≡ Some m)
prefix_reached ls before rest cut = by_moment (reached before) refl
  where
    goes_on : fold onward (reached before) rest ≡ Some (lines_are_moments ls).1.0
    goes_on = sym (fold-append onward (Some beginning) before rest) ∙ ap reached (sym cut) ∙ (lines_are_moments ls).1.1.is_reached

    by_moment : (o : Option Moment) → reached before ≡ o → (m : Moment) × (reached before ≡ Some m)
    by_moment None e = absurd (false≢true (ap is_some (sym (ap (λ z. fold onward z rest) e ∙ refused_stays rest) ∙ goes_on)))
    by_moment (Some m) e = (m, e)
