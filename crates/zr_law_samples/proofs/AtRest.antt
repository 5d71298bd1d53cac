-- In a phase no step is possible exactly where nothing is under way: each end with a message on its wire is up, and each with one that is
-- queued is up too and its link unbroken. It follows from what holds of every world (`Orderly`) and from what the mark found
-- settled, which no act of the phase changes (`IsMet`).
use Rattle.std.proofs.Common.{◌≡◌, ℕ, Bool, true, false, cond, List, [], ◌∷◌, ◌++◌, map, Option, Some, None, refl, sym, ap, ◌∙◌, append_assoc}
use Rattle.std.specs.Prelude.{◌&&◌, ◌||◌, not, is_some, is_none, unwrap_or, filter, IfSome}
use Rattle.std.specs.List.{AllByRecursion, fold, list_all, reduce}
use Rattle.std.specs.Map.{values_of}
use Rattle.std.proofs.lemmas.Bool.{false≢true, and_parts, and_from}
use Rattle.std.proofs.lemmas.List.Sums.{fold-append}
use Rattle.zr_msg.specs.declared.msg.Msg.{Msg}
use Rattle.zr_msg.specs.declared.msg.Msg.TheVariants as m
use Rattle.zr_msg.specs.declared.event.Event.TheVariants.{From}
use Rattle.zr_msg.specs.Extras.{no_extras}
use Rattle.zr_script_spec.specs.declared.command.Act.{Act}
use Rattle.zr_script_spec.specs.declared.command.Act.TheVariants as c
use Rattle.zr_script_spec.specs.Mode.{is_current, is_future}
use Rattle.zr_world_spec.specs.World.{EndState, End, Ends, WorldState, turned, end_of, with_wire, with_queue, with_end, sent, is_empty, is_idle, is_quiet}
use Rattle.zr_world_spec.specs.Acts.{weighing, having_told, outcome}
use Rattle.zr_world_spec.specs.Next.{lesser, ends_where, first_where, can_handle, can_take, step_at, next}
use Rattle.zr_world_spec.specs.Moments.{Numbered, Moment, beginning, went, onward, reached}
use Rattle.zr_world_spec.specs.Sound.{IsSound}
use Rattle.zr_guarantee.specs.Phase.{stays, is_phase}
use Rattle.zr_world_spec.proofs.Keyed.{all_found}
use Rattle.zr_world_spec.proofs.Names.{read_kept}
use Rattle.zr_world_spec.proofs.Ends.{end_order, same_end, keep_with_end, keep_changed}
use Rattle.zr_world_spec.proofs.Fits.{up_of}
use Rattle.zr_world_spec.proofs.Lines.{prefix_reached}
use Rattle.zr_world_spec.proofs.Cases.{on_said, on_weighed, on_handle, on_take, Says, Weighs, interest_says, uninterest_says, publish_says, get_says, reply_says, end_says, for_handle, for_take, for_mark, for_show}
use Rattle.zr_law_samples.specs.Runs.{RestIsQuiet}
use Rattle.zr_law_declared.proofs.Folds.{at_some, after_all}
use Rattle.zr_law_declared.proofs.Hearing.{keep_heard, heard_router}
use Rattle.zr_law_settled.proofs.Worlds.{there_in}
use Rattle.zr_law_settled.proofs.Moving.{unbroken_at}
use Rattle.zr_law_settled.proofs.Orderly.{Orderly}
use Rattle.zr_law_settled.proofs.Goes.{Goes, goes_at}
use Rattle.zr_law_settled.proofs.UpEnds.{IsMet, met_settled, receiver_up, taker_up}

-- ---- the next step

-- whether some ends are none
abbrev pub none_of : List End → Bool
none_of [] = true
none_of (e ∷ es) = false

no_first : (es : List End) → is_none (reduce lesser es) ≡ none_of es
no_first [] = refl
no_first (e ∷ es) = refl

no_step : (wire queue : Option End) → is_none (step_at wire queue) ≡ (is_none wire && is_none queue)
no_step (Some e) queue = refl
no_step None (Some e) = refl
no_step None None = refl

-- no end passes a test
no_ends : (es : Ends) (test : EndState → Bool) → none_of (ends_where test es) ≡ list_all (λ s. not (test s)) (values_of es)
no_ends [] test = refl
no_ends (e ∷ es) test = by (test e.1) (no_ends es test)
  where
    by : (b : Bool) → none_of (ends_where test es) ≡ list_all (λ s. not (test s)) (values_of es) →
        none_of (map (λ (x : End × EndState). x.0) (cond b (e ∷ filter (λ x. test x.1) es) (filter (λ x. test x.1) es))) ≡ (not b && list_all (λ s. not (test s)) (values_of es))
    by true ih = refl
    by false ih = ih

-- what waits at an end can go on
abbrev goes_on : EndState → Bool
goes_on s = (is_empty s.wire || s.up) && (is_empty s.queue || (s.up && s.unbroken))

-- where all that waits can go on, nothing can where nothing waits
both : (es : Ends) → list_all (λ x. goes_on x.1) es ≡ true →
    (list_all (λ s. not (can_handle s)) (values_of es) && list_all (λ s. not (can_take s)) (values_of es)) ≡ list_all is_idle (values_of es)
both [] k = refl
both (x ∷ es) k =
    let parts = and_parts (goes_on x.1) (list_all (λ y. goes_on y.1) es) k in
    by (is_empty x.1.wire) (is_empty x.1.queue) x.1.up x.1.unbroken (list_all (λ y. not (can_handle y)) (values_of es)) (list_all (λ y. not (can_take y)) (values_of es))
    (list_all is_idle (values_of es)) parts.0 (both es parts.1)
  where
    by : (a b u v p q f : Bool) → ((a || u) && (b || (u && v))) ≡ true → (p && q) ≡ f → ((not (u && not a) && p) && (not ((u && v) && not b) && q)) ≡ ((a && b) && f)
    by true true true true p q f g h = h
    by true true true false p q f g h = h
    by true true false v p q f g h = h
    by true false true true true q f g h = refl
    by true false true true false q f g h = refl
    by true false true false p q f g h = absurd (false≢true g)
    by true false false v p q f g h = absurd (false≢true g)
    by false b true v p q f g h = refl
    by false b false v p q f g h = absurd (false≢true g)

-- ---- what a mark has found settled

-- the same flags, and the same routers
met_same : (w w' : WorldState) → ((e : End) → up_of (end_of w'.ends e) ≡ up_of (end_of w.ends e)) → ((e : End) → unbroken_at (end_of w'.ends e) ≡ unbroken_at (end_of w.ends e)) →
    ((x : List ℕ) → there_in w' x ≡ there_in w x) → IsMet w → IsMet w'
met_same w w' up unbroken routers h e k =
    let old = h e (sym (up e) ∙ k) in
    (unbroken e ∙ old.0, λ r. up (turned e) ∙ old.1 (sym (routers e.1) ∙ r))

met_says : (now : Moment) → IsMet now.world → (n : ℕ) (client : List ℕ) (msg : Msg) → Says now (λ next. IsMet next.world) n client msg
met_says now h n client msg s es en ee unbroken clients same = met_same now.world (on_said now n client msg s en clients).world
    (λ e. keep_with_end now.world.ends (s.router, client) (sent en msg n) up_of e en ee refl) (λ e. keep_with_end now.world.ends (s.router, client) (sent en msg n) unbroken_at e en ee refl) (λ x. refl) h

met_weighs : (now : Moment) → IsMet now.world → (n : ℕ) (client key : List ℕ) (msg : Msg) → Weighs now (λ next. IsMet next.world) n client key msg
met_weighs now h n client key msg s es en ee unbroken r er room clients same = met_same now.world (on_weighed now n client key msg s en r clients).world
    (λ e. keep_with_end now.world.ends (s.router, client) (sent en msg n) up_of e en ee refl) (λ e. keep_with_end now.world.ends (s.router, client) (sent en msg n) unbroken_at e en ee refl)
    (λ x. read_kept is_some now.world.routers s.router x r (weighing r key) er refl) h

act_met : (now : Moment) → IsMet now.world → (n : ℕ) (act : Act) → stays act ≡ true → IfSome (went now (outcome now.world n act)) (λ next. IsMet next.world)
unfolding outcome
act_met now h n (c.Router id) st = absurd (false≢true st)
act_met now h n (c.Client id router) st = absurd (false≢true st)
act_met now h n (c.Link one other weight) st = absurd (false≢true st)
act_met now h n (c.Up router name) st = absurd (false≢true st)
act_met now h n (c.Break router name) st = absurd (false≢true st)
act_met now h n (c.Down router name) st = absurd (false≢true st)
act_met now h n (c.Sub client id key) st = absurd (false≢true st)
act_met now h n (c.Unsub client id) st = absurd (false≢true st)
act_met now h n (c.Token client id key) st = absurd (false≢true st)
act_met now h n (c.Untoken client id) st = absurd (false≢true st)
act_met now h n (c.Able client id key complete) st = absurd (false≢true st)
act_met now h n (c.Unable client id) st = absurd (false≢true st)
act_met now h n (c.Interest client id mode kinds key aggregate) st =
    let msg : Msg = m.Interest id (is_current mode) (is_future mode) kinds key aggregate in
    interest_says now (λ next. IsMet next.world) n client id mode kinds key aggregate (met_says now h n client msg) (met_weighs now h n client (unwrap_or key []) msg)
act_met now h n (c.Uninterest client id) st = uninterest_says now (λ next. IsMet next.world) n client id (met_says now h n client (m.EndInterest id))
act_met now h n (c.Publish client content) st = publish_says now (λ next. IsMet next.world) n client content (met_says now h n client (m.Push None content))
act_met now h n (c.Get client number target content) st = get_says now (λ next. IsMet next.world) n client number target content (met_says now h n client (m.Request None number target content))
act_met now h n (c.Reply client number content) st = reply_says now (λ next. IsMet next.world) n client number content (met_says now h n client (m.Response number content))
act_met now h n (c.End client number) st = end_says now (λ next. IsMet next.world) n client number (met_says now h n client (m.Final number no_extras))
act_met now h n (c.Handle router from) st = for_handle now (λ next. IsMet next.world) router from
    (λ r er there s es up msg tag xs front l el taken.
    let half : Ends = with_end now.world.ends (router, from) (with_wire s xs) in
    met_same now.world (on_handle now router from r s l msg tag xs).world (λ e. keep_heard half router r (From l msg) tag up_of e (λ z ws. refl) ∙ keep_with_end now.world.ends (router, from) (with_wire s xs) up_of e s es refl)
    (λ e. keep_heard half router r (From l msg) tag unbroken_at e (λ z ws. refl) ∙ keep_with_end now.world.ends (router, from) (with_wire s xs) unbroken_at e s es refl)
    (λ x. heard_router is_some now.world.routers router x r (From l msg) ∙ read_kept is_some now.world.routers router x r (having_told r (From l msg)) er refl) h)
act_met now h n (c.Take router to) st = for_take now (λ next. IsMet next.world) router to
    (λ r er there s es up unbroken msg tag xs front.
    let half : Ends = with_end now.world.ends (router, to) (with_queue s xs) in
    met_same now.world (on_take now router to s msg tag xs).world (λ e. keep_changed half (to, router) (λ z. sent z msg tag) up_of e (λ z. refl) ∙ keep_with_end now.world.ends (router, to) (with_queue s xs) up_of e s es refl)
    (λ e. keep_changed half (to, router) (λ z. sent z msg tag) unbroken_at e (λ z. refl) ∙ keep_with_end now.world.ends (router, to) (with_queue s xs) unbroken_at e s es refl)
    (λ x. refl) h)
act_met now h n c.Mark st = for_mark now (λ next. IsMet next.world) n (λ settled joined. h)
act_met now h n (c.Show router) st = for_show now (λ next. IsMet next.world) router (λ r er. h)

-- ---- all that waits can go on

module _ (w : WorldState) (sound : IsSound w) (orderly : Orderly w) (met : IsMet w) where
  each_goes_on : (e : End) (s : EndState) → end_of w.ends e ≡ Some s → goes_on s ≡ true
  each_goes_on e s found = and_from (is_empty s.wire || s.up) (is_empty s.queue || (s.up && s.unbroken)) (wire (is_empty s.wire) refl) (queue (is_empty s.queue) refl)
    where
      wire : (b : Bool) → is_empty s.wire ≡ b → (b || s.up) ≡ true
      wire true k = refl
      wire false k = receiver_up w sound orderly met e s found k

      queue : (b : Bool) → is_empty s.queue ≡ b → (b || (s.up && s.unbroken)) ≡ true
      queue true k = refl
      queue false k = let t = taker_up w sound orderly met e s found k in and_from s.up s.unbroken t.0 t.1

  pub quiet_at_rest : is_none (next w) ≡ is_quiet w
  quiet_at_rest =
      no_step (first_where can_handle w.ends) (first_where can_take w.ends)
      ∙ ap (λ b. b && is_none (first_where can_take w.ends)) (no_first (ends_where can_handle w.ends) ∙ no_ends w.ends can_handle)
      ∙ ap (λ b. list_all (λ s. not (can_handle s)) (values_of w.ends) && b) (no_first (ends_where can_take w.ends) ∙ no_ends w.ends can_take)
      ∙ both w.ends (all_found end_order same_end (λ x. goes_on x.1) w.ends sound.in_order (λ q x found. each_goes_on q x found))

-- ---- every phase

marked : (mark : ℕ) (o : Option Moment) → IfSome (onward o (mark, c.Mark)) (λ now. IsMet now.world)
unfolding outcome
marked mark None = tt
marked mark (Some now) = for_mark now (λ next. IsMet next.world) mark (λ settled joined. met_settled now.world settled)

pub rest_is_quiet : RestIsQuiet
rest_is_quiet ls before phase rest mark cut st = (m.0, m.1, at_end m.0 m.1)
  where
    m : (m : Moment) × (reached (before ++ (mark, c.Mark) ∷ phase) ≡ Some m)
    m = prefix_reached ls (before ++ (mark, c.Mark) ∷ phase) rest (cut ∙ sym (append_assoc before ((mark, c.Mark) ∷ phase) rest))

    acts : List Numbered
    acts = before ++ (mark, c.Mark) ∷ phase

    at_end : (m : Moment) → reached (before ++ (mark, c.Mark) ∷ phase) ≡ Some m → is_none (next m.world) ≡ is_quiet m.world
    at_end m e = quiet_at_rest m.world holds.sound holds.orderly
        (at_some (λ now. IsMet now.world) (fold onward (onward (reached before) (mark, c.Mark)) phase) m (sym (fold-append onward (Some beginning) before ((mark, c.Mark) ∷ phase)) ∙ e)
        (after_all (λ done now. IsMet now.world) (λ x. stays x.1 ≡ true) (λ done now met x k. act_met now met x.0 x.1 k) phase [] (onward (reached before) (mark, c.Mark)) (marked mark (reached before)) (each phase st)))
      where
        holds : Goes m.world
        holds = at_some (λ now. Goes now.world) (reached acts) m e (goes_at acts)

        each : (xs : List Numbered) → is_phase xs ≡ true → AllByRecursion (λ x. stays x.1 ≡ true) xs
        each [] k = tt
        each (x ∷ xs) k = let parts = and_parts (stays x.1) (is_phase xs) k in (parts.0, each xs parts.1)
