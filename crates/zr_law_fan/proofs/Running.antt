-- Runs of steps move samples, and in whatever order they are done the same comes of them.
use Rattle.std.proofs.Common.{◌≡◌, ℕ, Bool, true, false, cond, List, [], ◌∷◌, ◌++◌, map, Some, Ok, Err, refl, sym, ap, ◌∙◌, subst, arith}
use Rattle.std.specs.Prelude.{◌&&◌, is_some, IfSome, IfOk}
use Rattle.std.specs.List.{AllByRecursion, list_all}
use Rattle.std.specs.Map.{keys_of}
use Rattle.std.specs.Option.{option_map_or}
use Rattle.std.proofs.lemmas.Bool.{false≢true, and_parts}
use Rattle.zr_script_spec.specs.declared.command.Act.{Act}
use Rattle.zr_script_spec.specs.declared.command.Act.TheVariants as a
use Rattle.zr_script_spec.specs.declared.report.ReportLine.{ReportLine}
use Rattle.zr_orders.specs.Bag.{Moves, Goes}
use Rattle.zr_orders.proofs.Passes.{same_pass, append_pass}
use Rattle.zr_script_spec.specs.Step.{◌>>=◌}
use Rattle.zr_world_spec.specs.World.{EndState, End, Ends, WorldState, is_end, router_of, end_of, turned}
use Rattle.zr_world_spec.specs.Acts.{Outcome, outcome}
use Rattle.zr_world_spec.specs.Next.{Done, all_done}
use Rattle.zr_world_spec.specs.Moments.{Moment, went, is_step}
use Rattle.zr_world_spec.specs.Sound.{IsSound}
use Rattle.zr_world_spec.proofs.Sound.{act_keeps, said_first}
use Rattle.zr_lists.proofs.Elements.{none_both, none_mapped}
use Rattle.zr_law_fan.specs.Samples.{Move, Handling, Taking, can_go, at_end, under_way, sent_at, sends_by, next_moves, bare, emptied, IsSameBut, quieted, IsCalm, msg_of, HasMoved, AreSamples, HaveMoved, RunsMove}
use Rattle.zr_world_spec.specs.Fan.{is_sample}
use Rattle.zr_law_fan.proofs.Moving.{steps_move}
use Rattle.zr_law_fan.proofs.Pushing.{become_samples}

-- ---- a world that is the same but for what waits

pub keys_emptied : (es : Ends) → keys_of (emptied es) ≡ keys_of es
keys_emptied [] = refl
keys_emptied (e ∷ es) = ap (λ l. e.0 ∷ l) (keys_emptied es)

there_emptied : (es : Ends) (q : End) → is_some (end_of (emptied es) q) ≡ is_some (end_of es q)
there_emptied [] q = refl
there_emptied (e ∷ es) q = by (is_end q e.0) (there_emptied es q)
  where
    by : (b : Bool) → is_some (end_of (emptied es) q) ≡ is_some (end_of es q) → is_some (cond b (Some (bare e.1)) (end_of (emptied es) q)) ≡ is_some (cond b (Some e.1) (end_of es q))
    by true ih = refl
    by false ih = ih

module _ (w v : WorldState) (same : IsSameBut w v) where
  pub keys_same : keys_of v.ends ≡ keys_of w.ends
  keys_same = sym (keys_emptied v.ends) ∙ ap keys_of same.ends ∙ keys_emptied w.ends

  pub there_same : (q : End) → is_some (end_of v.ends q) ≡ is_some (end_of w.ends q)
  there_same q = sym (there_emptied v.ends q) ∙ ap (λ es. is_some (end_of es q)) same.ends ∙ there_emptied w.ends q

  each_same : (m : Move) → next_moves v m ≡ next_moves w m
  each_same (Handling e m) = λ i. sent_at (keys_same i) e.0 (sends_by (router_of (same.routers i) e.0) e.1 m.msg) m.tag
  each_same (Taking e m) = ap (λ b. cond b (Handling (turned e) m ∷ []) []) (there_same (turned e))

  next_same : next_moves v ≡ next_moves w
  next_same = λ i m. each_same m i

  pub calm_same : IsCalm w → IsCalm v
  calm_same calm x r found = calm x r (ap (λ rs. router_of rs x) (sym same.routers) ∙ found)

-- ---- flags stay

module _ (w v : WorldState) (same : IsSameBut w v) where
  abbrev flags : (EndState → Bool) → Ends → End → Bool
  flags f es q = option_map_or f (end_of es q) false

  flags_bare : (f : EndState → Bool) → ((s : EndState) → f (bare s) ≡ f s) → (es : Ends) (q : End) → flags f (emptied es) q ≡ flags f es q
  flags_bare f h [] q = refl
  flags_bare f h (e ∷ es) q = by (is_end q e.0) (flags_bare f h es q)
    where
      by : (b : Bool) → flags f (emptied es) q ≡ flags f es q → option_map_or f (cond b (Some (bare e.1)) (end_of (emptied es) q)) false ≡ option_map_or f (cond b (Some e.1) (end_of es q)) false
      by true ih = h e.1
      by false ih = ih

  pub flags_same : (f : EndState → Bool) → ((s : EndState) → f (bare s) ≡ f s) → (q : End) → flags f v.ends q ≡ flags f w.ends q
  flags_same f h q = sym (flags_bare f h v.ends q) ∙ ap (λ es. flags f es q) same.ends ∙ flags_bare f h w.ends q

  pub can_same : (m : Move) → can_go v m ≡ can_go w m
  can_same (Handling e m) = flags_same (λ s. s.up) (λ s. refl) e
  can_same (Taking e m) = flags_same (λ s. s.up && s.unbroken) (λ s. refl) e

  pub all_same : (ms : List Move) → AllByRecursion (λ m. can_go w m ≡ true) ms → AllByRecursion (λ m. can_go v m ≡ true) ms
  all_same [] h = tt
  all_same (m ∷ ms) h = (can_same m ∙ h.0, all_same ms h.1)

same_back : (w v : WorldState) → IsSameBut w v → IsSameBut v w
same_back w v same = record { routers = sym same.routers; clients = sym same.clients; booked = sym same.booked; ends = sym same.ends }

pub same_itself : (w : WorldState) → IsSameBut w w
same_itself w = record { routers = refl; clients = refl; booked = refl; ends = refl }

pub same_twice : (w v u : WorldState) → IsSameBut w v → IsSameBut v u → IsSameBut w u
same_twice w v u a b = record { routers = b.routers ∙ a.routers; clients = b.clients ∙ a.clients; booked = b.booked ∙ a.booked; ends = b.ends ∙ a.ends }

-- ---- one step

abbrev at_start : WorldState → Moment
at_start w = record { world = w; report = [] }

abbrev said : List ReportLine × WorldState → Moment
said x = record { world = x.1; report = x.0 }

of_went : (w : WorldState) (o : Outcome) → IfSome (went (at_start w) o) (HasMoved (at_start w)) → IfOk o (λ x. HasMoved (at_start w) (said x))
of_went w (Ok x) h = h
of_went w (Err e) h = tt

pub one_step : (w : WorldState) → IsSound w → IsCalm w → (line : ℕ) (act : Act) → is_step act ≡ true → IfOk (outcome w line act) (λ x. HasMoved (at_start w) (said x))
one_step w sound calm line (a.Handle x y) ok = of_went w (outcome w line (a.Handle x y)) (steps_move (at_start w) sound calm line x y).0
one_step w sound calm line (a.Take x y) ok = of_went w (outcome w line (a.Take x y)) (steps_move (at_start w) sound calm line x y).1
one_step w sound calm line other ok = absurd (false≢true ok)

-- ---- a run

abbrev test : Move → Bool
test m = is_sample (msg_of m)

-- what a step on a sample leaves
module _ (w : WorldState) (x : List ReportLine × WorldState) (h : HasMoved (at_start w) (said x)) (samples : AreSamples w) where
  now_samples : AllByRecursion (λ m. test m ≡ true) (h.moved ∷ h.among.0)
  now_samples = same_pass test (under_way w.ends) (h.moved ∷ h.among.0) h.among.1 samples

  pub moves : Moves (next_moves w) (under_way w.ends) h.moved (under_way x.1.ends) × IsSameBut w x.1
  moves = h.moves now_samples.0

  pub samples_then : AreSamples x.1
  samples_then = same_pass test (next_moves w h.moved ++ moves.0.0) (under_way x.1.ends) (λ f. sym (moves.0.2 f))
      (append_pass test (next_moves w h.moved) moves.0.0 (become_samples w h.moved now_samples.0) (same_pass test (under_way w.ends) (h.moved ∷ moves.0.0) moves.0.1 samples).1)

-- samples go on in a calm world
pub samples_go : (w : WorldState) → IsSound w → IsCalm w → AreSamples w → (line : ℕ) (act : Act) → is_step act ≡ true → IfOk (outcome w line act) (λ x. IsCalm x.1 × AreSamples x.1)
samples_go w sound calm samples line act step = by (outcome w line act) (one_step w sound calm line act step)
  where
    by : (o : Outcome) → IfOk o (λ x. HasMoved (at_start w) (said x)) → IfOk o (λ x. IsCalm x.1 × AreSamples x.1)
    by (Err e) h = tt
    by (Ok x) h = (calm_same w x.1 (moves w x h samples).1 calm, samples_then w x h samples)

pub runs_move : RunsMove
runs_move w sound calm samples line [] ok = record { moved = []; can = tt; as_many = refl; goes = λ f. refl; lines_are = refl; same = same_itself w }
runs_move w sound calm samples line (act ∷ more) ok =
    let parts = and_parts (is_step act) (list_all is_step more) ok in
    by (outcome w line act) (one_step w sound calm line act parts.0) (act_keeps w line act sound) (λ v s c z. runs_move v s c z line more parts.1)
  where
    by : (o : Outcome) → IfOk o (λ x. HasMoved (at_start w) (said x)) → IfOk o (λ x. IsSound x.1) →
        ((v : WorldState) → IsSound v → IsCalm v → AreSamples v → IfOk (all_done v line more) (λ x. HaveMoved v x.1 x.0 more)) →
        IfOk (o >>= (λ x. all_done x.1 line more >>= said_first x.0)) (λ x. HaveMoved w x.1 x.0 (act ∷ more))
    by (Err e) h k ih = tt
    by (Ok x) h k ih = on (all_done x.1 line more) (ih x.1 k (calm_same w x.1 (moves w x h samples).1 calm) (samples_then w x h samples))
      where
        on : (d : Done) → IfOk d (λ y. HaveMoved x.1 y.1 y.0 more) → IfOk (d >>= said_first x.0) (λ z. HaveMoved w z.1 z.0 (act ∷ more))
        on (Err e) m = tt
        on (Ok y) m = record {
          moved = h.moved ∷ m.moved;
          can = (h.can, all_same x.1 w (same_back w x.1 (moves w x h samples).1) m.moved m.can);
          as_many = let n = m.as_many in omega (arith, n);
          goes = (under_way x.1.ends, (moves w x h samples).0, subst (λ n. Goes n (under_way x.1.ends) m.moved (under_way y.1.ends)) (next_same w x.1 (moves w x h samples).1) m.goes);
          lines_are = λ i. h.report i ++ m.lines_are i;
          same = same_twice w x.1 y.1 (moves w x h samples).1 m.same;
        }

-- ---- nothing is under way

idle : (es : Ends) → under_way es ≡ [] → es ≡ emptied es
idle [] h = refl
idle (e ∷ es) h =
    let one = none_both (at_end e.0 e.1) (under_way es) h in
    let two = none_both (map (λ m. Handling e.0 m) e.1.wire) (map (λ m. Taking e.0 m) e.1.queue) one.0 in
    let wire = none_mapped (λ m. Handling e.0 m) e.1.wire two.0 in
    let queue = none_mapped (λ m. Taking e.0 m) e.1.queue two.1 in
    let rest = idle es one.1 in
    λ i. (e.0, record { up = e.1.up; unbroken = e.1.unbroken; queue = queue i; wire = wire i; weight = e.1.weight }) ∷ rest i

pub world_is : (w v : WorldState) → IsSameBut w v → under_way v.ends ≡ [] → v ≡ quieted w
world_is w v same none =
    let ends = idle v.ends none ∙ same.ends in
    λ i. record { routers = same.routers i; clients = same.clients i; ends = ends i; booked = same.booked i }
