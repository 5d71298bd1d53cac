-- What acts of a phase leave as it is: the tables of routers but for live interests, whose client each client is, and which links are up and unbroken (`is_still`).
use Rattle.std.proofs.Common.{◌≡◌, ℕ, Bool, true, false, List, [], ◌∷◌, Option, Some, None, refl, sym, ap, ◌∙◌}
use Rattle.std.specs.Prelude.{unwrap_or, IfSome}
use Rattle.std.specs.List.{AllByRecursion, fold}
use Rattle.std.specs.Option.{option_map, option_map_or}
use Rattle.std.proofs.lemmas.Bool.{false≢true, and_parts}
use Rattle.zr_msg.specs.declared.msg.Msg.{Msg}
use Rattle.zr_msg.specs.declared.msg.Msg.TheVariants as m
use Rattle.zr_msg.specs.declared.event.Event.TheVariants.{From}
use Rattle.zr_msg.specs.Extras.{no_extras}
use Rattle.zr_script_spec.specs.declared.command.Act.{Act}
use Rattle.zr_script_spec.specs.declared.command.Act.TheVariants as c
use Rattle.zr_script_spec.specs.Mode.{is_current, is_future}
use Rattle.zr_world_spec.specs.World.{EndState, End, Ends, RouterState, ClientState, router_of, client_of, end_of, sent, with_end, with_wire, with_queue}
use Rattle.zr_world_spec.specs.Acts.{outcome}
use Rattle.zr_world_spec.specs.Moments.{Numbered, Moment, went, onward}
use Rattle.zr_world_spec.proofs.Clients.{idle_client}
use Rattle.zr_world_spec.proofs.Ends.{keep_with_end, keep_changed}
use Rattle.zr_world_spec.proofs.Cases.{Says, Weighs, interest_says, uninterest_says, publish_says, get_says, reply_says, end_says, for_handle, for_take, for_mark, for_show}
use Rattle.zr_guarantee.specs.Phase.{stays, is_phase}
use Rattle.zr_law_declared.proofs.Folds.{after_all}
use Rattle.zr_law_declared.proofs.Hearing.{keep_heard}
use Rattle.zr_law_samples.proofs.Pair.{Pair, idle_router, Flows}
use Rattle.zr_law_replies.specs.Stands.{lasting, IsStill}

-- ---- ends

-- whether an end is up, and whether its link is unbroken
abbrev pub shape : EndState → Bool × Bool
shape s = (s.up, s.unbroken)

abbrev pub SameEnds : Ends → Ends → Type 0
SameEnds es es' = (e : End) → option_map shape (end_of es' e) ≡ option_map shape (end_of es e)

module _ (es : Ends) where
  abbrev Still : Moment → Type 0
  Still next = SameEnds es next.world.ends

  module _ (now : Moment) (h : SameEnds es now.world.ends) where
    says : (n : ℕ) (client : List ℕ) (msg : Msg) → Says now Still n client msg
    says n client msg s found e at unbroken clients same q = keep_with_end now.world.ends (s.router, client) (sent e msg n) (option_map shape) q e at refl ∙ h q

    weighs : (n : ℕ) (client key : List ℕ) (msg : Msg) → Weighs now Still n client key msg
    weighs n client key msg s found e at unbroken r there room clients same q = keep_with_end now.world.ends (s.router, client) (sent e msg n) (option_map shape) q e at refl ∙ h q

    pub act_ends : (n : ℕ) (act : Act) → stays act ≡ true → IfSome (went now (outcome now.world n act)) Still
    unfolding outcome
    act_ends n (c.Router id) st = absurd (false≢true st)
    act_ends n (c.Client id router) st = absurd (false≢true st)
    act_ends n (c.Link one other weight) st = absurd (false≢true st)
    act_ends n (c.Up router name) st = absurd (false≢true st)
    act_ends n (c.Break router name) st = absurd (false≢true st)
    act_ends n (c.Down router name) st = absurd (false≢true st)
    act_ends n (c.Sub client id key) st = absurd (false≢true st)
    act_ends n (c.Unsub client id) st = absurd (false≢true st)
    act_ends n (c.Token client id key) st = absurd (false≢true st)
    act_ends n (c.Untoken client id) st = absurd (false≢true st)
    act_ends n (c.Able client id key complete) st = absurd (false≢true st)
    act_ends n (c.Unable client id) st = absurd (false≢true st)
    act_ends n (c.Interest client id mode kinds key aggregate) st =
        let msg : Msg = m.Interest id (is_current mode) (is_future mode) kinds key aggregate in
        interest_says now Still n client id mode kinds key aggregate (says n client msg) (weighs n client (unwrap_or key []) msg)
    act_ends n (c.Uninterest client id) st = uninterest_says now Still n client id (says n client (m.EndInterest id))
    act_ends n (c.Publish client content) st = publish_says now Still n client content (says n client (m.Push None content))
    act_ends n (c.Get client number target content) st = get_says now Still n client number target content (says n client (m.Request None number target content))
    act_ends n (c.Reply client number content) st = reply_says now Still n client number content (says n client (m.Response number content))
    act_ends n (c.End client number) st = end_says now Still n client number (says n client (m.Final number no_extras))
    act_ends n (c.Handle router name) st = for_handle now Still router name (λ r er there s at up msg tag xs front l el taken q.
        keep_heard (with_end now.world.ends (router, name) (with_wire s xs)) router r (From l msg) tag (option_map shape) q (λ z ws. refl)
        ∙ keep_with_end now.world.ends (router, name) (with_wire s xs) (option_map shape) q s at refl ∙ h q)
    act_ends n (c.Take router to) st = for_take now Still router to (λ r er there s at up unbroken msg tag xs front q.
        keep_changed (with_end now.world.ends (router, to) (with_queue s xs)) (to, router) (λ z. sent z msg tag) (option_map shape) q (λ z. refl)
        ∙ keep_with_end now.world.ends (router, to) (with_queue s xs) (option_map shape) q s at refl ∙ h q)
    act_ends n c.Mark st = for_mark now Still n (λ settled joined. h)
    act_ends n (c.Show router) st = for_show now Still router (λ r er. h)

  pub phase_ends : (phase : List Numbered) (o : Option Moment) → IfSome o Still → is_phase phase ≡ true → IfSome (fold onward o phase) Still
  phase_ends phase o h st = after_all (λ done now. Still now) (λ x. stays x.1 ≡ true) (λ done now k x s. act_ends now k x.0 x.1 s) phase [] o h (each phase st)
    where
      each : (xs : List Numbered) → is_phase xs ≡ true → AllByRecursion (λ x. stays x.1 ≡ true) xs
      each [] k = tt
      each (x ∷ xs) k = let parts = and_parts (stays x.1) (is_phase xs) k in (parts.0, each xs parts.1)

-- ---- all of it

module _ (p : Pair) (done : List Numbered) (now : Moment) (flows : Flows p done now) (ends : SameEnds p.world.ends now.world.ends) where
  reads_ends : {Y : Type 0} (f : Option (Bool × Bool) → Y) (e : End) → f (option_map shape (end_of now.world.ends e)) ≡ f (option_map shape (end_of p.world.ends e))
  reads_ends f e = ap f (ends e)

  pub is_still : IsStill p.world now.world
  is_still = record {
    tables = λ x. by_tables (router_of now.world.routers x) ∙ ap (option_map (λ (r : RouterState). lasting r.node)) (flows.routers x) ∙ sym (by_tables (router_of p.world.routers x));
    homes = λ q. by_home (client_of now.world.clients q) ∙ ap (option_map (λ (s : ClientState). s.router)) (flows.clients.each q) ∙ sym (by_home (client_of p.world.clients q));
    ups = λ e. by_up (end_of now.world.ends e) ∙ reads_ends (λ o. option_map_or (λ (z : Bool × Bool). z.0) o false) e ∙ sym (by_up (end_of p.world.ends e));
    unbroken = λ e. by_unbroken (end_of now.world.ends e) ∙ reads_ends (λ o. option_map_or (λ (z : Bool × Bool). z.1) o false) e ∙ sym (by_unbroken (end_of p.world.ends e));
  }
    where
      by_tables : (o : Option RouterState) → option_map (λ r. lasting r.node) o ≡ option_map (λ r. lasting r.node) (option_map idle_router o)
      by_tables None = refl
      by_tables (Some r) = refl

      by_home : (o : Option ClientState) → option_map (λ s. s.router) o ≡ option_map (λ s. s.router) (option_map idle_client o)
      by_home None = refl
      by_home (Some s) = refl

      by_up : (o : Option EndState) → option_map_or (λ s. s.up) o false ≡ option_map_or (λ (z : Bool × Bool). z.0) (option_map shape o) false
      by_up None = refl
      by_up (Some s) = refl

      by_unbroken : (o : Option EndState) → option_map_or (λ s. s.unbroken) o false ≡ option_map_or (λ (z : Bool × Bool). z.1) (option_map shape o) false
      by_unbroken None = refl
      by_unbroken (Some s) = refl
