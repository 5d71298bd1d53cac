-- What holds at every moment of a script: what is known of its world and of what clients have declared, and that each router came by an act.
use Rattle.std.proofs.Common.{◌≡◌, ℕ, Bool, true, false, cond, List, [], ◌∷◌, ◌++◌, Option, Some, None, refl, sym, ap, ◌∙◌}
use Rattle.std.specs.Prelude.{◌||◌, is_some, unwrap_or, IfSome}
use Rattle.std.specs.List.{AllByRecursion}
use Rattle.std.proofs.lemmas.Bool.{false≢true, or_left, or_right}
use Rattle.std.proofs.lemmas.List.Folds.{list_any-append}
use Rattle.zr_lists.proofs.Options.{not_there}
use Rattle.zr_id.specs.Zid.{is_named}
use Rattle.zr_msg.specs.declared.decl.Kind.{Kind}
use Rattle.zr_msg.specs.declared.decl.Kind.TheVariants as sort
use Rattle.zr_msg.specs.Extras.{no_extras}
use Rattle.zr_msg.specs.declared.msg.Msg.{Msg}
use Rattle.zr_msg.specs.declared.msg.Msg.TheVariants as m
use Rattle.zr_msg.specs.declared.event.Event.{Event}
use Rattle.zr_msg.specs.declared.event.Event.TheVariants.{Down, From}
use Rattle.zr_msg.specs.declared.peer.Role.TheVariants as role
use Rattle.zr_script_spec.specs.declared.command.Act.{Act}
use Rattle.zr_script_spec.specs.declared.command.Act.TheVariants as c
use Rattle.zr_script_spec.specs.Mode.{is_current, is_future}
use Rattle.zr_node_spec.specs.Table.{able_kind}
use Rattle.zr_world_spec.specs.World.{RouterState, WorldState, router_of, with_router, new_router}
use Rattle.zr_world_spec.specs.Acts.{weighing, hearing, having_told, peer_of, up_event, declare_step, undeclare_step, outcome}
use Rattle.zr_world_spec.specs.Moments.{Numbered, Moment, beginning, went, reached}
use Rattle.zr_guarantee.specs.Names.{is_router, brings_router}
use Rattle.zr_world_spec.proofs.Names.{value_new, read_kept}
use Rattle.zr_world_spec.proofs.Cases.{free_name, on_router, on_client, on_link, on_up, on_break, on_down, on_declare, on_undeclare, on_said, on_weighed, on_handle, on_take, on_mark, on_show, for_router, for_client, for_link, for_up, for_break, for_down, for_declare, for_undeclare, Says, Weighs, interest_says, uninterest_says, publish_says, get_says, reply_says, end_says, for_handle, for_take, for_mark, for_show}
use Rattle.zr_law_declared.proofs.Folds.{after_all}
use Rattle.zr_law_declared.proofs.Hearing.{heard_router}
use Rattle.zr_law_declared.proofs.FlowActs.{GoesDeclared, same_declared, goes_declared}

-- ---- the names of routers

-- each router that is there came by an act
abbrev pub Named : List Numbered → Moment → Type 0
Named acts now = (x : List ℕ) → is_some (router_of now.world.routers x) ≡ true → is_router acts x ≡ true

module _ (acts : List Numbered) (now : Moment) (h : Named acts now) where
  -- an act that brings no other router
  same_names : (n : ℕ) (act : Act) (next : Moment) → ((x : List ℕ) → is_some (router_of next.world.routers x) ≡ is_some (router_of now.world.routers x)) → Named (acts ++ (n, act) ∷ []) next
  same_names n act next same x k = list_any-append (λ y. brings_router x y.1) acts ((n, act) ∷ []) ∙ or_left (is_router acts x) (is_router ((n, act) ∷ []) x) (h x (sym (same x) ∙ k))

  -- a router that is another one then
  changed_names : (router : List ℕ) (r r' : RouterState) → router_of now.world.routers router ≡ Some r → (x : List ℕ) →
      is_some (router_of (with_router now.world.routers router r') x) ≡ is_some (router_of now.world.routers x)
  changed_names router r r' er x = read_kept is_some now.world.routers router x r r' er refl

  heard_names : (router : List ℕ) (r : RouterState) (event : Event) → router_of now.world.routers router ≡ Some r → (x : List ℕ) →
      is_some (router_of (with_router (with_router now.world.routers router (hearing r event)) router (having_told r event)) x) ≡ is_some (router_of now.world.routers x)
  heard_names router r event er x = heard_router is_some now.world.routers router x r event ∙ changed_names router r (having_told r event) er x

  abbrev NamedBy : ℕ → Act → Moment → Type 0
  NamedBy n act next = Named (acts ++ (n, act) ∷ []) next

  declares : (n : ℕ) (act : Act) (client : List ℕ) (kind : Kind) (id : ℕ) (key : List ℕ) (msg : Msg) → IfSome (went now (declare_step now.world n client kind id key msg)) (NamedBy n act)
  declares n act client kind id key msg = for_declare now (NamedBy n act) n client kind id key msg
      (λ s es fresh e ee unbroken r er room. same_names n act (on_declare now n client kind id key msg s e r) (changed_names s.router r (weighing r key) er))

  undeclares : (n : ℕ) (act : Act) (client : List ℕ) (kind : Kind) (id : ℕ) (msg : Msg) → IfSome (went now (undeclare_step now.world n client kind id msg)) (NamedBy n act)
  undeclares n act client kind id msg = for_undeclare now (NamedBy n act) n client kind id msg
      (λ s es known e ee unbroken. same_names n act (on_undeclare now n client kind id msg s e) (λ x. refl))

  says : (n : ℕ) (act : Act) (client : List ℕ) (msg : Msg) → Says now (NamedBy n act) n client msg
  says n act client msg s es e ee unbroken clients same = same_names n act (on_said now n client msg s e clients) (λ x. refl)

  weighs : (n : ℕ) (act : Act) (client key : List ℕ) (msg : Msg) → Weighs now (NamedBy n act) n client key msg
  weighs n act client key msg s es e ee unbroken r er room clients same = same_names n act (on_weighed now n client key msg s e r clients) (changed_names s.router r (weighing r key) er)

  router_named : (n : ℕ) (id : List ℕ) → is_some (router_of now.world.routers id) ≡ false → Named (acts ++ (n, c.Router id) ∷ []) (on_router now id)
  router_named n id free x k = list_any-append (λ y. brings_router x y.1) acts ((n, c.Router id) ∷ [])
      ∙ by (is_named x id) refl (sym (ap is_some (value_new now.world.routers id x (new_router id) (not_there (router_of now.world.routers id) free))) ∙ k)
    where
      by : (b : Bool) → is_named x id ≡ b → is_some (cond b (Some (new_router id)) (router_of now.world.routers x)) ≡ true → (is_router acts x || (is_named x id || false)) ≡ true
      by true e k = or_right (is_router acts x) (is_named x id || false) (or_left (is_named x id) false e)
      by false e k = or_left (is_router acts x) (is_named x id || false) (h x k)

  act_named : (n : ℕ) (act : Act) → IfSome (went now (outcome now.world n act)) (NamedBy n act)
  unfolding outcome
  act_named n (c.Router id) = for_router now (NamedBy n (c.Router id)) id (λ free room. router_named n id (free_name now.world id free).0)
  act_named n (c.Client id router) = for_client now (NamedBy n (c.Client id router)) n id router
      (λ r er free room taken. same_names n (c.Client id router) (on_client now n id router r) (heard_names router r (up_event r (record { id = id; role = role.Client; weight = 1 })) er))
  act_named n (c.Link one other weight) = for_link now (NamedBy n (c.Link one other weight)) one other weight (λ apart r er q eq free room. same_names n (c.Link one other weight) (on_link now one other weight) (λ x. refl))
  act_named n (c.Up router name) = for_up now (NamedBy n (c.Up router name)) n router name
      (λ r er there s es unbroken down taken. same_names n (c.Up router name) (on_up now n router name r s) (heard_names router r (up_event r (peer_of now.world name s.weight)) er))
  act_named n (c.Break router name) = for_break now (NamedBy n (c.Break router name)) router name (λ r er there s es unbroken. same_names n (c.Break router name) (on_break now router name) (λ x. refl))
  act_named n (c.Down router name) = for_down now (NamedBy n (c.Down router name)) n router name
      (λ r er there s es up cut l el taken. same_names n (c.Down router name) (on_down now n router name r l) (heard_names router r (Down l) er))
  act_named n (c.Sub client id key) = declares n (c.Sub client id key) client sort.Sub id key (m.Sub id key)
  act_named n (c.Unsub client id) = undeclares n (c.Unsub client id) client sort.Sub id (m.Unsub id)
  act_named n (c.Token client id key) = declares n (c.Token client id key) client sort.Token id key (m.Token id key)
  act_named n (c.Untoken client id) = undeclares n (c.Untoken client id) client sort.Token id (m.Untoken id)
  act_named n (c.Able client id key complete) = declares n (c.Able client id key complete) client (able_kind complete) id key (m.Able id key complete)
  act_named n (c.Unable client id) = undeclares n (c.Unable client id) client sort.Able id (m.Unable id)
  act_named n (c.Interest client id mode kinds key aggregate) =
      let act : Act = c.Interest client id mode kinds key aggregate in
      let msg : Msg = m.Interest id (is_current mode) (is_future mode) kinds key aggregate in
      interest_says now (NamedBy n act) n client id mode kinds key aggregate (says n act client msg) (weighs n act client (unwrap_or key []) msg)
  act_named n (c.Uninterest client id) = uninterest_says now (NamedBy n (c.Uninterest client id)) n client id (says n (c.Uninterest client id) client (m.EndInterest id))
  act_named n (c.Publish client content) = publish_says now (NamedBy n (c.Publish client content)) n client content (says n (c.Publish client content) client (m.Push None content))
  act_named n (c.Get client number target content) =
      get_says now (NamedBy n (c.Get client number target content)) n client number target content (says n (c.Get client number target content) client (m.Request None number target content))
  act_named n (c.Reply client number content) = reply_says now (NamedBy n (c.Reply client number content)) n client number content (says n (c.Reply client number content) client (m.Response number content))
  act_named n (c.End client number) = end_says now (NamedBy n (c.End client number)) n client number (says n (c.End client number) client (m.Final number no_extras))
  act_named n (c.Handle router name) = for_handle now (NamedBy n (c.Handle router name)) router name
      (λ r er there s es up msg tag xs front l el taken. same_names n (c.Handle router name) (on_handle now router name r s l msg tag xs) (heard_names router r (From l msg) er))
  act_named n (c.Take router to) = for_take now (NamedBy n (c.Take router to)) router to
      (λ r er there s es up unbroken msg tag xs front. same_names n (c.Take router to) (on_take now router to s msg tag xs) (λ x. refl))
  act_named n c.Mark = for_mark now (NamedBy n c.Mark) n (λ settled joined. same_names n c.Mark (on_mark now n) (λ x. refl))
  act_named n (c.Show router) = for_show now (NamedBy n (c.Show router)) router (λ r er. same_names n (c.Show router) (on_show now router r) (λ x. refl))

-- ---- all of it

pub record Always (acts : List Numbered) (now : Moment) : Type 0 where
  pub declared : GoesDeclared acts now
  pub named : Named acts now

-- it is said of the world alone
pub same_always : (acts : List Numbered) (now more : Moment) → more.world ≡ now.world → Always acts now → Always acts more
same_always acts now more same h = record {
  declared = same_declared acts now more same h.declared;
  named = λ x k. h.named x (ap (λ (w : WorldState). is_some (router_of w.routers x)) (sym same) ∙ k);
}

begins : Named [] beginning
begins x k = absurd (false≢true k)

-- at the moment that some acts lead to
pub always : (acts : List Numbered) → IfSome (reached acts) (Always acts)
always acts = by (reached acts) (goes_declared acts) (after_all Named (λ x. Unit {0}) (λ done now h x k. act_named done now h x.0 x.1) acts [] (Some beginning) begins (all acts))
  where
    all : (xs : List Numbered) → AllByRecursion (λ x. Unit {0}) xs
    all [] = tt
    all (x ∷ xs) = (tt, all xs)

    by : (o : Option Moment) → IfSome o (GoesDeclared acts) → IfSome o (Named acts) → IfSome o (Always acts)
    by None declared named = tt
    by (Some now) declared named = record { declared = declared; named = named }
