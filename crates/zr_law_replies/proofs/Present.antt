-- Each router that an act brings is there from then on (`present`), and who says anything to requests is a client that is there (`sayers_are_clients`): so no
-- router says anything.
use Rattle.std.proofs.Common.{◌≡◌, ℕ, ◌⊎◌, inl, inr, Bool, true, false, cond, List, [], ◌∷◌, ◌++◌, Option, Some, None, refl, sym, ap, ◌∙◌, subst}
use Rattle.std.specs.Prelude.{◌||◌, is_some, unwrap_or, IfSome}
use Rattle.std.specs.List.{AllByRecursion, cons_option}
use Rattle.std.proofs.lemmas.Bool.{false≢true, or_cases}
use Rattle.std.proofs.lemmas.List.Elements.{filter_map-append}
use Rattle.std.proofs.lemmas.List.Folds.{list_any-append}
use Rattle.std.proofs.lemmas.List.Sums.{fold-append}
use Rattle.zr_id.specs.Zid.{is_named}
use Rattle.zr_msg.specs.declared.decl.Kind.{Kind}
use Rattle.zr_msg.specs.declared.decl.Kind.TheVariants as sort
use Rattle.zr_msg.specs.Extras.{no_extras}
use Rattle.zr_msg.specs.declared.msg.Msg.{Msg}
use Rattle.zr_msg.specs.declared.msg.Msg.TheVariants as m
use Rattle.zr_msg.specs.declared.event.Event.{Event}
use Rattle.zr_msg.specs.declared.event.Event.TheVariants.{Down, From}
use Rattle.zr_msg.specs.declared.peer.Role.TheVariants as role
use Rattle.zr_script_spec.specs.declared.command.Act.{Act}
use Rattle.zr_script_spec.specs.declared.command.Act.TheVariants as c
use Rattle.zr_script_spec.specs.Mode.{is_current, is_future}
use Rattle.zr_node_spec.specs.Table.{able_kind}
use Rattle.zr_lists.proofs.Each.{All-append, All-each}
use Rattle.zr_lists.proofs.Options.{not_there}
use Rattle.zr_world_spec.specs.World.{RouterState, ClientState, router_of, client_of, with_router, new_router}
use Rattle.zr_world_spec.specs.Acts.{weighing, hearing, having_told, peer_of, up_event, declare_step, undeclare_step, outcome}
use Rattle.zr_world_spec.specs.Moments.{Numbered, Moment, beginning, went, onward, reached}
use Rattle.zr_world_spec.proofs.Names.{value_new, read_kept}
use Rattle.zr_world_spec.proofs.Cases.{free_name, on_router, on_client, on_link, on_up, on_break, on_down, on_declare, on_undeclare, on_said, on_weighed, on_handle, on_take, on_mark, on_show, for_router, for_client, for_link, for_up, for_break, for_down, for_declare, for_undeclare, Says, Weighs, interest_says, uninterest_says, publish_says, get_says, reply_says, end_says, for_handle, for_take, for_mark, for_show}
use Rattle.zr_guarantee.specs.Names.{is_router, brings_router}
use Rattle.zr_guarantee.specs.Queries.{Saying, saying_in, sayings}
use Rattle.zr_law_declared.proofs.Hearing.{heard_router}
use Rattle.zr_law_declared.specs.Declared.{home_by, home}
use Rattle.zr_law_declared.proofs.Folds.{after_all, at_some}
use Rattle.zr_law_declared.proofs.FlowActs.{GoesDeclared, goes_declared}
use Rattle.zr_law_declared.proofs.Homes.{router_at}

-- ---- routers

abbrev pub Present : List Numbered → Moment → Type 0
Present acts now = (x : List ℕ) → is_router acts x ≡ true → is_some (router_of now.world.routers x) ≡ true

module _ (acts : List Numbered) (now : Moment) (h : Present acts now) where
  -- an act that brings no router
  same : (n : ℕ) (act : Act) (next : Moment) → ((x : List ℕ) → is_some (router_of next.world.routers x) ≡ is_some (router_of now.world.routers x)) → ((x : List ℕ) → brings_router x act ≡ false) →
      Present (acts ++ (n, act) ∷ []) next
  same n act next routers none x k = routers x ∙ h x (by (or_cases (is_router acts x) (is_router ((n, act) ∷ []) x) (sym (list_any-append (λ y. brings_router x y.1) acts ((n, act) ∷ [])) ∙ k)))
    where
      by : (is_router acts x ≡ true) ⊎ (is_router ((n, act) ∷ []) x ≡ true) → is_router acts x ≡ true
      by (inl e) = e
      by (inr e) = absurd (false≢true (sym (ap (λ b. b || false) (none x)) ∙ e))

  -- a router that is another one then
  changed : (router : List ℕ) (r r' : RouterState) → router_of now.world.routers router ≡ Some r → (x : List ℕ) →
      is_some (router_of (with_router now.world.routers router r') x) ≡ is_some (router_of now.world.routers x)
  changed router r r' er x = read_kept is_some now.world.routers router x r r' er refl

  heard : (router : List ℕ) (r : RouterState) (event : Event) → router_of now.world.routers router ≡ Some r → (x : List ℕ) →
      is_some (router_of (with_router (with_router now.world.routers router (hearing r event)) router (having_told r event)) x) ≡ is_some (router_of now.world.routers x)
  heard router r event er x = heard_router is_some now.world.routers router x r event ∙ changed router r (having_told r event) er x

  abbrev Then : ℕ → Act → Moment → Type 0
  Then n act next = Present (acts ++ (n, act) ∷ []) next

  declares : (n : ℕ) (act : Act) → ((x : List ℕ) → brings_router x act ≡ false) → (client : List ℕ) (kind : Kind) (id : ℕ) (key : List ℕ) (msg : Msg) →
      IfSome (went now (declare_step now.world n client kind id key msg)) (Then n act)
  declares n act none client kind id key msg = for_declare now (Then n act) n client kind id key msg
      (λ s es fresh e ee unbroken r er room. same n act (on_declare now n client kind id key msg s e r) (changed s.router r (weighing r key) er) none)

  undeclares : (n : ℕ) (act : Act) → ((x : List ℕ) → brings_router x act ≡ false) → (client : List ℕ) (kind : Kind) (id : ℕ) (msg : Msg) →
      IfSome (went now (undeclare_step now.world n client kind id msg)) (Then n act)
  undeclares n act none client kind id msg = for_undeclare now (Then n act) n client kind id msg (λ s es known e ee unbroken. same n act (on_undeclare now n client kind id msg s e) (λ x. refl) none)

  says : (n : ℕ) (act : Act) → ((x : List ℕ) → brings_router x act ≡ false) → (client : List ℕ) (msg : Msg) → Says now (Then n act) n client msg
  says n act none client msg s es e ee unbroken clients same_clients = same n act (on_said now n client msg s e clients) (λ x. refl) none

  weighs : (n : ℕ) (act : Act) → ((x : List ℕ) → brings_router x act ≡ false) → (client key : List ℕ) (msg : Msg) → Weighs now (Then n act) n client key msg
  weighs n act none client key msg s es e ee unbroken r er room clients same_clients = same n act (on_weighed now n client key msg s e r clients) (changed s.router r (weighing r key) er) none

  comes : (n : ℕ) (id : List ℕ) → is_some (router_of now.world.routers id) ≡ false → Present (acts ++ (n, c.Router id) ∷ []) (on_router now id)
  comes n id free x k = ap is_some (value_new now.world.routers id x (new_router id) (not_there (router_of now.world.routers id) free))
      ∙ by (is_named x id) (sym (list_any-append (λ y. brings_router x y.1) acts ((n, c.Router id) ∷ [])) ∙ k)
    where
      old : (b : Bool) → (b || (false || false)) ≡ true → b ≡ true
      old true e = refl
      old false e = e

      by : (b : Bool) → (is_router acts x || (b || false)) ≡ true → is_some (cond b (Some (new_router id)) (router_of now.world.routers x)) ≡ true
      by true e = refl
      by false e = h x (old (is_router acts x) e)

  act_present : (n : ℕ) (act : Act) → IfSome (went now (outcome now.world n act)) (Then n act)
  unfolding outcome
  act_present n (c.Router id) = for_router now (Then n (c.Router id)) id (λ free room. comes n id (free_name now.world id free).0)
  act_present n (c.Client id router) = for_client now (Then n (c.Client id router)) n id router
      (λ r er free room taken. same n (c.Client id router) (on_client now n id router r) (heard router r (up_event r (record { id = id; role = role.Client; weight = 1 })) er) (λ x. refl))
  act_present n (c.Link one other weight) = for_link now (Then n (c.Link one other weight)) one other weight (λ apart r er q eq free room. same n (c.Link one other weight) (on_link now one other weight) (λ x. refl) (λ x. refl))
  act_present n (c.Up router name) = for_up now (Then n (c.Up router name)) n router name
      (λ r er there s es unbroken down taken. same n (c.Up router name) (on_up now n router name r s) (heard router r (up_event r (peer_of now.world name s.weight)) er) (λ x. refl))
  act_present n (c.Break router name) = for_break now (Then n (c.Break router name)) router name (λ r er there s es unbroken. same n (c.Break router name) (on_break now router name) (λ x. refl) (λ x. refl))
  act_present n (c.Down router name) = for_down now (Then n (c.Down router name)) n router name
      (λ r er there s es up cut l el taken. same n (c.Down router name) (on_down now n router name r l) (heard router r (Down l) er) (λ x. refl))
  act_present n (c.Sub client id key) = declares n (c.Sub client id key) (λ x. refl) client sort.Sub id key (m.Sub id key)
  act_present n (c.Unsub client id) = undeclares n (c.Unsub client id) (λ x. refl) client sort.Sub id (m.Unsub id)
  act_present n (c.Token client id key) = declares n (c.Token client id key) (λ x. refl) client sort.Token id key (m.Token id key)
  act_present n (c.Untoken client id) = undeclares n (c.Untoken client id) (λ x. refl) client sort.Token id (m.Untoken id)
  act_present n (c.Able client id key complete) = declares n (c.Able client id key complete) (λ x. refl) client (able_kind complete) id key (m.Able id key complete)
  act_present n (c.Unable client id) = undeclares n (c.Unable client id) (λ x. refl) client sort.Able id (m.Unable id)
  act_present n (c.Interest client id mode kinds key aggregate) =
      let act : Act = c.Interest client id mode kinds key aggregate in
      let msg : Msg = m.Interest id (is_current mode) (is_future mode) kinds key aggregate in
      interest_says now (Then n act) n client id mode kinds key aggregate (says n act (λ x. refl) client msg) (weighs n act (λ x. refl) client (unwrap_or key []) msg)
  act_present n (c.Uninterest client id) = uninterest_says now (Then n (c.Uninterest client id)) n client id (says n (c.Uninterest client id) (λ x. refl) client (m.EndInterest id))
  act_present n (c.Publish client content) = publish_says now (Then n (c.Publish client content)) n client content (says n (c.Publish client content) (λ x. refl) client (m.Push None content))
  act_present n (c.Get client number target content) =
      get_says now (Then n (c.Get client number target content)) n client number target content (says n (c.Get client number target content) (λ x. refl) client (m.Request None number target content))
  act_present n (c.Reply client number content) = reply_says now (Then n (c.Reply client number content)) n client number content (says n (c.Reply client number content) (λ x. refl) client (m.Response number content))
  act_present n (c.End client number) = end_says now (Then n (c.End client number)) n client number (says n (c.End client number) (λ x. refl) client (m.Final number no_extras))
  act_present n (c.Handle router name) = for_handle now (Then n (c.Handle router name)) router name
      (λ r er there s es up msg tag xs front l el taken. same n (c.Handle router name) (on_handle now router name r s l msg tag xs) (heard router r (From l msg) er) (λ x. refl))
  act_present n (c.Take router to) = for_take now (Then n (c.Take router to)) router to
      (λ r er there s es up unbroken msg tag xs front. same n (c.Take router to) (on_take now router to s msg tag xs) (λ x. refl) (λ x. refl))
  act_present n c.Mark = for_mark now (Then n c.Mark) n (λ settled joined. same n c.Mark (on_mark now n) (λ x. refl) (λ x. refl))
  act_present n (c.Show router) = for_show now (Then n (c.Show router)) router (λ r er. same n (c.Show router) (on_show now router r) (λ x. refl) (λ x. refl))

any_acts : (xs : List Numbered) → AllByRecursion (λ x. Unit {0}) xs
any_acts [] = tt
any_acts (x ∷ xs) = (tt, any_acts xs)

-- at the moment that some acts lead to
pub present : (acts : List Numbered) → IfSome (reached acts) (Present acts)
present acts = after_all Present (λ x. Unit {0}) (λ done now h x k. act_present done now h x.0 x.1) acts [] (Some beginning) (λ x k. absurd (false≢true k)) (any_acts acts)

-- ---- who says something

-- whoever says something has come by an act
abbrev Sayers : List Numbered → Type 0
Sayers acts = AllByRecursion (λ (s : Saying). is_some (home acts s.client) ≡ true) (sayings acts)

-- a client that has come stays
home_stays : (acts : List Numbered) (x : Numbered) (name : List ℕ) → is_some (home acts name) ≡ true → is_some (home (acts ++ x ∷ []) name) ≡ true
home_stays acts x name h = ap is_some (fold-append (λ (so_far : Option (List ℕ)) (y : Numbered). home_by name so_far y.1) None acts (x ∷ [])) ∙ by x.1
  where
    by : (act : Act) → is_some (home_by name (home acts name) act) ≡ true
    by (c.Router id) = h
    by (c.Client id router) = at (is_named name id)
      where
        at : (b : Bool) → is_some (cond b (Some router) (home acts name)) ≡ true
        at true = refl
        at false = h
    by (c.Link one other weight) = h
    by (c.Up router neighbour) = h
    by (c.Break router neighbour) = h
    by (c.Down router neighbour) = h
    by (c.Sub client id key) = h
    by (c.Unsub client id) = h
    by (c.Token client id key) = h
    by (c.Untoken client id) = h
    by (c.Able client id key complete) = h
    by (c.Unable client id) = h
    by (c.Interest client id mode kinds key aggregate) = h
    by (c.Uninterest client id) = h
    by (c.Publish client content) = h
    by (c.Get client number target content) = h
    by (c.Reply client number content) = h
    by (c.End client number) = h
    by (c.Handle router from) = h
    by (c.Take router to) = h
    by c.Mark = h
    by (c.Show router) = h

module _ (acts : List Numbered) (now : Moment) (g : GoesDeclared acts now) (h : Sayers acts) where
  abbrev Say : ℕ → Act → Moment → Type 0
  Say n act next = Sayers (acts ++ (n, act) ∷ [])

  more : (x : Numbered) → AllByRecursion (λ (s : Saying). is_some (home (acts ++ x ∷ []) s.client) ≡ true) (sayings (x ∷ [])) → Sayers (acts ++ x ∷ [])
  more x new = subst (λ ss. AllByRecursion (λ (s : Saying). is_some (home (acts ++ x ∷ []) s.client) ≡ true) ss) (sym (filter_map-append (λ (y : Numbered). saying_in y.0 y.1) acts (x ∷ [])))
      (All-append (λ (s : Saying). is_some (home (acts ++ x ∷ []) s.client) ≡ true) (sayings acts) (sayings (x ∷ []))
      (All-each (λ (s : Saying). is_some (home acts s.client) ≡ true) (λ (s : Saying). is_some (home (acts ++ x ∷ []) s.client) ≡ true) (sayings acts) (λ s k. home_stays acts x s.client k) h) new)

  none : (n : ℕ) (act : Act) → saying_in n act ≡ None → (o : Option Moment) → IfSome o (Say n act)
  none n act e None = tt
  none n act e (Some next) = more (n, act) (subst (λ o. AllByRecursion (λ (s : Saying). is_some (home (acts ++ (n, act) ∷ []) s.client) ≡ true) (cons_option o [])) (sym e) tt)

  there : (client : List ℕ) (s : ClientState) → client_of now.world.clients client ≡ Some s → is_some (home acts client) ≡ true
  there client s e = ap is_some (g.homed client ∙ ap router_at e)

  act_says : (n : ℕ) (act : Act) → IfSome (went now (outcome now.world n act)) (Say n act)
  unfolding outcome
  act_says n (c.Reply client number content) =
      reply_says now (Say n (c.Reply client number content)) n client number content
      (λ s es e ee unbroken clients same. more (n, c.Reply client number content) (home_stays acts (n, c.Reply client number content) client (there client s es), tt))
  act_says n (c.End client number) =
      end_says now (Say n (c.End client number)) n client number
      (λ s es e ee unbroken clients same. more (n, c.End client number) (home_stays acts (n, c.End client number) client (there client s es), tt))
  act_says n (c.Router id) = none n (c.Router id) refl (went now (outcome now.world n (c.Router id)))
  act_says n (c.Client id router) = none n (c.Client id router) refl (went now (outcome now.world n (c.Client id router)))
  act_says n (c.Link one other weight) = none n (c.Link one other weight) refl (went now (outcome now.world n (c.Link one other weight)))
  act_says n (c.Up router name) = none n (c.Up router name) refl (went now (outcome now.world n (c.Up router name)))
  act_says n (c.Break router name) = none n (c.Break router name) refl (went now (outcome now.world n (c.Break router name)))
  act_says n (c.Down router name) = none n (c.Down router name) refl (went now (outcome now.world n (c.Down router name)))
  act_says n (c.Sub client id key) = none n (c.Sub client id key) refl (went now (outcome now.world n (c.Sub client id key)))
  act_says n (c.Unsub client id) = none n (c.Unsub client id) refl (went now (outcome now.world n (c.Unsub client id)))
  act_says n (c.Token client id key) = none n (c.Token client id key) refl (went now (outcome now.world n (c.Token client id key)))
  act_says n (c.Untoken client id) = none n (c.Untoken client id) refl (went now (outcome now.world n (c.Untoken client id)))
  act_says n (c.Able client id key complete) = none n (c.Able client id key complete) refl (went now (outcome now.world n (c.Able client id key complete)))
  act_says n (c.Unable client id) = none n (c.Unable client id) refl (went now (outcome now.world n (c.Unable client id)))
  act_says n (c.Interest client id mode kinds key aggregate) =
      none n (c.Interest client id mode kinds key aggregate) refl (went now (outcome now.world n (c.Interest client id mode kinds key aggregate)))
  act_says n (c.Uninterest client id) = none n (c.Uninterest client id) refl (went now (outcome now.world n (c.Uninterest client id)))
  act_says n (c.Publish client content) = none n (c.Publish client content) refl (went now (outcome now.world n (c.Publish client content)))
  act_says n (c.Get client number target content) = none n (c.Get client number target content) refl (went now (outcome now.world n (c.Get client number target content)))
  act_says n (c.Handle router name) = none n (c.Handle router name) refl (went now (outcome now.world n (c.Handle router name)))
  act_says n (c.Take router to) = none n (c.Take router to) refl (went now (outcome now.world n (c.Take router to)))
  act_says n c.Mark = none n c.Mark refl (went now (outcome now.world n c.Mark))
  act_says n (c.Show router) = none n (c.Show router) refl (went now (outcome now.world n (c.Show router)))

record Said (done : List Numbered) (now : Moment) : Type 0 where
  leads : reached done ≡ Some now
  sayers : Sayers done

-- who says something is a client that is there
pub sayers_are_clients : (acts : List Numbered) (m : Moment) → reached acts ≡ Some m → AllByRecursion (λ (s : Saying). is_some (client_of m.world.clients s.client) ≡ true) (sayings acts)
sayers_are_clients acts m is =
    All-each (λ (s : Saying). is_some (home acts s.client) ≡ true) (λ (s : Saying). is_some (client_of m.world.clients s.client) ≡ true) (sayings acts) (λ s k. at_home s.client k)
    (at_some (Said acts) (reached acts) m is (after_all Said (λ x. Unit {0}) (λ done now h x k. step done now h x) acts [] (Some beginning) (record { leads = refl; sayers = tt }) (any_acts acts))).sayers
  where
    g : GoesDeclared acts m
    g = at_some (GoesDeclared acts) (reached acts) m is (goes_declared acts)

    at_home : (name : List ℕ) → is_some (home acts name) ≡ true → is_some (client_of m.world.clients name) ≡ true
    at_home name k = by (client_of m.world.clients name) (sym (ap is_some (g.homed name)) ∙ k)
      where
        by : (o : Option ClientState) → is_some (router_at o) ≡ true → is_some o ≡ true
        by None e = absurd (false≢true e)
        by (Some s) e = refl

    step : (done : List Numbered) (now : Moment) → Said done now → (x : Numbered) → IfSome (went now (outcome now.world x.0 x.1)) (Said (done ++ x ∷ []))
    step done now h x = by (went now (outcome now.world x.0 x.1)) refl (act_says done now (at_some (GoesDeclared done) (reached done) now h.leads (goes_declared done)) h.sayers x.0 x.1)
      where
        by : (o : Option Moment) → went now (outcome now.world x.0 x.1) ≡ o → IfSome o (Say done now (at_some (GoesDeclared done) (reached done) now h.leads (goes_declared done)) h.sayers x.0 x.1) →
            IfSome o (Said (done ++ x ∷ []))
        by None e s = tt
        by (Some next) e s = record { leads = fold-append onward (Some beginning) done (x ∷ []) ∙ ap (λ o. onward o x) h.leads ∙ e; sayers = s }
