-- In a phase nobody publishes who is no client, and nothing is sent to a name to which no router's end is up.
use Rattle.std.proofs.Common.{◌≡◌, ℕ, Bool, true, false, cond, List, [], ◌∷◌, ◌++◌, Option, Some, None, refl, sym, ap, ◌∙◌, append-nil}
use Rattle.std.specs.Prelude.{◌==◌, ◌&&◌, ◌||◌, not, filter, is_some, unwrap_or, IfSome}
use Rattle.std.specs.List.{AllByRecursion, fold, list_all}
use Rattle.std.specs.Option.{option_map_or}
use Rattle.std.proofs.lemmas.Bool.{false≢true, true≢false, and_parts, and_from, and_right, not_from_false}
use Rattle.zr_id.specs.Zid.{is_named}
use Rattle.zr_msg.specs.Extras.{no_extras}
use Rattle.zr_msg.specs.declared.msg.Msg.{Msg}
use Rattle.zr_msg.specs.declared.msg.Msg.TheVariants as m
use Rattle.zr_msg.specs.declared.event.Event.TheVariants.{From}
use Rattle.zr_script_spec.specs.declared.command.Act.{Act}
use Rattle.zr_script_spec.specs.declared.command.Act.TheVariants as c
use Rattle.zr_script_spec.specs.Mode.{is_current, is_future}
use Rattle.zr_script_spec.specs.declared.report.ReportLine.{ReportLine}
use Rattle.zr_script_spec.specs.declared.report.ReportLine.TheVariants as line
use Rattle.zr_world_spec.specs.World.{End, Clients, ClientState, client_of, end_of, sent, with_wire, with_queue, with_end}
use Rattle.zr_world_spec.specs.Acts.{shown, outcome}
use Rattle.zr_world_spec.specs.Moments.{Numbered, Moment, went, onward}
use Rattle.zr_guarantee.specs.Phase.{stays, is_phase}
use Rattle.zr_guarantee.specs.Item.{Item, Carried}
use Rattle.zr_guarantee.specs.Broker.{Publication, publication, is_publisher, is_line_of, is_for, item_for, from}
use Rattle.zr_guarantee.specs.Sent.{item_of, sent_to}
use Rattle.zr_world_spec.proofs.Clients.{SameClients, same_clients, same_received, there_same}
use Rattle.zr_world_spec.proofs.Names.{same_name}
use Rattle.zr_world_spec.proofs.Ends.{keep_with_end, keep_changed}
use Rattle.zr_world_spec.proofs.Fits.{up_of}
use Rattle.zr_world_spec.proofs.Cases.{Says, Weighs, on_said, on_weighed, on_handle, on_take, on_mark, on_show, interest_says, uninterest_says, publish_says, get_says, reply_says, end_says, for_handle, for_take, for_mark, for_show}
use Rattle.zr_lists.proofs.Tests.{all_both}
use Rattle.zr_law_declared.proofs.Folds.{after_all}
use Rattle.zr_law_declared.proofs.Hearing.{keep_heard}
use Rattle.zr_law_samples.proofs.Told.{sent_append, sent_taken}
use Rattle.zr_law_samples.proofs.Watch.{shows_nothing}

-- each act of a phase stays
pub each_stays : (xs : List Numbered) → is_phase xs ≡ true → AllByRecursion (λ x. stays x.1 ≡ true) xs
each_stays [] k = tt
each_stays (x ∷ xs) k = let parts = and_parts (stays x.1) (is_phase xs) k in (parts.0, each_stays xs parts.1)

-- ---- a publisher that is no client

module _ (publisher : List ℕ) (clients : Clients) (none : client_of clients publisher ≡ None) where
  pub record IsMute (done : List Numbered) (now : Moment) : Type 0 where
    pub clients_are : SameClients clients now.world.clients
    pub silent : list_all (λ x. not (is_publisher publisher x.1)) done ≡ true

  mute : (done : List Numbered) (now : Moment) → IsMute done now → (n : ℕ) (act : Act) (next : Moment) → SameClients now.world.clients next.world.clients → is_publisher publisher act ≡ false →
      IsMute (done ++ (n, act) ∷ []) next
  mute done now h n act next same other = record {
    clients_are = record { names = same.names ∙ h.clients_are.names; each = λ q. same.each q ∙ h.clients_are.each q };
    silent = all_both (λ x. not (is_publisher publisher x.1)) done ((n, act) ∷ []) h.silent (and_from (not (is_publisher publisher act)) true (not_from_false (is_publisher publisher act) other) refl);
  }

  -- who says something is a client, and the publisher is none
  nobody : (done : List Numbered) (now : Moment) → IsMute done now → (client : List ℕ) (s : ClientState) → client_of now.world.clients client ≡ Some s → is_named publisher client ≡ false
  nobody done now h client s found = by (is_named publisher client) refl (sym (there_same clients now.world.clients h.clients_are client) ∙ ap is_some found)
    where
      by : (b : Bool) → is_named publisher client ≡ b → is_some (client_of clients client) ≡ true → b ≡ false
      by false e k = refl
      by true e k = absurd (false≢true (sym (ap is_some none) ∙ ap (λ z. is_some (client_of clients z)) (same_name publisher client e) ∙ k))

  act_mute : (done : List Numbered) (now : Moment) → IsMute done now → (n : ℕ) (act : Act) → stays act ≡ true → IfSome (went now (outcome now.world n act)) (IsMute (done ++ (n, act) ∷ []))
  unfolding outcome
  act_mute done now h n (c.Router id) st = absurd (false≢true st)
  act_mute done now h n (c.Client id router) st = absurd (false≢true st)
  act_mute done now h n (c.Link one other weight) st = absurd (false≢true st)
  act_mute done now h n (c.Up router name) st = absurd (false≢true st)
  act_mute done now h n (c.Break router name) st = absurd (false≢true st)
  act_mute done now h n (c.Down router name) st = absurd (false≢true st)
  act_mute done now h n (c.Sub client id key) st = absurd (false≢true st)
  act_mute done now h n (c.Unsub client id) st = absurd (false≢true st)
  act_mute done now h n (c.Token client id key) st = absurd (false≢true st)
  act_mute done now h n (c.Untoken client id) st = absurd (false≢true st)
  act_mute done now h n (c.Able client id key complete) st = absurd (false≢true st)
  act_mute done now h n (c.Unable client id) st = absurd (false≢true st)
  act_mute done now h n (c.Interest client id mode kinds key aggregate) st =
      let act : Act = c.Interest client id mode kinds key aggregate in
      let msg : Msg = m.Interest id (is_current mode) (is_future mode) kinds key aggregate in
      interest_says now (IsMute (done ++ (n, act) ∷ [])) n client id mode kinds key aggregate
      (λ s es e ee unbroken more same. mute done now h n act (on_said now n client msg s e more) same refl)
      (λ s es e ee unbroken r er room more same. mute done now h n act (on_weighed now n client (unwrap_or key []) msg s e r more) same refl)
  act_mute done now h n (c.Uninterest client id) st = uninterest_says now (IsMute (done ++ (n, c.Uninterest client id) ∷ [])) n client id
      (λ s es e ee unbroken more same. mute done now h n (c.Uninterest client id) (on_said now n client (m.EndInterest id) s e more) same refl)
  act_mute done now h n (c.Publish client content) st = publish_says now (IsMute (done ++ (n, c.Publish client content) ∷ [])) n client content
      (λ s es e ee unbroken more same. mute done now h n (c.Publish client content) (on_said now n client (m.Push None content) s e more) same (nobody done now h client s es))
  act_mute done now h n (c.Get client number target content) st = get_says now (IsMute (done ++ (n, c.Get client number target content) ∷ [])) n client number target content
      (λ s es e ee unbroken more same. mute done now h n (c.Get client number target content) (on_said now n client (m.Request None number target content) s e more) same (nobody done now h client s es))
  act_mute done now h n (c.Reply client number content) st = reply_says now (IsMute (done ++ (n, c.Reply client number content) ∷ [])) n client number content
      (λ s es e ee unbroken more same. mute done now h n (c.Reply client number content) (on_said now n client (m.Response number content) s e more) same refl)
  act_mute done now h n (c.End client number) st = end_says now (IsMute (done ++ (n, c.End client number) ∷ [])) n client number
      (λ s es e ee unbroken more same. mute done now h n (c.End client number) (on_said now n client (m.Final number no_extras) s e more) same refl)
  act_mute done now h n (c.Handle router name) st = for_handle now (IsMute (done ++ (n, c.Handle router name) ∷ [])) router name
      (λ r er there s es up msg tag xs front l el taken. mute done now h n (c.Handle router name) (on_handle now router name r s l msg tag xs) (same_clients now.world.clients) refl)
  act_mute done now h n (c.Take router to) st = for_take now (IsMute (done ++ (n, c.Take router to) ∷ [])) router to
      (λ r er there s es up unbroken msg tag xs front. mute done now h n (c.Take router to) (on_take now router to s msg tag xs) (same_received now.world.clients to msg) refl)
  act_mute done now h n c.Mark st = for_mark now (IsMute (done ++ (n, c.Mark) ∷ [])) n (λ settled joined. mute done now h n c.Mark (on_mark now n) (same_clients now.world.clients) refl)
  act_mute done now h n (c.Show router) st = for_show now (IsMute (done ++ (n, c.Show router) ∷ [])) router (λ r er. mute done now h n (c.Show router) (on_show now router r) (same_clients now.world.clients) refl)

  pub phase_mute : (phase : List Numbered) (o : Option Moment) → IfSome o (λ now. SameClients clients now.world.clients) → is_phase phase ≡ true → IfSome (fold onward o phase) (IsMute phase)
  phase_mute phase o h st = after_all IsMute (λ x. stays x.1 ≡ true) (λ done now k x s. act_mute done now k x.0 x.1 s) phase [] o (begins o h) (each_stays phase st)
    where
      begins : (o : Option Moment) → IfSome o (λ now. SameClients clients now.world.clients) → IfSome o (IsMute [])
      begins None k = tt
      begins (Some now) k = record { clients_are = k; silent = refl }

-- no line of a phase is of a publisher that is silent in it
pub no_line : (publisher : List ℕ) (phase : List Numbered) → list_all (λ x. not (is_publisher publisher x.1)) phase ≡ true → (t : ℕ) → is_line_of phase publisher t ≡ false
no_line publisher [] h t = refl
no_line publisher (x ∷ xs) h t =
    let parts = and_parts (not (is_publisher publisher x.1)) (list_all (λ y. not (is_publisher publisher y.1)) xs) h in
    by (is_publisher publisher x.1) parts.0 (x.0 == t) (no_line publisher xs parts.1 t)
  where
    by : (b : Bool) → not b ≡ true → (a : Bool) → is_line_of xs publisher t ≡ false → ((a && b) || is_line_of xs publisher t) ≡ false
    by true k a ih = absurd (false≢true k)
    by false k true ih = ih
    by false k false ih = ih

pub nothing_published : (before : List Numbered) (publisher receiver : List ℕ) (phase : List Numbered) → list_all (λ x. not (is_publisher publisher x.1)) phase ≡ true → from before phase publisher receiver ≡ []
nothing_published before publisher receiver [] h = refl
nothing_published before publisher receiver (x ∷ xs) h =
    let parts = and_parts (not (is_publisher publisher x.1)) (list_all (λ y. not (is_publisher publisher y.1)) xs) h in
    rw (none (publication x.1) parts.0) (nothing_published before publisher receiver xs parts.1)
  where
    none : (o : Option Publication) → not (option_map_or (λ p. is_named publisher p.client) o false) ≡ true → item_for before publisher receiver x.0 o ≡ []
    none None k = refl
    none (Some p) k = by (is_named publisher p.client) k
      where
        one : Item
        one = record { line = x.0; carried = p.carried }

        by : (b : Bool) → not b ≡ true → cond (b && is_for before publisher receiver p.carried) (one ∷ []) [] ≡ []
        by true k = absurd (false≢true k)
        by false k = refl

-- who wants nothing is to have nothing
pub nothing_wanted : (before : List Numbered) (publisher receiver : List ℕ) (phase : List Numbered) → ((carried : Carried) → is_for before publisher receiver carried ≡ false) → from before phase publisher receiver ≡ []
nothing_wanted before publisher receiver [] h = refl
nothing_wanted before publisher receiver (x ∷ xs) h = rw (none (publication x.1)) (nothing_wanted before publisher receiver xs h)
  where
    none : (o : Option Publication) → item_for before publisher receiver x.0 o ≡ []
    none None = refl
    none (Some p) = ap (λ b. cond b (record { line = x.0; carried = p.carried } ∷ []) []) (and_right (is_named publisher p.client) (is_for before publisher receiver p.carried) (h p.carried))

-- a filter that nothing passes
pub nothing_passes : (t : ℕ → Bool) → ((i : ℕ) → t i ≡ false) → (xs : List Item) → filter (λ i. t i.line) xs ≡ []
nothing_passes t h [] = refl
nothing_passes t h (x ∷ xs) = rw (h x.line) (nothing_passes t h xs)

-- ---- a receiver to which no end is up

module _ (receiver : List ℕ) (by_line : ℕ → Bool) where
  pub record IsUnheard (done : List Numbered) (now : Moment) : Type 0 where
    pub down : (x : List ℕ) → up_of (end_of now.world.ends (x, receiver)) ≡ false
    pub nothing : filter (λ i. by_line i.line) (sent_to now.report receiver) ≡ []

  unheard : (done done' : List Numbered) (now : Moment) → IsUnheard done now → (next : Moment) → ((e : End) → up_of (end_of next.world.ends e) ≡ up_of (end_of now.world.ends e)) →
      (xs : List ReportLine) → next.report ≡ now.report ++ xs → sent_to xs receiver ≡ [] → IsUnheard done' next
  unheard done done' now h next ups xs report none = record {
    down = λ x. ups (x, receiver) ∙ h.down x;
    nothing = ap (λ z. filter (λ i. by_line i.line) (sent_to z receiver)) report
        ∙ ap (filter (λ i. by_line i.line)) (sent_append now.report xs receiver ∙ ap (λ z. sent_to now.report receiver ++ z) none ∙ append-nil (sent_to now.report receiver)) ∙ h.nothing;
  }

  says : (done : List Numbered) (now : Moment) → IsUnheard done now → (n : ℕ) (act : Act) (client : List ℕ) (msg : Msg) → Says now (IsUnheard (done ++ (n, act) ∷ [])) n client msg
  says done now h n act client msg s es en ee unbroken clients same = unheard done (done ++ (n, act) ∷ []) now h (on_said now n client msg s en clients)
      (λ e. keep_with_end now.world.ends (s.router, client) (sent en msg n) up_of e en ee refl) [] refl refl

  weighs : (done : List Numbered) (now : Moment) → IsUnheard done now → (n : ℕ) (act : Act) (client key : List ℕ) (msg : Msg) → Weighs now (IsUnheard (done ++ (n, act) ∷ [])) n client key msg
  weighs done now h n act client key msg s es en ee unbroken r er room clients same = unheard done (done ++ (n, act) ∷ []) now h (on_weighed now n client key msg s en r clients)
      (λ e. keep_with_end now.world.ends (s.router, client) (sent en msg n) up_of e en ee refl) [] refl refl

  act_unheard : (done : List Numbered) (now : Moment) → IsUnheard done now → (n : ℕ) (act : Act) → stays act ≡ true → IfSome (went now (outcome now.world n act)) (IsUnheard (done ++ (n, act) ∷ []))
  unfolding outcome
  act_unheard done now h n (c.Router id) st = absurd (false≢true st)
  act_unheard done now h n (c.Client id router) st = absurd (false≢true st)
  act_unheard done now h n (c.Link one other weight) st = absurd (false≢true st)
  act_unheard done now h n (c.Up router name) st = absurd (false≢true st)
  act_unheard done now h n (c.Break router name) st = absurd (false≢true st)
  act_unheard done now h n (c.Down router name) st = absurd (false≢true st)
  act_unheard done now h n (c.Sub client id key) st = absurd (false≢true st)
  act_unheard done now h n (c.Unsub client id) st = absurd (false≢true st)
  act_unheard done now h n (c.Token client id key) st = absurd (false≢true st)
  act_unheard done now h n (c.Untoken client id) st = absurd (false≢true st)
  act_unheard done now h n (c.Able client id key complete) st = absurd (false≢true st)
  act_unheard done now h n (c.Unable client id) st = absurd (false≢true st)
  act_unheard done now h n (c.Interest client id mode kinds key aggregate) st =
      let act : Act = c.Interest client id mode kinds key aggregate in
      let msg : Msg = m.Interest id (is_current mode) (is_future mode) kinds key aggregate in
      interest_says now (IsUnheard (done ++ (n, act) ∷ [])) n client id mode kinds key aggregate (says done now h n act client msg) (weighs done now h n act client (unwrap_or key []) msg)
  act_unheard done now h n (c.Uninterest client id) st =
      uninterest_says now (IsUnheard (done ++ (n, c.Uninterest client id) ∷ [])) n client id (says done now h n (c.Uninterest client id) client (m.EndInterest id))
  act_unheard done now h n (c.Publish client content) st = publish_says now (IsUnheard (done ++ (n, c.Publish client content) ∷ [])) n client content (says done now h n (c.Publish client content) client (m.Push None content))
  act_unheard done now h n (c.Get client number target content) st =
      get_says now (IsUnheard (done ++ (n, c.Get client number target content) ∷ [])) n client number target content (says done now h n (c.Get client number target content) client (m.Request None number target content))
  act_unheard done now h n (c.Reply client number content) st =
      reply_says now (IsUnheard (done ++ (n, c.Reply client number content) ∷ [])) n client number content (says done now h n (c.Reply client number content) client (m.Response number content))
  act_unheard done now h n (c.End client number) st = end_says now (IsUnheard (done ++ (n, c.End client number) ∷ [])) n client number (says done now h n (c.End client number) client (m.Final number no_extras))
  act_unheard done now h n (c.Handle router name) st = for_handle now (IsUnheard (done ++ (n, c.Handle router name) ∷ [])) router name
      (λ r er there s es up msg tag xs front l el taken. unheard done (done ++ (n, c.Handle router name) ∷ []) now h (on_handle now router name r s l msg tag xs)
      (λ e. keep_heard (with_end now.world.ends (router, name) (with_wire s xs)) router r (From l msg) tag up_of e (λ z ws. refl) ∙ keep_with_end now.world.ends (router, name) (with_wire s xs) up_of e s es refl)
      (line.Handled router name msg tag ∷ []) refl refl)
  act_unheard done now h n (c.Take router to) st = for_take now (IsUnheard (done ++ (n, c.Take router to) ∷ [])) router to
      (λ r er there s es up unbroken msg tag xs front. unheard done (done ++ (n, c.Take router to) ∷ []) now h (on_take now router to s msg tag xs)
      (λ e. keep_changed (with_end now.world.ends (router, to) (with_queue s xs)) (to, router) (λ z. sent z msg tag) up_of e (λ z. refl) ∙ keep_with_end now.world.ends (router, to) (with_queue s xs) up_of e s es refl)
      (line.Taken router to msg tag ∷ []) refl (sent_taken router to msg tag receiver ∙ by (is_named receiver to) refl (item_of msg tag) (ap up_of es ∙ up)))
    where
      by : (b : Bool) → is_named receiver to ≡ b → (its : List Item) → up_of (end_of now.world.ends (router, to)) ≡ true → cond b its [] ≡ []
      by false e its up = refl
      by true e its up = absurd (true≢false (sym up ∙ ap (λ z. up_of (end_of now.world.ends (router, z))) (sym (same_name receiver to e)) ∙ h.down router))
  act_unheard done now h n c.Mark st = for_mark now (IsUnheard (done ++ (n, c.Mark) ∷ [])) n
      (λ settled joined. unheard done (done ++ (n, c.Mark) ∷ []) now h (on_mark now n) (λ e. refl) (line.Mark n ∷ []) refl refl)
  act_unheard done now h n (c.Show router) st = for_show now (IsUnheard (done ++ (n, c.Show router) ∷ [])) router
      (λ r er. unheard done (done ++ (n, c.Show router) ∷ []) now h (on_show now router r) (λ e. refl) (line.Show router ∷ shown r.node) refl (shows_nothing r.node receiver))

  pub phase_unheard : (phase : List Numbered) (o : Option Moment) → IfSome o (IsUnheard []) → is_phase phase ≡ true → IfSome (fold onward o phase) (IsUnheard phase)
  phase_unheard phase o h st = after_all IsUnheard (λ x. stays x.1 ≡ true) (λ done now k x s. act_unheard done now k x.0 x.1 s) phase [] o h (each_stays phase st)
