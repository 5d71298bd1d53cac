-- No act looks at how many steps runs asked for, and none changes it: in two worlds that differ in this count alone an act does the
-- same (`outcome_recounted`), and so do the steps of a run (`steps_recounted`) and all acts of a line (`done_recounted`).
use Rattle.std.proofs.Common.{◌≡◌, ℕ, zero, suc, Bool, true, false, cond, not, List, [], ◌∷◌, ◌++◌, length, Option, Some, None, Result, Ok, Err, refl, ap, ◌∙◌}
use Rattle.std.specs.Prelude.{nat_le, unwrap_or}
use Rattle.std.specs.Ordering.{nat_cmp}
use Rattle.std.specs.Cmp.Lexicographic.{slice_cmp}
use Rattle.std.specs.BTreeMap.{insert_entry}
use Rattle.zr_id.specs.Zid.{is_named}
use Rattle.zr_msg.specs.declared.decl.Kind.{Kind}
use Rattle.zr_msg.specs.declared.decl.Kind.TheVariants as k
use Rattle.zr_msg.specs.declared.error.NodeError.{NodeError}
use Rattle.zr_msg.specs.declared.event.Event.{Event}
use Rattle.zr_msg.specs.declared.event.Event.TheVariants.{Down, From}
use Rattle.zr_msg.specs.declared.msg.Kinds.{Kinds}
use Rattle.zr_msg.specs.declared.msg.Msg.{Msg}
use Rattle.zr_msg.specs.declared.msg.Msg.TheVariants as m
use Rattle.zr_msg.specs.Extras.{no_extras}
use Rattle.zr_msg.specs.declared.peer.Role.TheVariants as role
use Rattle.zr_script_spec.specs.declared.error.ScriptError.{ScriptError}
use Rattle.zr_script_spec.specs.declared.error.ScriptError.TheVariants.{BadWords, NameTaken, UnknownName, AlreadyLinked, NotLinked, NotAsked, Limit, NotSettled, NotJoined}
use Rattle.zr_script_spec.specs.declared.command.Act.{Act}
use Rattle.zr_script_spec.specs.declared.command.Act.TheVariants as c
use Rattle.zr_script_spec.specs.declared.command.Mode.{Mode}
use Rattle.zr_script_spec.specs.Mode.{is_current, is_future}
use Rattle.zr_script_spec.specs.declared.command.Command.{Command}
use Rattle.zr_script_spec.specs.declared.command.Command.TheVariants as command
use Rattle.zr_script_spec.specs.declared.report.ReportLine.TheVariants as line
use Rattle.zr_script_spec.specs.Step.{◌>>=◌}
use Rattle.zr_node_spec.specs.Table.{able_kind}
use Rattle.zr_world_spec.specs.World.{Tagged, RouterState, ClientState, EndState, WorldState, with_booked, with_ends, with_clients, new_client, sent, router_of, client_of, is_taken, end_of, with_end, put_end, lifted, new_end, with_wire, is_in_place, links_in_place, most_routers, most_clients, most_links, most_queries, is_settled}
use Rattle.zr_world_spec.specs.Fan.{most_fan_steps}
use Rattle.zr_world_spec.specs.Joined.{is_joined}
use Rattle.zr_world_spec.specs.Acts.{Outcome, unless, router_at, client_at, end_at, up_at, unbroken_at, oldest, has_number, has_id, weighed, refuses_of, heard, heard_by, hears, peer_of, up_event, number_to, client_sends, router_step, client_step, link_step, up_step, break_step, down_step, declare_step, undeclare_step, keeps_interest, interest_step, uninterest_step, publish_step, get_step, reply_step, end_step, handle_step, take_step, mark_step, show_step, outcome}
use Rattle.zr_world_spec.specs.Next.{Done, next, world_after, with_more, run_steps, acts, all_done}

-- the same with another count in the world
abbrev pub recounted : {A : Type 0} → ℕ → Result (A × WorldState) ScriptError → Result (A × WorldState) ScriptError
recounted booked (Ok x) = Ok (x.0, with_booked x.1 booked)
recounted booked (Err e) = Err e

module _ (w : WorldState) (booked : ℕ) where
  -- a step that reads first what no count is in
  bind_recounted : {A : Type 0} (a : Result A ScriptError) (f g : A → Outcome) → ((x : A) → f x ≡ recounted booked (g x)) → (a >>= f) ≡ recounted booked (a >>= g)
  bind_recounted (Ok x) f g same = same x
  bind_recounted (Err e) f g same = refl

  -- one in which a router hears first
  hears_recounted : (u : WorldState) (x : List ℕ) (r : RouterState) (event : Event) (tag : ℕ) (f g : WorldState → Outcome) → ((v : WorldState) → f (with_booked v booked) ≡ recounted booked (g v)) →
      (hears (with_booked u booked) x r event tag >>= f) ≡ recounted booked (hears u x r event tag >>= g)
  hears_recounted u x r event tag f g same = by (refuses_of r event)
    where
      by : (o : Option NodeError) → (heard_by (with_booked u booked) x r event tag o >>= f) ≡ recounted booked (heard_by u x r event tag o >>= g)
      by None = same (heard u x r event tag)
      by (Some e) = refl

  -- one in which a client sends first
  sends_recounted : (n : ℕ) (name : List ℕ) (s : ClientState) (msg : Msg) (f g : WorldState → Outcome) → ((v : WorldState) → f (with_booked v booked) ≡ recounted booked (g v)) →
      (client_sends (with_booked w booked) n name s msg >>= f) ≡ recounted booked (client_sends w n name s msg >>= g)
  unfolding client_sends
  sends_recounted n name s msg f g same = by (end_of w.ends (s.router, name))
    where
      sending : WorldState → EndState → WorldState
      sending u e = with_ends u (with_end u.ends (s.router, name) (sent e msg n))

      at : (e : EndState) (b : Bool) →
          ((unless (not b) NotLinked >>= (λ a. Ok (sending (with_booked w booked) e))) >>= f) ≡ recounted booked ((unless (not b) NotLinked >>= (λ a. Ok (sending w e))) >>= g)
      at e true = same (sending w e)
      at e false = refl

      by : (o : Option EndState) →
          ((end_at o >>= (λ e. unbroken_at e >>= (λ a. Ok (sending (with_booked w booked) e)))) >>= f) ≡ recounted booked ((end_at o >>= (λ e. unbroken_at e >>= (λ a. Ok (sending w e)))) >>= g)
      by None = refl
      by (Some e) = at e e.unbroken

  -- what is done once a client's router, or a message's receiver, has heard
  abbrev came : List ℕ → List ℕ → WorldState → Outcome
  came id router v = Ok ([], with_clients v (insert_entry (slice_cmp nat_cmp) v.clients id (new_client router)))

  abbrev handled : List ℕ → List ℕ → Tagged → WorldState → Outcome
  handled router from x v = Ok (line.Handled router from x.msg x.tag ∷ [], v)

  declare_recounted : (n : ℕ) (client : List ℕ) (kind : Kind) (id : ℕ) (key : List ℕ) (msg : Msg) →
      declare_step (with_booked w booked) n client kind id key msg ≡ recounted booked (declare_step w n client kind id key msg)
  unfolding declare_step
  declare_recounted n client kind id key msg =
      bind_recounted (client_at (client_of w.clients client)) _ _ (λ s. bind_recounted (unless (has_id s kind id) NameTaken) _ _ (λ a. sends_recounted n client s msg _ _ (λ v.
      bind_recounted (weighed v.routers s.router key (router_of v.routers s.router)) _ _ (λ routers. refl))))

  undeclare_recounted : (n : ℕ) (client : List ℕ) (kind : Kind) (id : ℕ) (msg : Msg) →
      undeclare_step (with_booked w booked) n client kind id msg ≡ recounted booked (undeclare_step w n client kind id msg)
  unfolding undeclare_step
  undeclare_recounted n client kind id msg =
      bind_recounted (client_at (client_of w.clients client)) _ _ (λ s. bind_recounted (unless (not (has_id s kind id)) UnknownName) _ _ (λ a. sends_recounted n client s msg _ _ (λ v. refl)))

  interest_recounted : (n : ℕ) (client : List ℕ) (id : ℕ) (mode : Mode) (kinds : Kinds) (key : Option (List ℕ)) (aggregate : Bool) →
      interest_step (with_booked w booked) n client id mode kinds key aggregate ≡ recounted booked (interest_step w n client id mode kinds key aggregate)
  unfolding interest_step
  interest_recounted n client id mode kinds key aggregate =
      bind_recounted (client_at (client_of w.clients client)) _ _ (λ s. bind_recounted (unless (has_number s.interests id) NameTaken) _ _ (λ a.
      sends_recounted n client s (m.Interest id (is_current mode) (is_future mode) kinds key aggregate) (goes s (is_future mode)) (goes s (is_future mode)) (λ v. by s v (is_future mode))))
    where
      goes : ClientState → Bool → WorldState → Outcome
      goes s future v = cond future (keeps_interest v client s id (unwrap_or key [])) (Ok ([], v))

      by : (s : ClientState) (v : WorldState) (future : Bool) → goes s future (with_booked v booked) ≡ recounted booked (goes s future v)
      by s v true = bind_recounted (weighed v.routers s.router (unwrap_or key []) (router_of v.routers s.router)) _ _ (λ routers. refl)
      by s v false = refl

  uninterest_recounted : (n : ℕ) (client : List ℕ) (id : ℕ) → uninterest_step (with_booked w booked) n client id ≡ recounted booked (uninterest_step w n client id)
  unfolding uninterest_step
  uninterest_recounted n client id =
      bind_recounted (client_at (client_of w.clients client)) _ _ (λ s. bind_recounted (unless (not (has_number s.interests id)) UnknownName) _ _ (λ a. sends_recounted n client s (m.EndInterest id) _ _ (λ v. refl)))

  pub outcome_recounted : (n : ℕ) (act : Act) → outcome (with_booked w booked) n act ≡ recounted booked (outcome w n act)
  unfolding outcome router_step client_step link_step up_step break_step down_step publish_step get_step reply_step end_step handle_step take_step mark_step show_step
  outcome_recounted n (c.Router id) =
      bind_recounted (unless (is_taken w id) NameTaken) _ _ (λ a. bind_recounted (unless (nat_le most_routers (length w.routers)) Limit) _ _ (λ b. refl))
  outcome_recounted n (c.Client id router) =
      bind_recounted (router_at (router_of w.routers router)) _ _ (λ r. bind_recounted (unless (is_taken w id) NameTaken) _ _ (λ a. bind_recounted (unless (nat_le most_clients (length w.clients)) Limit) _ _ (λ b.
      hears_recounted (with_ends w (put_end w.ends (router, id) (lifted (new_end 1)))) router r (up_event r (record { id = id; role = role.Client; weight = 1 })) n (came id router) (came id router) (λ v. refl))))
  outcome_recounted n (c.Link one other weight) =
      bind_recounted (unless (is_named one other) BadWords) _ _ (λ z. bind_recounted (router_at (router_of w.routers one)) _ _ (λ r. bind_recounted (router_at (router_of w.routers other)) _ _ (λ q.
      bind_recounted (unless (is_in_place w.ends (one, other)) AlreadyLinked) _ _ (λ a. bind_recounted (unless (nat_le most_links (length (links_in_place w))) Limit) _ _ (λ b. refl)))))
  outcome_recounted n (c.Up router name) =
      bind_recounted (router_at (router_of w.routers router)) _ _ (λ r. bind_recounted (unless (not (is_taken w name)) UnknownName) _ _ (λ a. bind_recounted (end_at (end_of w.ends (router, name))) _ _ (λ s.
      bind_recounted (unbroken_at s) _ _ (λ b. bind_recounted (unless s.up AlreadyLinked) _ _ (λ c.
      hears_recounted (with_ends w (with_end w.ends (router, name) (lifted s))) router r (up_event r (peer_of w name s.weight)) n _ _ (λ v. refl))))))
  outcome_recounted n (c.Break router name) =
      bind_recounted (router_at (router_of w.routers router)) _ _ (λ r. bind_recounted (unless (not (is_taken w name)) UnknownName) _ _ (λ a. bind_recounted (end_at (end_of w.ends (router, name))) _ _ (λ s.
      bind_recounted (unbroken_at s) _ _ (λ b. refl))))
  outcome_recounted n (c.Down router name) =
      bind_recounted (router_at (router_of w.routers router)) _ _ (λ r. bind_recounted (unless (not (is_taken w name)) UnknownName) _ _ (λ a. bind_recounted (end_at (end_of w.ends (router, name))) _ _ (λ s.
      bind_recounted (up_at s) _ _ (λ b. bind_recounted (unless s.unbroken NotLinked) _ _ (λ c. bind_recounted (number_to r name) _ _ (λ l. hears_recounted w router r (Down l) n _ _ (λ v. refl)))))))
  outcome_recounted n (c.Sub client id key) = declare_recounted n client k.Sub id key (m.Sub id key)
  outcome_recounted n (c.Unsub client id) = undeclare_recounted n client k.Sub id (m.Unsub id)
  outcome_recounted n (c.Token client id key) = declare_recounted n client k.Token id key (m.Token id key)
  outcome_recounted n (c.Untoken client id) = undeclare_recounted n client k.Token id (m.Untoken id)
  outcome_recounted n (c.Able client id key complete) = declare_recounted n client (able_kind complete) id key (m.Able id key complete)
  outcome_recounted n (c.Unable client id) = undeclare_recounted n client k.Able id (m.Unable id)
  outcome_recounted n (c.Interest client id mode kinds key aggregate) = interest_recounted n client id mode kinds key aggregate
  outcome_recounted n (c.Uninterest client id) = uninterest_recounted n client id
  outcome_recounted n (c.Publish client content) =
      bind_recounted (client_at (client_of w.clients client)) _ _ (λ s. sends_recounted n client s (m.Push None content) _ _ (λ v. refl))
  outcome_recounted n (c.Get client number target content) =
      bind_recounted (client_at (client_of w.clients client)) _ _ (λ s. bind_recounted (unless (has_number s.queries number) NameTaken) _ _ (λ a.
      sends_recounted n client s (m.Request None number target content) _ _ (λ v. bind_recounted (unless (nat_le most_queries (length s.queries)) Limit) _ _ (λ b. refl))))
  outcome_recounted n (c.Reply client number content) =
      bind_recounted (client_at (client_of w.clients client)) _ _ (λ s. sends_recounted n client s (m.Response number content) _ _ (λ v.
      bind_recounted (unless (not (has_number s.requests number)) NotAsked) _ _ (λ a. refl)))
  outcome_recounted n (c.End client number) =
      bind_recounted (client_at (client_of w.clients client)) _ _ (λ s. sends_recounted n client s (m.Final number no_extras) _ _ (λ v.
      bind_recounted (unless (not (has_number s.requests number)) NotAsked) _ _ (λ a. refl)))
  outcome_recounted n (c.Handle router from) =
      bind_recounted (router_at (router_of w.routers router)) _ _ (λ r. bind_recounted (unless (not (is_taken w from)) UnknownName) _ _ (λ a. bind_recounted (end_at (end_of w.ends (router, from))) _ _ (λ s.
      bind_recounted (up_at s) _ _ (λ b. bind_recounted (oldest s.wire) _ _ (λ x. bind_recounted (number_to r from) _ _ (λ l.
      hears_recounted (with_ends w (with_end w.ends (router, from) (with_wire s x.1))) router r (From l x.0.msg) x.0.tag (handled router from x.0) (handled router from x.0) (λ v. refl)))))))
  outcome_recounted n (c.Take router to) =
      bind_recounted (router_at (router_of w.routers router)) _ _ (λ r. bind_recounted (unless (not (is_taken w to)) UnknownName) _ _ (λ a. bind_recounted (end_at (end_of w.ends (router, to))) _ _ (λ s.
      bind_recounted (up_at s) _ _ (λ b. bind_recounted (unbroken_at s) _ _ (λ c. bind_recounted (oldest s.queue) _ _ (λ x. refl))))))
  outcome_recounted n c.Mark = bind_recounted (unless (not (is_settled w)) NotSettled) _ _ (λ a. bind_recounted (unless (not (is_joined w)) NotJoined) _ _ (λ b. refl))
  outcome_recounted n (c.Show router) = bind_recounted (router_at (router_of w.routers router)) _ _ (λ r. refl)

after_recounted : (w : WorldState) (booked : ℕ) (o : Outcome) → world_after (with_booked w booked) (recounted booked o) ≡ with_booked (world_after w o) booked
after_recounted w booked (Ok x) = refl
after_recounted w booked (Err e) = refl

pub steps_recounted : (n steps : ℕ) (w : WorldState) (booked : ℕ) → run_steps n steps (with_booked w booked) ≡ run_steps n steps w
unfolding run_steps
steps_recounted n zero w booked = refl
steps_recounted n (suc steps) w booked = by (next w) (λ v. steps_recounted n steps v booked)
  where
    by : (o : Option Act) → ((v : WorldState) → run_steps n steps (with_booked v booked) ≡ run_steps n steps v) →
        with_more o (λ step. run_steps n steps (world_after (with_booked w booked) (outcome (with_booked w booked) n step)))
        ≡ with_more o (λ step. run_steps n steps (world_after w (outcome w n step)))
    by None ih = refl
    by (Some step) ih =
        ap (λ z. step ∷ run_steps n steps (world_after (with_booked w booked) z)) (outcome_recounted w booked n step)
        ∙ ap (λ z. step ∷ run_steps n steps z) (after_recounted w booked (outcome w n step))
        ∙ ap (λ z. step ∷ z) (ih (world_after w (outcome w n step)))

pub acts_recounted : (w : WorldState) (booked n : ℕ) (asked : Command) → acts (with_booked w booked) n asked ≡ acts w n asked
acts_recounted w booked n (command.Act act) = refl
acts_recounted w booked n (command.Run steps) = steps_recounted n steps w booked
acts_recounted w booked n command.Fan = steps_recounted n most_fan_steps w booked

pub done_recounted : (n : ℕ) (several : List Act) (w : WorldState) (booked : ℕ) → all_done (with_booked w booked) n several ≡ recounted booked (all_done w n several)
done_recounted n [] w booked = refl
done_recounted n (act ∷ more) w booked =
    ap (λ z. z >>= (λ x. all_done x.1 n more >>= (λ y. Ok (x.0 ++ y.0, y.1)))) (outcome_recounted w booked n act)
    ∙ by (outcome w n act) (λ v. done_recounted n more v booked)
  where
    by : (o : Outcome) → ((v : WorldState) → all_done (with_booked v booked) n more ≡ recounted booked (all_done v n more)) →
        (recounted booked o >>= (λ x. all_done x.1 n more >>= (λ y. Ok (x.0 ++ y.0, y.1)))) ≡ recounted booked (o >>= (λ x. all_done x.1 n more >>= (λ y. Ok (x.0 ++ y.0, y.1))))
    by (Err e) ih = refl
    by (Ok x) ih = ap (λ d. d >>= (λ y. Ok (x.0 ++ y.0, y.1))) (ih x.1) ∙ at (all_done x.1 n more)
      where
        at : (d : Done) → (recounted booked d >>= (λ y. Ok (x.0 ++ y.0, y.1))) ≡ recounted booked (d >>= (λ y. Ok (x.0 ++ y.0, y.1)))
        at (Ok y) = refl
        at (Err e) = refl
