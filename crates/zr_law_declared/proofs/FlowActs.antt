-- Each act that is not refused keeps what clients have declared and their routers will have (`Flows`), so it holds at each moment to which acts lead.
use Rattle.std.proofs.Common.{◌≡◌, ℕ, Bool, true, false, cond, List, [], ◌∷◌, ◌++◌, Option, Some, None, is_some, refl, sym, ap, subst}
use Rattle.std.specs.Prelude.{◌&&◌, unwrap_or, IfSome}
use Rattle.std.proofs.lemmas.Bool.{true≢false}
use Rattle.zr_lists.proofs.Elements.{in_each}
use Rattle.zr_id.specs.Zid.{is_named}
use Rattle.zr_msg.specs.Extras.{no_extras}
use Rattle.zr_msg.specs.declared.decl.Decl.{Decl}
use Rattle.zr_msg.specs.declared.decl.Kind.{Kind}
use Rattle.zr_msg.specs.declared.msg.Msg.{Msg}
use Rattle.zr_msg.specs.declared.decl.Kind.TheVariants as k
use Rattle.zr_msg.specs.declared.msg.Msg.TheVariants as m
use Rattle.zr_script_spec.specs.declared.command.Act.{Act}
use Rattle.zr_script_spec.specs.declared.command.Act.TheVariants as a
use Rattle.zr_script_spec.specs.Mode.{is_current, is_future}
use Rattle.zr_node_spec.specs.Table.{able_kind}
use Rattle.zr_told_spec.specs.declared.place.Class.TheVariants.{Subscriber, Queryable, Living}
use Rattle.zr_world_spec.specs.World.{WorldState, with_routers, with_router, with_ends, with_end, with_queue, client_of, changed, sent}
use Rattle.zr_world_spec.specs.Acts.{outcome, weighing, declaring, undeclaring, received, ids_of}
use Rattle.zr_world_spec.specs.Moments.{Numbered, Moment, beginning, went, reached}
use Rattle.zr_world_spec.specs.Sound.{IsSound}
use Rattle.zr_world_spec.proofs.Clients.{same_received, same_home}
use Rattle.zr_world_spec.proofs.Cases.{w_down, w_handle, w_sent, number_found, for_router, for_client, for_link, for_up, for_break, for_down, for_declare, for_undeclare, Says, Weighs, interest_says, uninterest_says, publish_says, get_says, reply_says, end_says, for_handle, for_take, for_mark, for_show}
use Rattle.zr_law_settled.proofs.Spreading.{Name}
use Rattle.zr_law_settled.proofs.ClientRows.{ClientsHold, linked_stay, taken_stay, broken_stay, none_stay}
use Rattle.zr_law_settled.proofs.Goes.{Goes, goes_first, act_goes}
use Rattle.zr_law_declared.proofs.Folds.{after_all}
use Rattle.zr_law_declared.specs.Declared.{is_same_id, stands_by}
use Rattle.zr_law_declared.proofs.Told.{told}
use Rattle.zr_law_declared.proofs.Homes.{Homed, homes_keep}
use Rattle.zr_law_declared.proofs.Ordered.{RowsAscend, none_ascend, ascend_keep}
use Rattle.zr_law_declared.proofs.Spoken.{Spoken, spoken_keep}
use Rattle.zr_law_declared.proofs.Flows.{Flows, same_flows, by_ends, says_kept, router_flows, up_flows, down_flows, handled_flows, client_flows, published_flows, weighed_flows, said_flows}

-- one test after the other
both : {X : Type 0} (s t : Bool) (x y : X) → cond (s && t) x y ≡ cond s (cond t x y) y
both true t x y = refl
both false t x y = refl

module _ (acts : List Numbered) (now : Moment) (sound : IsSound now.world) (h : ClientsHold now.world) (f : Flows acts now.world) where
  abbrev w : WorldState
  w = now.world

  abbrev pub FlowsThen : ℕ → Act → Moment → Type 0
  FlowsThen n act next = Flows (acts ++ (n, act) ∷ []) next.world

  -- a client says something that is nothing of ids
  says : (n : ℕ) (act : Act) (client : Name) (msg : Msg) → ((c : Name) (kind : Kind) (i : ℕ) (so_far : Option Decl) → stands_by c kind i so_far act ≡ so_far) →
      ((kind : Kind) (i : ℕ) (so_far : Option Decl) → told kind i so_far msg ≡ so_far) → Says now (FlowsThen n act) n client msg
  says n act client msg quiet silent s found e at_end unbroken clients same =
      same_flows (acts ++ (n, act) ∷ []) (w_sent w n client s e msg) clients same (published_flows acts w sound h f n act client s found e at_end msg quiet silent)

  -- and it may weigh on its router
  weighs : (n : ℕ) (act : Act) (client : Name) (key : List ℕ) (msg : Msg) → ((c : Name) (kind : Kind) (i : ℕ) (so_far : Option Decl) → stands_by c kind i so_far act ≡ so_far) →
      ((kind : Kind) (i : ℕ) (so_far : Option Decl) → told kind i so_far msg ≡ so_far) → Weighs now (FlowsThen n act) n client key msg
  weighs n act client key msg quiet silent s found e at_end unbroken r there room clients same =
      same_flows (acts ++ (n, act) ∷ []) (with_routers (w_sent w n client s e msg) (with_router w.routers s.router (weighing r key))) clients same
      (weighed_flows acts w sound h f n act client s found e at_end msg quiet silent (with_router w.routers s.router (weighing r key)) (λ x c kind i. says_kept w s.router r (weighing r key) there c kind i refl x))

  pub flows_keep : (n : ℕ) (act : Act) → IfSome (went now (outcome w n act)) (FlowsThen n act)
  unfolding outcome
  flows_keep n (a.Router id) = for_router now (FlowsThen n (a.Router id)) id (λ free room. router_flows acts w sound h f n (a.Router id) (λ c kind i so_far. refl) id free)
  flows_keep n (a.Client id router) = for_client now (FlowsThen n (a.Client id router)) n id router (λ r found free room taken.
      client_flows acts w sound h f router r found n (a.Client id router) (λ c kind i so_far. refl) id free)
  flows_keep n (a.Link one other weight) = for_link now (FlowsThen n (a.Link one other weight)) one other weight (λ apart r found q found' new room.
      by_ends acts w sound h f n (a.Link one other weight) (λ c kind i so_far. refl) _ (linked_stay w h one other weight (ap is_some found) (ap is_some found')))
  flows_keep n (a.Up router name) = for_up now (FlowsThen n (a.Up router name)) n router name (λ r found there s at_end unbroken down taken.
      up_flows acts w sound h f router r found n (a.Up router name) (λ c kind i so_far. refl) name s at_end down)
  flows_keep n (a.Break router name) = for_break now (FlowsThen n (a.Break router name)) router name (λ r found there s at_end unbroken.
      by_ends acts w sound h f n (a.Break router name) (λ c kind i so_far. refl) _ (broken_stay w h router name))
  flows_keep n (a.Down router name) = for_down now (FlowsThen n (a.Down router name)) n router name (λ r found there s at_end up cut link number taken.
      let j = number_found r name link number in
      subst (λ q. Flows (acts ++ (n, a.Down router name) ∷ []) (w_down w n router name r q)) j.2
      (down_flows acts w sound h f router r found n (a.Down router name) (λ c kind i so_far. refl) name s at_end cut j.0 j.1))
  flows_keep n (a.Sub client id key) = for_declare now (FlowsThen n (a.Sub client id key)) n client k.Sub id key (m.Sub id key) (λ s found fresh e at_end unbroken r there room.
      said_flows acts w sound h f n (a.Sub client id key) client s found e at_end (m.Sub id key) (declaring s k.Sub id) refl (with_router w.routers s.router (weighing r key))
      (λ x c kind i. says_kept w s.router r (weighing r key) there c kind i refl x)
      (λ c kind i so_far. both (is_named c client) (is_same_id kind i Subscriber id) (Some (record { kind = k.Sub; key = key })) so_far))
  flows_keep n (a.Unsub client id) = for_undeclare now (FlowsThen n (a.Unsub client id)) n client k.Sub id (m.Unsub id) (λ s found known e at_end unbroken.
      said_flows acts w sound h f n (a.Unsub client id) client s found e at_end (m.Unsub id) (undeclaring s k.Sub id) refl w.routers (λ x c kind i. refl)
      (λ c kind i so_far. both (is_named c client) (is_same_id kind i Subscriber id) None so_far))
  flows_keep n (a.Token client id key) = for_declare now (FlowsThen n (a.Token client id key)) n client k.Token id key (m.Token id key) (λ s found fresh e at_end unbroken r there room.
      said_flows acts w sound h f n (a.Token client id key) client s found e at_end (m.Token id key) (declaring s k.Token id) refl (with_router w.routers s.router (weighing r key))
      (λ x c kind i. says_kept w s.router r (weighing r key) there c kind i refl x)
      (λ c kind i so_far. both (is_named c client) (is_same_id kind i Living id) (Some (record { kind = k.Token; key = key })) so_far))
  flows_keep n (a.Untoken client id) = for_undeclare now (FlowsThen n (a.Untoken client id)) n client k.Token id (m.Untoken id) (λ s found known e at_end unbroken.
      said_flows acts w sound h f n (a.Untoken client id) client s found e at_end (m.Untoken id) (undeclaring s k.Token id) refl w.routers (λ x c kind i. refl)
      (λ c kind i so_far. both (is_named c client) (is_same_id kind i Living id) None so_far))
  flows_keep n (a.Able client id key complete) = for_declare now (FlowsThen n (a.Able client id key complete)) n client (able_kind complete) id key (m.Able id key complete) (λ s found fresh e at_end unbroken r there room.
      said_flows acts w sound h f n (a.Able client id key complete) client s found e at_end (m.Able id key complete) (declaring s (able_kind complete) id) (same_home s (able_kind complete) (ids_of s (able_kind complete) ++ id ∷ []))
      (with_router w.routers s.router (weighing r key)) (λ x c kind i. says_kept w s.router r (weighing r key) there c kind i refl x)
      (λ c kind i so_far. both (is_named c client) (is_same_id kind i Queryable id) (Some (record { kind = able_kind complete; key = key })) so_far))
  flows_keep n (a.Unable client id) = for_undeclare now (FlowsThen n (a.Unable client id)) n client k.Able id (m.Unable id) (λ s found known e at_end unbroken.
      said_flows acts w sound h f n (a.Unable client id) client s found e at_end (m.Unable id) (undeclaring s k.Able id) refl w.routers (λ x c kind i. refl)
      (λ c kind i so_far. both (is_named c client) (is_same_id kind i Queryable id) None so_far))
  flows_keep n (a.Interest client id mode kinds key aggregate) =
      let act : Act = a.Interest client id mode kinds key aggregate in
      let msg : Msg = m.Interest id (is_current mode) (is_future mode) kinds key aggregate in
      interest_says now (FlowsThen n act) n client id mode kinds key aggregate
      (says n act client msg (λ c kind i so_far. refl) (λ kind i so_far. refl)) (weighs n act client (unwrap_or key []) msg (λ c kind i so_far. refl) (λ kind i so_far. refl))
  flows_keep n (a.Uninterest client id) = uninterest_says now (FlowsThen n (a.Uninterest client id)) n client id
      (says n (a.Uninterest client id) client (m.EndInterest id) (λ c kind i so_far. refl) (λ kind i so_far. refl))
  flows_keep n (a.Publish client content) = publish_says now (FlowsThen n (a.Publish client content)) n client content
      (says n (a.Publish client content) client (m.Push None content) (λ c kind i so_far. refl) (λ kind i so_far. refl))
  flows_keep n (a.Get client number target content) = get_says now (FlowsThen n (a.Get client number target content)) n client number target content
      (says n (a.Get client number target content) client (m.Request None number target content) (λ c kind i so_far. refl) (λ kind i so_far. refl))
  flows_keep n (a.Reply client number content) = reply_says now (FlowsThen n (a.Reply client number content)) n client number content
      (says n (a.Reply client number content) client (m.Response number content) (λ c kind i so_far. refl) (λ kind i so_far. refl))
  flows_keep n (a.End client number) = end_says now (FlowsThen n (a.End client number)) n client number
      (says n (a.End client number) client (m.Final number no_extras) (λ c kind i so_far. refl) (λ kind i so_far. refl))
  flows_keep n (a.Handle router from) = for_handle now (FlowsThen n (a.Handle router from)) router from (λ r found there s at_end up msg tag xs front link number taken.
      let j = number_found r from link number in
      subst (λ q. Flows (acts ++ (n, a.Handle router from) ∷ []) (w_handle w router from r s q msg tag xs)) j.2
      (handled_flows acts w sound h f router r found n (a.Handle router from) (λ c kind i so_far. refl) from s at_end j.0 j.1 msg tag xs front))
  flows_keep n (a.Take router to) = for_take now (FlowsThen n (a.Take router to)) router to (λ r found there s at_end up unbroken msg tag xs front.
      same_flows (acts ++ (n, a.Take router to) ∷ []) (with_ends w (changed (with_end w.ends (router, to) (with_queue s xs)) (to, router) (λ e. sent e msg tag)))
      (received w.clients to msg (client_of w.clients to)) (same_received w.clients to msg)
      (by_ends acts w sound h f n (a.Take router to) (λ c kind i so_far. refl) _ (taken_stay w h router to s at_end (ap is_some found) msg tag xs)))
  flows_keep n a.Mark = for_mark now (FlowsThen n a.Mark) n (λ settled joined. by_ends acts w sound h f n a.Mark (λ c kind i so_far. refl) w.ends (none_stay w h))
  flows_keep n (a.Show router) = for_show now (FlowsThen n (a.Show router)) router (λ r found. by_ends acts w sound h f n (a.Show router) (λ c kind i so_far. refl) w.ends (none_stay w h))

-- ---- moments

-- what goes on, with what has been declared
pub record GoesDeclared (acts : List Numbered) (now : Moment) : Type 0 where
  pub goes : Goes now.world
  pub flows : Flows acts now.world
  pub homed : Homed acts now.world
  pub spoken : Spoken acts now.world
  pub ascend : RowsAscend now.world

-- it is said of the world alone
pub same_declared : (acts : List Numbered) (now more : Moment) → more.world ≡ now.world → GoesDeclared acts now → GoesDeclared acts more
same_declared acts now more same g = record {
  goes = subst Goes (sym same) g.goes;
  flows = subst (Flows acts) (sym same) g.flows;
  homed = subst (Homed acts) (sym same) g.homed;
  spoken = subst (Spoken acts) (sym same) g.spoken;
  ascend = subst RowsAscend (sym same) g.ascend;
}

first : GoesDeclared [] beginning
first = record {
  goes = goes_first;
  flows = record { fresh = λ c none kind id. refl; flows = λ c s client unbroken kind id. absurd (true≢false (sym unbroken)) };
  homed = λ c. refl;
  spoken = record {
    clients = λ c s found. absurd (true≢false (sym (ap is_some found)));
    others = λ c none. record { attached = refl; none = λ class. refl };
  };
  ascend = none_ascend;
}

next : (acts : List Numbered) (now : Moment) → GoesDeclared acts now → (n : ℕ) (act : Act) → IfSome (went now (outcome now.world n act)) (GoesDeclared (acts ++ (n, act) ∷ []))
next acts now g n act =
    by (went now (outcome now.world n act)) (act_goes now n act g.goes) (flows_keep acts now g.goes.sound g.goes.clients g.flows n act) (homes_keep acts now g.homed n act)
    (spoken_keep acts now g.goes.clients g.flows g.spoken n act) (ascend_keep now g.ascend n act)
  where
    by : (o : Option Moment) → IfSome o (λ then. Goes then.world) → IfSome o (λ then. Flows (acts ++ (n, act) ∷ []) then.world) → IfSome o (λ then. Homed (acts ++ (n, act) ∷ []) then.world) →
        IfSome o (λ then. Spoken (acts ++ (n, act) ∷ []) then.world) → IfSome o (λ then. RowsAscend then.world) → IfSome o (GoesDeclared (acts ++ (n, act) ∷ []))
    by None goes flows homed spoken ascend = tt
    by (Some then) goes flows homed spoken ascend = record { goes = goes; flows = flows; homed = homed; spoken = spoken; ascend = ascend }

-- at the moment that some acts lead to
pub goes_declared : (acts : List Numbered) → IfSome (reached acts) (GoesDeclared acts)
goes_declared acts = after_all GoesDeclared (λ x. Unit {0}) (λ done now h x k. next done now h x.0 x.1) acts [] (Some beginning) first (in_each (λ x. Unit {0}) acts (λ x i. tt))
