-- Each client is that of the router of its line (`Homed`): each act that is not refused keeps it.
use Rattle.std.proofs.Common.{◌≡◌, ℕ, Bool, true, false, cond, List, [], ◌∷◌, ◌++◌, Option, Some, None, refl, sym, ap, ◌∙◌}
use Rattle.std.specs.Prelude.{unwrap_or, IfSome}
use Rattle.std.specs.Option.{option_map}
use Rattle.std.proofs.lemmas.List.Sums.{fold-append}
use Rattle.zr_lists.proofs.Options.{not_there}
use Rattle.zr_id.specs.Zid.{is_named}
use Rattle.zr_msg.specs.declared.decl.Kind.TheVariants as k
use Rattle.zr_msg.specs.Extras.{no_extras}
use Rattle.zr_msg.specs.declared.msg.Msg.{Msg}
use Rattle.zr_msg.specs.declared.msg.Msg.TheVariants as m
use Rattle.zr_script_spec.specs.declared.command.Act.{Act}
use Rattle.zr_script_spec.specs.declared.command.Act.TheVariants as a
use Rattle.zr_script_spec.specs.Mode.{is_current, is_future}
use Rattle.zr_node_spec.specs.Table.{able_kind}
use Rattle.zr_world_spec.specs.World.{ClientState, Clients, WorldState, client_of, with_client, new_client, is_taken}
use Rattle.zr_world_spec.specs.Acts.{outcome, declaring, undeclaring, received, ids_of}
use Rattle.zr_world_spec.specs.Moments.{Numbered, Moment, went}
use Rattle.zr_world_spec.proofs.Names.{value_new, read_kept}
use Rattle.zr_world_spec.proofs.Clients.{SameClients, read_same_clients, same_received, same_home}
use Rattle.zr_world_spec.proofs.Cases.{free_name, for_router, for_client, for_link, for_up, for_break, for_down, for_declare, for_undeclare, Says, Weighs, interest_says, uninterest_says, publish_says, get_says, reply_says, end_says, for_handle, for_take, for_mark, for_show}
use Rattle.zr_law_settled.proofs.Spreading.{Name}
use Rattle.zr_law_declared.specs.Declared.{home_by, home}

-- the router of a client that is there
abbrev pub router_at : Option ClientState → Option Name
router_at o = option_map (λ s. s.router) o

abbrev pub Homed : List Numbered → WorldState → Type 0
Homed acts w = (c : Name) → home acts c ≡ router_at (client_of w.clients c)

home_more : (acts : List Numbered) (n : ℕ) (act : Act) (c : Name) → home (acts ++ (n, act) ∷ []) c ≡ home_by c (home acts c) act
home_more acts n act c = fold-append (λ (so_far : Option Name) (x : Numbered). home_by c so_far x.1) None acts ((n, act) ∷ [])

module _ (acts : List Numbered) (now : Moment) (h : Homed acts now.world) where
  abbrev w : WorldState
  w = now.world

  abbrev pub HomedThen : ℕ → Act → Moment → Type 0
  HomedThen n act next = Homed (acts ++ (n, act) ∷ []) next.world

  comes : (n : ℕ) (id router : Name) → is_taken w id ≡ false → (c : Name) → home (acts ++ (n, a.Client id router) ∷ []) c ≡ router_at (cond (is_named c id) (Some (new_client router)) (client_of w.clients c))
  comes n id router free c = home_more acts n (a.Client id router) c ∙ by (is_named c id)
    where
      by : (b : Bool) → cond b (Some router) (home acts c) ≡ router_at (cond b (Some (new_client router)) (client_of w.clients c))
      by true = refl
      by false = h c

  -- a client with other ids
  kept : (name : Name) (s t : ClientState) → client_of w.clients name ≡ Some s → t.router ≡ s.router → (c : Name) → home acts c ≡ router_at (client_of (with_client w.clients name t) c)
  kept name s t found same c = h c ∙ sym (read_kept router_at w.clients name c s t found (ap Some same))

  -- an act that brings no client, and changes interests, queries and requests alone
  same_homes : (n : ℕ) (act : Act) → ((c : Name) (so_far : Option Name) → home_by c so_far act ≡ so_far) → (clients : Clients) → SameClients w.clients clients → (c : Name) →
      home (acts ++ (n, act) ∷ []) c ≡ router_at (client_of clients c)
  same_homes n act quiet clients same c = home_more acts n act c ∙ quiet c (home acts c) ∙ h c ∙ sym (read_same_clients w.clients clients same (λ s. s.router) (λ s. refl) c)

  says : (n : ℕ) (act : Act) (client : Name) (msg : Msg) → ((c : Name) (so_far : Option Name) → home_by c so_far act ≡ so_far) → Says now (HomedThen n act) n client msg
  says n act client msg quiet s found e at_end unbroken clients same = same_homes n act quiet clients same

  weighs : (n : ℕ) (act : Act) (client : Name) (key : List ℕ) (msg : Msg) → ((c : Name) (so_far : Option Name) → home_by c so_far act ≡ so_far) → Weighs now (HomedThen n act) n client key msg
  weighs n act client key msg quiet s found e at_end unbroken r there room clients same = same_homes n act quiet clients same

  pub homes_keep : (n : ℕ) (act : Act) → IfSome (went now (outcome w n act)) (HomedThen n act)
  unfolding outcome
  homes_keep n (a.Router id) = for_router now (HomedThen n (a.Router id)) id (λ free room c. home_more acts n (a.Router id) c ∙ h c)
  homes_keep n (a.Client id router) = for_client now (HomedThen n (a.Client id router)) n id router (λ r found free room taken c.
      comes n id router free c ∙ sym (ap router_at (value_new w.clients id c (new_client router) (not_there (client_of w.clients id) (free_name w id free).1))))
  homes_keep n (a.Link one other weight) = for_link now (HomedThen n (a.Link one other weight)) one other weight (λ apart r found q found' new room c. home_more acts n (a.Link one other weight) c ∙ h c)
  homes_keep n (a.Up router name) = for_up now (HomedThen n (a.Up router name)) n router name (λ r found there s at_end unbroken down taken c. home_more acts n (a.Up router name) c ∙ h c)
  homes_keep n (a.Break router name) = for_break now (HomedThen n (a.Break router name)) router name (λ r found there s at_end unbroken c. home_more acts n (a.Break router name) c ∙ h c)
  homes_keep n (a.Down router name) = for_down now (HomedThen n (a.Down router name)) n router name (λ r found there s at_end up cut link number taken c. home_more acts n (a.Down router name) c ∙ h c)
  homes_keep n (a.Sub client id key) = for_declare now (HomedThen n (a.Sub client id key)) n client k.Sub id key (m.Sub id key) (λ s found fresh e at_end unbroken r there room c.
      home_more acts n (a.Sub client id key) c ∙ kept client s (declaring s k.Sub id) found refl c)
  homes_keep n (a.Unsub client id) = for_undeclare now (HomedThen n (a.Unsub client id)) n client k.Sub id (m.Unsub id) (λ s found known e at_end unbroken c.
      home_more acts n (a.Unsub client id) c ∙ kept client s (undeclaring s k.Sub id) found refl c)
  homes_keep n (a.Token client id key) = for_declare now (HomedThen n (a.Token client id key)) n client k.Token id key (m.Token id key) (λ s found fresh e at_end unbroken r there room c.
      home_more acts n (a.Token client id key) c ∙ kept client s (declaring s k.Token id) found refl c)
  homes_keep n (a.Untoken client id) = for_undeclare now (HomedThen n (a.Untoken client id)) n client k.Token id (m.Untoken id) (λ s found known e at_end unbroken c.
      home_more acts n (a.Untoken client id) c ∙ kept client s (undeclaring s k.Token id) found refl c)
  homes_keep n (a.Able client id key complete) = for_declare now (HomedThen n (a.Able client id key complete)) n client (able_kind complete) id key (m.Able id key complete) (λ s found fresh e at_end unbroken r there room c.
      home_more acts n (a.Able client id key complete) c ∙ kept client s (declaring s (able_kind complete) id) found (same_home s (able_kind complete) (ids_of s (able_kind complete) ++ id ∷ [])) c)
  homes_keep n (a.Unable client id) = for_undeclare now (HomedThen n (a.Unable client id)) n client k.Able id (m.Unable id) (λ s found known e at_end unbroken c.
      home_more acts n (a.Unable client id) c ∙ kept client s (undeclaring s k.Able id) found refl c)
  homes_keep n (a.Interest client id mode kinds key aggregate) =
      let act : Act = a.Interest client id mode kinds key aggregate in
      let msg : Msg = m.Interest id (is_current mode) (is_future mode) kinds key aggregate in
      interest_says now (HomedThen n act) n client id mode kinds key aggregate (says n act client msg (λ c so_far. refl)) (weighs n act client (unwrap_or key []) msg (λ c so_far. refl))
  homes_keep n (a.Uninterest client id) = uninterest_says now (HomedThen n (a.Uninterest client id)) n client id (says n (a.Uninterest client id) client (m.EndInterest id) (λ c so_far. refl))
  homes_keep n (a.Publish client content) = publish_says now (HomedThen n (a.Publish client content)) n client content (says n (a.Publish client content) client (m.Push None content) (λ c so_far. refl))
  homes_keep n (a.Get client number target content) = get_says now (HomedThen n (a.Get client number target content)) n client number target content
      (says n (a.Get client number target content) client (m.Request None number target content) (λ c so_far. refl))
  homes_keep n (a.Reply client number content) = reply_says now (HomedThen n (a.Reply client number content)) n client number content (says n (a.Reply client number content) client (m.Response number content) (λ c so_far. refl))
  homes_keep n (a.End client number) = end_says now (HomedThen n (a.End client number)) n client number (says n (a.End client number) client (m.Final number no_extras) (λ c so_far. refl))
  homes_keep n (a.Handle router from) = for_handle now (HomedThen n (a.Handle router from)) router from (λ r found there s at_end up msg tag xs front link number taken c. home_more acts n (a.Handle router from) c ∙ h c)
  homes_keep n (a.Take router to) = for_take now (HomedThen n (a.Take router to)) router to (λ r found there s at_end up unbroken msg tag xs front.
      same_homes n (a.Take router to) (λ c so_far. refl) (received w.clients to msg (client_of w.clients to)) (same_received w.clients to msg))
  homes_keep n a.Mark = for_mark now (HomedThen n a.Mark) n (λ settled joined c. home_more acts n a.Mark c ∙ h c)
  homes_keep n (a.Show router) = for_show now (HomedThen n (a.Show router)) router (λ r found c. home_more acts n (a.Show router) c ∙ h c)
