-- Each act that is not refused keeps what clients want and their routers will know of it (`Wanting`).
use Rattle.std.proofs.Common.{◌≡◌, ℕ, Bool, true, false, cond, List, [], ◌∷◌, ◌++◌, Option, Some, None, is_some, refl, sym, ap, ◌∙◌, subst}
use Rattle.std.specs.Prelude.{◌==◌, not, unwrap_or, IfSome}
use Rattle.std.specs.List.{filter, list_any}
use Rattle.std.specs.Option.{option_map_or}
use Rattle.zr_lists.proofs.Options.{not_there}
use Rattle.zr_id.specs.Zid.{is_named}
use Rattle.zr_graph.proofs.Names.{same_is, same_refl}
use Rattle.zr_msg.specs.Extras.{no_extras}
use Rattle.zr_msg.specs.declared.decl.Kind.{Kind}
use Rattle.zr_msg.specs.declared.decl.Kind.TheVariants as k
use Rattle.zr_msg.specs.declared.msg.Kinds.{Kinds}
use Rattle.zr_msg.specs.declared.msg.Msg.{Msg}
use Rattle.zr_msg.specs.declared.msg.Msg.TheVariants as m
use Rattle.zr_local.specs.declared.interest.Interest.{Interest}
use Rattle.zr_script_spec.specs.declared.command.Act.{Act}
use Rattle.zr_script_spec.specs.declared.command.Act.TheVariants as a
use Rattle.zr_script_spec.specs.declared.command.Mode.{Mode}
use Rattle.zr_script_spec.specs.Mode.{is_current, is_future}
use Rattle.zr_node_spec.specs.Table.{able_kind, live}
use Rattle.zr_world_spec.specs.World.{Tagged, RouterState, EndState, ClientState, Routers, Clients, WorldState, with_routers, with_clients, with_router, with_client, router_of, client_of, end_of}
use Rattle.zr_world_spec.specs.Acts.{outcome, has_number, weighing, declaring, undeclaring, wanting, unwanting, asking, ending, receiving, received}
use Rattle.zr_world_spec.specs.Moments.{Numbered, Moment, went}
use Rattle.zr_world_spec.specs.Sound.{IsSound}
use Rattle.zr_guarantee.specs.Meaning.{Wants}
use Rattle.zr_guarantee.specs.Interests.{wanted_then, wanted_by, interests}
use Rattle.zr_world_spec.proofs.Keyed.{read_same}
use Rattle.zr_world_spec.proofs.Names.{names, read_after, read_kept}
use Rattle.zr_world_spec.proofs.Clients.{there_same, same_received}
use Rattle.zr_world_spec.proofs.Cases.{w_down, w_handle, w_sent, w_take, number_found, for_router, for_client, for_link, for_up, for_break, for_down, for_declare, for_undeclare, for_interest, for_uninterest, for_publish, for_get, for_reply, for_end, for_handle, for_take, for_mark, for_show}
use Rattle.zr_law_settled.proofs.Spreading.{Name}
use Rattle.zr_law_settled.proofs.ClientRows.{ClientsHold, linked_stay, taken_stay, broken_stay, none_stay}
use Rattle.zr_law_told.proofs.Readings.{wants_of, either_router}
use Rattle.zr_law_told.proofs.Interests.{noted_by, noted_in, all_noted, less, passing, lasting, ids_more, ids_less}
use Rattle.zr_law_told.proofs.Kept.{AreKept}
use Rattle.zr_law_told.proofs.Wanting.{Wanting, IsQuiet, Lasts, no_news, by_ends, router_wants, said_wants, up_wants, down_wants, handled_wants, client_wants}

-- what a client is sent is nothing of its interests
lasts_receiving : (s : ClientState) (msg : Msg) → Lasts s (receiving s msg)
lasts_receiving s (m.Sub id key) = record { router = refl; interests = refl }
lasts_receiving s (m.Unsub id) = record { router = refl; interests = refl }
lasts_receiving s (m.Token id key) = record { router = refl; interests = refl }
lasts_receiving s (m.Untoken id) = record { router = refl; interests = refl }
lasts_receiving s (m.Able id key complete) = record { router = refl; interests = refl }
lasts_receiving s (m.Unable id) = record { router = refl; interests = refl }
lasts_receiving s (m.Interest id current future kinds key aggregate) = record { router = refl; interests = refl }
lasts_receiving s (m.EndInterest id) = record { router = refl; interests = refl }
lasts_receiving s (m.ToldSub id key interest) = record { router = refl; interests = refl }
lasts_receiving s (m.ToldToken id key interest) = record { router = refl; interests = refl }
lasts_receiving s (m.ToldAble id key complete interest) = record { router = refl; interests = refl }
lasts_receiving s (m.ToldUnsub id) = record { router = refl; interests = refl }
lasts_receiving s (m.ToldUntoken id) = record { router = refl; interests = refl }
lasts_receiving s (m.ToldUnable id) = record { router = refl; interests = refl }
lasts_receiving s (m.ToldEnd interest) = record { router = refl; interests = refl }
lasts_receiving s (m.Push tree content) = record { router = refl; interests = refl }
lasts_receiving s (m.Request tree id target content) = record { router = refl; interests = refl }
lasts_receiving s (m.Response id content) = record { router = refl; interests = refl }
lasts_receiving s (m.Final id extras) = record { router = refl; interests = refl }
lasts_receiving s (m.State links) = record { router = refl; interests = refl }
lasts_receiving s (m.Step source number added decl) = record { router = refl; interests = refl }
lasts_receiving s (m.Snap source number decls) = record { router = refl; interests = refl }

lasts_declaring : (s : ClientState) (kind : Kind) (id : ℕ) → Lasts s (declaring s kind id)
lasts_declaring s k.Sub id = record { router = refl; interests = refl }
lasts_declaring s k.Able id = record { router = refl; interests = refl }
lasts_declaring s k.Full id = record { router = refl; interests = refl }
lasts_declaring s k.Token id = record { router = refl; interests = refl }

module _ (acts : List Numbered) (now : Moment) (sound : IsSound now.world) (h : ClientsHold now.world) (f : Wanting acts now.world) where
  abbrev w : WorldState
  w = now.world

  abbrev pub WantsThen : ℕ → Act → Moment → Type 0
  WantsThen n act next = Wanting (acts ++ (n, act) ∷ []) next.world

  -- ---- a client says something

  module _ (name : Name) (s : ClientState) (found : client_of w.clients name ≡ Some s) where
    one_other : (t : ClientState) (c : Name) → client_of (with_client w.clients name t) c ≡ cond (is_named name c) (Some t) (client_of w.clients c)
    one_other t c = read_after (λ o. o) w.clients name c s t found

    as_it_was : (c : Name) → client_of w.clients c ≡ cond (is_named name c) (Some s) (client_of w.clients c)
    as_it_was c = sym (read_same (is_named name c) (Some s) (client_of w.clients c) (λ e. sym found ∙ ap (client_of w.clients) (same_is name c e)))

    module _ (key : List ℕ) (r : RouterState) (there : router_of w.routers s.router ≡ Some r) where
      weighed_kept : (x : Name) (q : RouterState) → router_of (with_router w.routers s.router (weighing r key)) x ≡ Some q → AreKept q.node
      weighed_kept x q is = either_router (λ q. AreKept q.node) (router_of w.routers x) q (weighing r key) (is_named s.router x) (f.kept x) (f.kept s.router r there) (sym (read_after (λ o. o) w.routers s.router x r (weighing r key) there) ∙ is)

      weighed_wants : (x c : Name) → wants_of (router_of (with_router w.routers s.router (weighing r key)) x) c ≡ wants_of (router_of w.routers x) c
      weighed_wants x c = read_kept (λ o. wants_of o c) w.routers s.router x r (weighing r key) there refl

    module _ (n : ℕ) (act : Act) (e : EndState) (at_end : end_of w.ends (s.router, name) ≡ Some e) (msg : Msg) where
      -- nothing of interests
      silent_says : IsQuiet act → ((A : List Interest) → noted_by A msg ≡ A) → (t : ClientState) → Lasts s t → (routers : Routers) → ((x : Name) (r : RouterState) → router_of routers x ≡ Some r → AreKept r.node) →
          ((x c : Name) → wants_of (router_of routers x) c ≡ wants_of (router_of w.routers x) c) → (clients : Clients) → ((c : Name) → client_of clients c ≡ cond (is_named name c) (Some t) (client_of w.clients c)) →
          Wanting (acts ++ (n, act) ∷ []) (with_clients (with_routers (w_sent w n name s e msg) routers) clients)
      silent_says quiet silent t lasts routers kept rows clients are = said_wants acts w f n act name s found e at_end msg t (sym lasts.router) routers kept rows clients are
          (λ c other so_far. quiet c so_far)
          (λ A same test. ap (list_any test) (silent A) ∙ same test ∙ ap (list_any test) (sym (quiet name (interests acts name))))
          (λ p. ap (list_any p) (sym lasts.interests) ∙ f.ids name s found p ∙ ap (list_any (λ i. p i.id)) (sym (quiet name (interests acts name))))

      -- where its router weighs it, and where it doesn't
      heavy : IsQuiet act → ((A : List Interest) → noted_by A msg ≡ A) → (t : ClientState) → Lasts s t → (key : List ℕ) (r : RouterState) → router_of w.routers s.router ≡ Some r →
          Wanting (acts ++ (n, act) ∷ []) (with_clients (with_routers (w_sent w n name s e msg) (with_router w.routers s.router (weighing r key))) (with_client w.clients name t))
      heavy quiet silent t lasts key r there = silent_says quiet silent t lasts (with_router w.routers s.router (weighing r key)) (weighed_kept key r there) (weighed_wants key r there) (with_client w.clients name t) (one_other t)

      light : IsQuiet act → ((A : List Interest) → noted_by A msg ≡ A) → (t : ClientState) → Lasts s t → Wanting (acts ++ (n, act) ∷ []) (with_clients (w_sent w n name s e msg) (with_client w.clients name t))
      light quiet silent t lasts = silent_says quiet silent t lasts w.routers f.kept (λ x c. refl) (with_client w.clients name t) (one_other t)

      plain : IsQuiet act → ((A : List Interest) → noted_by A msg ≡ A) → Wanting (acts ++ (n, act) ∷ []) (w_sent w n name s e msg)
      plain quiet silent = silent_says quiet silent s (record { router = refl; interests = refl }) w.routers f.kept (λ x c. refl) w.clients as_it_was

    -- ---- an interest

    none_yet : (id : ℕ) → has_number s.interests id ≡ false → list_any (λ i. i.id == id) (interests acts name) ≡ false
    none_yet id fresh = sym (f.ids name s found (λ n. n == id)) ∙ fresh

    module _ (n id : ℕ) (mode : Mode) (kinds : Kinds) (key : Option (List ℕ)) (aggregate : Bool) (fresh : has_number s.interests id ≡ false) (e : EndState) (at_end : end_of w.ends (s.router, name) ≡ Some e) where
      abbrev asks : Act
      asks = a.Interest name id mode kinds key aggregate

      abbrev ask : Msg
      ask = m.Interest id (is_current mode) (is_future mode) kinds key aggregate

      abbrev new : Interest
      new = record { id = id; kinds = kinds; key = key; aggregate = aggregate }

      abbrev B : List Interest
      B = interests acts name

      -- what is wanted then, where the interest lasts and where it doesn't
      abbrev wanted_if : Name → List Interest → Bool → List Interest
      wanted_if c so_far lasts =
          option_map_or (λ (x : Wants). cond (is_named c x.client) (wanted_then so_far x.id x.interest) so_far) (cond lasts (Some (record { client = name; id = id; interest = Some new })) None) so_far

      not_others : (c : Name) → is_named name c ≡ false → (so_far : List Interest) → wanted_by c so_far asks ≡ so_far
      not_others c other so_far = by (is_future mode)
        where
          by : (b : Bool) → wanted_if c so_far b ≡ so_far
          by true = ap (λ b. cond b (so_far ++ new ∷ []) so_far) (names.symm c name ∙ other)
          by false = refl

      -- in what is declared now alone
      passes : is_future mode ≡ false → Wanting (acts ++ (n, asks) ∷ []) (with_clients (w_sent w n name s e ask) w.clients)
      passes passing_by = said_wants acts w f n asks name s found e at_end ask s refl w.routers f.kept (λ x c. refl) w.clients as_it_was not_others
          (λ A same test. ap (λ b. list_any test (noted_in A id (live b new))) passing_by ∙ passing A B same id (none_yet id fresh) test ∙ ap (list_any test) (sym its_own))
          (λ p. f.ids name s found p ∙ ap (list_any (λ i. p i.id)) (sym its_own))
        where
          its_own : wanted_by name B asks ≡ B
          its_own = ap (wanted_if name B) passing_by

      -- in what is declared later
      stays_on : is_future mode ≡ true → (weight : List ℕ) (r : RouterState) → router_of w.routers s.router ≡ Some r →
          Wanting (acts ++ (n, asks) ∷ []) (with_clients (with_routers (w_sent w n name s e ask) (with_router w.routers s.router (weighing r weight))) (with_client w.clients name (wanting s id)))
      stays_on lasts weight r there = said_wants acts w f n asks name s found e at_end ask (wanting s id) refl (with_router w.routers s.router (weighing r weight)) (weighed_kept weight r there) (weighed_wants weight r there)
          (with_client w.clients name (wanting s id)) (one_other (wanting s id)) not_others
          (λ A same test. ap (λ b. list_any test (noted_in A id (live b new))) lasts ∙ lasting A B same id (none_yet id fresh) new refl test ∙ ap (list_any test) (sym its_own))
          (λ p. ids_more s.interests B (f.ids name s found) new p ∙ ap (list_any (λ i. p i.id)) (sym its_own))
        where
          its_own : wanted_by name B asks ≡ B ++ new ∷ []
          its_own = ap (wanted_if name B) lasts ∙ ap (λ b. cond b (B ++ new ∷ []) B) (same_refl name)

    -- it ends
    ends_it : (n id : ℕ) (e : EndState) → end_of w.ends (s.router, name) ≡ Some e →
        Wanting (acts ++ (n, a.Uninterest name id) ∷ []) (with_clients (w_sent w n name s e (m.EndInterest id)) (with_client w.clients name (unwanting s id)))
    ends_it n id e at_end = said_wants acts w f n (a.Uninterest name id) name s found e at_end (m.EndInterest id) (unwanting s id) refl w.routers f.kept (λ x c. refl)
        (with_client w.clients name (unwanting s id)) (one_other (unwanting s id))
        (λ c other so_far. ap (λ b. cond b (filter (λ i. not (i.id == id)) so_far) so_far) (names.symm c name ∙ other))
        (λ A same test. less A (interests acts name) same id test ∙ ap (list_any test) (sym its_own))
        (λ p. ids_less s.interests (interests acts name) (f.ids name s found) id p ∙ ap (list_any (λ i. p i.id)) (sym its_own))
      where
        its_own : wanted_by name (interests acts name) (a.Uninterest name id) ≡ filter (λ i. not (i.id == id)) (interests acts name)
        its_own = ap (λ b. cond b (filter (λ i. not (i.id == id)) (interests acts name)) (interests acts name)) (same_refl name)

  -- ---- a message is taken

  received_was : (to : Name) (msg : Msg) (c : Name) (t : ClientState) → client_of (received w.clients to msg (client_of w.clients to)) c ≡ Some t → (s : ClientState) × (client_of w.clients c ≡ Some s) × Lasts s t
  received_was to msg c t client = by (client_of w.clients to) refl client
    where
      by : (o : Option ClientState) → client_of w.clients to ≡ o → client_of (received w.clients to msg o) c ≡ Some t → (s : ClientState) × (client_of w.clients c ≡ Some s) × Lasts s t
      by None e k = (t, k, record { router = refl; interests = refl })
      by (Some s) e k = at (is_named to c) refl (sym (read_after (λ o. o) w.clients to c s (receiving s msg) e) ∙ k)
        where
          at : (b : Bool) → is_named to c ≡ b → cond b (Some (receiving s msg)) (client_of w.clients c) ≡ Some t → (s : ClientState) × (client_of w.clients c ≡ Some s) × Lasts s t
          at true same q =
              let one : receiving s msg ≡ t = cc in
              (s, ap (client_of w.clients) (sym (same_is to c same)) ∙ e, subst (Lasts s) one (lasts_receiving s msg))
          at false other q = (t, q, record { router = refl; interests = refl })

  taken_wants : (n : ℕ) (router to : Name) (s : EndState) → end_of w.ends (router, to) ≡ Some s → is_some (router_of w.routers router) ≡ true → (msg : Msg) (tag : ℕ) (xs : List Tagged) →
      Wanting (acts ++ (n, a.Take router to) ∷ []) (w_take w router to s msg tag xs)
  taken_wants n router to s at_end here msg tag xs =
      let stays = taken_stay w h router to s at_end here msg tag xs in
      no_news acts w f n (a.Take router to) (λ c so_far. refl) (w_take w router to s msg tag xs) f.kept
      (λ c none. not_there (client_of w.clients c) (sym (there_same w.clients (received w.clients to msg (client_of w.clients to)) (same_received w.clients to msg) c) ∙ ap is_some none))
      (received_was to msg)
      (λ c q client whole. (stays.whole q.router c q client whole, ap (all_noted (wants_of (router_of w.routers q.router) c)) (stays.wire q.router c q client whole)))

  -- ---- the acts

  pub wants_keep : (n : ℕ) (act : Act) → IfSome (went now (outcome w n act)) (WantsThen n act)
  unfolding outcome
  wants_keep n (a.Router id) = for_router now (WantsThen n (a.Router id)) id (λ free room. router_wants acts w f n (a.Router id) (λ c so_far. refl) id free)
  wants_keep n (a.Client id router) = for_client now (WantsThen n (a.Client id router)) n id router (λ r found free room taken.
      client_wants acts w f sound h router r found n (a.Client id router) (λ c so_far. refl) id free)
  wants_keep n (a.Link one other weight) = for_link now (WantsThen n (a.Link one other weight)) one other weight (λ apart r found q found' new room.
      by_ends acts w f n (a.Link one other weight) (λ c so_far. refl) _ (linked_stay w h one other weight (ap is_some found) (ap is_some found')))
  wants_keep n (a.Up router name) = for_up now (WantsThen n (a.Up router name)) n router name (λ r found there s at_end unbroken down taken.
      up_wants acts w f sound h router r found n (a.Up router name) (λ c so_far. refl) name s at_end down)
  wants_keep n (a.Break router name) = for_break now (WantsThen n (a.Break router name)) router name (λ r found there s at_end unbroken.
      by_ends acts w f n (a.Break router name) (λ c so_far. refl) _ (broken_stay w h router name))
  wants_keep n (a.Down router name) = for_down now (WantsThen n (a.Down router name)) n router name (λ r found there s at_end up cut link number taken.
      let j = number_found r name link number in
      subst (λ q. Wanting (acts ++ (n, a.Down router name) ∷ []) (w_down w n router name r q)) j.2
      (down_wants acts w f sound h router r found n (a.Down router name) (λ c so_far. refl) name s at_end cut j.0 j.1))
  wants_keep n (a.Sub client id key) = for_declare now (WantsThen n (a.Sub client id key)) n client k.Sub id key (m.Sub id key) (λ s found fresh e at_end unbroken r there room.
      heavy client s found n (a.Sub client id key) e at_end (m.Sub id key) (λ c so_far. refl) (λ A. refl) (declaring s k.Sub id) (lasts_declaring s k.Sub id) key r there)
  wants_keep n (a.Unsub client id) = for_undeclare now (WantsThen n (a.Unsub client id)) n client k.Sub id (m.Unsub id) (λ s found known e at_end unbroken.
      light client s found n (a.Unsub client id) e at_end (m.Unsub id) (λ c so_far. refl) (λ A. refl) (undeclaring s k.Sub id) (record { router = refl; interests = refl }))
  wants_keep n (a.Token client id key) = for_declare now (WantsThen n (a.Token client id key)) n client k.Token id key (m.Token id key) (λ s found fresh e at_end unbroken r there room.
      heavy client s found n (a.Token client id key) e at_end (m.Token id key) (λ c so_far. refl) (λ A. refl) (declaring s k.Token id) (lasts_declaring s k.Token id) key r there)
  wants_keep n (a.Untoken client id) = for_undeclare now (WantsThen n (a.Untoken client id)) n client k.Token id (m.Untoken id) (λ s found known e at_end unbroken.
      light client s found n (a.Untoken client id) e at_end (m.Untoken id) (λ c so_far. refl) (λ A. refl) (undeclaring s k.Token id) (record { router = refl; interests = refl }))
  wants_keep n (a.Able client id key complete) = for_declare now (WantsThen n (a.Able client id key complete)) n client (able_kind complete) id key (m.Able id key complete) (λ s found fresh e at_end unbroken r there room.
      heavy client s found n (a.Able client id key complete) e at_end (m.Able id key complete) (λ c so_far. refl) (λ A. refl) (declaring s (able_kind complete) id) (lasts_declaring s (able_kind complete) id) key r there)
  wants_keep n (a.Unable client id) = for_undeclare now (WantsThen n (a.Unable client id)) n client k.Able id (m.Unable id) (λ s found known e at_end unbroken.
      light client s found n (a.Unable client id) e at_end (m.Unable id) (λ c so_far. refl) (λ A. refl) (undeclaring s k.Able id) (record { router = refl; interests = refl }))
  wants_keep n (a.Interest client id mode kinds key aggregate) = for_interest now (WantsThen n (a.Interest client id mode kinds key aggregate)) n client id mode kinds key aggregate
      (λ s found fresh e at_end unbroken passing. passes client s found n id mode kinds key aggregate fresh e at_end passing)
      (λ s found fresh e at_end unbroken lasts r there room. stays_on client s found n id mode kinds key aggregate fresh e at_end lasts (unwrap_or key []) r there)
  wants_keep n (a.Uninterest client id) = for_uninterest now (WantsThen n (a.Uninterest client id)) n client id (λ s found known e at_end unbroken. ends_it client s found n id e at_end)
  wants_keep n (a.Publish client content) = for_publish now (WantsThen n (a.Publish client content)) n client content (λ s found e at_end unbroken.
      plain client s found n (a.Publish client content) e at_end (m.Push None content) (λ c so_far. refl) (λ A. refl))
  wants_keep n (a.Get client number target content) = for_get now (WantsThen n (a.Get client number target content)) n client number target content (λ s found fresh e at_end unbroken room.
      light client s found n (a.Get client number target content) e at_end (m.Request None number target content) (λ c so_far. refl) (λ A. refl) (asking s number) (record { router = refl; interests = refl }))
  wants_keep n (a.Reply client number content) = for_reply now (WantsThen n (a.Reply client number content)) n client number content (λ s found e at_end unbroken asked.
      plain client s found n (a.Reply client number content) e at_end (m.Response number content) (λ c so_far. refl) (λ A. refl))
  wants_keep n (a.End client number) = for_end now (WantsThen n (a.End client number)) n client number (λ s found e at_end unbroken asked.
      light client s found n (a.End client number) e at_end (m.Final number no_extras) (λ c so_far. refl) (λ A. refl) (ending s number) (record { router = refl; interests = refl }))
  wants_keep n (a.Handle router from) = for_handle now (WantsThen n (a.Handle router from)) router from (λ r found there s at_end up msg tag xs front link number taken.
      let j = number_found r from link number in
      subst (λ q. Wanting (acts ++ (n, a.Handle router from) ∷ []) (w_handle w router from r s q msg tag xs)) j.2
      (handled_wants acts w f sound h router r found n (a.Handle router from) (λ c so_far. refl) from s at_end j.0 j.1 msg tag xs front))
  wants_keep n (a.Take router to) = for_take now (WantsThen n (a.Take router to)) router to (λ r found there s at_end up unbroken msg tag xs front. taken_wants n router to s at_end (ap is_some found) msg tag xs)
  wants_keep n a.Mark = for_mark now (WantsThen n a.Mark) n (λ settled joined. by_ends acts w f n a.Mark (λ c so_far. refl) w.ends (none_stay w h))
  wants_keep n (a.Show router) = for_show now (WantsThen n (a.Show router)) router (λ r found. by_ends acts w f n (a.Show router) (λ c so_far. refl) w.ends (none_stay w h))
