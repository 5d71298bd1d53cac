-- Acts of clients keep what stands: a client comes, declares or publishes something, asks, replies, or ends a request (`client_kept`).
use Rattle.std.proofs.Common.{◌≡◌, ℕ, ◌+◌, ◌⊎◌, inl, inr, option_map, Bool, true, false, cond, List, [], ◌∷◌, ◌++◌, length, map, filter, Some, None, is_some, refl, sym, ap, ◌∙◌, subst}
use Rattle.std.specs.Prelude.{◌||◌, IfSome}
use Rattle.std.proofs.lemmas.Bool.{false≢true, true≢false, or_right, false_from_ne_true}
use Rattle.std.proofs.lemmas.Option.{none-some}
use Rattle.zr_lists.proofs.Options.{not_there, there_changed}
use Rattle.zr_msg.specs.declared.content.Parts.{Parts}
use Rattle.zr_node_spec.specs.Tables.{free_link}
use Rattle.zr_node_spec.specs.Table.{after}
use Rattle.zr_law_numbers.proofs.Neighbours.{stays_up}
use Rattle.zr_law_replies.proofs.Gathered.{gathered_by, gathered_of, gathered_at, heard_gathered, quiet_gathered, nodes_gathered}
use Rattle.zr_id.specs.Zid.{is_named}
use Rattle.zr_graph.proofs.Names.{same_is}
use Rattle.zr_msg.specs.declared.decl.Kind.{Kind}
use Rattle.zr_msg.specs.declared.event.Event.{Event}
use Rattle.zr_msg.specs.declared.msg.Msg.{Msg}
use Rattle.zr_msg.specs.declared.peer.Role.TheVariants as role
use Rattle.zr_script_spec.specs.declared.report.ReportLine.{ReportLine}
use Rattle.zr_node_spec.specs.Event.{MayCome}
use Rattle.zr_world_spec.specs.World.{RouterState, ClientState, EndState, WorldState, with_clients, with_ends, with_client, new_client, new_end, put_end, lifted, router_of, client_of, end_of, is_taken}
use Rattle.zr_world_spec.specs.Acts.{without_number, ids_of, declaring, undeclaring, weighing, having_told, up_event, client_step}
use Rattle.zr_world_spec.specs.Moments.{Numbered, Moment, went}
use Rattle.zr_world_spec.proofs.Names.{value_new, value_after, read_kept}
use Rattle.zr_world_spec.proofs.Cases.{w_client, w_sent, w_declare, w_undeclare, w_weighed, free_name, for_client}
use Rattle.zr_world_spec.proofs.Sound.{client_may_come}
use Rattle.zr_law_settled.proofs.Goes.{Goes}
use Rattle.zr_law_settled.proofs.Worlds.{router_heard}
use Rattle.zr_law_settled.proofs.Told.{IsTold, sound_back, telling_told}
use Rattle.zr_law_settled.proofs.Told as told
use Rattle.zr_law_declared.proofs.Hearing.{heard_router}
use Rattle.zr_law_numbers.specs.Rows.{AreOfLinks}
use Rattle.zr_law_numbers.specs.Waiting.{asks_in, answers_in}
use Rattle.zr_law_numbers.proofs.Waits.{router_holds, router_awaits}
use Rattle.zr_law_numbers.proofs.Done.{events_are_done}
use Rattle.zr_law_numbers.proofs.Whole.{LinksGo}
use Rattle.zr_law_numbers.proofs.ActHears.{client_links}
use Rattle.zr_law_replies.proofs.ToldLinks.{links_then}
use Rattle.zr_law_numbers.proofs.ActClients.{quiet_deeds, said_links}
use Rattle.zr_law_numbers.proofs.Going.{ids_apart}
use Rattle.zr_guarantee.specs.Sent.{Told, told_to, is_request, finals_in}
use Rattle.zr_law_replies.specs.Answers.{IsAnswer}
use Rattle.zr_law_replies.proofs.Turns.{Turned}
use Rattle.zr_law_replies.proofs.Grown.{Earlier}
use Rattle.zr_law_replies.proofs.Links.{Lines, lines_on, FineAsk, FineSay}
use Rattle.zr_law_replies.proofs.Lines.{AllShow}
use Rattle.zr_law_replies.proofs.Routers.{quiet_fits}
use Rattle.zr_law_replies.proofs.Standing.{BookOf, NoBook, Stands, GathersBy, gathers_then, held_then, no_book_then, others_then, told_none, book_stays, steady, book_same}

module _ (acts : List Numbered) (m : Moment) (x : Numbered) (before : Earlier acts x) (lines : Lines) (g : Goes m.world) (shows : AllShow m.world) (h : Stands acts m lines) where
  abbrev w : WorldState
  w = m.world

  abbrev acts' : List Numbered
  acts' = acts ++ x ∷ []

  abbrev report' : List ReportLine
  report' = m.report ++ []

  abbrev pub IsKept : Moment → Type 0
  IsKept next = Goes next.world → AllShow next.world → Stands (acts ++ x ∷ []) next (lines_on next.world lines)

  abbrev pub Fine : WorldState → Type 0
  Fine v = LinksGo (FineAsk (acts ++ x ∷ []) w v lines) (FineSay (acts ++ x ∷ []) (m.report ++ []) v lines) w v

  abbrev pub Quiet : Type 0
  Quiet = (d : List ℕ) (k : ℕ) → NoBook (x ∷ []) d k

  -- ---- a client comes

  module _ (rows : (a : List ℕ) (r : RouterState) → router_of w.routers a ≡ Some r → AreOfLinks r.node) where
    pub client_kept : Quiet → (n : ℕ) (id router : List ℕ) → IfSome (went m (client_step w n id router)) IsKept
    client_kept quiet n id router = for_client m IsKept n id router (λ r er free room taken g' shows'.
        let v : WorldState = w_client w n id router r in
        let u : WorldState = told.w_client w n id router r in
        let event : Event = up_event r (record { id = id; role = role.Client; weight = 1 }) in
        let tells : IsTold u v = telling_told u router r event n (router_heard (with_ends w (put_end w.ends (router, id) (lifted (new_end 1)))) router r er event n) in
        let may : MayCome r.node (up_event r (record { id = id; role = role.Client; weight = 1 })) = client_may_come w g.sound router id r er free in
        let goes : Fine v = links_then u v tells (FineAsk acts' w v lines) (FineSay acts' report' v lines) w (client_links w g.sound g.orderly router r er id free n may (events_are_done r.node (up_event r (record { id = id; role = role.Client; weight = 1 })) may taken (rows router r er))
        (FineAsk acts' w v lines) (FineSay acts' report' v lines) (quiet_fits acts' report' w v lines router r.node (up_event r (record { id = id; role = role.Client; weight = 1 })) n refl refl) (sound_back u v tells g'.sound)) in
        came r er free v g' shows' goes (λ q. heard_router is_some w.routers router q r (up_event r (record { id = id; role = role.Client; weight = 1 }))
        ∙ read_kept is_some w.routers router q r (having_told r (up_event r (record { id = id; role = role.Client; weight = 1 }))) er refl)
        (λ d. value_new w.clients id d (new_client router) (not_there (client_of w.clients id) (free_name w id free).1))
        (λ a y k hs whole e. inl (before_it r er may a y k hs (heard_gathered w.routers router r er (up_event r (record { id = id; role = role.Client; weight = 1 })) a y k hs e))))
      where
        before_it : (r : RouterState) → router_of w.routers router ≡ Some r → MayCome r.node (up_event r (record { id = id; role = role.Client; weight = 1 })) → (a y : List ℕ) (k : ℕ) (hs : List Parts) →
            (gathered_of (router_of w.routers a) y k ≡ Some hs) ⊎ ((router ≡ a) × (gathered_by (after r.node (up_event r (record { id = id; role = role.Client; weight = 1 }))) y k ≡ Some hs)) → gathered_at w a y k ≡ Some hs
        before_it r er may a y k hs (inl old) = old
        before_it r er may a y k hs (inr new) = subst (λ z. gathered_at w z y k ≡ Some hs) new.0
            (quiet_gathered w router r er (rows router r er) (up_event r (record { id = id; role = role.Client; weight = 1 })) refl
            (λ q l f. stays_up r.node (g.sound.unique router r er) (record { 0 = free_link r.node.links }) (record { id = id; role = role.Client; weight = 1 }) q may.number may.name) y k hs new.1)

        came : (r : RouterState) → router_of w.routers router ≡ Some r → is_taken w id ≡ false → (v : WorldState) (g' : Goes v) (shows' : AllShow v) → (goes : Fine v) →
            ((q : List ℕ) → is_some (router_of v.routers q) ≡ is_some (router_of w.routers q)) → ((d : List ℕ) → client_of v.clients d ≡ cond (is_named d id) (Some (new_client router)) (client_of w.clients d)) →
            GathersBy acts m x before lines g shows h [] v g' shows' goes → Stands acts' (record { world = v; report = report' }) (lines_on v lines)
        came r er free v g' shows' goes routers clients gathers = record {
          held = held_then acts m x before lines g shows h [] v g' shows' goes;
          books = λ d s k found. booked d s k (is_named d id) refl (sym (clients d) ∙ found);
          others = others_then acts m x before lines g shows h [] v g' shows' (λ d none. gone d (is_named d id) (sym (clients d) ∙ none)) (λ d k none. quiet d k);
          untold = λ d untaken. told_none acts m x before lines g shows h [] v g' shows' d refl ∙ h.untold d (was d (is_named d id) ((λ i. sym (routers d) i || is_some (sym (clients d) i)) ∙ untaken));
          gathers = gathers_then acts m x before lines g shows h [] v g' shows' goes gathers;
        }
          where
            gone : (d : List ℕ) (b : Bool) → cond b (Some (new_client router)) (client_of w.clients d) ≡ None → client_of w.clients d ≡ None
            gone d true e = absurd (cc)
            gone d false e = e

            was : (d : List ℕ) (b : Bool) → (is_some (router_of w.routers d) || is_some (cond b (Some (new_client router)) (client_of w.clients d))) ≡ false → is_taken w d ≡ false
            was d true e = absurd (true≢false (sym (or_right (is_some (router_of w.routers d)) true refl) ∙ e))
            was d false e = e

            booked : (d : List ℕ) (s : ClientState) (k : ℕ) (b : Bool) → is_named d id ≡ b → cond b (Some (new_client router)) (client_of w.clients d) ≡ Some s → BookOf acts' report' v (lines_on v lines) d s k
            booked d s k false e found = book_stays acts m x before lines g shows h [] v g' shows' goes d s found k (quiet d k) refl
            booked d s k true e found =
                let one : new_client router ≡ s = cc in
                let untold : told_to report' d ≡ [] = told_none acts m x before lines g shows h [] v g' shows' d refl ∙ h.untold d (ap (is_taken w) (same_is d id e) ∙ free) in
                let none : client_of w.clients d ≡ None = ap (client_of w.clients) (same_is d id e) ∙ not_there (client_of w.clients id) (free_name w id free).1 in
                let nothing : NoBook acts' d k = no_book_then acts m x before lines g shows h [] v g' shows' d k (h.others d k none) (quiet d k) in
                subst (λ z. BookOf acts' report' v (lines_on v lines) d z k) one (record {
                  kept = record {
                    count = ap (λ ts. length (map (λ (t : Told). t.tag) (filter (λ t. is_request k t.msg) ts))) untold ∙ sym (ap (λ j. j + 0) nothing.ended);
                    last = λ whole keeps. absurd (false≢true keeps);
                  };
                  open_ = record { count = ap (λ ts. finals_in k ts + 0) untold ∙ sym (ap length nothing.asked); last = λ whole keeps. absurd (false≢true keeps) };
                  told = subst (λ ts. Turned (λ turns z. IsAnswer acts' report' d k turns z) k 0 ts) (sym untold) tt;
                })

  -- ---- a client says something

  module _ (name : List ℕ) (s : ClientState) (es : client_of w.clients name ≡ Some s) (e : EndState) (ee : end_of w.ends (s.router, name) ≡ Some e) (n : ℕ) (msg : Msg) where
    -- the books of all clients, where those of one client are known
    books_by : (v : WorldState) (g' : Goes v) (shows' : AllShow v) → Fine v → (s' : ClientState) → ((d : List ℕ) → client_of v.clients d ≡ cond (is_named name d) (Some s') (client_of w.clients d)) →
        ((k : ℕ) → BookOf acts' report' v (lines_on v lines) name s' k) → ((d : List ℕ) (k : ℕ) → is_named name d ≡ false → NoBook (x ∷ []) d k) →
        (d : List ℕ) (t : ClientState) (k : ℕ) → client_of v.clients d ≡ Some t → BookOf acts' report' v (lines_on v lines) d t k
    books_by v g' shows' goes s' are own others d t k found = by (is_named name d) refl (sym (are d) ∙ found)
      where
        by : (b : Bool) → is_named name d ≡ b → cond b (Some s') (client_of w.clients d) ≡ Some t → BookOf acts' report' v (lines_on v lines) d t k
        by true same f =
            let one : s' ≡ t = cc in
            subst (λ z. BookOf acts' report' v (lines_on v lines) d z k) one (subst (λ z. BookOf acts' report' v (lines_on v lines) z s' k) (same_is name d same) (own k))
        by false other f = book_stays acts m x before lines g shows h [] v g' shows' goes d t f k (others d k other) refl

    -- who is no client is another one
    no_client : ((d : List ℕ) (k : ℕ) → is_named name d ≡ false → NoBook (x ∷ []) d k) → (d : List ℕ) (k : ℕ) → client_of w.clients d ≡ None → NoBook (x ∷ []) d k
    no_client others d k none = others d k (false_from_ne_true (is_named name d) (λ t. none-some s (sym none ∙ ap (client_of w.clients) (sym (same_is name d t)) ∙ es)))

    pub said : (v : WorldState) (g' : Goes v) (shows' : AllShow v) → Fine v → (s' : ClientState) → ((q : List ℕ) → option_map (λ r. r.node) (router_of v.routers q) ≡ option_map (λ r. r.node) (router_of w.routers q)) →
        ((d : List ℕ) → client_of v.clients d ≡ cond (is_named name d) (Some s') (client_of w.clients d)) →
        ((k : ℕ) → BookOf acts' report' v (lines_on v lines) name s' k) → ((d : List ℕ) (k : ℕ) → is_named name d ≡ false → NoBook (x ∷ []) d k) →
        Stands acts' (record { world = v; report = report' }) (lines_on v lines)
    said v g' shows' goes s' routers are own others =
        steady acts m x before lines g shows h [] v g' shows' goes
        (λ q. sym (there_changed (λ (r : RouterState). r.node) (router_of v.routers q)) ∙ ap is_some (routers q) ∙ there_changed (λ (r : RouterState). r.node) (router_of w.routers q))
        (λ d. ap is_some (are d) ∙ there d (is_named name d) refl) (no_client others) (λ d free. refl)
        (books_by v g' shows' goes s' are own others) (λ a y k hs whole e. inl (nodes_gathered w v routers a y k hs e))
      where
        there : (d : List ℕ) (b : Bool) → is_named name d ≡ b → is_some (cond b (Some s') (client_of w.clients d)) ≡ is_some (client_of w.clients d)
        there d true same = sym (ap is_some (ap (client_of w.clients) (sym (same_is name d same)) ∙ es))
        there d false other = refl

    -- the numbers of its queries and requests stay
    abbrev StaysAsking : ClientState → Type 0
    StaysAsking s' = (s'.router ≡ s.router) × (s'.queries ≡ s.queries) × (s'.requests ≡ s.requests)

    -- a declaration, or an interest
    pub weighed : Quiet → (s' : ClientState) → StaysAsking s' → (key : List ℕ) (r : RouterState) → router_of w.routers s.router ≡ Some r → asks_in n msg ≡ [] → answers_in n msg ≡ [] →
        (g' : Goes (w_weighed w n name key msg s e r (with_client w.clients name s'))) (shows' : AllShow (w_weighed w n name key msg s e r (with_client w.clients name s'))) →
        Stands acts' (record { world = w_weighed w n name key msg s e r (with_client w.clients name s'); report = report' }) (lines_on (w_weighed w n name key msg s e r (with_client w.clients name s')) lines)
    weighed quiet s' ids key r er no_ask no_answer g' shows' =
        said v g' shows' goes s' (λ q. read_kept (option_map (λ z. z.node)) w.routers s.router q r (weighing r key) er refl) (λ q. value_after w.clients name q s' (ap is_some es))
        (λ k. book_same acts m x before lines g shows h [] v g' shows' goes name s s' k ids.0 ids.2 ids.1 (book_stays acts m x before lines g shows h [] v g' shows' goes name s es k (quiet name k) refl)) (λ d k other. quiet d k)
      where
        v : WorldState
        v = w_weighed w n name key msg s e r (with_client w.clients name s')

        goes : Fine v
        goes = said_links w g.sound g.orderly g.clients name s es v s' ids.0 (λ q. value_after w.clients name q s' (ap is_some es))
            (λ a b k. read_kept (router_holds a k) w.routers s.router b r (weighing r key) er refl) (λ a b k. read_kept (router_awaits b k) w.routers s.router a r (weighing r key) er refl)
            n msg e ee refl (quiet_deeds name s s' n msg no_ask no_answer ids.1 ids.2) (FineAsk acts' w v lines) (FineSay acts' report' v lines) tt tt

    pub declared : Quiet → (kind : Kind) (id : ℕ) (key : List ℕ) (r : RouterState) → router_of w.routers s.router ≡ Some r → asks_in n msg ≡ [] → answers_in n msg ≡ [] →
        (g' : Goes (w_declare w n name kind id key msg s e r)) (shows' : AllShow (w_declare w n name kind id key msg s e r)) →
        Stands acts' (record { world = w_declare w n name kind id key msg s e r; report = report' }) (lines_on (w_declare w n name kind id key msg s e r) lines)
    declared quiet kind id key r er no_ask no_answer g' shows' =
        weighed quiet (declaring s kind id) (ids_apart s kind (ids_of s kind ++ id ∷ [])) key r er no_ask no_answer g' shows'

    -- the end of one
    pub ended : Quiet → (s' : ClientState) → StaysAsking s' → asks_in n msg ≡ [] → answers_in n msg ≡ [] →
        (g' : Goes (with_clients (w_sent w n name s e msg) (with_client w.clients name s'))) (shows' : AllShow (with_clients (w_sent w n name s e msg) (with_client w.clients name s'))) →
        Stands acts' (record { world = with_clients (w_sent w n name s e msg) (with_client w.clients name s'); report = report' }) (lines_on (with_clients (w_sent w n name s e msg) (with_client w.clients name s')) lines)
    ended quiet s' ids no_ask no_answer g' shows' =
        said v g' shows' goes s' (λ q. refl) (λ q. value_after w.clients name q s' (ap is_some es))
        (λ k. book_same acts m x before lines g shows h [] v g' shows' goes name s s' k ids.0 ids.2 ids.1 (book_stays acts m x before lines g shows h [] v g' shows' goes name s es k (quiet name k) refl)) (λ d k other. quiet d k)
      where
        v : WorldState
        v = with_clients (w_sent w n name s e msg) (with_client w.clients name s')

        goes : Fine v
        goes = said_links w g.sound g.orderly g.clients name s es v s' ids.0 (λ q. value_after w.clients name q s' (ap is_some es)) (λ a b k. refl) (λ a b k. refl)
            n msg e ee refl (quiet_deeds name s s' n msg no_ask no_answer ids.1 ids.2) (FineAsk acts' w v lines) (FineSay acts' report' v lines) tt tt

    pub undeclared : Quiet → (kind : Kind) (id : ℕ) → asks_in n msg ≡ [] → answers_in n msg ≡ [] → (g' : Goes (w_undeclare w n name kind id msg s e)) (shows' : AllShow (w_undeclare w n name kind id msg s e)) →
        Stands acts' (record { world = w_undeclare w n name kind id msg s e; report = report' }) (lines_on (w_undeclare w n name kind id msg s e) lines)
    undeclared quiet kind id no_ask no_answer g' shows' = ended quiet (undeclaring s kind id) (ids_apart s kind (without_number (ids_of s kind) id)) no_ask no_answer g' shows'

    -- a client whose numbers stay
    pub same_client : (q : List ℕ) (b : Bool) → is_named name q ≡ b → client_of w.clients q ≡ cond b (Some s) (client_of w.clients q)
    same_client q false k = refl
    same_client q true k = ap (client_of w.clients) (sym (same_is name q k)) ∙ es

    pub published : Quiet → asks_in n msg ≡ [] → answers_in n msg ≡ [] → (g' : Goes (w_sent w n name s e msg)) (shows' : AllShow (w_sent w n name s e msg)) →
        Stands acts' (record { world = w_sent w n name s e msg; report = report' }) (lines_on (w_sent w n name s e msg) lines)
    published quiet no_ask no_answer g' shows' =
        said v g' shows' goes s (λ q. refl) (λ q. same_client q (is_named name q) refl) (λ k. book_stays acts m x before lines g shows h [] v g' shows' goes name s es k (quiet name k) refl) (λ d k other. quiet d k)
      where
        v : WorldState
        v = w_sent w n name s e msg

        goes : Fine v
        goes = said_links w g.sound g.orderly g.clients name s es v s refl (λ q. same_client q (is_named name q) refl) (λ a b k. refl) (λ a b k. refl)
            n msg e ee refl (quiet_deeds name s s n msg no_ask no_answer refl refl) (FineAsk acts' w v lines) (FineSay acts' report' v lines) tt tt
