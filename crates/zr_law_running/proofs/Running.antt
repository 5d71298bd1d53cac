-- Each run of several routers is the run of a script's world (`runs_are_of_a_world`): it begins with the routers (`begins`), and each event goes on with it (`goes_on`).
use Rattle.std.proofs.Common.{◌≡◌, ℕ, ◌≤◌, suc, Bool, true, false, cond, List, [], ◌∷◌, length, Option, Some, None, Ok, refl, sym, ap, ◌∙◌, subst, arith, append-nil, leb-true}
use Rattle.std.specs.Prelude.{◌||◌, nat_le, is_some}
use Rattle.std.specs.List.{fold}
use Rattle.std.specs.Ordering.{nat_cmp}
use Rattle.std.specs.Cmp.Lexicographic.{slice_cmp}
use Rattle.std.specs.BTreeMap.{insert_entry}
use Rattle.std.proofs.lemmas.Bool.{false≢true}
use Rattle.zr_id.specs.Zid.{is_named}
use Rattle.zr_id.specs.declared.link.LinkNo.{LinkNo}
use Rattle.zr_msg.specs.declared.event.Event.{Event}
use Rattle.zr_msg.specs.declared.event.Event.TheVariants.{Up, Down, From}
use Rattle.zr_msg.specs.declared.msg.Msg.{Msg}
use Rattle.zr_msg.specs.declared.peer.Role.{Role}
use Rattle.zr_msg.specs.declared.peer.Role.TheVariants as role
use Rattle.zr_msg.specs.Peer.{PeerState}
use Rattle.zr_node_spec.specs.Tables.{is_router, link_at, link_to, free_link}
use Rattle.zr_told_spec.specs.Hub.{hub_after, hub_refuses}
use Rattle.zr_script_spec.specs.declared.command.Act.{Act}
use Rattle.zr_script_spec.specs.declared.command.Act.TheVariants as a
use Rattle.zr_world_spec.specs.World.{ClientState, EndState, WorldState, is_end, is_taken, router_of, client_of, end_of, new_router, with_routers, unsettles, most_routers}
use Rattle.zr_world_spec.specs.Acts.{outcome, number_at, number_to, up_event}
use Rattle.zr_world_spec.specs.Moments.{Moment, beginning, then_at}
use Rattle.zr_world_spec.proofs.Ends.{ends}
use Rattle.zr_world_spec.proofs.Keyed.{there}
use Rattle.zr_world_spec.proofs.Names.{names, same_name, value_new}
use Rattle.zr_world_spec.proofs.Fits.{empty_sound}
use Rattle.zr_guarantee.specs.Phase.{stays}
use Rattle.zr_law_names.proofs.Alike.{steps_are_alike}
use Rattle.zr_lists.proofs.Entries.{length_inserted}
use Rattle.zr_law_running.specs.Runs.{Heard, LinkState, Several, new_link, at_first, part, heard, with_link, without_link, parting, coming, handed, spoken, brought, gone, happened, happened_at, outcome_from, outcome_of}
use Rattle.zr_law_running.specs.Allowed.{is_among, AreApart, MayBringUp, MayBring, MayDeliver, MayOpen, MayHappen, IsRunFrom, IsRun}
use Rattle.zr_law_running.specs.Laws.{queue_at, IsMomentOf, RunsAreOfAWorld}
use Rattle.zr_law_running.proofs.Steps.{Span, did, next_number, router_goes}
use Rattle.zr_law_running.proofs.Holding.{read, unbroken_is, router_in, is_client, messages_to}
use Rattle.zr_law_running.proofs.Hearing.{at_true, at_false}
use Rattle.zr_law_running.proofs.Draining.{Standing}
use Rattle.zr_law_running.proofs.Coming.{stand, client_comes}
use Rattle.zr_law_running.proofs.Linking.{second_up, link_made}
use Rattle.zr_law_running.proofs.Going.{number_leads, goes_down}
use Rattle.zr_law_running.proofs.Passing.{router_brings}
use Rattle.zr_law_running.proofs.Speaking.{client_brings}

-- ---- which acts may follow

-- any acts from the beginning on
abbrev pub any_acts : Span
any_acts = record { before = []; test = λ act. true; steps = λ act h. refl }

-- acts of an event are all allowed where it changes links or declarations, and else those that leave them as they are
abbrev pub Allows : Span → Event → Type 0
Allows g (Up link peer) = (act : Act) → g.test act ≡ true
Allows g (Down link) = (act : Act) → g.test act ≡ true
Allows g (From link msg) = (act : Act) → (unsettles msg || stays act) ≡ true → g.test act ≡ true

any_allowed : (event : Event) → Allows any_acts event
any_allowed (Up link peer) = λ act. refl
any_allowed (Down link) = λ act. refl
any_allowed (From link msg) = λ act h. refl

abbrev pub AllAllowed : Span → List Heard → Type 0
AllAllowed g [] = Unit {0}
AllAllowed g (h ∷ run) = Allows g h.event × AllAllowed g run

pub all_allowed : (run : List Heard) → AllAllowed any_acts run
all_allowed [] = tt
all_allowed (h ∷ run) = (any_allowed h.event, all_allowed run)

-- ---- the routers

pub record Begun (ids : List (List ℕ)) (m : Moment) : Type 0 where
  pub state : Standing any_acts ids at_first m
  pub count : length m.world.routers ≤ length ids
  pub alone : (c : List ℕ) → client_of m.world.clients c ≡ None

-- ---- one more event

module _ (g : Span) (ids : List (List ℕ)) (s : Several) (m : Moment) (st : Standing g ids s m) (x : List ℕ) (known : is_among ids x ≡ true) where
  found : router_of m.world.routers x ≡ Some (router_in s x)
  found = st.holds.routers x ∙ at_true (is_among ids x) (Some (router_in s x)) None known

  link_comes : (link : LinkNo) (peer : PeerState) → ((act : Act) → g.test act ≡ true) → MayOpen ids s x link peer → hub_refuses (s.hub x) (Up link peer) ≡ None → (then : Moment) × Standing g ids (heard (coming s x peer peer.role) x (Up link peer)) then
  link_comes link peer all may taken = by peer.role refl may.brings
    where
      goal : Role → Event → Type 0
      goal ro event = (then : Moment) × Standing g ids (heard (coming s x peer ro) x event) then

      number_is : Up (record { 0 = free_link (s.hub x).node.links }) peer ≡ Up link peer
      number_is = ap (λ n. Up (record { 0 = n }) peer) (sym may.number)

      at_second : (s' : Several) (m' : Moment) → Standing g ids s' m' → s'.hub ≡ s.hub → (s'.links (x, peer.id)).whole ≡ true → (s'.links (x, peer.id)).weight ≡ peer.weight → is_among ids peer.id ≡ true → peer.role ≡ role.Router →
          (then : Moment) × Standing g ids (heard s' x (Up link peer)) then
      at_second s' m' st' same whole weight other ro =
          let event_is : up_event (router_in s' x) (record { id = peer.id; role = role.Router; weight = peer.weight }) ≡ Up link peer =
          ap (λ h. Up (record { 0 = free_link (h x).node.links }) (record { id = peer.id; role = role.Router; weight = peer.weight })) same
          ∙ ap (λ z. Up (record { 0 = free_link (s.hub x).node.links }) (record { id = peer.id; role = z; weight = peer.weight })) (sym ro) ∙ number_is in
          subst (λ e. (then : Moment) × Standing g ids (heard s' x e) then) event_is
          (second_up g all ids s' m' st' x known peer.id other peer.weight whole weight (ap (λ h. link_to (h x).node.links peer.id) same ∙ may.once)
          (ap (hub_refuses (s'.hub x)) event_is ∙ ap (λ h. hub_refuses (h x) (Up link peer)) same ∙ taken))

      by : (ro : Role) → peer.role ≡ ro → MayBringUp ids s x peer ro → goal ro (Up link peer)
      by role.Client i b =
          let event_is : up_event (router_in s x) (record { id = peer.id; role = role.Client; weight = 1 }) ≡ Up link peer =
          ap (λ z. Up (record { 0 = free_link (s.hub x).node.links }) (record { id = peer.id; role = z; weight = 1 })) (sym i)
          ∙ ap (λ z. Up (record { 0 = free_link (s.hub x).node.links }) (record { id = peer.id; role = peer.role; weight = z })) (sym b.weight) ∙ number_is in
          subst (goal role.Client) event_is (client_comes g ids s m st x known peer.id b.new b.apart b.room all (ap (hub_refuses (s.hub x)) event_is ∙ taken))
      by role.Router i b = whole_or (s.links (x, peer.id)).whole refl
        where
          whole_or : (w : Bool) → (s.links (x, peer.id)).whole ≡ w → (then : Moment) × Standing g ids (heard (cond w s (with_link s x peer.id peer.weight)) x (Up link peer)) then
          whole_or true w = at_second s m st refl w (b.weight w) b.router i
          whole_or false w =
              let made = link_made g all ids s m st x known peer.id b.router peer.weight b.other w may.once (b.anew w) (b.room w) in
              at_second (with_link s x peer.id peer.weight) made.0 made.1 refl (ap (λ (l : LinkState). l.whole) (new_is (is_end (peer.id, x) (x, peer.id)))) (ap (λ (l : LinkState). l.weight) (new_is (is_end (peer.id, x) (x, peer.id)))) b.router i
            where
              new_is : (b : Bool) → cond b (new_link peer.weight) (cond (is_end (x, peer.id) (x, peer.id)) (new_link peer.weight) (s.links (x, peer.id))) ≡ new_link peer.weight
              new_is true = refl
              new_is false = at_true (is_end (x, peer.id) (x, peer.id)) (new_link peer.weight) (s.links (x, peer.id)) (ends.refl (x, peer.id))

  message_comes : (link : LinkNo) (msg : Msg) → ((act : Act) → (unsettles msg || stays act) ≡ true → g.test act ≡ true) → MayDeliver s x link msg → hub_refuses (s.hub x) (From link msg) ≡ None → (then : Moment) × Standing g ids (happened_at s x (From link msg)) then
  message_comes link msg allowed may taken =
      subst (λ o. (then : Moment) × Standing g ids (brought s x (From link msg) msg o) then) (sym may.is) (by may.at.peer.role refl may.brings)
    where
      y : List ℕ
      y = may.at.peer.id

      leads : (link_to (s.hub x).node.links y ≡ Some may.at) × (may.at.link ≡ link)
      leads = number_leads (s.hub x).node.links (st.sound.unique x (router_in s x) found) link may.at may.is

      number_is : number_to (router_in s x) y ≡ Ok link
      number_is = ap number_at leads.0 ∙ ap Ok leads.1

      among : is_router may.at.peer.role ≡ true → is_among ids y ≡ true
      among i = at (is_among ids y) refl (ap is_some (sym (st.holds.routers y)) ∙ sym (st.sound.roles x y (router_in s x) may.at found leads.0) ∙ i)
        where
          at : (b : Bool) → is_among ids y ≡ b → is_some (cond b (Some (router_in s y)) None) ≡ true → b ≡ true
          at true e h = refl
          at false e h = absurd (false≢true h)

      by : (ro : Role) → may.at.peer.role ≡ ro → MayBring s x y msg ro → (then : Moment) × Standing g ids (heard (handed s x y ro msg) x (From link msg)) then
      by role.Client i b =
          subst (λ o. (then : Moment) × Standing g ids (heard (spoken s x y o msg) x (From link msg)) then) (sym b.is)
          (client_brings g ids s m st x y known b.client b.is link msg b.may b.room (ap is_some leads.0) allowed number_is taken)
      by role.Router i b =
          router_brings g ids s m st x y known (among (ap is_router i)) link msg b.rest b.is b.whole b.up (ap is_some leads.0) number_is taken

  link_goes_down : (link : LinkNo) → ((act : Act) → g.test act ≡ true) → is_some (link_at (s.hub x).node.links link.0) ≡ true → hub_refuses (s.hub x) (Down link) ≡ None → (then : Moment) × Standing g ids (happened_at s x (Down link)) then
  link_goes_down link all up taken =
      let l = there (link_at (s.hub x).node.links link.0) up in
      subst (λ o. (then : Moment) × Standing g ids (gone s x (Down link) o) then) (sym l.1) (goes_down g all ids s m st x known link l.0 l.1 taken)

  happens : (event : Event) → Allows g event → MayHappen ids s x event → hub_refuses (s.hub x) event ≡ None → (then : Moment) × Standing g ids (happened_at s x event) then
  happens (Up link peer) all may taken = link_comes link peer all may taken
  happens (Down link) all may taken = link_goes_down link all may taken
  happens (From link msg) allowed may taken = message_comes link msg allowed may taken

pub goes_on : (g : Span) (ids : List (List ℕ)) (run : List Heard) (s : Several) (m : Moment) → AllAllowed g run → Standing g ids s m → IsRunFrom ids s run → (then : Moment) × Standing g ids (outcome_from s run) then
goes_on g ids [] s m all st is = (m, st)
goes_on g ids (h ∷ run) s m all st is =
    let next = happens g ids s m st h.router is.0.known h.event all.0 is.0.fits is.0.taken in
    goes_on g ids run (happened s h) next.0 all.1 next.1 is.1

-- ---- the beginning

one_begins : (id : List ℕ) (ids : List (List ℕ)) → is_among ids id ≡ false → suc (length ids) ≤ most_routers → (m : Moment) → Begun ids m → (then : Moment) × Begun (id ∷ ids) then
one_begins id ids apart few m b = (
  then_at m ([], v),
  record {
    state = stand any_acts (id ∷ ids) m b.state.came b.state.sound (a.Router id) ([], v) refl goes at_first (append-nil (did any_acts m b.state.came) ∙ b.state.deeds) b.state.homes (record {
      routers = routers_then;
      clients = b.state.holds.clients;
      apart = λ c i. absurd (false≢true (sym (ap is_some (b.alone c)) ∙ i));
      ends = b.state.holds.ends;
      wires = b.state.holds.wires;
      rest = λ y c i. refl;
      told = λ c alone. ap (λ z. messages_to z c) (append-nil m.report) ∙ b.state.holds.told c (not_more c (is_named id c) (is_among ids c) alone);
      came = b.state.holds.came;
    });
    count = omega (arith, length_inserted (slice_cmp nat_cmp) w.routers id (new_router id), b.count);
    alone = b.alone;
  },
)
  where
    w : WorldState
    w = m.world

    v : WorldState
    v = with_routers w (insert_entry (slice_cmp nat_cmp) w.routers id (new_router id))

    n : ℕ
    n = next_number any_acts m b.state.came

    no_router : router_of w.routers id ≡ None
    no_router = b.state.holds.routers id ∙ at_false (is_among ids id) (Some (router_in at_first id)) None apart

    free : is_taken w id ≡ false
    free = ap (λ o. is_some o || is_client w id) no_router ∙ ap is_some (b.alone id)

    room : (t : Bool) → nat_le most_routers (length w.routers) ≡ t → t ≡ false
    room false e = refl
    room true e = let full : most_routers ≤ length w.routers = leb-true most_routers (length w.routers) e in absurd (omega (arith, full, b.count, few))

    goes : outcome w n (a.Router id) ≡ Ok ([], v)
    goes = router_goes w n id free (room (nat_le most_routers (length w.routers)) refl)

    not_more : (c : List ℕ) (t u : Bool) → (t || u) ≡ false → u ≡ false
    not_more c false u h = h
    not_more c true u h = absurd (false≢true (sym h))

    routers_then : (q : List ℕ) → router_of v.routers q ≡ cond (is_named id q || is_among ids q) (Some (router_in at_first q)) None
    routers_then q = value_new w.routers id q (new_router id) no_router ∙ ap (λ t. cond t (Some (new_router id)) (router_of w.routers q)) (names.symm q id) ∙ by (is_named id q) refl
      where
        by : (t : Bool) → is_named id q ≡ t → cond t (Some (new_router id)) (router_of w.routers q) ≡ cond (t || is_among ids q) (Some (router_in at_first q)) None
        by true i = ap (λ z. Some (new_router z)) (same_name id q i)
        by false i = b.state.holds.routers q

pub begins : (ids : List (List ℕ)) → AreApart ids → length ids ≤ most_routers → (m : Moment) × Begun ids m
begins [] apart few = (
  beginning,
  record {
    state = record {
      came = record { acts = []; ascend = refl; pass = refl; is = refl };
      deeds = refl;
      sound = empty_sound;
      homes = λ y c k i. absurd (false≢true (ap is_some i));
      holds = record {
        routers = λ q. refl;
        clients = λ c. refl;
        apart = λ c i. absurd (false≢true i);
        ends = λ e. refl;
        wires = λ e. refl;
        rest = λ y c i. refl;
        told = λ c alone. refl;
        came = omega arith;
      };
    };
    count = omega arith;
    alone = λ c. refl;
  },
)
begins (id ∷ ids) apart few =
    let b = begins ids apart.1 (omega (arith, few)) in
    one_begins id ids apart.0 few b.0 b.1

-- ---- the law

-- a router comes to its tables by its part alone
own_part : (s t : Several) (x : List ℕ) (event : Event) → t.hub ≡ s.hub → (q : List ℕ) → (heard t x event).hub q ≡ cond (is_named x q) (hub_after (s.hub q) event) (s.hub q)
own_part s t x event same q = ap (λ h. cond (is_named x q) (hub_after (h x) event) (h q)) same ∙ by (is_named x q) refl
  where
    by : (b : Bool) → is_named x q ≡ b → cond b (hub_after (s.hub x) event) (s.hub q) ≡ cond b (hub_after (s.hub q) event) (s.hub q)
    by true i = ap (λ z. hub_after (s.hub z) event) (same_name x q i)
    by false i = refl

coming_hub : (s : Several) (x : List ℕ) (peer : PeerState) (ro : Role) → (coming s x peer ro).hub ≡ s.hub
coming_hub s x peer role.Client = refl
coming_hub s x peer role.Router = by (s.links (x, peer.id)).whole
  where
    by : (b : Bool) → (cond b s (with_link s x peer.id peer.weight)).hub ≡ s.hub
    by true = refl
    by false = refl

parting_hub : (s : Several) (x y : List ℕ) → (parting s x y).hub ≡ s.hub
parting_hub s x y = by (s.links (x, y)).whole
  where
    by : (b : Bool) → (cond b (without_link s x y) s).hub ≡ s.hub
    by true = refl
    by false = refl

handed_hub : (s : Several) (x y : List ℕ) (ro : Role) (msg : Msg) → (handed s x y ro msg).hub ≡ s.hub
handed_hub s x y role.Client msg = by (s.clients y)
  where
    by : (o : Option ClientState) → (spoken s x y o msg).hub ≡ s.hub
    by None = refl
    by (Some k) = refl
handed_hub s x y role.Router msg = refl

hub_then : (ids : List (List ℕ)) (s : Several) (x : List ℕ) (event : Event) → MayHappen ids s x event → (q : List ℕ) → (happened_at s x event).hub q ≡ cond (is_named x q) (hub_after (s.hub q) event) (s.hub q)
hub_then ids s x (Up link peer) may q = own_part s (coming s x peer peer.role) x (Up link peer) (coming_hub s x peer peer.role) q
hub_then ids s x (Down link) may q =
    let l = there (link_at (s.hub x).node.links link.0) may in
    ap (λ o. (gone s x (Down link) o).hub q) l.1 ∙ own_part s (parting s x l.0.peer.id) x (Down link) (parting_hub s x l.0.peer.id) q
hub_then ids s x (From link msg) may q =
    ap (λ o. (brought s x (From link msg) msg o).hub q) may.is ∙ own_part s (handed s x may.at.peer.id may.at.peer.role msg) x (From link msg) (handed_hub s x may.at.peer.id may.at.peer.role msg) q

hub_is : (ids : List (List ℕ)) (run : List Heard) (s : Several) → IsRunFrom ids s run → (q : List ℕ) → (outcome_from s run).hub q ≡ fold hub_after (s.hub q) (part run q)
hub_is ids [] s is q = refl
hub_is ids (h ∷ run) s is q = hub_is ids run (happened s h) is.1 q ∙ ap (λ z. fold hub_after z (part run q)) (hub_then ids s h.router h.event is.0.fits q) ∙ by (is_named h.router q)
  where
    by : (b : Bool) → fold hub_after (cond b (hub_after (s.hub q) h.event) (s.hub q)) (part run q) ≡ fold hub_after (s.hub q) (cond b (h.event ∷ part run q) (part run q))
    by true = refl
    by false = refl

queue_is : (o : Option EndState) → queue_at o ≡ (read o).waits
queue_is None = refl
queue_is (Some e) = refl

pub moment_of : (ids : List (List ℕ)) (run : List Heard) → IsRun ids run → (g : Span) (m : Moment) → Standing g ids (outcome_of run) m → IsMomentOf ids run m
moment_of ids run is g m st = record {
  routers = λ x i. (router_in (outcome_of run) x, st.holds.routers x ∙ at_true (is_among ids x) (Some (router_in (outcome_of run) x)) None i, hub_is ids run at_first is x);
  no_other = λ x i. st.holds.routers x ∙ at_false (is_among ids x) (Some (router_in (outcome_of run) x)) None i;
  clients = st.holds.clients;
  queues = λ x y. queue_is (end_of m.world.ends (x, y)) ∙ ap (λ (l : LinkState). l.waits) (st.holds.ends (x, y));
  wires = λ x y. st.holds.wires (x, y);
  links = λ x y. unbroken_is (end_of m.world.ends (x, y)) ((outcome_of run).links (x, y)) (st.holds.ends (x, y));
  sent = st.holds.told;
}

pub runs_are_of_a_world : RunsAreOfAWorld
runs_are_of_a_world ids heard run routers in_run is =
    let b = begins ids routers.apart (leb-true (length ids) most_routers routers.few) in
    let all = goes_on any_acts ids run at_first b.0 (all_allowed run) b.1.state is in
    (all.1.came.acts, all.1.came.ascend, all.1.deeds, (all.0, all.1.came.is, moment_of ids run is any_acts all.0 all.1), λ x i. steps_are_alike x (heard x) (part run x) (in_run x i))
