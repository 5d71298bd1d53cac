-- Each act that is not refused keeps a network sound (`act_keeps`), and so does the counting of a run's steps (`book_keeps`); before the
-- first line it is sound (`empty_sound`). In a sound network the step that comes next is possible (`next_goes`): the end that is found is
-- the one at which a message waits, its router has a link to the neighbour, and no router refuses a message. So no step of a run is
-- refused (`run_goes`). And each event that an act brings to a router may come to it (`up_may_come`, `client_may_come`, `down_may_come`,
-- `from_may_come`).
use Rattle.std.proofs.Common.{◌≡◌, ℕ, zero, suc, ◌+◌, Bool, true, false, cond, not, List, [], ◌∷◌, ◌++◌, Option, Some, None, Result, Ok, Err, Ordering, refl, sym, ap, ◌∙◌, subst, inl, inr}
use Rattle.std.specs.Prelude.{◌&&◌, ◌||◌, is_some, is_none, is_ok, nat_le, ◌==◌, unwrap_or, IfOk, IfSome, length, filter}
use Rattle.std.specs.List.{fold, reduce}
use Rattle.std.specs.List.Sorted.{IsStrictlySortedBy}
use Rattle.std.specs.Map.{keys_of}
use Rattle.std.specs.Option.{option_map, option_map_or}
use Rattle.std.specs.Ordering.{min_by_ordering, nat_cmp}
use Rattle.std.specs.declared.cmp.Ordering.TheVariants.{Less, Equal, Greater}
use Rattle.std.specs.BTreeMap.{insert_entry}
use Rattle.std.specs.Cmp.Lexicographic.{slice_cmp}
use Rattle.std.proofs.lemmas.Bool.{false≢true, and_parts, or_parts, or_left, or_right}
use Rattle.zr_id.specs.Zid.{is_named}
use Rattle.zr_id.specs.declared.link.LinkNo.{LinkNo}
use Rattle.zr_msg.specs.declared.decl.Kind.{Kind}
use Rattle.zr_msg.specs.declared.decl.Kind.TheVariants as k
use Rattle.zr_msg.specs.declared.msg.Msg.{Msg}
use Rattle.zr_msg.specs.declared.msg.Msg.TheVariants as m
use Rattle.zr_msg.specs.declared.error.NodeError.{NodeError}
use Rattle.zr_msg.specs.declared.event.Event.{Event}
use Rattle.zr_msg.specs.declared.event.Event.TheVariants.{Down, From}
use Rattle.zr_msg.specs.Extras.{no_extras}
use Rattle.zr_msg.specs.declared.peer.Role.TheVariants as role
use Rattle.zr_script_spec.specs.declared.error.ScriptError.{ScriptError}
use Rattle.zr_script_spec.specs.declared.error.ScriptError.TheVariants.{UnknownName, NotLinked, Limit, NotSamples, NotSettled}
use Rattle.zr_script_spec.specs.declared.command.Act.{Act}
use Rattle.zr_script_spec.specs.declared.command.Act.TheVariants as a
use Rattle.zr_script_spec.specs.Mode.{is_current, is_future}
use Rattle.zr_script_spec.specs.declared.command.Command.{Command}
use Rattle.zr_script_spec.specs.declared.command.Command.TheVariants as c
use Rattle.zr_script_spec.specs.declared.report.ReportLine.{ReportLine}
use Rattle.zr_script_spec.specs.declared.report.ReportLine.TheVariants.{Ran, Handled}
use Rattle.zr_node_spec.specs.Tables.{is_router, link_at, link_to}
use Rattle.zr_node_spec.specs.Table.{able_kind, after}
use Rattle.zr_node_spec.specs.Event.{MayCome}
use Rattle.zr_node_spec.proofs.FreeLink.{free_is_free}
use Rattle.zr_script_spec.specs.Step.{◌>>=◌}
use Rattle.zr_world_spec.specs.World.{Tagged, ClientState, RouterState, EndState, End, Routers, Clients, Ends, WorldState, end_cmp, is_end, router_of, client_of, is_taken, end_of, is_up, is_unbroken, is_in_place, with_routers, with_clients, with_ends, with_router, with_client, with_end, put_end, new_end, new_router, new_client, lifted, changed, broken, lowered, sent, with_wire, with_queue, is_empty, most_steps, is_settled}
use Rattle.zr_world_spec.specs.Fan.{are_samples, are_many, are_long, fanned}
use Rattle.zr_world_spec.specs.Acts.{Outcome, unless, router_at, end_at, oldest, number_at, handle_step, take_step, having_told, refuses_of, heard, weighing, ids_of, declaring, undeclaring, received, hears, heard_by, all_queued, all_told, up_event, peer_of, number_to, outcome}
use Rattle.zr_world_spec.specs.Next.{Done, lesser, ends_where, first_where, can_handle, can_take, step_at, next, world_after, with_more, run_steps, all_done, booking, book_step, run_done, fan_steps, fan_done, fan_step, applied}
use Rattle.zr_world_spec.specs.Moments.{Moment, went}
use Rattle.zr_world_spec.specs.Sound.{IsSound, AllAreTaken}
use Rattle.zr_lists.proofs.Finds.{In, in_map, in_filter}
use Rattle.zr_lists.proofs.Options.{not_there, read_cond}
use Rattle.zr_world_spec.proofs.Keyed.{there}
use Rattle.zr_world_spec.proofs.Clients.{SameClients, read_same_clients, same_received, same_home}
use Rattle.zr_world_spec.proofs.Names.{names, same_name, value_new, read_kept}
use Rattle.zr_world_spec.proofs.Ends.{end_found, end_parts, keys_with_end, keys_changed, read_with_end, keep_with_end, read_put_end, keep_put_end, sorted_put_end, read_changed, keep_changed}
use Rattle.zr_world_spec.proofs.Links.{numbered_link, unique_nothing}
use Rattle.zr_world_spec.proofs.Cases.{w_client, w_link, w_up, w_break, w_down, w_sent, w_declare, w_undeclare, w_weighed, w_handle, w_take, free_name, number_found, oldest_found, for_router, for_client, for_link, for_up, for_break, for_down, for_declare, for_undeclare, Says, Weighs, interest_says, uninterest_says, publish_says, get_says, reply_says, end_says, for_handle, for_take, for_mark, for_show}
use Rattle.zr_world_spec.proofs.Fits.{up_of, home, up_is_there, Places, places_same, still_true, of_put, places_put, Fits, Nodes, fits_same, nodes_set, fits_up, fits_down, fits_from, SameEnds, same_then, same_with, same_changed, same_heard, own_end, other_end, places_of, nodes_of, sound_of}
use Rattle.zr_world_spec.proofs.Telling.{heard_is}
pub use Rattle.zr_world_spec.proofs.Fits.{empty_sound}

-- an act leads to a sound network, where it isn't refused
abbrev pub Keeps : Outcome → Type 0
Keeps o = IfOk o (λ x. IsSound x.1)

module _ (w : WorldState) (line : ℕ) (h : IsSound w) where
  abbrev now : Moment
  now = record { world = w; report = [] }

  abbrev sound : Moment → Type 0
  sound next = IsSound next.world

  p : Places w.routers w.clients w.ends
  p = places_of w h

  n : Nodes w.routers w.ends
  n = nodes_of w h

  -- of the moment that an act leads to, and of the act
  kept : (o : Outcome) → IfSome (went now o) sound → Keeps o
  kept (Ok x) k = k
  kept (Err e) k = tt

  -- ---- no end changes but for what waits there, and no router but for its weight

  same_router : (x : List ℕ) (r r' : RouterState) → router_of w.routers x ≡ Some r → (q : List ℕ) → is_some (router_of (with_router w.routers x r') q) ≡ is_some (router_of w.routers q)
  same_router x r r' found q = read_kept is_some w.routers x q r r' found refl

  same_client : (name : List ℕ) (s s' : ClientState) → client_of w.clients name ≡ Some s → s'.router ≡ s.router → (q : List ℕ) → home (client_of (with_client w.clients name s') q) ≡ home (client_of w.clients q)
  same_client name s s' found same q = read_kept home w.clients name q s s' found (ap Some same)

  nodes_same : (ends' : Ends) → SameEnds w.ends ends' → Nodes w.routers ends'
  nodes_same ends' e x r found = fits_same w.routers w.routers w.ends ends' x r.node (n x r found) (λ y u. refl) (λ y. e.as_up (x, y))

  ends_keep : (ends' : Ends) → SameEnds w.ends ends' → Places w.routers w.clients ends'
  ends_keep ends' e = places_same w.routers w.routers w.clients w.clients w.ends ends' p (e.sorted p.in_order) (λ q. refl) (λ q. refl) e.there_too

  on_wire : (name : List ℕ) (s : ClientState) (e : EndState) (msg : Msg) → end_of w.ends (s.router, name) ≡ Some e → SameEnds w.ends (with_end w.ends (s.router, name) (sent e msg line))
  on_wire name s e msg found = same_with w.ends (s.router, name) e (sent e msg line) found refl

  -- ---- what waits at ends

  declare_sound : (name : List ℕ) (kind : Kind) (id : ℕ) (key : List ℕ) (msg : Msg) (s : ClientState) → client_of w.clients name ≡ Some s → (e : EndState) → end_of w.ends (s.router, name) ≡ Some e →
      (r : RouterState) → router_of w.routers s.router ≡ Some r → IsSound (w_declare w line name kind id key msg s e r)
  declare_sound name kind id key msg s es e ee r er =
      let ends' : Ends = with_end w.ends (s.router, name) (sent e msg line) in
      let same : SameEnds w.ends ends' = on_wire name s e msg ee in
      sound_of (w_declare w line name kind id key msg s e r)
      (places_same w.routers (with_router w.routers s.router (weighing r key)) w.clients (with_client w.clients name (declaring s kind id)) w.ends ends' p (same.sorted p.in_order)
      (same_router s.router r (weighing r key) er) (same_client name s (declaring s kind id) es (same_home s kind (ids_of s kind ++ id ∷ []))) same.there_too)
      (nodes_set w.routers w.ends ends' s.router r (weighing r key) n er
      (fits_same w.routers w.routers w.ends ends' s.router r.node (n s.router r er) (λ y u. refl) (λ y. same.as_up (s.router, y))) (λ z y apart. same.as_up (z, y)))

  undeclare_sound : (name : List ℕ) (kind : Kind) (id : ℕ) (msg : Msg) (s : ClientState) → client_of w.clients name ≡ Some s → (e : EndState) → end_of w.ends (s.router, name) ≡ Some e →
      IsSound (w_undeclare w line name kind id msg s e)
  undeclare_sound name kind id msg s es e ee =
      let ends' : Ends = with_end w.ends (s.router, name) (sent e msg line) in
      let same : SameEnds w.ends ends' = on_wire name s e msg ee in
      sound_of (w_undeclare w line name kind id msg s e)
      (places_same w.routers w.routers w.clients (with_client w.clients name (undeclaring s kind id)) w.ends ends' p (same.sorted p.in_order) (λ q. refl)
      (same_client name s (undeclaring s kind id) es (same_home s kind (filter (λ i. not (i == id)) (ids_of s kind)))) same.there_too)
      (nodes_same ends' same)

  -- the clients may have other interests, queries and requests
  clients_keep : (ends' : Ends) → SameEnds w.ends ends' → (clients : Clients) → SameClients w.clients clients → Places w.routers clients ends'
  clients_keep ends' e clients same = places_same w.routers w.routers w.clients clients w.ends ends' p (e.sorted p.in_order) (λ q. refl)
      (read_same_clients w.clients clients same (λ s. s.router) (λ s. refl)) e.there_too

  says_sound : (name : List ℕ) (msg : Msg) → Says now sound line name msg
  says_sound name msg s es e ee unbroken clients alike =
      let ends' : Ends = with_end w.ends (s.router, name) (sent e msg line) in
      let same : SameEnds w.ends ends' = on_wire name s e msg ee in
      sound_of (with_clients (w_sent w line name s e msg) clients) (clients_keep ends' same clients alike) (nodes_same ends' same)

  weighs_sound : (name key : List ℕ) (msg : Msg) → Weighs now sound line name key msg
  weighs_sound name key msg s es e ee unbroken r er room clients alike =
      let ends' : Ends = with_end w.ends (s.router, name) (sent e msg line) in
      let same : SameEnds w.ends ends' = on_wire name s e msg ee in
      sound_of (w_weighed w line name key msg s e r clients)
      (places_same w.routers (with_router w.routers s.router (weighing r key)) w.clients clients w.ends ends' p (same.sorted p.in_order)
      (same_router s.router r (weighing r key) er) (read_same_clients w.clients clients alike (λ s. s.router) (λ s. refl)) same.there_too)
      (nodes_set w.routers w.ends ends' s.router r (weighing r key) n er
      (fits_same w.routers w.routers w.ends ends' s.router r.node (n s.router r er) (λ y u. refl) (λ y. same.as_up (s.router, y))) (λ z y apart. same.as_up (z, y)))

  take_sound : (router to : List ℕ) (s : EndState) → end_of w.ends (router, to) ≡ Some s → (msg : Msg) (tag : ℕ) (xs : List Tagged) → IsSound (w_take w router to s msg tag xs)
  take_sound router to s es msg tag xs =
      let taken : Ends = with_end w.ends (router, to) (with_queue s xs) in
      let ends' : Ends = changed taken (to, router) (λ e. sent e msg tag) in
      let same : SameEnds w.ends ends' =
      same_then w.ends taken ends' (same_with w.ends (router, to) s (with_queue s xs) es refl) (same_changed taken (to, router) (λ e. sent e msg tag) (λ e. refl)) in
      sound_of (w_take w router to s msg tag xs) (clients_keep ends' same (received w.clients to msg (client_of w.clients to)) (same_received w.clients to msg)) (nodes_same ends' same)

  break_sound : (router name : List ℕ) → IsSound (w_break w router name)
  break_sound router name =
      let one : Ends = changed w.ends (router, name) broken in
      let ends' : Ends = changed one (name, router) broken in
      let same : SameEnds w.ends ends' = same_then w.ends one ends' (same_changed w.ends (router, name) broken (λ e. refl)) (same_changed one (name, router) broken (λ e. refl)) in
      sound_of (w_break w router name) (ends_keep ends' same) (nodes_same ends' same)

  handle_sound : (router from : List ℕ) (r : RouterState) → router_of w.routers router ≡ Some r → (s : EndState) → end_of w.ends (router, from) ≡ Some s →
      (msg : Msg) (tag : ℕ) (xs : List Tagged) (l : LinkNo) → IsSound (w_handle w router from r s l msg tag xs)
  handle_sound router from r er s es msg tag xs l =
      let rest : Ends = with_end w.ends (router, from) (with_wire s xs) in
      let ends' : Ends = all_told (all_queued rest router r.node (From l msg) tag) router r (From l msg) tag in
      let more : Routers = with_router w.routers router (having_told r (From l msg)) in
      let same : SameEnds w.ends ends' =
      same_then w.ends rest ends' (same_with w.ends (router, from) s (with_wire s xs) es refl) (same_heard rest router r (From l msg) tag) in
      subst IsSound (sym (heard_is (with_ends w rest) router r (From l msg) tag)) (sound_of (with_ends (with_routers w more) ends')
      (places_same w.routers more w.clients w.clients w.ends ends' p (same.sorted p.in_order)
      (same_router router r (having_told r (From l msg)) er) (λ q. refl) same.there_too)
      (nodes_set w.routers w.ends ends' router r (having_told r (From l msg)) n er
      (fits_from w.routers w.ends ends' router r.node l msg (n router r er) (λ y. same.as_up (router, y))) (λ z y apart. same.as_up (z, y))))

  -- ---- a link comes up or goes down

  -- a router hears of an event that changes whether its end to a neighbour is up
  turns : (x y : List ℕ) (r : RouterState) (event : Event) (ends' : Ends) (b : Bool) → router_of w.routers x ≡ Some r → (IsStrictlySortedBy end_cmp (keys_of w.ends) → IsStrictlySortedBy end_cmp (keys_of ends')) →
      ((q : End) → is_some (end_of ends' q) ≡ is_some (end_of w.ends q)) → ((q : End) → up_of (end_of ends' q) ≡ cond (is_end (x, y) q) b (up_of (end_of w.ends q))) →
      (((q : List ℕ) → is_up ends' (x, q) ≡ cond (is_named y q) b (is_up w.ends (x, q))) → Fits w.routers ends' x (after r.node event)) →
      Places (with_router w.routers x (having_told r event)) w.clients ends' × Nodes (with_router w.routers x (having_told r event)) ends'
  turns x y r event ends' b er sorted there_ ups fits = (
    places_same w.routers (with_router w.routers x (having_told r event)) w.clients w.clients w.ends ends' p (sorted p.in_order) (same_router x r (having_told r event) er) (λ q. refl) there_,
    nodes_set w.routers w.ends ends' x r (having_told r event) n er
        (fits (λ q. ups (x, q) ∙ ap (λ t. cond t b (is_up w.ends (x, q))) (own_end x y q)))
        (λ z q apart. ups (z, q) ∙ ap (λ t. cond t b (is_up w.ends (z, q))) (other_end x y z q apart)),
  )

  role_is : (name : List ℕ) (weight : ℕ) → is_router (peer_of w name weight).role ≡ is_some (router_of w.routers name)
  role_is name weight = by (is_some (router_of w.routers name))
    where
      by : (b : Bool) → is_router (cond b role.Router role.Client) ≡ b
      by true = refl
      by false = refl

  up_sound : (router name : List ℕ) (r : RouterState) → router_of w.routers router ≡ Some r → (s : EndState) → end_of w.ends (router, name) ≡ Some s → s.up ≡ false →
      IsSound (w_up w line router name r s)
  up_sound router name r er s es down =
      let event : Event = up_event r (peer_of w name s.weight) in
      let up : Ends = with_end w.ends (router, name) (lifted s) in
      let ends' : Ends = all_told (all_queued up router r.node event line) router r event line in
      let same : SameEnds up ends' = same_heard up router r event line in
      let both = turns router name r event ends' true er
      (λ o. same.sorted (subst (IsStrictlySortedBy end_cmp) (sym (keys_with_end w.ends (router, name) (lifted s))) o))
      (λ q. same.there_too q ∙ keep_with_end w.ends (router, name) (lifted s) is_some q s es refl)
      (λ q. same.as_up q ∙ read_with_end w.ends (router, name) (lifted s) up_of q (ap is_some es))
      (fits_up w.routers w.ends ends' router name r.node (peer_of w name s.weight) (n router r er) refl (role_is name s.weight) (ap up_of es ∙ down)) in
      subst IsSound (sym (heard_is (with_ends w up) router r event line)) (sound_of (with_ends (with_routers w (with_router w.routers router (having_told r event))) ends') both.0 both.1)

  down_sound : (router name : List ℕ) (r : RouterState) → router_of w.routers router ≡ Some r → (l : LinkNo) → number_to r name ≡ Ok l → IsSound (w_down w line router name r l)
  down_sound router name r er l el =
      let k = number_found r name l el in
      let heard_ : Ends = all_told (all_queued w.ends router r.node (Down l) line) router r (Down l) line in
      let ends' : Ends = changed heard_ (router, name) lowered in
      let same : SameEnds w.ends heard_ = same_heard w.ends router r (Down l) line in
      let both = turns router name r (Down l) ends' false er
      (λ o. subst (IsStrictlySortedBy end_cmp) (sym (keys_changed heard_ (router, name) lowered)) (same.sorted o))
      (λ q. keep_changed heard_ (router, name) lowered is_some q (λ s. refl) ∙ same.there_too q)
      (λ q. read_changed heard_ (router, name) lowered up_of q ∙ (λ i. cond (is_end (router, name) q) (none_up (end_of heard_ q) i) (same.as_up q i)))
      (λ lowers. subst (λ z. Fits w.routers ends' router (after r.node (Down z))) k.2 (fits_down w.routers w.ends ends' router name r.node k.0 (n router r er) k.1 lowers)) in
      subst (λ (v : WorldState). IsSound (with_ends v (changed v.ends (router, name) lowered))) (sym (heard_is w router r (Down l) line))
      (sound_of (with_ends (with_routers w (with_router w.routers router (having_told r (Down l)))) ends') both.0 both.1)
    where
      none_up : (o : Option EndState) → up_of (option_map lowered o) ≡ false
      none_up None = refl
      none_up (Some s) = refl

  -- ---- new routers, clients and links

  -- a name that is taken is another than one that is free
  other_name : (id q : List ℕ) → is_taken w id ≡ false → is_taken w q ≡ true → is_named q id ≡ false
  other_name id q free taken = by (is_named q id) refl
    where
      by : (b : Bool) → is_named q id ≡ b → b ≡ false
      by false e = refl
      by true e = sym taken ∙ ap (is_taken w) (same_name q id e) ∙ free

  -- an end that is up is that of routers and neighbours that are there
  no_end_from : (id : List ℕ) → is_some (router_of w.routers id) ≡ false → (y : List ℕ) → is_up w.ends (id, y) ≡ false
  no_end_from id free y = by (is_up w.ends (id, y)) refl
    where
      by : (b : Bool) → is_up w.ends (id, y) ≡ b → b ≡ false
      by false e = refl
      by true e = sym (p.owners id y (up_is_there (end_of w.ends (id, y)) e)) ∙ free

  no_end_to : (x id : List ℕ) → is_taken w id ≡ false → is_up w.ends (x, id) ≡ false
  no_end_to x id free = by (is_up w.ends (x, id)) refl
    where
      by : (b : Bool) → is_up w.ends (x, id) ≡ b → b ≡ false
      by false e = refl
      by true e = sym (p.neighbours x id (up_is_there (end_of w.ends (x, id)) e)) ∙ free

  router_sound : (id : List ℕ) → is_taken w id ≡ false → IsSound (with_routers w (insert_entry (slice_cmp nat_cmp) w.routers id (new_router id)))
  router_sound id free = sound_of (with_routers w more)
      (record {
        in_order = p.in_order;
        owners = λ x y e. still x (p.owners x y e);
        neighbours = λ x y e. or_more (is_some (router_of w.routers y)) (is_some (router_of more y)) (is_some (client_of w.clients y)) (still y) (p.neighbours x y e);
        apart = p.apart;
        homes = p.homes;
      })
      (λ x r found. by x r (is_named x id) refl (sym (is x) ∙ found))
    where
      more : Routers
      more = insert_entry (slice_cmp nat_cmp) w.routers id (new_router id)

      is : (q : List ℕ) → router_of more q ≡ cond (is_named q id) (Some (new_router id)) (router_of w.routers q)
      is q = value_new w.routers id q (new_router id) (not_there (router_of w.routers id) (free_name w id free).0)

      still : (q : List ℕ) → is_some (router_of w.routers q) ≡ true → is_some (router_of more q) ≡ true
      still q e = ap is_some (is q) ∙ read_cond is_some (is_named q id) (Some (new_router id)) (router_of w.routers q) ∙ still_true (is_named q id) (is_some (router_of w.routers q)) e

      or_more : (a b c : Bool) → (a ≡ true → b ≡ true) → (a || c) ≡ true → (b || c) ≡ true
      or_more true b c f e = ap (λ z. z || c) (f refl)
      or_more false b c f e = or_right b c e

      fresh : Fits more w.ends id (new_router id).node
      fresh = record {
        own = refl;
        unique = unique_nothing;
        links = λ y. sym (no_end_from id (free_name w id free).0 y);
        roles = λ y q k. absurd (false≢true (ap is_some k));
      }

      same : (x y : List ℕ) → is_up w.ends (x, y) ≡ true → is_some (router_of more y) ≡ is_some (router_of w.routers y)
      same x y u = ap is_some (is y)
          ∙ ap (λ b. is_some (cond b (Some (new_router id)) (router_of w.routers y))) (other_name id y free (p.neighbours x y (up_is_there (end_of w.ends (x, y)) u)))

      by : (x : List ℕ) (r : RouterState) (b : Bool) → is_named x id ≡ b → cond b (Some (new_router id)) (router_of w.routers x) ≡ Some r → Fits more w.ends x r.node
      by x r true e k =
          let it : new_router id ≡ r = cc in
          subst (λ (t : RouterState). Fits more w.ends x t.node) it (subst (λ z. Fits more w.ends z (new_router id).node) (sym (same_name x id e)) fresh)
      by x r false e k = fits_same w.routers more w.ends w.ends x r.node (n x r k) (λ y u. same x y u) (λ y. refl)

  link_sound : (one other : List ℕ) (weight : ℕ) → is_named one other ≡ false → (r : RouterState) → router_of w.routers one ≡ Some r → (q : RouterState) → router_of w.routers other ≡ Some q →
      is_in_place w.ends (one, other) ≡ false → IsSound (w_link w one other weight)
  link_sound one other weight apart r er q eq new = sound_of (w_link w one other weight)
      (places_put w.routers w.clients first (other, one) (new_end weight)
      (places_put w.routers w.clients w.ends (one, other) (new_end weight) p (ap is_some er) (ap (λ (o : Option RouterState). is_some o || is_some (client_of w.clients other)) eq) apart)
      (ap is_some eq) (ap (λ (o : Option RouterState). is_some o || is_some (client_of w.clients one)) er) (names.symm other one ∙ apart))
      (λ x t found. fits_same w.routers w.routers w.ends both x t.node (n x t found) (λ y u. refl) (λ y. as_up (x, y)))
    where
      first : Ends
      first = put_end w.ends (one, other) (new_end weight)

      both : Ends
      both = put_end first (other, one) (new_end weight)

      -- neither end was up
      downs : (is_up w.ends (one, other) ≡ false) × (is_up w.ends (other, one) ≡ false)
      downs =
          let parts = or_parts (is_unbroken w.ends (one, other) || is_up w.ends (one, other)) (is_up w.ends (other, one)) new in
          ((or_parts (is_unbroken w.ends (one, other)) (is_up w.ends (one, other)) parts.0).1, parts.1)

      first_up : (e : End) → up_of (end_of first e) ≡ up_of (end_of w.ends e)
      first_up e = keep_put_end w.ends (one, other) (new_end weight) up_of e (sym downs.0)

      as_up : (e : End) → up_of (end_of both e) ≡ up_of (end_of w.ends e)
      as_up e = keep_put_end first (other, one) (new_end weight) up_of e (sym (first_up (other, one) ∙ downs.1)) ∙ first_up e

  client_sound : (id router : List ℕ) (r : RouterState) → router_of w.routers router ≡ Some r → is_taken w id ≡ false → IsSound (w_client w line id router r)
  client_sound id router r er free = subst (λ (v : WorldState). IsSound (with_clients v clients)) (sym (heard_is (with_ends w first) router r event line))
      (sound_of (record { routers = more; clients = clients; ends = ends'; booked = w.booked })
      (record {
        in_order = queued_.sorted (sorted_put_end w.ends (router, id) (lifted (new_end 1)) p.in_order);
        owners = λ x y e. of_end (λ q. is_some (router_of more q.0) ≡ true) (kept_router router ∙ ap is_some er) (λ q k. kept_router q.0 ∙ p.owners q.0 q.1 k) (x, y) e;
        neighbours = λ x y e. of_end (λ q. (is_some (router_of more q.1) || is_some (client_of clients q.1)) ≡ true) (or_right (is_some (router_of more id)) (is_some (client_of clients id)) own_client)
            (λ q k. (λ i. kept_router q.1 i || is_some (client_of clients q.1)) ∙ or_still (is_some (router_of w.routers q.1)) (is_some (client_of w.clients q.1)) (is_some (client_of clients q.1)) (still q.1) (p.neighbours q.0 q.1 k)) (x, y) e;
        apart = λ x y e. of_end (λ q. is_named q.0 q.1 ≡ false) (other_name id router free (or_left (is_some (router_of w.routers router)) (is_some (client_of w.clients router)) (ap is_some er)))
            (λ q k. p.apart q.0 q.1 k) (x, y) e;
        homes = λ name s e. home_of name s (is_named name id) refl (sym (is name) ∙ e);
      })
      (nodes_set w.routers w.ends ends' router r (having_told r event) n er
      (fits_up w.routers w.ends ends' router id r.node (record { id = id; role = role.Client; weight = 1 }) (n router r er) refl (sym (free_name w id free).0) (no_end_to router id free)
      (λ q. ups (router, q) ∙ ap (λ t. cond t true (is_up w.ends (router, q))) (own_end router id q)))
      (λ z q apart. ups (z, q) ∙ ap (λ t. cond t true (is_up w.ends (z, q))) (other_end router id z q apart))))
    where
      event : Event
      event = up_event r (record { id = id; role = role.Client; weight = 1 })

      first : Ends
      first = put_end w.ends (router, id) (lifted (new_end 1))

      ends' : Ends
      ends' = all_told (all_queued first router r.node event line) router r event line

      more : Routers
      more = with_router w.routers router (having_told r event)

      clients : Clients
      clients = insert_entry (slice_cmp nat_cmp) w.clients id (new_client router)

      queued_ : SameEnds first ends'
      queued_ = same_heard first router r event line

      kept_router : (q : List ℕ) → is_some (router_of more q) ≡ is_some (router_of w.routers q)
      kept_router q = same_router router r (having_told r event) er q

      is : (q : List ℕ) → client_of clients q ≡ cond (is_named q id) (Some (new_client router)) (client_of w.clients q)
      is q = value_new w.clients id q (new_client router) (not_there (client_of w.clients id) (free_name w id free).1)

      still : (q : List ℕ) → is_some (client_of w.clients q) ≡ true → is_some (client_of clients q) ≡ true
      still q e = ap is_some (is q) ∙ read_cond is_some (is_named q id) (Some (new_client router)) (client_of w.clients q) ∙ still_true (is_named q id) (is_some (client_of w.clients q)) e

      own_client : is_some (client_of clients id) ≡ true
      own_client = ap is_some (is id) ∙ ap (λ b. is_some (cond b (Some (new_client router)) (client_of w.clients id))) (names.refl id)

      or_still : (a b c : Bool) → (b ≡ true → c ≡ true) → (a || b) ≡ true → (a || c) ≡ true
      or_still true b c f e = refl
      or_still false b c f e = f e

      of_end : (P : End → Type 0) → P (router, id) → ((q : End) → is_some (end_of w.ends q) ≡ true → P q) → (q : End) → is_some (end_of ends' q) ≡ true → P q
      of_end P own old q e = of_put P w.ends (router, id) (lifted (new_end 1)) own old q (sym (queued_.there_too q) ∙ e)

      there_is : (q : End) → is_some (end_of ends' q) ≡ cond (is_end (router, id) q) true (is_some (end_of w.ends q))
      there_is q = queued_.there_too q ∙ read_put_end w.ends (router, id) (lifted (new_end 1)) is_some q

      ups : (q : End) → up_of (end_of ends' q) ≡ cond (is_end (router, id) q) true (up_of (end_of w.ends q))
      ups q = queued_.as_up q ∙ read_put_end w.ends (router, id) (lifted (new_end 1)) up_of q

      home_of : (name : List ℕ) (s : ClientState) (b : Bool) → is_named name id ≡ b → cond b (Some (new_client router)) (client_of w.clients name) ≡ Some s →
          is_some (end_of ends' (s.router, name)) ≡ true
      home_of name s true e k =
          let own : router ≡ s.router = ap (λ (o : Option ClientState). option_map_or (λ z. z.router) o []) k in
          there_is (s.router, name) ∙ ap (λ b. cond b true (is_some (end_of w.ends (s.router, name))))
          (end_parts (router, id) (s.router, name) ∙ (λ i. is_named router (sym own i) && is_named id (same_name name id e i)) ∙ (λ i. names.refl router i && names.refl id i))
      home_of name s false e k = there_is (s.router, name) ∙ still_true (is_end (router, id) (s.router, name)) (is_some (end_of w.ends (s.router, name))) (p.homes name s k)

  each_act : (act : Act) → Keeps (outcome w line act)
  unfolding outcome
  each_act (a.Router id) = kept (outcome w line (a.Router id)) (for_router now sound id (λ free room. router_sound id free))
  each_act (a.Client id router) = kept (outcome w line (a.Client id router)) (for_client now sound line id router (λ r er free room taken. client_sound id router r er free))
  each_act (a.Link one other weight) = kept (outcome w line (a.Link one other weight)) (for_link now sound one other weight (λ apart r er q eq new room. link_sound one other weight apart r er q eq new))
  each_act (a.Up router name) = kept (outcome w line (a.Up router name)) (for_up now sound line router name (λ r er there s es unbroken down taken. up_sound router name r er s es down))
  each_act (a.Break router name) = kept (outcome w line (a.Break router name)) (for_break now sound router name (λ r er there s es unbroken. break_sound router name))
  each_act (a.Down router name) = kept (outcome w line (a.Down router name)) (for_down now sound line router name (λ r er there s es up cut l el taken. down_sound router name r er l el))
  each_act (a.Sub client id key) = kept (outcome w line (a.Sub client id key)) (for_declare now sound line client k.Sub id key (m.Sub id key) (λ s es fresh e ee unbroken r er room. declare_sound client k.Sub id key (m.Sub id key) s es e ee r er))
  each_act (a.Unsub client id) = kept (outcome w line (a.Unsub client id)) (for_undeclare now sound line client k.Sub id (m.Unsub id) (λ s es known e ee unbroken. undeclare_sound client k.Sub id (m.Unsub id) s es e ee))
  each_act (a.Token client id key) = kept (outcome w line (a.Token client id key)) (for_declare now sound line client k.Token id key (m.Token id key) (λ s es fresh e ee unbroken r er room. declare_sound client k.Token id key (m.Token id key) s es e ee r er))
  each_act (a.Untoken client id) = kept (outcome w line (a.Untoken client id)) (for_undeclare now sound line client k.Token id (m.Untoken id) (λ s es known e ee unbroken. undeclare_sound client k.Token id (m.Untoken id) s es e ee))
  each_act (a.Able client id key complete) =
      kept (outcome w line (a.Able client id key complete)) (for_declare now sound line client (able_kind complete) id key (m.Able id key complete)
      (λ s es fresh e ee unbroken r er room. declare_sound client (able_kind complete) id key (m.Able id key complete) s es e ee r er))
  each_act (a.Unable client id) = kept (outcome w line (a.Unable client id)) (for_undeclare now sound line client k.Able id (m.Unable id) (λ s es known e ee unbroken. undeclare_sound client k.Able id (m.Unable id) s es e ee))
  each_act (a.Interest client id mode kinds key aggregate) =
      let msg : Msg = m.Interest id (is_current mode) (is_future mode) kinds key aggregate in
      kept (outcome w line (a.Interest client id mode kinds key aggregate))
      (interest_says now sound line client id mode kinds key aggregate (says_sound client msg) (weighs_sound client (unwrap_or key []) msg))
  each_act (a.Uninterest client id) = kept (outcome w line (a.Uninterest client id)) (uninterest_says now sound line client id (says_sound client (m.EndInterest id)))
  each_act (a.Publish client content) = kept (outcome w line (a.Publish client content)) (publish_says now sound line client content (says_sound client (m.Push None content)))
  each_act (a.Get client number target content) = kept (outcome w line (a.Get client number target content)) (get_says now sound line client number target content (says_sound client (m.Request None number target content)))
  each_act (a.Reply client number content) = kept (outcome w line (a.Reply client number content)) (reply_says now sound line client number content (says_sound client (m.Response number content)))
  each_act (a.End client number) = kept (outcome w line (a.End client number)) (end_says now sound line client number (says_sound client (m.Final number no_extras)))
  each_act (a.Handle router from) = kept (outcome w line (a.Handle router from)) (for_handle now sound router from (λ r er there s es up msg tag xs front l el taken. handle_sound router from r er s es msg tag xs l))
  each_act (a.Take router to) = kept (outcome w line (a.Take router to)) (for_take now sound router to (λ r er there s es up unbroken msg tag xs front. take_sound router to s es msg tag xs))
  each_act a.Mark = kept (outcome w line a.Mark) (for_mark now sound line (λ settled joined. h))
  each_act (a.Show router) = kept (outcome w line (a.Show router)) (for_show now sound router (λ r er. h))

pub act_keeps : (w : WorldState) (line : ℕ) (act : Act) → IsSound w → Keeps (outcome w line act)
act_keeps w line act h = each_act w line h act

-- ---- commands

-- steps that are counted change no table
pub book_keeps : (w : WorldState) (steps : ℕ) → IsSound w → IfOk (book_step w steps) IsSound
unfolding book_step
book_keeps w steps h = by (nat_le (w.booked + steps) most_steps)
  where
    by : (b : Bool) → IfOk (cond b (Ok (booking w steps)) (Err Limit)) IsSound
    by true = sound_of (booking w steps) (places_of w h) (nodes_of w h)
    by false = tt

-- what was said first, and then the rest
abbrev pub said_first : List ReportLine → List ReportLine × WorldState → Done
said_first said y = Ok (said ++ y.0, y.1)

acts_keep : (line : ℕ) (several : List Act) (w : WorldState) → IsSound w → IfOk (all_done w line several) (λ x. IsSound x.1)
acts_keep line [] w h = h
acts_keep line (a ∷ more) w h = by (outcome w line a) (act_keeps w line a h) (acts_keep line more)
  where
    by : (o : Outcome) → Keeps o → ((v : WorldState) → IsSound v → IfOk (all_done v line more) (λ x. IsSound x.1)) →
        IfOk (o >>= (λ x. all_done x.1 line more >>= (said_first x.0))) (λ x. IsSound x.1)
    by (Err e) k ih = tt
    by (Ok x) k ih = at (all_done x.1 line more) (ih x.1 k)
      where
        at : (d : Done) → IfOk d (λ x. IsSound x.1) → IfOk (d >>= (said_first x.0)) (λ x. IsSound x.1)
        at (Err e) m = tt
        at (Ok y) m = m

run_keeps : (w : WorldState) (line steps : ℕ) → IsSound w → IfOk (run_done line steps w) (λ x. IsSound x.1)
unfolding run_done
run_keeps w line steps h = by (all_done w line (run_steps line steps w)) (acts_keep line (run_steps line steps w) w h)
  where
    closes : List ReportLine × WorldState → Done
    closes x = Ok (x.0 ++ Ran (length (run_steps line steps w)) (is_none (next x.1)) ∷ [], x.1)

    by : (d : Done) → IfOk d (λ x. IsSound x.1) → IfOk (d >>= closes) (λ x. IsSound x.1)
    by (Err e) m = tt
    by (Ok y) m = m

fan_keeps : (w : WorldState) (line : ℕ) → IsSound w → IfOk (fan_step w line) (λ x. IsSound x.1)
unfolding fan_step fan_done
fan_keeps w line h = by (not (is_settled w)) (not (are_samples w)) (are_many w || are_long w)
  where
    tells : List ReportLine × WorldState → Done
    tells x = Ok (fanned x.1.routers x.0 ∷ [], x.1)

    done : (d : Done) → IfOk d (λ x. IsSound x.1) → IfOk (d >>= tells) (λ x. IsSound x.1)
    done (Err e) k = tt
    done (Ok y) k = k

    by : (a b c : Bool) → IfOk (unless a NotSettled >>= (λ u. unless b NotSamples >>= (λ v. unless c Limit >>= (λ z. fan_done line w)))) (λ x. IsSound x.1)
    by true b c = tt
    by false true c = tt
    by false false true = tt
    by false false false = done (all_done w line (fan_steps line w)) (acts_keep line (fan_steps line w) w h)

pub applied_keeps : (w : WorldState) (line : ℕ) (command : Command) → IsSound w → IfOk (applied w line command) (λ x. IsSound x.1)
unfolding applied
applied_keeps w line (c.Act act) h = act_keeps w line act h
applied_keeps w line (c.Run steps) h = by (book_step w steps) (book_keeps w steps h)
  where
    by : (b : Result WorldState ScriptError) → IfOk b IsSound → IfOk (b >>= run_done line steps) (λ x. IsSound x.1)
    by (Ok counted) k = run_keeps counted line steps k
    by (Err e) k = tt
applied_keeps w line c.Fan h = fan_keeps w line h

-- ---- the next step is possible

-- an end of the world that passes a test
abbrev IsEnd : (EndState → Bool) → Ends → End → Type 0
IsEnd test ends e = (s : EndState) × (end_of ends e ≡ Some s) × (test s ≡ true)

lesser_in : (xs : List End) (e : End) → In (fold lesser e xs) (e ∷ xs)
lesser_in [] e = inl refl
lesser_in (x ∷ xs) e = by (end_cmp e x) (lesser_in xs (lesser e x))
  where
    by : (o : Ordering) → In (fold lesser (min_by_ordering o e x) xs) (min_by_ordering o e x ∷ xs) → In (fold lesser (min_by_ordering o e x) xs) (e ∷ x ∷ xs)
    by Less h = past h
      where
        past : {z : End} → In z (e ∷ xs) → In z (e ∷ x ∷ xs)
        past (inl i) = inl i
        past (inr i) = inr (inr i)
    by Equal h = past h
      where
        past : {z : End} → In z (e ∷ xs) → In z (e ∷ x ∷ xs)
        past (inl i) = inl i
        past (inr i) = inr (inr i)
    by Greater h = inr h

first_in : (xs : List End) (e : End) → reduce lesser xs ≡ Some e → In e xs
first_in [] e h = absurd (false≢true (ap is_some h))
first_in (x ∷ xs) e h = let same : fold lesser x xs ≡ e = cc in subst (λ z. In z (x ∷ xs)) same (lesser_in xs x)

-- the first end that passes a test is there, and passes it
first_is : (test : EndState → Bool) (ends : Ends) (e : End) → IsStrictlySortedBy end_cmp (keys_of ends) → first_where test ends ≡ Some e → IsEnd test ends e
first_is test ends e sorted h =
    let x = in_map (λ (z : End × EndState). z.0) (filter (λ z. test z.1) ends) e (first_in (ends_where test ends) e h) in
    let y = in_filter (λ (z : End × EndState). test z.1) ends x.0 x.1 in
    (x.0.1, ap (end_of ends) (sym x.2) ∙ end_found ends x.0 sorted y.0, y.1)

ok_by : {A : Type 0} (a : Result A ScriptError) (f : A → Outcome) (x : A) → a ≡ Ok x → is_ok (f x) ≡ true → is_ok (a >>= f) ≡ true
ok_by a f x e h = ap (λ z. is_ok (z >>= f)) e ∙ h

-- a test that is passed
ok_test : (b : Bool) (e : ScriptError) (f : Unit {0} → Outcome) → b ≡ true → is_ok (f tt) ≡ true → is_ok (unless (not b) e >>= f) ≡ true
ok_test b e f t h = ap (λ z. is_ok (unless (not z) e >>= f)) t ∙ h

waits : (xs : List Tagged) → not (is_empty xs) ≡ true → (x : Tagged × List Tagged) × (oldest xs ≡ Ok x)
waits [] h = absurd (false≢true h)
waits (x ∷ xs) h = ((x, xs), refl)

-- the link to a neighbour to which the end is up
pub number_is : (w : WorldState) (x y : List ℕ) (r : RouterState) (s : EndState) → IsSound w → router_of w.routers x ≡ Some r → end_of w.ends (x, y) ≡ Some s → s.up ≡ true →
    (l : LinkNo) × (number_to r y ≡ Ok l)
number_is w x y r s h er es up =
    let l = there (link_to r.node.links y) (h.links x y r er ∙ ap up_of es ∙ up) in
    (l.0.link, ap number_at l.1)

-- a router that takes the event hears of it
ok_hears : (v : WorldState) (x : List ℕ) (r : RouterState) (event : Event) (tag : ℕ) (f : WorldState → Outcome) → refuses_of r event ≡ None →
    ((u : WorldState) → is_ok (f u) ≡ true) → is_ok (hears v x r event tag >>= f) ≡ true
ok_hears v x r event tag f taken goes = ap (λ (o : Option NodeError). is_ok (heard_by v x r event tag o >>= f)) taken ∙ goes (heard v x r event tag)

handle_goes : (w : WorldState) (e : End) → IsSound w → AllAreTaken w → IsEnd can_handle w.ends e → is_ok (handle_step w e.0 e.1) ≡ true
unfolding handle_step
handle_goes w e h taken at =
    let s : EndState = at.0 in
    let can = and_parts s.up (not (is_empty s.wire)) at.2 in
    let r = there (router_of w.routers e.0) (h.routers e.0 e.1 (ap is_some at.1)) in
    let x = waits s.wire can.1 in
    let l = number_is w e.0 e.1 r.0 s h r.1 at.1 can.0 in
    ok_by (router_at (router_of w.routers e.0)) _ r.0 (ap router_at r.1)
    (ok_test (is_taken w e.1) UnknownName _ (h.neighbours e.0 e.1 (ap is_some at.1))
    (ok_by (end_at (end_of w.ends e)) _ s (ap end_at at.1)
    (ok_test s.up NotLinked _ can.0
    (ok_by (oldest s.wire) _ x.0 x.1
    (ok_by (number_to r.0 e.1) _ l.0 l.1
    (ok_hears (with_ends w (with_end w.ends (e.0, e.1) (with_wire s x.0.1))) e.0 r.0 (From l.0 x.0.0.msg) x.0.0.tag (handled x.0.0)
    (taken e.0 e.1 r.0 s l.0 x.0.0 x.0.1 r.1 at.1 can.0 (oldest_found s.wire x.0 x.1) l.1) (λ u. refl)))))))
  where
    handled : Tagged → WorldState → Outcome
    handled m v = Ok (Handled e.0 e.1 m.msg m.tag ∷ [], v)

take_goes : (w : WorldState) (e : End) → IsSound w → IsEnd can_take w.ends e → is_ok (take_step w e.0 e.1) ≡ true
unfolding take_step
take_goes w e h at =
    let s : EndState = at.0 in
    let can = and_parts (s.up && s.unbroken) (not (is_empty s.queue)) at.2 in
    let both = and_parts s.up s.unbroken can.0 in
    let r = there (router_of w.routers e.0) (h.routers e.0 e.1 (ap is_some at.1)) in
    let x = waits s.queue can.1 in
    ok_by (router_at (router_of w.routers e.0)) _ r.0 (ap router_at r.1)
    (ok_test (is_taken w e.1) UnknownName _ (h.neighbours e.0 e.1 (ap is_some at.1))
    (ok_by (end_at (end_of w.ends e)) _ s (ap end_at at.1)
    (ok_test s.up NotLinked _ both.0
    (ok_test s.unbroken NotLinked _ both.1
    (ok_by (oldest s.queue) _ x.0 x.1 refl)))))

pub next_goes : (w : WorldState) (line : ℕ) (step : Act) → IsSound w → AllAreTaken w → next w ≡ Some step → is_ok (outcome w line step) ≡ true
unfolding outcome
next_goes w line step h taken found = by (first_where can_handle w.ends) (first_where can_take w.ends) refl refl found
  where
    by : (o t : Option End) → first_where can_handle w.ends ≡ o → first_where can_take w.ends ≡ t → step_at o t ≡ Some step → is_ok (outcome w line step) ≡ true
    by (Some e) t f g k =
        let same : a.Handle e.0 e.1 ≡ step = cc in
        subst (λ (z : Act). is_ok (outcome w line z) ≡ true) same (handle_goes w e h taken (first_is can_handle w.ends e h.in_order f))
    by None (Some e) f g k =
        let same : a.Take e.0 e.1 ≡ step = cc in
        subst (λ (z : Act). is_ok (outcome w line z) ≡ true) same (take_goes w e h (first_is can_take w.ends e h.in_order g))
    by None None f g k = absurd (false≢true (ap is_some k))

-- the steps of a run are not refused, where what holds of the world goes on to hold and says that each message is taken
pub run_goes : (P : WorldState → Type 0) → ((w : WorldState) (line : ℕ) (act : Act) → P w → IfOk (outcome w line act) (λ x. P x.1)) → ((w : WorldState) → P w → IsSound w × AllAreTaken w) →
    (line n : ℕ) (w : WorldState) → P w → is_ok (all_done w line (run_steps line n w)) ≡ true
unfolding run_steps
run_goes P keeps says line zero w h = refl
run_goes P keeps says line (suc n) w h = by (next w) refl (run_goes P keeps says line n)
  where
    by : (o : Option Act) → next w ≡ o → ((v : WorldState) → P v → is_ok (all_done v line (run_steps line n v)) ≡ true) →
        is_ok (all_done w line (with_more o (λ step. run_steps line n (world_after w (outcome w line step))))) ≡ true
    by None e ih = refl
    by (Some step) e ih = at (outcome w line step) (next_goes w line step (says w h).0 (says w h).1 e) (keeps w line step h)
      where
        at : (o : Outcome) → is_ok o ≡ true → IfOk o (λ x. P x.1) → is_ok (o >>= (λ x. all_done x.1 line (run_steps line n (world_after w o)) >>= (said_first x.0))) ≡ true
        at (Err e) k m = absurd (false≢true k)
        at (Ok x) k m = last (all_done x.1 line (run_steps line n x.1)) (ih x.1 m)
          where
            last : (d : Done) → is_ok d ≡ true → is_ok (d >>= (said_first x.0)) ≡ true
            last (Ok y) k = refl
            last (Err e) k = absurd (false≢true k)

-- ---- the events that acts bring

module _ (w : WorldState) (h : IsSound w) (x y : List ℕ) (r : RouterState) (er : router_of w.routers x ≡ Some r) where
  -- no link leads to a neighbour to which the end is not up
  no_link : is_up w.ends (x, y) ≡ false → link_to r.node.links y ≡ None
  no_link down = not_there (link_to r.node.links y) (h.links x y r er ∙ down)

  -- the link to a neighbour may come up, where the end is there and not up
  pub up_may_come : (s : EndState) → end_of w.ends (x, y) ≡ Some s → s.up ≡ false → MayCome r.node (up_event r (peer_of w y s.weight))
  up_may_come s es down = record {
    number = free_is_free r.node.links;
    name = no_link (ap up_of es ∙ down);
    other = ap (is_named y) (h.own x r er) ∙ names.symm y x ∙ h.apart x y (ap is_some es);
  }

  -- and that to a new client
  pub client_may_come : is_taken w y ≡ false → MayCome r.node (up_event r (record { id = y; role = role.Client; weight = 1 }))
  client_may_come free = record {
    number = free_is_free r.node.links;
    name = no_link (no_end_to w 0 h x y free);
    other = ap (is_named y) (h.own x r er) ∙ names.symm y x ∙ other_name w 0 h y x free (or_left (is_some (router_of w.routers x)) (is_some (client_of w.clients x)) (ap is_some er));
  }

  -- a link to a neighbour has its number
  number_comes : (l : LinkNo) → number_to r y ≡ Ok l → is_some (link_at r.node.links l.0) ≡ true
  number_comes l el =
      let k = number_found r y l el in
      ap (λ (z : LinkNo). is_some (link_at r.node.links z.0)) (sym k.2) ∙ ap is_some (numbered_link r.node.links (h.unique x r er) y k.0 k.1)

  pub down_may_come : (l : LinkNo) → number_to r y ≡ Ok l → MayCome r.node (Down l)
  down_may_come l el = number_comes l el

  pub from_may_come : (l : LinkNo) (msg : Msg) → number_to r y ≡ Ok l → MayCome r.node (From l msg)
  from_may_come l msg el = number_comes l el
