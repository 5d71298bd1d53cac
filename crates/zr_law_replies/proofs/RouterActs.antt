-- Acts of routers and links keep what stands (`router_kept` and so on): they change links by what is fine there, and nothing that clients were sent or asked.
use Rattle.std.proofs.Common.{◌≡◌, ℕ, ◌⊎◌, inl, inr, Bool, true, false, cond, not, List, [], ◌∷◌, ◌++◌, map, filter, Option, Some, None, is_some, refl, sym, ap, ◌∙◌, subst}
use Rattle.std.specs.Prelude.{◌||◌, IfSome}
use Rattle.std.specs.List.{cons_option, list_all}
use Rattle.std.specs.Ordering.{nat_cmp}
use Rattle.std.specs.Cmp.Lexicographic.{slice_cmp}
use Rattle.std.specs.BTreeMap.{insert_entry}
use Rattle.std.proofs.lemmas.Bool.{false≢true, true≢false, or_right, and_parts, false_from_ne_true}
use Rattle.std.proofs.lemmas.Option.{none-some}
use Rattle.std.proofs.lemmas.List.Elements.{filter_map-append}
use Rattle.zr_lists.proofs.Options.{not_there}
use Rattle.zr_id.specs.Zid.{is_named}
use Rattle.zr_graph.specs.Record.{ids}
use Rattle.zr_msg.specs.declared.event.Event.{Event}
use Rattle.zr_msg.specs.declared.event.Event.TheVariants.{Down, From}
use Rattle.zr_msg.specs.declared.msg.Msg.{Msg}
use Rattle.zr_msg.specs.declared.peer.LinkPeer.{LinkPeer}
use Rattle.zr_script_spec.specs.declared.report.ReportLine.{ReportLine}
use Rattle.zr_script_spec.specs.declared.report.ReportLine.TheVariants as line
use Rattle.zr_node_spec.specs.Tables.{link_to, free_link}
use Rattle.zr_node_spec.specs.State.{NodeState}
use Rattle.zr_node_spec.specs.Event.{MayCome}
use Rattle.zr_node_spec.specs.Table.{after, refuses}
use Rattle.zr_world_spec.specs.World.{Tagged, RouterState, EndState, End, WorldState, with_router, with_ends, new_router, router_of, client_of, end_of, is_taken, is_unbroken, is_empty, with_end, with_wire, lifted, lowered}
use Rattle.zr_world_spec.specs.Acts.{hearing, having_told, sending, telling, peer_of, up_event, parent_line, source_line, shown_base, shown, router_step, link_step, up_step, break_step, down_step, handle_step, mark_step, show_step}
use Rattle.zr_world_spec.specs.Moments.{Numbered, Moment, went}
use Rattle.zr_world_spec.proofs.Names.{value_new, read_kept}
use Rattle.zr_world_spec.proofs.Ends.{keep_with_end, keep_changed}
use Rattle.zr_world_spec.proofs.Links.{link_to_apart}
use Rattle.zr_world_spec.proofs.Cases.{w_link, w_up, w_break, w_down, w_handle, free_name, number_found, for_router, for_link, for_up, for_break, for_down, for_handle, for_mark, for_show}
use Rattle.zr_world_spec.proofs.Sound.{up_may_come, down_may_come, from_may_come}
use Rattle.zr_law_settled.proofs.Goes.{Goes}
use Rattle.zr_law_settled.proofs.Moving.{unbroken_at}
use Rattle.zr_law_settled.proofs.Orderly.{has_wire}
use Rattle.zr_law_settled.proofs.Worlds.{router_heard}
use Rattle.zr_law_settled.proofs.Told.{IsTold, sound_back, telling_told, lowered_told}
use Rattle.zr_law_settled.proofs.Told as told
use Rattle.zr_law_settled.proofs.Ends.{of_found}
use Rattle.zr_law_declared.proofs.Hearing.{all_heard, keep_heard, heard_router}
use Rattle.zr_law_samples.proofs.Watch.{Passes}
use Rattle.zr_law_numbers.specs.Rows.{AreOfLinks}
use Rattle.zr_msg.specs.declared.content.Parts.{Parts}
use Rattle.zr_law_numbers.specs.Waiting.{Place, back_at, queue_at, waits, is_whole}
use Rattle.zr_law_numbers.proofs.Neighbours.{StaysTo, stays_up, stays_down}
use Rattle.zr_law_numbers.specs.Deeds.{Deed, EventIsDone}
use Rattle.zr_law_numbers.proofs.Waits.{wire_of}
use Rattle.zr_law_numbers.proofs.Done.{events_are_done}
use Rattle.zr_law_numbers.proofs.Whole.{LinksGo, links_stay, router_alone, whole_same}
use Rattle.zr_law_numbers.proofs.ActHears.{handle_links, up_links, down_links}
use Rattle.zr_law_replies.proofs.ToldLinks.{links_then}
use Rattle.zr_law_numbers.proofs.ActLinks.{w_router, router_links, link_links, break_links}
use Rattle.zr_guarantee.specs.Sent.{Told, told_in, told_to}
use Rattle.zr_law_replies.proofs.Grown.{Earlier}
use Rattle.zr_law_replies.proofs.Links.{Lines, lines_on, FineAsk, FineSay}
use Rattle.zr_law_replies.proofs.Lines.{AllShow}
use Rattle.zr_law_replies.specs.Answers.{is_other_line}
use Rattle.zr_law_replies.proofs.QueryTags.{comes_well, TagsHold}
use Rattle.zr_law_replies.proofs.Gathered.{gathered_by, gathered_of, gathered_at, IsGathered, is_from, heard_gathered, quiet_gathered}
use Rattle.zr_law_replies.proofs.Routers.{quiet_fits, down_fits, handle_fits, handle_gathers}
use Rattle.zr_law_replies.proofs.Askers.{own_query, none_of_router}
use Rattle.zr_law_replies.proofs.Standing.{NoBook, Stands, grows, GathersBy, gathers_then, held_then, others_then, told_none, book_stays, steady}

-- ---- what a show reports, nobody was sent

silent_map : {X : Type 0} (f : X → ReportLine) (d : List ℕ) → ((x : X) → told_in d (f x) ≡ None) → (xs : List X) → told_to (map f xs) d ≡ []
silent_map f d none [] = refl
silent_map f d none (x ∷ xs) = (λ i. cons_told (none x i) (silent_map f d none xs i))
  where
    cons_told : Option Told → List Told → List Told
    cons_told o ts = cons_option o ts

silent_shown : (router d : List ℕ) (node : NodeState) → told_to (line.Show router ∷ shown node) d ≡ []
silent_shown router d node =
    filter_map-append (told_in d) (shown_base node.base) (map source_line node.known.logs)
    ∙ (λ i. base i ++ silent_map source_line d (λ x. refl) node.known.logs i)
  where
    base : told_to (shown_base node.base) d ≡ []
    base = filter_map-append (told_in d) (map (λ r. line.Record r) node.base.records) (map (λ root. parent_line node.base root) (filter (λ id. not (is_named id node.base.me)) (ids node.base.records)))
        ∙ (λ i. silent_map (λ r. line.Record r) d (λ x. refl) node.base.records i
        ++ silent_map (λ root. parent_line node.base root) d (λ x. refl) (filter (λ id. not (is_named id node.base.me)) (ids node.base.records)) i)

-- ---- acts

module _ (acts : List Numbered) (m : Moment) (x : Numbered) (before : Earlier acts x) (lines : Lines) (g : Goes m.world) (shows : AllShow m.world) (h : Stands acts m lines) where
  abbrev w : WorldState
  w = m.world

  abbrev pub IsKept : Moment → Type 0
  IsKept next = Goes next.world → AllShow next.world → Stands (acts ++ x ∷ []) next (lines_on next.world lines)

  abbrev pub Fine : List ReportLine → WorldState → Type 0
  Fine rl v = LinksGo (FineAsk (acts ++ x ∷ []) w v lines) (FineSay (acts ++ x ∷ []) (m.report ++ rl) v lines) w v

  -- an act that nobody asks or says anything by
  abbrev pub Quiet : Type 0
  Quiet = (d : List ℕ) (k : ℕ) → NoBook (x ∷ []) d k

  -- and that brings no router and no client
  pub unchanged : Quiet → (rl : List ReportLine) (v : WorldState) → (g' : Goes v) (shows' : AllShow v) → (goes : Fine rl v) → ((q : List ℕ) → is_some (router_of v.routers q) ≡ is_some (router_of w.routers q)) →
      ((d : List ℕ) → client_of v.clients d ≡ client_of w.clients d) → ((d : List ℕ) → told_to rl d ≡ []) → GathersBy acts m x before lines g shows h rl v g' shows' goes →
      Stands (acts ++ x ∷ []) (record { world = v; report = m.report ++ rl }) (lines_on v lines)
  unchanged quiet rl v g' shows' goes routers clients silent gathers = steady acts m x before lines g shows h rl v g' shows' goes routers (λ d. ap is_some (clients d)) (λ d k none. quiet d k) (λ d free. silent d)
      (λ d s k found. book_stays acts m x before lines g shows h rl v g' shows' goes d s (sym (clients d) ∙ found) k (quiet d k) (silent d)) gathers

  pub router_kept : Quiet → (id : List ℕ) → IfSome (went m (router_step w id)) IsKept
  router_kept quiet id = for_router m IsKept id (λ free room g' shows'.
      let v : WorldState = w_router w id free in
      let goes : Fine [] v = links_stay (FineAsk (acts ++ x ∷ []) w v lines) (FineSay (acts ++ x ∷ []) (m.report ++ []) v lines) w v (router_links w id free) in
      record {
        held = held_then acts m x before lines g shows h [] v g' shows' goes;
        books = λ d s k found. book_stays acts m x before lines g shows h [] v g' shows' goes d s found k (quiet d k) refl;
        others = others_then acts m x before lines g shows h [] v g' shows' (λ d none. none) (λ d k none. quiet d k);
        untold = λ d untaken. told_none acts m x before lines g shows h [] v g' shows' d refl ∙ h.untold d (was free d (is_named d id) refl untaken);
        gathers = gathers_then acts m x before lines g shows h [] v g' shows' goes (λ a y k hs whole e. inl (held_before free a y k hs (is_named a id) refl
            (sym (ap (λ o. gathered_of o y k) (value_new w.routers id a (new_router id) (not_there (router_of w.routers id) (free_name w id free).0))) ∙ e)));
      })
    where
      held_before : is_taken w id ≡ false → (a y : List ℕ) (k : ℕ) (hs : List Parts) (b : Bool) → is_named a id ≡ b → gathered_of (cond b (Some (new_router id)) (router_of w.routers a)) y k ≡ Some hs → gathered_at w a y k ≡ Some hs
      held_before free a y k hs true e f = absurd (none-some hs f)
      held_before free a y k hs false e f = f

      was : is_taken w id ≡ false → (d : List ℕ) (b : Bool) → is_named d id ≡ b → is_taken (record { routers = insert_entry (slice_cmp nat_cmp) w.routers id (new_router id); clients = w.clients; ends = w.ends; booked = w.booked }) d ≡ false → is_taken w d ≡ false
      was free d b e untaken = by b e (sym (ap (λ o. is_some o || is_some (client_of w.clients d)) (value_new w.routers id d (new_router id) (not_there (router_of w.routers id) (free_name w id free).0))) ∙ untaken)
        where
          by : (b : Bool) → is_named d id ≡ b → (is_some (cond (is_named d id) (Some (new_router id)) (router_of w.routers d)) || is_some (client_of w.clients d)) ≡ false → is_taken w d ≡ false
          by true f k = absurd (true≢false (sym (ap (λ t. is_some (cond t (Some (new_router id)) (router_of w.routers d)) || is_some (client_of w.clients d)) f) ∙ k))
          by false f k = sym (ap (λ t. is_some (cond t (Some (new_router id)) (router_of w.routers d)) || is_some (client_of w.clients d)) f) ∙ k

  pub link_kept : Quiet → (one other : List ℕ) (weight : ℕ) → IfSome (went m (link_step w one other weight)) IsKept
  link_kept quiet one other weight = for_link m IsKept one other weight (λ apart r er q eq new room g' shows'.
      let v : WorldState = w_link w one other weight in
      unchanged quiet [] v g' shows'
      (links_stay (FineAsk (acts ++ x ∷ []) w v lines) (FineSay (acts ++ x ∷ []) (m.report ++ []) v lines) w v (link_links w g.sound g.orderly one other weight r q er eq new)) (λ z. refl) (λ z. refl) (λ z. refl) (λ a y k hs whole e. inl e))

  pub break_kept : Quiet → (router name : List ℕ) → IfSome (went m (break_step w router name)) IsKept
  break_kept quiet router name = for_break m IsKept router name (λ r er there s es unbroken g' shows'.
      let v : WorldState = w_break w router name in
      unchanged quiet [] v g' shows' (links_stay (FineAsk (acts ++ x ∷ []) w v lines) (FineSay (acts ++ x ∷ []) (m.report ++ []) v lines) w v (break_links w router name)) (λ z. refl) (λ z. refl) (λ z. refl) (λ a y k hs whole e. inl e))

  still : (fine below : List ℕ → List ℕ → Deed → Type 0) → LinksGo fine below w w
  still fine below = links_stay fine below w w (λ a b whole. (inl whole, refl))

  pub mark_kept : Quiet → (n : ℕ) → IfSome (went m (mark_step w n)) IsKept
  mark_kept quiet n = for_mark m IsKept n (λ settled joined g' shows'.
      unchanged quiet (line.Mark n ∷ []) w g' shows' (still (FineAsk (acts ++ x ∷ []) w w lines) (FineSay (acts ++ x ∷ []) (m.report ++ line.Mark n ∷ []) w lines)) (λ z. refl) (λ z. refl) (λ z. refl) (λ a y k hs whole e. inl e))

  pub show_kept : Quiet → (router : List ℕ) → IfSome (went m (show_step w router)) IsKept
  show_kept quiet router = for_show m IsKept router (λ r er g' shows'.
      unchanged quiet (line.Show router ∷ shown r.node) w g' shows' (still (FineAsk (acts ++ x ∷ []) w w lines) (FineSay (acts ++ x ∷ []) (m.report ++ line.Show router ∷ shown r.node) w lines))
      (λ z. refl) (λ z. refl) (λ z. silent_shown router z r.node) (λ a y k hs whole e. inl e))

  -- ---- a router hears of an event

  module _ (rows : (a : List ℕ) (r : RouterState) → router_of w.routers a ≡ Some r → AreOfLinks r.node) where
    -- where no message came, what is held was held before
    quiet_then : (a : List ℕ) (r : RouterState) → router_of w.routers a ≡ Some r → (event : Event) → is_from event ≡ false →
        ((y : List ℕ) (l : LinkPeer) → link_to (after r.node event).links y ≡ Some l → StaysTo r.node event y) → (b y : List ℕ) (k : ℕ) (hs : List Parts) →
        gathered_of (router_of (with_router (with_router w.routers a (hearing r event)) a (having_told r event)) b) y k ≡ Some hs → gathered_at w b y k ≡ Some hs
    quiet_then a r er event other stays b y k hs e = by (heard_gathered w.routers a r er event b y k hs e)
      where
        by : (gathered_of (router_of w.routers b) y k ≡ Some hs) ⊎ ((a ≡ b) × (gathered_by (after r.node event) y k ≡ Some hs)) → gathered_at w b y k ≡ Some hs
        by (inl old) = old
        by (inr new) = subst (λ z. gathered_at w z y k ≡ Some hs) new.0 (quiet_gathered w a r er (rows a r er) event other stays y k hs new.1)

    done : (a : List ℕ) (r : RouterState) → router_of w.routers a ≡ Some r → (event : Event) → MayCome r.node event → refuses r.node event ≡ None → EventIsDone r.node event
    done a r er event may taken = events_are_done r.node event may taken (rows a r er)

    pub up_kept : Quiet → (n : ℕ) (router name : List ℕ) → IfSome (went m (up_step w n router name)) IsKept
    up_kept quiet n router name = for_up m IsKept n router name (λ r er there s es unbroken down taken g' shows'.
        let v : WorldState = w_up w n router name r s in
        let u : WorldState = told.w_up w n router name r s in
        let event : Event = up_event r (peer_of w name s.weight) in
        let tells : IsTold u v = telling_told u router r event n (router_heard (with_ends w (with_end w.ends (router, name) (lifted s))) router r er event n) in
        let may : MayCome r.node (up_event r (peer_of w name s.weight)) = up_may_come w g.sound router name r er s es down in
        unchanged quiet [] v g' shows'
        (links_then u v tells (FineAsk (acts ++ x ∷ []) w v lines) (FineSay (acts ++ x ∷ []) (m.report ++ []) v lines) w
        (up_links w g.sound g.orderly router r er name s es n may (done router r er (up_event r (peer_of w name s.weight)) may taken)
        (FineAsk (acts ++ x ∷ []) w v lines) (FineSay (acts ++ x ∷ []) (m.report ++ []) v lines)
        (quiet_fits (acts ++ x ∷ []) (m.report ++ []) w v lines router r.node (up_event r (peer_of w name s.weight)) n refl refl) (sound_back u v tells g'.sound)))
        (λ z. heard_router is_some w.routers router z r (up_event r (peer_of w name s.weight)) ∙ read_kept is_some w.routers router z r (having_told r (up_event r (peer_of w name s.weight))) er refl) (λ z. refl) (λ z. refl)
        (λ a y k hs whole e. inl (quiet_then router r er (up_event r (peer_of w name s.weight)) refl
        (λ q l f. stays_up r.node (g.sound.unique router r er) (record { 0 = free_link r.node.links }) (peer_of w name s.weight) q may.number may.name) a y k hs e)))

    pub down_kept : Quiet → (n : ℕ) → is_other_line (acts ++ x ∷ []) n ≡ true → (router name : List ℕ) → IfSome (went m (down_step w n router name)) IsKept
    down_kept quiet n other router name = for_down m IsKept n router name (λ r er there s es up cut l el taken.
        let k = number_found r name l el in
        subst (λ z. MayCome r.node (Down z) → refuses r.node (Down z) ≡ None → Goes (w_down w n router name r z) → AllShow (w_down w n router name r z) →
        Stands (acts ++ x ∷ []) (record { world = w_down w n router name r z; report = m.report ++ [] }) (lines_on (w_down w n router name r z) lines)) k.2
        (downed r er s es cut k.0 k.1) (down_may_come w g.sound router name r er l el) taken)
      where
        downed : (r : RouterState) → router_of w.routers router ≡ Some r → (s : EndState) → end_of w.ends (router, name) ≡ Some s → s.unbroken ≡ false → (k : LinkPeer) → link_to r.node.links name ≡ Some k →
            MayCome r.node (Down k.link) → refuses r.node (Down k.link) ≡ None → (g' : Goes (w_down w n router name r k.link)) (shows' : AllShow (w_down w n router name r k.link)) →
            Stands (acts ++ x ∷ []) (record { world = w_down w n router name r k.link; report = m.report ++ [] }) (lines_on (w_down w n router name r k.link) lines)
        downed r er s es cut k linked may taken g' shows' =
            let v : WorldState = w_down w n router name r k.link in
            let u : WorldState = told.w_down w n router name r k.link in
            let heard : WorldState = sending w router r (Down k.link) n in
            let tells : IsTold u v = lowered_told heard (telling heard router r (Down k.link) n) (router, name) (telling_told heard router r (Down k.link) n (router_heard w router r er (Down k.link) n)) in
            unchanged quiet [] v g' shows'
            (links_then u v tells (FineAsk (acts ++ x ∷ []) w v lines) (FineSay (acts ++ x ∷ []) (m.report ++ []) v lines) w
            (down_links w g.sound g.orderly router r er name s es cut n k linked (done router r er (Down k.link) may taken)
            (FineAsk (acts ++ x ∷ []) w v lines) (FineSay (acts ++ x ∷ []) (m.report ++ []) v lines)
            (down_fits acts m.report (acts ++ x ∷ []) (m.report ++ []) (grows acts m x before lines g shows h [] v g' shows') w v lines h.gathers router r er n other (λ y whole. whole_down y whole) k.link)
            (sound_back u v tells g'.sound)))
            (λ z. heard_router is_some w.routers router z r (Down k.link) ∙ read_kept is_some w.routers router z r (having_told r (Down k.link)) er refl) (λ z. refl) (λ z. refl)
            (λ a y j hs whole e. inl (quiet_then router r er (Down k.link) refl stays_then a y j hs e))
          where
            w' : WorldState
            w' = w_down w n router name r k.link

            same : (q : End) → is_unbroken w'.ends q ≡ is_unbroken w.ends q
            same q = keep_changed (all_heard w.ends router r (Down k.link) n) (router, name) lowered unbroken_at q (λ z. refl) ∙ keep_heard w.ends router r (Down k.link) n unbroken_at q (λ z ws. refl)

            whole_down : (y : List ℕ) → is_whole w' y router ≡ true → is_whole w y router ≡ true
            whole_down y whole = whole_same w w' same y router whole

            -- its own link is gone
            stays_then : (y : List ℕ) (l : LinkPeer) → link_to (after r.node (Down k.link)).links y ≡ Some l → StaysTo r.node (Down k.link) y
            stays_then y l f = stays_down r.node (g.sound.unique router r er) name k y linked (false_from_ne_true (is_named name y) (λ e.
                none-some l (sym (link_to_apart r.node.links (g.sound.unique router r er) k.link.0 name k linked refl y ∙ ap (λ b. cond b None (link_to r.node.links y)) e) ∙ f)))

    pub handle_kept : Quiet → TagsHold acts m → (router from : List ℕ) → IfSome (went m (handle_step w router from)) IsKept
    handle_kept quiet tags router from = for_handle m IsKept router from (λ r er there s es up msg tag xs first l el taken.
        let k = number_found r from l el in
        subst (λ z. MayCome r.node (From z msg) → refuses r.node (From z msg) ≡ None → Goes (w_handle w router from r s z msg tag xs) → AllShow (w_handle w router from r s z msg tag xs) →
        Stands (acts ++ x ∷ []) (record { world = w_handle w router from r s z msg tag xs; report = m.report ++ line.Handled router from msg tag ∷ [] }) (lines_on (w_handle w router from r s z msg tag xs) lines)) k.2
        (handled r er s es msg tag xs first k.0 k.1) (from_may_come w g.sound router from r er l msg el) taken)
      where
        handled : (r : RouterState) → router_of w.routers router ≡ Some r → (s : EndState) → end_of w.ends (router, from) ≡ Some s → (msg : Msg) (tag : ℕ) (xs : List Tagged) →
            s.wire ≡ record { msg = msg; tag = tag } ∷ xs → (k : LinkPeer) → link_to r.node.links from ≡ Some k → MayCome r.node (From k.link msg) → refuses r.node (From k.link msg) ≡ None →
            (g' : Goes (w_handle w router from r s k.link msg tag xs)) (shows' : AllShow (w_handle w router from r s k.link msg tag xs)) →
            Stands (acts ++ x ∷ []) (record { world = w_handle w router from r s k.link msg tag xs; report = m.report ++ line.Handled router from msg tag ∷ [] })
            (lines_on (w_handle w router from r s k.link msg tag xs) lines)
        handled r er s es msg tag xs first k linked may taken g' shows' =
            unchanged quiet rl v g' shows'
            (links_then u v tells (FineAsk (acts ++ x ∷ []) w v lines) (FineSay (acts ++ x ∷ []) (m.report ++ rl) v lines) w
            (handle_links w g.sound g.orderly router r er from s es msg tag xs first k linked (done router r er (From k.link msg) may taken)
            (FineAsk (acts ++ x ∷ []) w v lines) (FineSay (acts ++ x ∷ []) (m.report ++ rl) v lines)
            (handle_fits acts m.report (acts ++ x ∷ []) (m.report ++ rl) (grows acts m x before lines g shows h rl v g' shows') w v lines g.sound g.orderly shows h.held router r er from k linked
            msg tag (xs ++ queue_at w.ends (from, router)) front unbroken (λ y whole. whole_same w v same y router whole) h.gathers well (own_query acts m lines g.orderly h) (none_of_router acts m lines g.orderly h router (router_alone w g.orderly router r er))) (sound_back u v tells g'.sound)))
            (λ z. heard_router is_some w.routers router z r (From k.link msg) ∙ read_kept is_some w.routers router z r (having_told r (From k.link msg)) er refl) (λ z. refl) (λ z. refl) gathers
          where
            v : WorldState
            v = w_handle w router from r s k.link msg tag xs

            u : WorldState
            u = told.w_handle w router from r s k.link msg tag xs

            tells : IsTold u v
            tells = telling_told u router r (From k.link msg) tag (router_heard (with_ends w (with_end w.ends (router, from) (with_wire s xs))) router r er (From k.link msg) tag)

            rl : List ReportLine
            rl = line.Handled router from msg tag ∷ []

            -- the message comes with a line of its kind
            well : comes_well acts (record { msg = msg; tag = tag }) ≡ true
            well = (and_parts (comes_well acts (record { msg = msg; tag = tag })) (list_all (comes_well acts) xs)
                (ap (list_all (comes_well acts)) (sym first) ∙ (of_found (Passes (comes_well acts)) (end_of w.ends (router, from)) s es (tags.waits (router, from))).0)).0

            front : waits w from router ≡ record { msg = msg; tag = tag } ∷ (xs ++ queue_at w.ends (from, router))
            front = ap (λ z. z ++ queue_at w.ends (from, router)) (ap wire_of es ∙ first)

            unbroken : is_whole w from router ≡ true
            unbroken = or_right (is_unbroken w.ends (from, router)) (is_unbroken w.ends (router, from)) (by (is_unbroken w.ends (router, from)) refl)
              where
                by : (b : Bool) → is_unbroken w.ends (router, from) ≡ b → b ≡ true
                by true e = refl
                by false e = absurd (false≢true (sym (g.orderly.broken_links (router, from) e) ∙ ap has_wire es ∙ ap (λ z. not (is_empty z)) first))

            same : (q : End) → is_unbroken v.ends q ≡ is_unbroken w.ends q
            same q = keep_heard (with_end w.ends (router, from) (with_wire s xs)) router r (From k.link msg) tag unbroken_at q (λ z ws. refl)
                ∙ keep_with_end w.ends (router, from) (with_wire s xs) unbroken_at q s es refl

            gathers : (a y : List ℕ) (j : ℕ) (hs : List Parts) → is_whole v y a ≡ true → gathered_at v a y j ≡ Some hs →
                (gathered_at w a y j ≡ Some hs) ⊎ (IsGathered (acts ++ x ∷ []) (m.report ++ rl) y (lines y a j) hs × (by : Option Place) × (back_at w y a j ≡ Some by))
            gathers a y j hs whole e = by (heard_gathered w.routers router r er (From k.link msg) a y j hs e)
              where
                by : (gathered_of (router_of w.routers a) y j ≡ Some hs) ⊎ ((router ≡ a) × (gathered_by (after r.node (From k.link msg)) y j ≡ Some hs)) →
                    (gathered_at w a y j ≡ Some hs) ⊎ (IsGathered (acts ++ x ∷ []) (m.report ++ rl) y (lines y a j) hs × (by : Option Place) × (back_at w y a j ≡ Some by))
                by (inl old) = inl old
                by (inr new) = subst (λ z. is_whole v y z ≡ true → (gathered_at w z y j ≡ Some hs) ⊎ (IsGathered (acts ++ x ∷ []) (m.report ++ rl) y (lines y z j) hs × (by : Option Place) × (back_at w y z j ≡ Some by)))
                    new.0 (λ there. handle_gathers acts m.report (acts ++ x ∷ []) (m.report ++ rl) (grows acts m x before lines g shows h rl v g' shows') w v lines g.sound g.orderly shows h.held router r er from k linked
                    msg tag (xs ++ queue_at w.ends (from, router)) front unbroken (λ q w'. whole_same w v same q router w') h.gathers well (own_query acts m lines g.orderly h) (none_of_router acts m lines g.orderly h router (router_alone w g.orderly router r er)) y j hs there new.1) whole
