-- The log of a router by its acts (`LogHolds`): as many changes as the router counts, and they lead to the set of its rows. The set follows from the
-- rows alone; that the router counts each change is shown act by act (`acts_count`).
use Rattle.std.proofs.Common.{◌≡◌, ◌+◌, ◌≤◌, ℕ, Bool, true, false, cond, not, List, [], ◌∷◌, ◌++◌, length, Option, Some, None, is_some, refl, sym, ap, ◌∙◌, subst, arith}
use Rattle.std.specs.Prelude.{◌==◌, nat_lt, unwrap_or, IfSome, filter}
use Rattle.std.specs.List.{fold}
use Rattle.std.specs.Option.{option_map_or}
use Rattle.std.specs.Ordering.{is_eq, nat_cmp}
use Rattle.std.specs.Cmp.Lexicographic.{slice_cmp}
use Rattle.std.specs.BTreeMap.{insert_entry}
use Rattle.std.proofs.lemmas.Bool.{and_parts, not-true}
use Rattle.std.proofs.lemmas.List.{length-append, take_all}
use Rattle.std.proofs.lemmas.List.Sums.{fold-append}
use Rattle.zr_id.specs.Zid.{is_named}
use Rattle.zr_id.specs.declared.link.LinkNo.{LinkNo}
use Rattle.zr_graph.proofs.Names.{same_is}
use Rattle.zr_lists.proofs.Finds.{in_any}
use Rattle.zr_msg.specs.Decl.{decl_cmp}
use Rattle.zr_msg.specs.declared.decl.Decl.{Decl}
use Rattle.zr_msg.specs.declared.decl.Kind.TheVariants as k
use Rattle.zr_msg.specs.declared.msg.Msg.{Msg}
use Rattle.zr_msg.specs.declared.msg.Msg.TheVariants as m
use Rattle.zr_msg.specs.declared.event.Event.{Event}
use Rattle.zr_msg.specs.declared.event.Event.TheVariants.{Up, Down, From}
use Rattle.zr_msg.specs.declared.peer.Role.TheVariants as role
use Rattle.zr_script_spec.specs.declared.command.Act.{Act}
use Rattle.zr_script_spec.specs.declared.command.Act.TheVariants as a
use Rattle.zr_log_set.specs.Decls.{has, set_of}
use Rattle.zr_lists.proofs.Order.{is_itself}
use Rattle.zr_lists.proofs.Filters.{filter_none}
use Rattle.zr_lists.proofs.Options.{not_there}
use Rattle.zr_lists.proofs.Elements.{in_each}
use Rattle.zr_log_set.proofs.Decls.{decl_order, has_all}
use Rattle.zr_local.specs.Rows.{declared_set}
use Rattle.zr_local.specs.declared.row.Row.{Row}
use Rattle.zr_log.specs.Log.{Change, changed, known}
use Rattle.zr_log.specs.Known.{KnownState, position, decls, with_log, is_next, is_newer}
use Rattle.zr_node_spec.specs.Tables.{leads_to_router}
use Rattle.zr_node_spec.specs.Changes.{changes}
use Rattle.zr_node_spec.specs.State.{NodeState}
use Rattle.zr_node_spec.specs.Table.{able_kind, rows_declared, rows_undeclared, rows_left, row, key_of, known_step, known_snap, after}
use Rattle.zr_node_spec.proofs.Changes.{no_changes, rows_lead}
use Rattle.zr_world_spec.specs.World.{RouterState, WorldState, router_of, with_router, new_router, is_taken}
use Rattle.zr_world_spec.specs.Acts.{outcome, weighing, hearing, having_told, up_event, peer_of}
use Rattle.zr_world_spec.specs.Moments.{Numbered, Moment, beginning, went, onward, reached}
use Rattle.zr_world_spec.specs.Moments as moments
use Rattle.zr_world_spec.proofs.Lines.{at_some}
use Rattle.zr_world_spec.proofs.Names.{value_after, value_new}
use Rattle.zr_world_spec.proofs.Cases.{free_name, for_router, for_client, for_link, for_up, for_break, for_down, for_declare, for_undeclare, interest_says, uninterest_says, publish_says, get_says, reply_says, end_says, for_handle, for_take, for_mark, for_show}
use Rattle.zr_law_settled.proofs.Spreading.{Name}
use Rattle.zr_law_settled.proofs.Positions.{position_with, position_changes}
use Rattle.zr_law_settled.proofs.Logs.{knows_logs, logs_of}
use Rattle.zr_law_settled.proofs.Agreeing.{logs_agree}
use Rattle.zr_law_settled.proofs.Goes.{Goes, goes_at}
use Rattle.zr_law_declared.proofs.Folds.{after_all}
use Rattle.zr_law_declared.proofs.Hearing.{heard_router}
use Rattle.zr_law_declared.specs.Logs.{rows_at, Logged, logged_by, log_of, LogsAreMade, SettledLogsAreKnown}

-- ---- changes

-- rows that stay make no change
kept_all : (ds : List Decl) → filter (λ d. not (has ds d)) (set_of ds) ≡ []
kept_all ds = filter_none (λ d. not (has ds d)) (set_of ds)
    (in_each (λ d. not (has ds d) ≡ false) (set_of ds) (λ d i. ap not (sym (has_all ds d) ∙ in_any (λ e. is_eq (decl_cmp e d)) (set_of ds) d i (is_itself decl_cmp decl_order d))))

-- ---- an event

module _ (n : NodeState) where
  abbrev own : KnownState → ℕ
  own known = position known n.known.me

  Counts : Event → Type 0
  Counts event = own (after n event).known ≡ own n.known + length (changes n.rows (after n event).rows)

  quiet : own n.known ≡ own n.known + length (changes n.rows n.rows)
  quiet = let e : length (changes n.rows n.rows) ≡ 0 = ap length (no_changes n.rows) in omega (arith, e)

  -- what is told of another log leaves the own one
  step_stays : (from : ℕ) (source : List ℕ) (number : ℕ) (c : Change) → own (known_step n from source number c) ≡ own n.known
  step_stays from source number c = by (leads_to_router n.links from) (is_next n.known source number) refl
    where
      by : (s t : Bool) → is_next n.known source number ≡ t → own (cond s (cond t (with_log n.known source number (changed (decls n.known source) c)) n.known) n.known) ≡ own n.known
      by true true e = position_with n.known source number (changed (decls n.known source) c) n.known.me
          ∙ ap (λ b. cond b number (own n.known)) (not-true (is_named source n.known.me) (and_parts (not (is_named source n.known.me)) (number == position n.known source + 1) e).0)
      by true false e = refl
      by false t e = refl

  snap_stays : (from : ℕ) (source : List ℕ) (number : ℕ) (ds : List Decl) → own (known_snap n from source number ds) ≡ own n.known
  snap_stays from source number ds = by (leads_to_router n.links from) (is_newer n.known source number) refl
    where
      by : (s t : Bool) → is_newer n.known source number ≡ t → own (cond s (cond t (with_log n.known source number (set_of ds)) n.known) n.known) ≡ own n.known
      by true true e = position_with n.known source number (set_of ds) n.known.me
          ∙ ap (λ b. cond b number (own n.known)) (not-true (is_named source n.known.me) (and_parts (not (is_named source n.known.me)) (nat_lt (position n.known source) number) e).0)
      by true false e = refl
      by false t e = refl

  from_counts : (link : LinkNo) (msg : Msg) → own (after n (From link msg)).known ≡ own n.known + length (changes n.rows (after n (From link msg)).rows)
  from_counts link (m.Sub id key) = position_changes n.known (changes n.rows (rows_declared n link.0 (row link.0 id k.Sub key)))
  from_counts link (m.Unsub id) = position_changes n.known (changes n.rows (rows_undeclared n link.0 (key_of link.0 id k.Sub)))
  from_counts link (m.Token id key) = position_changes n.known (changes n.rows (rows_declared n link.0 (row link.0 id k.Token key)))
  from_counts link (m.Untoken id) = position_changes n.known (changes n.rows (rows_undeclared n link.0 (key_of link.0 id k.Token)))
  from_counts link (m.Able id key complete) = position_changes n.known (changes n.rows (rows_declared n link.0 (row link.0 id (able_kind complete) key)))
  from_counts link (m.Unable id) = position_changes n.known (changes n.rows (rows_undeclared n link.0 (key_of link.0 id k.Able)))
  from_counts link (m.Interest id current future kinds key aggregate) = quiet
  from_counts link (m.EndInterest id) = quiet
  from_counts link (m.ToldSub id key interest) = quiet
  from_counts link (m.ToldToken id key interest) = quiet
  from_counts link (m.ToldAble id key complete interest) = quiet
  from_counts link (m.ToldUnsub id) = quiet
  from_counts link (m.ToldUntoken id) = quiet
  from_counts link (m.ToldUnable id) = quiet
  from_counts link (m.ToldEnd interest) = quiet
  from_counts link (m.Push tree content) = quiet
  from_counts link (m.Request tree id target content) = quiet
  from_counts link (m.Response id content) = quiet
  from_counts link (m.Final id extras) = quiet
  from_counts link (m.State links) = quiet
  from_counts link (m.Step source number added decl) = step_stays link.0 source number (record { added = added; decl = decl }) ∙ quiet
  from_counts link (m.Snap source number ds) = snap_stays link.0 source number ds ∙ quiet

  pub event_counts : (event : Event) → own (after n event).known ≡ own n.known + length (changes n.rows (after n event).rows)
  event_counts (Up link peer) = quiet
  event_counts (Down link) = position_changes n.known (changes n.rows (rows_left n link.0))
  event_counts (From link msg) = from_counts link msg

-- ---- an act

-- how many changes router x has counted, and its rows
abbrev pub count_of : Name → Option RouterState → ℕ
count_of x o = option_map_or (λ r. position r.node.known x) o 0

abbrev rows_of : Option RouterState → List Row
rows_of o = option_map_or (λ r. r.node.rows) o []

-- a router then counts each change since
abbrev pub Counted : Name → Option RouterState → Option RouterState → Type 0
Counted x o p = count_of x p ≡ count_of x o + length (changes (rows_of o) (rows_of p))

same_counted : (x : Name) (o : Option RouterState) → Counted x o o
same_counted x o = let e : length (changes (rows_of o) (rows_of o)) ≡ 0 = ap length (no_changes (rows_of o)) in omega (arith, e)

module _ (now : Moment) (own_name : (x : Name) (r : RouterState) → router_of now.world.routers x ≡ Some r → r.node.known.me ≡ x) where
  abbrev w : WorldState
  w = now.world

  abbrev pub CountsOn : Moment → Type 0
  CountsOn next = (x : Name) → Counted x (router_of w.routers x) (router_of next.world.routers x)

  one_counts : (b : Name) (r q : RouterState) → router_of w.routers b ≡ Some r → Counted b (Some r) (Some q) → (x : Name) → Counted x (router_of w.routers x) (router_of (with_router w.routers b q) x)
  one_counts b r q found counted x = subst (λ o. Counted x (router_of w.routers x) o) (sym (value_after w.routers b x q (ap is_some found))) (by (is_named b x) refl)
    where
      by : (t : Bool) → is_named b x ≡ t → Counted x (router_of w.routers x) (cond t (Some q) (router_of w.routers x))
      by false e = same_counted x (router_of w.routers x)
      by true e = subst (λ y. Counted y (router_of w.routers y) (Some q)) (same_is b x e) (subst (λ o. Counted b o (Some q)) (sym found) counted)

  hears : (b : Name) (r : RouterState) → router_of w.routers b ≡ Some r → (event : Event) → (x : Name) →
      Counted x (router_of w.routers x) (router_of (with_router (with_router w.routers b (hearing r event)) b (having_told r event)) x)
  hears b r found event x = subst (λ o. Counted x (router_of w.routers x) o) (sym (heard_router (λ o. o) w.routers b x r event))
      (one_counts b r (having_told r event) found
      (subst (λ y. position (after r.node event).known y ≡ position r.node.known y + length (changes r.node.rows (after r.node event).rows)) (own_name b r found) (event_counts r.node event)) x)

  weighs : (b : Name) (r : RouterState) → router_of w.routers b ≡ Some r → (key : List ℕ) → (x : Name) → Counted x (router_of w.routers x) (router_of (with_router w.routers b (weighing r key)) x)
  weighs b r found key = one_counts b r (weighing r key) found (same_counted b (Some r))

  comes : (id : Name) → is_taken w id ≡ false → (x : Name) → Counted x (router_of w.routers x) (router_of (insert_entry (slice_cmp nat_cmp) w.routers id (new_router id)) x)
  comes id free x = subst (λ o. Counted x (router_of w.routers x) o) (sym (value_new w.routers id x (new_router id) none)) (by (is_named x id) refl)
    where
      none : router_of w.routers id ≡ None
      none = not_there (router_of w.routers id) (free_name w id free).0

      by : (t : Bool) → is_named x id ≡ t → Counted x (router_of w.routers x) (cond t (Some (new_router id)) (router_of w.routers x))
      by false e = same_counted x (router_of w.routers x)
      by true e = subst (λ o. Counted x o (Some (new_router id))) (sym (ap (router_of w.routers) (same_is x id e) ∙ none)) refl

  stays : (x : Name) → Counted x (router_of w.routers x) (router_of w.routers x)
  stays x = same_counted x (router_of w.routers x)

  pub acts_count : (n : ℕ) (act : Act) → IfSome (went now (outcome w n act)) CountsOn
  unfolding outcome
  acts_count n (a.Router id) = for_router now CountsOn id (λ free room. comes id free)
  acts_count n (a.Client id router) = for_client now CountsOn n id router (λ r found free room taken. hears router r found (up_event r (record { id = id; role = role.Client; weight = 1 })))
  acts_count n (a.Link one other weight) = for_link now CountsOn one other weight (λ apart r found q found' new room. stays)
  acts_count n (a.Up router name) = for_up now CountsOn n router name (λ r found there s at_end unbroken down taken. hears router r found (up_event r (peer_of w name s.weight)))
  acts_count n (a.Break router name) = for_break now CountsOn router name (λ r found there s at_end unbroken. stays)
  acts_count n (a.Down router name) = for_down now CountsOn n router name (λ r found there s at_end up cut link number taken. hears router r found (Down link))
  acts_count n (a.Sub client id key) = for_declare now CountsOn n client k.Sub id key (m.Sub id key) (λ s found fresh e at_end unbroken r there room. weighs s.router r there key)
  acts_count n (a.Unsub client id) = for_undeclare now CountsOn n client k.Sub id (m.Unsub id) (λ s found known e at_end unbroken. stays)
  acts_count n (a.Token client id key) = for_declare now CountsOn n client k.Token id key (m.Token id key) (λ s found fresh e at_end unbroken r there room. weighs s.router r there key)
  acts_count n (a.Untoken client id) = for_undeclare now CountsOn n client k.Token id (m.Untoken id) (λ s found known e at_end unbroken. stays)
  acts_count n (a.Able client id key complete) =
      for_declare now CountsOn n client (able_kind complete) id key (m.Able id key complete) (λ s found fresh e at_end unbroken r there room. weighs s.router r there key)
  acts_count n (a.Unable client id) = for_undeclare now CountsOn n client k.Able id (m.Unable id) (λ s found known e at_end unbroken. stays)
  acts_count n (a.Interest client id mode kinds key aggregate) = interest_says now CountsOn n client id mode kinds key aggregate
      (λ s found e at_end unbroken clients same. stays) (λ s found e at_end unbroken r there room clients same. weighs s.router r there (unwrap_or key []))
  acts_count n (a.Uninterest client id) = uninterest_says now CountsOn n client id (λ s found e at_end unbroken clients same. stays)
  acts_count n (a.Publish client content) = publish_says now CountsOn n client content (λ s found e at_end unbroken clients same. stays)
  acts_count n (a.Get client number target content) = get_says now CountsOn n client number target content (λ s found e at_end unbroken clients same. stays)
  acts_count n (a.Reply client number content) = reply_says now CountsOn n client number content (λ s found e at_end unbroken clients same. stays)
  acts_count n (a.End client number) = end_says now CountsOn n client number (λ s found e at_end unbroken clients same. stays)
  acts_count n (a.Handle router from) = for_handle now CountsOn router from (λ r found there s at_end up msg tag xs front link number taken. hears router r found (From link msg))
  acts_count n (a.Take router to) = for_take now CountsOn router to (λ r found there s at_end up unbroken msg tag xs front. stays)
  acts_count n a.Mark = for_mark now CountsOn n (λ settled joined. stays)
  acts_count n (a.Show router) = for_show now CountsOn router (λ r found. stays)

-- ---- moments

-- the log of each router is as long as it counts, and leads to the set of its rows
pub record LogHolds (acts : List Numbered) (now : Moment) : Type 0 where
  pub is : reached acts ≡ Some now
  pub number : (x : Name) → count_of x (router_of now.world.routers x) ≡ length (log_of acts x)
  pub set : (x : Name) → fold changed [] (log_of acts x) ≡ declared_set (rows_at x (Some now))

moment_is : (x : Name) (acts : List Numbered) (so_far : Logged) → (fold (logged_by x) so_far acts).moment ≡ fold onward so_far.moment acts
moment_is x [] so_far = refl
moment_is x (y ∷ acts) so_far = moment_is x acts (logged_by x so_far y)

log_more : (acts : List Numbered) (now : Moment) → reached acts ≡ Some now → (y : Numbered) (x : Name) →
    log_of (acts ++ y ∷ []) x ≡ log_of acts x ++ changes (rows_at x (Some now)) (rows_at x (onward (Some now) y))
log_more acts now is y x =
    ap (λ (l : Logged). l.log) (fold-append (logged_by x) (record { moment = Some beginning; log = [] }) acts (y ∷ []))
    ∙ ap (λ o. log_of acts x ++ changes (rows_at x o) (rows_at x (onward o y))) (moment_is x acts (record { moment = Some beginning; log = [] }) ∙ is)

module _ (acts : List Numbered) (now : Moment) (h : LogHolds acts now) (y : Numbered) where
  own_names : (x : Name) (r : RouterState) → router_of now.world.routers x ≡ Some r → r.node.known.me ≡ x
  own_names = (at_some (λ q. Goes q.world) (moments.reached acts) now h.is (goes_at acts)).logs.own_name

  next : IfSome (went now (outcome now.world y.0 y.1)) (LogHolds (acts ++ y ∷ []))
  next = by (went now (outcome now.world y.0 y.1)) refl (acts_count now own_names y.0 y.1)
    where
      by : (o : Option Moment) → onward (Some now) y ≡ o → IfSome o (CountsOn now own_names) → IfSome o (LogHolds (acts ++ y ∷ []))
      by None e counted = tt
      by (Some then) e counted = record {
        is = fold-append onward (Some beginning) acts (y ∷ []) ∙ ap (λ o. onward o y) h.is ∙ e;
        number = λ x.
            let sum : length (log_of (acts ++ y ∷ []) x) ≡ length (log_of acts x) + length (changes (rows_at x (Some now)) (rows_at x (Some then))) =
            ap length (more x) ∙ length-append (log_of acts x) (changes (rows_at x (Some now)) (rows_at x (Some then))) in
            omega (arith, sum, h.number x, counted x);
        set = λ x. ap (fold changed []) (more x) ∙ fold-append changed [] (log_of acts x) (changes (rows_at x (Some now)) (rows_at x (Some then)))
            ∙ ap (λ s. fold changed s (changes (rows_at x (Some now)) (rows_at x (Some then)))) (h.set x) ∙ rows_lead (rows_at x (Some now)) (rows_at x (Some then));
      }
        where
          more : (x : Name) → log_of (acts ++ y ∷ []) x ≡ log_of acts x ++ changes (rows_at x (Some now)) (rows_at x (Some then))
          more x = log_more acts now h.is y x ∙ ap (λ o. log_of acts x ++ changes (rows_at x (Some now)) (rows_at x o)) e

-- at the moment that some acts lead to
logs_hold : (acts : List Numbered) → IfSome (reached acts) (LogHolds acts)
logs_hold acts = after_all LogHolds (λ x. Unit {0}) (λ done now h y k. next done now h y) acts [] (Some beginning) first (in_each (λ x. Unit {0}) acts (λ x i. tt))
  where
    first : LogHolds [] beginning
    first = record { is = refl; number = λ x. refl; set = λ x. refl }

-- ---- the laws

pub logs_are_made : LogsAreMade
logs_are_made acts m x r is found = record { own = record { position_is = position_is; decls_are = decls_are }; others = others }
  where
    g : Goes m.world
    g = at_some (λ q. Goes q.world) (moments.reached acts) m is (goes_at acts)

    h : LogHolds acts m
    h = at_some (LogHolds acts) (moments.reached acts) m is (logs_hold acts)

    position_is : position r.node.known x ≡ length (log_of acts x)
    position_is = sym (ap (count_of x) found) ∙ h.number x

    decls_are : decls r.node.known x ≡ known (log_of acts x) (length (log_of acts x))
    decls_are = ap (decls r.node.known) (sym (g.logs.own_name x r found)) ∙ g.sets.rows x r found ∙ ap (λ o. declared_set (rows_of o)) (sym found) ∙ sym (h.set x)
        ∙ ap (fold changed []) (sym (take_all (length (log_of acts x)) (log_of acts x) (omega arith)))

    others : (y : Name) (q : RouterState) → router_of m.world.routers y ≡ Some q → position q.node.known x ≤ length (log_of acts x)
    others y q there =
        let its : (logs_of m.world y x).number ≡ position q.node.known x = ap (λ o. (knows_logs o x).number) there in
        let mine : (logs_of m.world x x).number ≡ position r.node.known x = ap (λ o. (knows_logs o x).number) found in
        omega (arith, its, mine, position_is, (g.logs.spreads.fits y x).0)

pub logs_are_known : SettledLogsAreKnown
logs_are_known acts m x y path rx ry is settled at_x at_y walk =
    let k = logs_agree acts m is settled y x path ry rx at_y at_x walk in
    let all = (logs_are_made acts m x rx is at_x).own in
    record { position_is = k.position_is ∙ all.position_is; decls_are = k.decls_are ∙ all.decls_are }
