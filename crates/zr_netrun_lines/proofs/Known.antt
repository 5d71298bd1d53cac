-- A name that is there stays there, and stays that of a router or of a client, whatever act follows (`act_keeps`): so it is all one
-- in which later world a report's neighbours are told apart (`counts_stay`).
use Rattle.std.proofs.Common.{◌≡◌, ℕ, ◌+◌, ◌≤◌, Bool, true, false, cond, not, List, [], ◌∷◌, ◌++◌, Some, None, refl, sym, ap, ◌∙◌, zero-add, arith}
use Rattle.std.specs.Prelude.{◌||◌, is_some, unwrap_or, IfSome, map, filter}
use Rattle.std.specs.List.{list_all, count_by}
use Rattle.std.specs.Ordering.{nat_cmp}
use Rattle.std.specs.Cmp.Lexicographic.{slice_cmp}
use Rattle.std.specs.BTreeMap.{insert_entry}
use Rattle.std.proofs.lemmas.Bool.{and_parts, and_from}
use Rattle.std.proofs.lemmas.List.Sums.{sum_by-append}
use Rattle.zr_id.specs.Zid.{is_named}
use Rattle.zr_graph.specs.Record.{ids}
use Rattle.zr_graph.specs.Base.{BaseState}
use Rattle.zr_msg.specs.declared.decl.Kind.{Kind}
use Rattle.zr_msg.specs.declared.decl.Kind.TheVariants as k
use Rattle.zr_msg.specs.Extras.{no_extras}
use Rattle.zr_msg.specs.declared.msg.Msg.{Msg}
use Rattle.zr_msg.specs.declared.msg.Msg.TheVariants as message
use Rattle.zr_msg.specs.declared.event.Event.{Event}
use Rattle.zr_msg.specs.declared.event.Event.TheVariants.{Down, From}
use Rattle.zr_msg.specs.declared.peer.Role.TheVariants as role
use Rattle.zr_script_spec.specs.declared.command.Act.{Act}
use Rattle.zr_script_spec.specs.declared.command.Act.TheVariants as c
use Rattle.zr_script_spec.specs.Mode.{is_current, is_future}
use Rattle.zr_script_spec.specs.declared.report.ReportLine.{ReportLine}
use Rattle.zr_script_spec.specs.declared.report.ReportLine.TheVariants as line
use Rattle.zr_node_spec.specs.State.{NodeState}
use Rattle.zr_node_spec.specs.Table.{able_kind}
use Rattle.zr_world_spec.specs.World.{RouterState, ClientState, WorldState, Routers, Clients, with_routers, with_clients, router_of, client_of, with_router, with_client, is_taken, new_router, new_client}
use Rattle.zr_world_spec.specs.Acts.{outcome, declare_step, undeclare_step, hearing, having_told, weighing, declaring, undeclaring, up_event, peer_of, parent_line, source_line, shown_base, shown, received}
use Rattle.zr_world_spec.specs.Moments.{Moment, went}
use Rattle.zr_world_spec.proofs.Keyed.{set_twice}
use Rattle.zr_world_spec.proofs.Names.{same_name, value_new, read_kept}
use Rattle.zr_world_spec.proofs.Clients.{there_same, same_received}
use Rattle.zr_world_spec.proofs.Cases.{free_name, w_client, w_link, w_up, w_break, w_down, w_sent, w_declare, w_undeclare, w_weighed, w_handle, w_take, for_router, for_client, for_link, for_up, for_break, for_down, for_declare, for_undeclare, Says, Weighs, interest_says, uninterest_says, publish_says, get_says, reply_says, end_says, for_handle, for_take, for_mark, for_show}
use Rattle.zr_lists.proofs.Tests.{weaker, all_both, all_mapped}
use Rattle.zr_lists.proofs.Options.{not_there}
use Rattle.zr_netrun_report.specs.Summary.{tells_handled, tells_taken, tells_sent, tells_mark, counts_in}
use Rattle.zr_netrun_lines.specs.Counted.{is_known}

-- ---- names stay

pub record KeepsNames (w v : WorldState) : Type 0 where
  pub routers : (q : List ℕ) → is_taken w q ≡ true → is_some (router_of v.routers q) ≡ is_some (router_of w.routers q)
  pub taken : (q : List ℕ) → is_taken w q ≡ true → is_taken v q ≡ true

-- where no name comes
pub same_names : (w v : WorldState) → ((q : List ℕ) → is_some (router_of v.routers q) ≡ is_some (router_of w.routers q)) →
    ((q : List ℕ) → is_some (client_of v.clients q) ≡ is_some (client_of w.clients q)) → KeepsNames w v
same_names w v routers clients = record {
  routers = λ q there. routers q;
  taken = λ q there. (λ i. routers q i || clients q i) ∙ there;
}

-- a name that is there is another than one that is free
other_name : (w : WorldState) (id q : List ℕ) → is_taken w id ≡ false → is_taken w q ≡ true → is_named q id ≡ false
other_name w id q free taken = by (is_named q id) refl
  where
    by : (b : Bool) → is_named q id ≡ b → b ≡ false
    by false e = refl
    by true e = sym taken ∙ ap (is_taken w) (same_name q id e) ∙ free

-- a router's state is another
same_router : (routers : Routers) (x : List ℕ) (r r' : RouterState) → router_of routers x ≡ Some r → (q : List ℕ) → is_some (router_of (with_router routers x r') q) ≡ is_some (router_of routers q)
same_router routers x r r' found q = read_kept is_some routers x q r r' found refl

-- a router has heard of an event, and told its clients
same_heard : (routers : Routers) (x : List ℕ) (r : RouterState) (event : Event) → router_of routers x ≡ Some r → (q : List ℕ) →
    is_some (router_of (with_router (with_router routers x (hearing r event)) x (having_told r event)) q) ≡ is_some (router_of routers q)
same_heard routers x r event found q =
    ap (λ (rs : Routers). is_some (router_of rs q)) (set_twice (is_named x) routers (hearing r event) (having_told r event)) ∙ same_router routers x r (having_told r event) found q

same_client : (clients : Clients) (x : List ℕ) (s s' : ClientState) → client_of clients x ≡ Some s → (q : List ℕ) → is_some (client_of (with_client clients x s') q) ≡ is_some (client_of clients q)
same_client clients x s s' found q = read_kept is_some clients x q s s' found refl

-- a router comes
router_comes : (w : WorldState) (id q : List ℕ) → is_taken w id ≡ false → is_taken w q ≡ true →
    is_some (router_of (insert_entry (slice_cmp nat_cmp) w.routers id (new_router id)) q) ≡ is_some (router_of w.routers q)
router_comes w id q free taken =
    ap is_some (value_new w.routers id q (new_router id) (not_there (router_of w.routers id) (free_name w id free).0))
    ∙ ap (λ b. is_some (cond b (Some (new_router id)) (router_of w.routers q))) (other_name w id q free taken)

-- a client comes
client_comes : (w : WorldState) (id router q : List ℕ) → is_taken w id ≡ false → is_taken w q ≡ true →
    is_some (client_of (insert_entry (slice_cmp nat_cmp) w.clients id (new_client router)) q) ≡ is_some (client_of w.clients q)
client_comes w id router q free taken =
    ap is_some (value_new w.clients id q (new_client router) (not_there (client_of w.clients id) (free_name w id free).1))
    ∙ ap (λ b. is_some (cond b (Some (new_client router)) (client_of w.clients q))) (other_name w id q free taken)

-- ---- an act

-- whether a report line is counted
abbrev pub is_counted : ReportLine → Bool
is_counted (line.Handled router from msg tag) = true
is_counted (line.Taken router to msg tag) = true
is_counted (line.Ran steps quiet) = false
is_counted (line.Fanned text steps kinds) = false
is_counted (line.Mark n) = true
is_counted (line.Show router) = false
is_counted (line.Record links) = false
is_counted (line.Parent root parent) = false
is_counted (line.Source source number decls) = false

-- names stay, where all neighbours of the report were there, so they are now, and at most one line more is counted
pub record Goes (m n : Moment) : Type 0 where
  pub names : KeepsNames m.world n.world
  pub known : list_all (is_known m.world) m.report ≡ true → list_all (is_known m.world) n.report ≡ true
  pub counted : count_by is_counted n.report ≤ count_by is_counted m.report + 1

-- the count of one more
pub count_cons : (p : ReportLine → Bool) (l : ReportLine) (ls : List ReportLine) → count_by p (l ∷ ls) ≡ cond (p l) 1 0 + count_by p ls
count_cons p l ls = sum_by-append (λ x. cond (p x) 1 0) (l ∷ []) ls ∙ ap (λ n. n + count_by p ls) (zero-add (cond (p l) 1 0))

-- no line of a router's tables is counted
none_counted : {Y : Type 0} (f : Y → ReportLine) → ((y : Y) → is_counted (f y) ≡ false) → (ys : List Y) → count_by is_counted (map f ys) ≡ 0
none_counted f none [] = refl
none_counted f none (y ∷ ys) =
    count_cons is_counted (f y) (map f ys) ∙ ap (λ b. cond b 1 0 + count_by is_counted (map f ys)) (none y) ∙ zero-add (count_by is_counted (map f ys)) ∙ none_counted f none ys

base_counts : (b : BaseState) → count_by is_counted (shown_base b) ≡ 0
base_counts b =
    let records : List ReportLine = map (λ r. line.Record r) b.records in
    let parents : List ReportLine = map (λ root. parent_line b root) (filter (λ id. not (is_named id b.me)) (ids b.records)) in
    sum_by-append (λ x. cond (is_counted x) 1 0) records parents
    ∙ (λ i. none_counted (λ r. line.Record r) (λ r. refl) b.records i + none_counted (λ root. parent_line b root) (λ root. refl) (filter (λ id. not (is_named id b.me)) (ids b.records)) i)

show_counts : (node : NodeState) → count_by is_counted (shown node) ≡ 0
show_counts node =
    sum_by-append (λ x. cond (is_counted x) 1 0) (shown_base node.base) (map source_line node.known.logs)
    ∙ (λ i. base_counts node.base i + none_counted source_line (λ log. refl) node.known.logs i)

-- nor names it a neighbour
base_known : (w : WorldState) (b : BaseState) → list_all (is_known w) (shown_base b) ≡ true
base_known w b = all_both (is_known w) (map_records) (map_parents)
    (all_mapped (is_known w) (λ r. line.Record r) (λ r. refl) b.records) (all_mapped (is_known w) (λ root. parent_line b root) (λ root. refl) (filter (λ id. not (is_named id b.me)) (ids b.records)))
  where
    map_records : List ReportLine
    map_records = map (λ r. line.Record r) b.records

    map_parents : List ReportLine
    map_parents = map (λ root. parent_line b root) (filter (λ id. not (is_named id b.me)) (ids b.records))

show_known : (w : WorldState) (node : NodeState) → list_all (is_known w) (shown node) ≡ true
show_known w node =
    all_both (is_known w) (shown_base node.base) (map source_line node.known.logs) (base_known w node.base)
    (all_mapped (is_known w) source_line (λ log. refl) node.known.logs)

pub act_keeps : (m : Moment) (n : ℕ) (act : Act) → IfSome (went m (outcome m.world n act)) (Goes m)
unfolding outcome
act_keeps m n act = by act
  where
    w : WorldState
    w = m.world

    -- what is said names neighbours that are there, and one line at most is counted
    goes : (v : WorldState) (said : List ReportLine) → KeepsNames w v → list_all (is_known w) said ≡ true → count_by is_counted said ≤ 1 → Goes m (record { world = v; report = m.report ++ said })
    goes v said names known few = record {
      names = names;
      known = λ h. all_both (is_known w) m.report said h known;
      counted = let both = sum_by-append (λ x. cond (is_counted x) 1 0) m.report said in omega arith;
    }

    -- nothing is said, and no name comes
    still : (v : WorldState) → ((q : List ℕ) → is_some (router_of v.routers q) ≡ is_some (router_of w.routers q)) →
        ((q : List ℕ) → is_some (client_of v.clients q) ≡ is_some (client_of w.clients q)) → Goes m (record { world = v; report = m.report ++ [] })
    still v routers clients = goes v [] (same_names w v routers clients) refl (omega arith)

    -- what a client declares, or takes back
    declares : (client : List ℕ) (kind : Kind) (id : ℕ) (key : List ℕ) (msg : Msg) → IfSome (went m (declare_step w n client kind id key msg)) (Goes m)
    declares client kind id key msg = for_declare m (Goes m) n client kind id key msg (λ s es fresh e ee unbroken r er room.
        still (w_declare w n client kind id key msg s e r) (same_router w.routers s.router r (weighing r key) er) (same_client w.clients client s (declaring s kind id) es))

    undeclares : (client : List ℕ) (kind : Kind) (id : ℕ) (msg : Msg) → IfSome (went m (undeclare_step w n client kind id msg)) (Goes m)
    undeclares client kind id msg = for_undeclare m (Goes m) n client kind id msg (λ s es known e ee unbroken.
        still (w_undeclare w n client kind id msg s e) (λ q. refl) (same_client w.clients client s (undeclaring s kind id) es))

    says : (client : List ℕ) (msg : Msg) → Says m (Goes m) n client msg
    says client msg s es e ee unbroken clients same = still (with_clients (w_sent w n client s e msg) clients) (λ q. refl) (there_same w.clients clients same)

    weighs : (client key : List ℕ) (msg : Msg) → Weighs m (Goes m) n client key msg
    weighs client key msg s es e ee unbroken r er room clients same =
        still (w_weighed w n client key msg s e r clients) (same_router w.routers s.router r (weighing r key) er) (there_same w.clients clients same)

    by : (act : Act) → IfSome (went m (outcome m.world n act)) (Goes m)
    by (c.Router id) = for_router m (Goes m) id (λ free room. goes (with_routers w (insert_entry (slice_cmp nat_cmp) w.routers id (new_router id))) [] (record {
      routers = λ q there. router_comes w id q free there;
      taken = λ q there. ap (λ b. b || is_some (client_of w.clients q)) (router_comes w id q free there) ∙ there;
    }) refl (omega arith))
    by (c.Client id router) = for_client m (Goes m) n id router (λ r er free room taken.
        let event : Event = up_event r (record { id = id; role = role.Client; weight = 1 }) in
        goes (w_client w n id router r) [] (record {
          routers = λ q there. same_heard w.routers router r event er q;
          taken = λ q there. (λ i. same_heard w.routers router r event er q i || client_comes w id router q free there i) ∙ there;
        }) refl (omega arith))
    by (c.Link one other weight) = for_link m (Goes m) one other weight (λ apart r er q eq new room. still (w_link w one other weight) (λ q. refl) (λ q. refl))
    by (c.Up router name) = for_up m (Goes m) n router name (λ r er there s es unbroken down taken.
        still (w_up w n router name r s) (same_heard w.routers router r (up_event r (peer_of w name s.weight)) er) (λ q. refl))
    by (c.Break router name) = for_break m (Goes m) router name (λ r er there s es unbroken. still (w_break w router name) (λ q. refl) (λ q. refl))
    by (c.Down router name) = for_down m (Goes m) n router name (λ r er there s es up cut l el taken.
        still (w_down w n router name r l) (same_heard w.routers router r (Down l) er) (λ q. refl))
    by (c.Sub client id key) = declares client k.Sub id key (message.Sub id key)
    by (c.Unsub client id) = undeclares client k.Sub id (message.Unsub id)
    by (c.Token client id key) = declares client k.Token id key (message.Token id key)
    by (c.Untoken client id) = undeclares client k.Token id (message.Untoken id)
    by (c.Able client id key complete) = declares client (able_kind complete) id key (message.Able id key complete)
    by (c.Unable client id) = undeclares client k.Able id (message.Unable id)
    by (c.Interest client id mode kinds key aggregate) =
        let msg : Msg = message.Interest id (is_current mode) (is_future mode) kinds key aggregate in
        interest_says m (Goes m) n client id mode kinds key aggregate (says client msg) (weighs client (unwrap_or key []) msg)
    by (c.Uninterest client id) = uninterest_says m (Goes m) n client id (says client (message.EndInterest id))
    by (c.Publish client content) = publish_says m (Goes m) n client content (says client (message.Push None content))
    by (c.Get client number target content) = get_says m (Goes m) n client number target content (says client (message.Request None number target content))
    by (c.Reply client number content) = reply_says m (Goes m) n client number content (says client (message.Response number content))
    by (c.End client number) = end_says m (Goes m) n client number (says client (message.Final number no_extras))
    by (c.Handle router from) = for_handle m (Goes m) router from (λ r er there s es up msg tag xs front l el taken.
        goes (w_handle w router from r s l msg tag xs) (line.Handled router from msg tag ∷ [])
        (same_names w (w_handle w router from r s l msg tag xs) (same_heard w.routers router r (From l msg) er) (λ q. refl)) refl (omega arith))
    by (c.Take router to) = for_take m (Goes m) router to (λ r er there s es up unbroken msg tag xs front.
        goes (w_take w router to s msg tag xs) (line.Taken router to msg tag ∷ []) (same_names w (w_take w router to s msg tag xs) (λ q. refl) (there_same w.clients (received w.clients to msg (client_of w.clients to)) (same_received w.clients to msg))) (and_from (is_taken w to) true there refl) (omega arith))
    by c.Mark = for_mark m (Goes m) n (λ settled joined. goes w (line.Mark n ∷ []) (same_names w w (λ q. refl) (λ q. refl)) refl (omega arith))
    by (c.Show router) = for_show m (Goes m) router (λ r er.
        goes w (line.Show router ∷ shown r.node) (same_names w w (λ q. refl) (λ q. refl)) (show_known w r.node)
        (let none = show_counts r.node in let all = count_cons is_counted (line.Show router) (shown r.node) in omega arith))

-- ---- a report

-- neighbours that are there stay there
pub known_stay : (w v : WorldState) → KeepsNames w v → (lines : List ReportLine) → list_all (is_known w) lines ≡ true → list_all (is_known v) lines ≡ true
known_stay w v keeps lines h = weaker (is_known w) (is_known v) by lines h
  where
    by : (l : ReportLine) → is_known w l ≡ true → is_known v l ≡ true
    by (line.Handled router from msg tag) e = refl
    by (line.Taken router to msg tag) e = keeps.taken to e
    by (line.Ran steps quiet) e = refl
    by (line.Fanned text steps kinds) e = e
    by (line.Mark n) e = refl
    by (line.Show router) e = refl
    by (line.Record links) e = refl
    by (line.Parent root parent) e = refl
    by (line.Source source number decls) e = refl

-- two tests that agree on what passes a third
count_same : (t p q : ReportLine → Bool) → ((l : ReportLine) → t l ≡ true → p l ≡ q l) → (lines : List ReportLine) → list_all t lines ≡ true → count_by p lines ≡ count_by q lines
count_same t p q agree [] h = refl
count_same t p q agree (l ∷ ls) h =
    let parts = and_parts (t l) (list_all t ls) h in
    count_cons p l ls ∙ (λ i. cond (agree l parts.0 i) 1 0 + count_same t p q agree ls parts.1 i) ∙ sym (count_cons q l ls)

-- so what is counted stays what it is
pub counts_stay : (w v : WorldState) → KeepsNames w v → (lines : List ReportLine) → list_all (is_known w) lines ≡ true → counts_in v.routers lines ≡ counts_in w.routers lines
counts_stay w v keeps lines h = λ i. record {
  handled = count_by tells_handled lines;
  taken = count_same (is_known w) (tells_taken v.routers) (tells_taken w.routers) takes lines h i;
  sent = count_same (is_known w) (tells_sent v.routers) (tells_sent w.routers) sends lines h i;
  marks = count_by tells_mark lines;
}
  where
    takes : (l : ReportLine) → is_known w l ≡ true → tells_taken v.routers l ≡ tells_taken w.routers l
    takes (line.Handled router from msg tag) e = refl
    takes (line.Taken router to msg tag) e = keeps.routers to e
    takes (line.Ran steps quiet) e = refl
    takes (line.Fanned text steps kinds) e = refl
    takes (line.Mark n) e = refl
    takes (line.Show router) e = refl
    takes (line.Record links) e = refl
    takes (line.Parent root parent) e = refl
    takes (line.Source source number decls) e = refl

    sends : (l : ReportLine) → is_known w l ≡ true → tells_sent v.routers l ≡ tells_sent w.routers l
    sends (line.Handled router from msg tag) e = refl
    sends (line.Taken router to msg tag) e = ap not (keeps.routers to e)
    sends (line.Ran steps quiet) e = refl
    sends (line.Fanned text steps kinds) e = refl
    sends (line.Mark n) e = refl
    sends (line.Show router) e = refl
    sends (line.Record links) e = refl
    sends (line.Parent root parent) e = refl
    sends (line.Source source number decls) e = refl
