-- How many numbers are pending: an event adds at most one on each link of a router (`few_after`), and so does an act in each router of a world
-- (`act_few`).
use Rattle.std.proofs.Common.{◌≡◌, ◌≤◌, ◌+◌, ℕ, ◌==◌, Bool, true, false, cond, not, List, [], ◌∷◌, length, Some, None, refl, sym, ap, ◌∙◌, subst, arith}
use Rattle.std.specs.Prelude.{filter, IfSome, unwrap_or}
use Rattle.std.specs.List.{list_any}
use Rattle.std.specs.BTreeMap.{insert_entry}
use Rattle.std.specs.Ordering.{nat_cmp}
use Rattle.std.specs.Cmp.Lexicographic.{slice_cmp}
use Rattle.std.proofs.lemmas.List.{length-append, length-map}
use Rattle.std.proofs.lemmas.List.Elements.{filter-append}
use Rattle.zr_lists.proofs.Options.{not_there}
use Rattle.zr_id.specs.declared.link.LinkNo.{LinkNo}
use Rattle.zr_msg.specs.declared.decl.Kind.TheVariants as k
use Rattle.zr_msg.specs.declared.event.Event.{Event}
use Rattle.zr_msg.specs.declared.event.Event.TheVariants.{Up, Down, From}
use Rattle.zr_msg.specs.declared.msg.Msg.{Msg}
use Rattle.zr_msg.specs.declared.msg.Msg.TheVariants.{Sub, Unsub, Token, Untoken, Able, Unable, Interest, EndInterest, ToldSub, ToldAble, ToldUnsub, ToldToken, ToldUntoken, ToldUnable, ToldEnd, Push, Request, Response, Final, State, Step, Snap}
use Rattle.zr_id.specs.Zid.{is_named}
use Rattle.zr_msg.specs.declared.peer.Role.TheVariants.{Client}
use Rattle.zr_script_spec.specs.declared.command.Act.{Act}
use Rattle.zr_script_spec.specs.declared.command.Act.TheVariants as a
use Rattle.zr_pend_spec.specs.declared.branch.Asker.{Asker}
use Rattle.zr_pend_spec.specs.declared.branch.Branch.{Branch}
use Rattle.zr_pend_spec.specs.Row.{RowState, is_branch, branches_of, numbers_of}
use Rattle.zr_pend_spec.specs.Pending.{numbers_on, free_number, branches, begun, finished, all_finished, all_orphaned, branches_on, dropped, differ}
use Rattle.zr_pend_spec.proofs.Readings.{begun_numbers}
use Rattle.zr_pend_spec.proofs.Sound.{finished_branches, all_orphaned_branches}
use Rattle.zr_node_spec.specs.Tables.{AreNumbered}
use Rattle.zr_node_spec.specs.Queries.{asker, link_no, asked_links, asked_over}
use Rattle.zr_node_spec.specs.State.{NodeState, tables}
use Rattle.zr_node_spec.specs.Table.{able_kind, after}
use Rattle.zr_world_spec.specs.World.{RouterState, Routers, WorldState, router_of, with_router, new_router}
use Rattle.zr_world_spec.specs.Acts.{outcome, hearing, weighing, up_event, peer_of}
use Rattle.zr_world_spec.specs.Moments.{Moment, went}
use Rattle.zr_world_spec.proofs.Names.{value_new, read_after}
use Rattle.zr_world_spec.proofs.Cases.{free_name, for_router, for_link, for_break, for_declare, for_undeclare, publish_says, get_says, reply_says, end_says, for_take, for_mark, for_show, interest_says, uninterest_says}
use Rattle.zr_law_settled.proofs.Told.{of_each, for_client, for_up, for_down, for_handle}
use Rattle.zr_law_settled.proofs.Spreading.{Name}
use Rattle.zr_law_numbers.specs.Rows.{AreFew, AreOfLinks}
use Rattle.zr_law_numbers.proofs.Apart.{asked_differ}

-- ---- rows

abbrev is_on : LinkNo → Branch → Bool
is_on link b = b.link.0 == link.0

-- as many numbers as branches
numbers_are : (link : LinkNo) (rows : List RowState) → length (numbers_on link rows) ≡ length (filter (is_on link) (branches rows))
numbers_are link [] = refl
numbers_are link (r ∷ rows) =
    let a = length-append (numbers_of link r) (numbers_on link rows) in
    let b = length-map (branches_of link r) (λ (x : Branch). x.number) in
    let c = ap length (filter-append (is_on link) r.branches (branches rows)) in
    let d = length-append (filter (is_on link) r.branches) (filter (is_on link) (branches rows)) in
    let ih = numbers_are link rows in
    omega (arith, a, b, c, d, ih)

-- fewer branches are fewer of a link
fewer : (p q : Branch → Bool) (bs : List Branch) → length (filter p (filter q bs)) ≤ length (filter p bs)
fewer p q [] = omega arith
fewer p q (b ∷ bs) = by (q b) (p b) refl (fewer p q bs)
  where
    by : (u t : Bool) → p b ≡ t → length (filter p (filter q bs)) ≤ length (filter p bs) → length (filter p (cond u (b ∷ filter q bs) (filter q bs))) ≤ length (cond t (b ∷ filter p bs) (filter p bs))
    by true true e ih = rw e (omega (arith, ih))
    by true false e ih = rw e ih
    by false true e ih = omega (arith, ih)
    by false false e ih = ih

-- the end of a branch
fewer_finished : (link : LinkNo) (rows : List RowState) (b : Branch) → length (numbers_on link (finished rows b)) ≤ length (numbers_on link rows)
fewer_finished link rows b =
    let x = numbers_are link (finished rows b) in
    let y = ap (λ bs. length (filter (is_on link) bs)) (finished_branches rows b) in
    let z = fewer (is_on link) (λ c. not (is_branch b c)) (branches rows) in
    let v = numbers_are link rows in
    omega (arith, x, y, z, v)

fewer_ended : (link : LinkNo) (rows : List RowState) (bs : List Branch) → length (numbers_on link (all_finished rows bs)) ≤ length (numbers_on link rows)
fewer_ended link rows [] = omega arith
fewer_ended link rows (b ∷ bs) = let ih = fewer_ended link (finished rows b) bs in let one = fewer_finished link rows b in omega (arith, ih, one)

-- the end of a link
fewer_dropped : (link gone : LinkNo) (rows : List RowState) → length (numbers_on link (dropped gone rows)) ≤ length (numbers_on link rows)
fewer_dropped link gone rows =
    let x = fewer_ended link (all_orphaned gone rows) (branches_on gone rows) in
    let y = numbers_are link (all_orphaned gone rows) in
    let z = ap (λ bs. length (filter (is_on link) bs)) (all_orphaned_branches gone rows) in
    let v = numbers_are link rows in
    omega (arith, x, y, z, v)

-- a request that begins
one_begun : (link : LinkNo) (rows : List RowState) (from : Asker) (to : List LinkNo) → differ to ≡ true → length (numbers_on link (begun rows from to)) ≤ length (numbers_on link rows) + 1
one_begun link rows from to apart =
    let e = ap length (begun_numbers rows from to link apart) in
    let f = length-append (numbers_on link rows) (cond (list_any (λ l. l.0 == link.0) to) (free_number link rows ∷ []) []) in
    let g = by (list_any (λ l. l.0 == link.0) to) in
    omega (arith, e, f, g)
  where
    by : (t : Bool) → length (cond t (free_number link rows ∷ []) []) ≤ 1
    by true = omega arith
    by false = omega arith

-- ---- events

module _ (n : ℕ) (node : NodeState) (up : AreNumbered node.links) (h : AreFew n node) where
  as_before : AreFew (n + 1) node
  as_before link = let f = h link in omega (arith, f)

  few_asked : (from : Asker) (to : List LinkNo) → differ to ≡ true → (link : LinkNo) → length (numbers_on link (asked_over node.pending from to)) ≤ n + 1
  few_asked from [] apart link = as_before link
  few_asked from (l ∷ ls) apart link = let one = one_begun link node.pending from (l ∷ ls) apart in let f = h link in omega (arith, one, f)

  few_from : (from : LinkNo) (msg : Msg) → AreFew (n + 1) (after node (From from msg))
  few_from from (Sub id key) = as_before
  few_from from (Unsub id) = as_before
  few_from from (Token id key) = as_before
  few_from from (Untoken id) = as_before
  few_from from (Able id key complete) = as_before
  few_from from (Unable id) = as_before
  few_from from (Interest id current future kinds key aggregate) = as_before
  few_from from (EndInterest id) = as_before
  few_from from (ToldSub id key interest) = as_before
  few_from from (ToldToken id key interest) = as_before
  few_from from (ToldAble id key complete interest) = as_before
  few_from from (ToldUnsub id) = as_before
  few_from from (ToldUntoken id) = as_before
  few_from from (ToldUnable id) = as_before
  few_from from (ToldEnd interest) = as_before
  few_from from (Push tree content) = as_before
  few_from from (Request tree id target content) =
      few_asked (asker from.0 id) (asked_links (tables node) from.0 tree target content.key) (asked_differ (tables node) from.0 tree target content.key up)
  few_from from (Response id content) = as_before
  few_from from (Final id extras) = λ link. let one = fewer_finished link node.pending (record { link = link_no from.0; number = id }) in let f = h link in omega (arith, one, f)
  few_from from (State links) = as_before
  few_from from (Step source number added decl) = as_before
  few_from from (Snap source number decls) = as_before

  pub few_after : (event : Event) → AreFew (n + 1) (after node event)
  few_after (Up link peer) = as_before
  few_after (Down gone) = λ link. let one = fewer_dropped link (link_no gone.0) node.pending in let f = h link in omega (arith, one, f)
  few_after (From link msg) = few_from link msg

-- ---- worlds

-- so few numbers are pending on each link of each router
abbrev pub FewHold : ℕ → Routers → Type 0
FewHold n routers = (x : Name) (r : RouterState) → router_of routers x ≡ Some r → AreFew n r.node

pub few_later : (n m : ℕ) (routers : Routers) → n ≤ m → FewHold n routers → FewHold m routers
few_later n m routers le h x r found link = let f = h x r found link in omega (arith, f, le)

pub few_first : FewHold 0 []
few_first x r found = absurd (cc)

-- one router has another state
few_set : (n : ℕ) (routers : Routers) (x : Name) (r r' : RouterState) → router_of routers x ≡ Some r → FewHold n routers → AreFew (n + 1) r'.node → FewHold (n + 1) (with_router routers x r')
few_set n routers x r r' found h new y q there = by (is_named x y) (sym (read_after (λ o. o) routers x y r r' found) ∙ there)
  where
    by : (t : Bool) → cond t (Some r') (router_of routers y) ≡ Some q → AreFew (n + 1) q.node
    by true k = let one : r' ≡ q = cc in subst (λ (s : RouterState). AreFew (n + 1) s.node) one new
    by false k = λ link. let f = h y q k link in omega (arith, f)

module _ (n : ℕ) (now : Moment) (tables : (x : Name) (r : RouterState) → router_of now.world.routers x ≡ Some r → AreOfLinks r.node) (h : FewHold n now.world.routers) where
  abbrev w : WorldState
  w = now.world

  abbrev Few : Moment → Type 0
  Few next = FewHold (n + 1) next.world.routers

  hears : (x : Name) (r : RouterState) → router_of w.routers x ≡ Some r → (event : Event) → FewHold (n + 1) (with_router w.routers x (hearing r event))
  hears x r found event = few_set n w.routers x r (hearing r event) found h (few_after n r.node (tables x r found).numbered (h x r found) event)

  stays : FewHold (n + 1) w.routers
  stays = few_later n (n + 1) w.routers (omega arith) h

  heavier : (x : Name) (key : List ℕ) (r : RouterState) → router_of w.routers x ≡ Some r → FewHold (n + 1) (with_router w.routers x (weighing r key))
  heavier x key r there = few_set n w.routers x r (weighing r key) there h (λ link. let f = h x r there link in omega (arith, f))

  comes : (id : Name) → router_of w.routers id ≡ None → FewHold (n + 1) (insert_entry (slice_cmp nat_cmp) w.routers id (new_router id))
  comes id free y q there = by (is_named y id) (sym (value_new w.routers id y (new_router id) free) ∙ there)
    where
      by : (t : Bool) → cond t (Some (new_router id)) (router_of w.routers y) ≡ Some q → AreFew (n + 1) q.node
      by true k = let one : new_router id ≡ q = cc in subst (λ (s : RouterState). AreFew (n + 1) s.node) one (λ link. omega arith)
      by false k = stays y q k

  pub act_few : (line : ℕ) (act : Act) → IfSome (went now (outcome w line act)) Few
  unfolding outcome
  act_few line (a.Router id) = for_router now Few id (λ free room. comes id (not_there (router_of w.routers id) (free_name w id free).0))
  act_few line (a.Client id router) = for_client now Few (λ u v report t k. of_each u v t (λ x b. AreFew (n + 1) b) k) line id router (λ r found free room taken. hears router r found (up_event r (record { id = id; role = Client; weight = 1 })))
  act_few line (a.Link one other weight) = for_link now Few one other weight (λ apart r found q found' new room. stays)
  act_few line (a.Up router name) = for_up now Few (λ u v report t k. of_each u v t (λ x b. AreFew (n + 1) b) k) line router name (λ r found there s at_end unbroken down taken. hears router r found (up_event r (peer_of w name s.weight)))
  act_few line (a.Break router name) = for_break now Few router name (λ r found there s at_end unbroken. stays)
  act_few line (a.Down router name) = for_down now Few (λ u v report t k. of_each u v t (λ x b. AreFew (n + 1) b) k) line router name (λ r found there s at_end up cut l number taken. hears router r found (Down l))
  act_few line (a.Sub client id key) = for_declare now Few line client k.Sub id key (Sub id key) (λ s found fresh e at_end unbroken r there weighs. heavier s.router key r there)
  act_few line (a.Unsub client id) = for_undeclare now Few line client k.Sub id (Unsub id) (λ s found known e at_end unbroken. stays)
  act_few line (a.Token client id key) = for_declare now Few line client k.Token id key (Token id key) (λ s found fresh e at_end unbroken r there weighs. heavier s.router key r there)
  act_few line (a.Untoken client id) = for_undeclare now Few line client k.Token id (Untoken id) (λ s found known e at_end unbroken. stays)
  act_few line (a.Able client id key complete) = for_declare now Few line client (able_kind complete) id key (Able id key complete) (λ s found fresh e at_end unbroken r there weighs. heavier s.router key r there)
  act_few line (a.Unable client id) = for_undeclare now Few line client k.Able id (Unable id) (λ s found known e at_end unbroken. stays)
  act_few line (a.Interest client id mode kinds key aggregate) = interest_says now Few line client id mode kinds key aggregate (λ s found e at_end unbroken clients same. stays)
      (λ s found e at_end unbroken r there room clients same. heavier s.router (unwrap_or key []) r there)
  act_few line (a.Uninterest client id) = uninterest_says now Few line client id (λ s found e at_end unbroken clients same. stays)
  act_few line (a.Publish client content) = publish_says now Few line client content (λ s found e at_end unbroken clients same. stays)
  act_few line (a.Get client number target content) = get_says now Few line client number target content (λ s found e at_end unbroken clients same. stays)
  act_few line (a.Reply client number content) = reply_says now Few line client number content (λ s found e at_end unbroken clients same. stays)
  act_few line (a.End client number) = end_says now Few line client number (λ s found e at_end unbroken clients same. stays)
  act_few line (a.Handle router from) = for_handle now Few (λ u v report t k. of_each u v t (λ x b. AreFew (n + 1) b) k) router from (λ r found there s at_end up msg tag xs front l number taken. hears router r found (From l msg))
  act_few line (a.Take router to) = for_take now Few router to (λ r found there s at_end up unbroken msg tag xs front. stays)
  act_few line a.Mark = for_mark now Few line (λ settled joined. stays)
  act_few line (a.Show router) = for_show now Few router (λ r found. stays)
