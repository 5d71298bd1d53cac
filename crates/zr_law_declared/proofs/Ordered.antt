-- The rows of each router ascend (`RowsAscend`): each event keeps it, and so does each act.
use Rattle.std.proofs.Common.{◌≡◌, ℕ, Bool, true, false, cond, Some, None, is_some, sym, ap, ◌∙◌, subst, List, []}
use Rattle.std.specs.Prelude.{unwrap_or, IfSome}
use Rattle.std.specs.List.Sorted.{IsStrictlySortedBy}
use Rattle.std.proofs.lemmas.Bool.{false≢true}
use Rattle.std.proofs.lemmas.List.Kept.{IsStrictlySortedBy-filter}
use Rattle.zr_id.specs.Zid.{is_named}
use Rattle.zr_msg.specs.declared.decl.Kind.TheVariants as k
use Rattle.zr_msg.specs.Extras.{no_extras}
use Rattle.zr_msg.specs.declared.msg.Msg.{Msg}
use Rattle.zr_msg.specs.declared.msg.Msg.TheVariants as m
use Rattle.zr_msg.specs.declared.event.Event.{Event}
use Rattle.zr_msg.specs.declared.event.Event.TheVariants.{Up, Down, From}
use Rattle.zr_msg.specs.declared.peer.Role.TheVariants.{Client}
use Rattle.zr_script_spec.specs.declared.command.Act.{Act}
use Rattle.zr_script_spec.specs.declared.command.Act.TheVariants as a
use Rattle.zr_script_spec.specs.Mode.{is_current, is_future}
use Rattle.zr_lists.proofs.Puts.{ascending_put, ascending_without}
use Rattle.zr_lists.proofs.Options.{not_there}
use Rattle.zr_local.specs.Rows.{Key, row_key, key_cmp, AreInOrder, declared, undeclared, left}
use Rattle.zr_local.specs.declared.row.Row.{Row}
use Rattle.zr_local.proofs.Rows.{key_order}
use Rattle.zr_node_spec.specs.Tables.{leads_to_client}
use Rattle.zr_node_spec.specs.State.{NodeState}
use Rattle.zr_node_spec.specs.Table.{able_kind, row, key_of, rows_declared, rows_undeclared, rows_left, after_from, after}
use Rattle.zr_world_spec.specs.World.{RouterState, WorldState, router_of, with_router, new_router, is_taken, empty_world}
use Rattle.zr_world_spec.specs.Acts.{outcome, hearing, having_told, weighing, up_event, peer_of}
use Rattle.zr_world_spec.specs.Moments.{Moment, went}
use Rattle.zr_world_spec.proofs.Names.{value_new, read_after}
use Rattle.zr_world_spec.proofs.Cases.{free_name, on_router, for_router, for_client, for_link, for_up, for_break, for_down, for_declare, for_undeclare, Says, Weighs, interest_says, uninterest_says, publish_says, get_says, reply_says, end_says, for_handle, for_take, for_mark, for_show}
use Rattle.zr_law_settled.proofs.Spreading.{Name}
use Rattle.zr_law_declared.proofs.Hearing.{heard_router}

-- ---- events

module _ (node : NodeState) (h : AreInOrder node.rows) where
  declares : (from : ℕ) (r : Row) → AreInOrder (rows_declared node from r)
  declares from r = by (leads_to_client node.links from)
    where
      by : (b : Bool) → AreInOrder (cond b (declared node.rows r) node.rows)
      by true = ascending_put key_cmp row_key key_order node.rows r h
      by false = h

  undeclares : (from : ℕ) (key : Key) → AreInOrder (rows_undeclared node from key)
  undeclares from key = by (leads_to_client node.links from)
    where
      by : (b : Bool) → AreInOrder (cond b (undeclared node.rows key) node.rows)
      by true = ascending_without key_cmp row_key key_order node.rows key h
      by false = h

  leaves : (from : ℕ) → AreInOrder (rows_left node from)
  leaves from = by (leads_to_client node.links from)
    where
      by : (b : Bool) → AreInOrder (cond b (left node.rows from) node.rows)
      by true = IsStrictlySortedBy-filter (λ x y. key_cmp (row_key x) (row_key y)) _ node.rows h
      by false = h

  from_ordered : (from : ℕ) (msg : Msg) → AreInOrder (after_from node from msg).rows
  from_ordered from (m.Sub id key) = declares from (row from id k.Sub key)
  from_ordered from (m.Unsub id) = undeclares from (key_of from id k.Sub)
  from_ordered from (m.Token id key) = declares from (row from id k.Token key)
  from_ordered from (m.Untoken id) = undeclares from (key_of from id k.Token)
  from_ordered from (m.Able id key complete) = declares from (row from id (able_kind complete) key)
  from_ordered from (m.Unable id) = undeclares from (key_of from id k.Able)
  from_ordered from (m.Interest id current future kinds key aggregate) = h
  from_ordered from (m.EndInterest id) = h
  from_ordered from (m.ToldSub id key interest) = h
  from_ordered from (m.ToldToken id key interest) = h
  from_ordered from (m.ToldAble id key complete interest) = h
  from_ordered from (m.ToldUnsub id) = h
  from_ordered from (m.ToldUntoken id) = h
  from_ordered from (m.ToldUnable id) = h
  from_ordered from (m.ToldEnd interest) = h
  from_ordered from (m.Push tree content) = h
  from_ordered from (m.Request tree id target content) = h
  from_ordered from (m.Response id content) = h
  from_ordered from (m.Final id extras) = h
  from_ordered from (m.State links) = h
  from_ordered from (m.Step source number added decl) = h
  from_ordered from (m.Snap source number decls) = h

  pub event_ordered : (event : Event) → AreInOrder (after node event).rows
  event_ordered (Up link peer) = h
  event_ordered (Down link) = leaves link.0
  event_ordered (From link msg) = from_ordered link.0 msg

-- ---- acts

abbrev pub RowsAscend : WorldState → Type 0
RowsAscend w = (x : Name) (r : RouterState) → router_of w.routers x ≡ Some r → AreInOrder r.node.rows

new_ordered : (id : Name) → AreInOrder (new_router id).node.rows
unfolding IsStrictlySortedBy
new_ordered id = tt

pub none_ascend : RowsAscend empty_world
none_ascend x r found = absurd (false≢true (ap is_some found))

module _ (now : Moment) (h : RowsAscend now.world) where
  abbrev w : WorldState
  w = now.world

  abbrev pub AscendThen : Moment → Type 0
  AscendThen next = RowsAscend next.world

  -- a router that is another one then
  with_ordered : (x : Name) (r s : RouterState) → router_of w.routers x ≡ Some r → AreInOrder s.node.rows → (y : Name) (q : RouterState) → router_of (with_router w.routers x s) y ≡ Some q → AreInOrder q.node.rows
  with_ordered x r s found new y q there = by (is_named x y) (sym (read_after (λ o. o) w.routers x y r s found) ∙ there)
    where
      by : (b : Bool) → cond b (Some s) (router_of w.routers y) ≡ Some q → AreInOrder q.node.rows
      by true e = let one : s ≡ q = cc in subst (λ (p : RouterState). AreInOrder p.node.rows) one new
      by false e = h y q e

  heard_ordered : (x : Name) (r : RouterState) (event : Event) → router_of w.routers x ≡ Some r → (y : Name) (q : RouterState) →
      router_of (with_router (with_router w.routers x (hearing r event)) x (having_told r event)) y ≡ Some q → AreInOrder q.node.rows
  heard_ordered x r event found y q there =
      with_ordered x r (having_told r event) found (event_ordered r.node (h x r found) event) y q (sym (heard_router (λ o. o) w.routers x y r event) ∙ there)

  router_comes : (id : Name) → is_taken w id ≡ false → RowsAscend (on_router now id).world
  router_comes id free x q there = by (is_named x id) (sym (value_new w.routers id x (new_router id) (not_there (router_of w.routers id) (free_name w id free).0)) ∙ there)
    where
      by : (b : Bool) → cond b (Some (new_router id)) (router_of w.routers x) ≡ Some q → AreInOrder q.node.rows
      by true e = let one : new_router id ≡ q = cc in subst (λ (p : RouterState). AreInOrder p.node.rows) one (new_ordered id)
      by false e = h x q e

  says : (n : ℕ) (client : Name) (msg : Msg) → Says now AscendThen n client msg
  says n client msg s found e at_end unbroken clients same = h

  weighs : (n : ℕ) (client : Name) (key : List ℕ) (msg : Msg) → Weighs now AscendThen n client key msg
  weighs n client key msg s found e at_end unbroken r there room clients same = with_ordered s.router r (weighing r key) there (h s.router r there)

  pub ascend_keep : (n : ℕ) (act : Act) → IfSome (went now (outcome w n act)) AscendThen
  unfolding outcome
  ascend_keep n (a.Router id) = for_router now AscendThen id (λ free room. router_comes id free)
  ascend_keep n (a.Client id router) = for_client now AscendThen n id router (λ r found free room taken. heard_ordered router r (up_event r (record { id = id; role = Client; weight = 1 })) found)
  ascend_keep n (a.Link one other weight) = for_link now AscendThen one other weight (λ apart r found q found' new room. h)
  ascend_keep n (a.Up router name) = for_up now AscendThen n router name (λ r found there s at_end unbroken down taken. heard_ordered router r (up_event r (peer_of w name s.weight)) found)
  ascend_keep n (a.Break router name) = for_break now AscendThen router name (λ r found there s at_end unbroken. h)
  ascend_keep n (a.Down router name) = for_down now AscendThen n router name (λ r found there s at_end up cut link number taken. heard_ordered router r (Down link) found)
  ascend_keep n (a.Sub client id key) = for_declare now AscendThen n client k.Sub id key (m.Sub id key) (λ s found fresh e at_end unbroken r there room. with_ordered s.router r (weighing r key) there (h s.router r there))
  ascend_keep n (a.Unsub client id) = for_undeclare now AscendThen n client k.Sub id (m.Unsub id) (λ s found known e at_end unbroken. h)
  ascend_keep n (a.Token client id key) = for_declare now AscendThen n client k.Token id key (m.Token id key) (λ s found fresh e at_end unbroken r there room. with_ordered s.router r (weighing r key) there (h s.router r there))
  ascend_keep n (a.Untoken client id) = for_undeclare now AscendThen n client k.Token id (m.Untoken id) (λ s found known e at_end unbroken. h)
  ascend_keep n (a.Able client id key complete) = for_declare now AscendThen n client (able_kind complete) id key (m.Able id key complete) (λ s found fresh e at_end unbroken r there room.
      with_ordered s.router r (weighing r key) there (h s.router r there))
  ascend_keep n (a.Unable client id) = for_undeclare now AscendThen n client k.Able id (m.Unable id) (λ s found known e at_end unbroken. h)
  ascend_keep n (a.Interest client id mode kinds key aggregate) =
      let msg : Msg = m.Interest id (is_current mode) (is_future mode) kinds key aggregate in
      interest_says now AscendThen n client id mode kinds key aggregate (says n client msg) (weighs n client (unwrap_or key []) msg)
  ascend_keep n (a.Uninterest client id) = uninterest_says now AscendThen n client id (says n client (m.EndInterest id))
  ascend_keep n (a.Publish client content) = publish_says now AscendThen n client content (says n client (m.Push None content))
  ascend_keep n (a.Get client number target content) = get_says now AscendThen n client number target content (says n client (m.Request None number target content))
  ascend_keep n (a.Reply client number content) = reply_says now AscendThen n client number content (says n client (m.Response number content))
  ascend_keep n (a.End client number) = end_says now AscendThen n client number (says n client (m.Final number no_extras))
  ascend_keep n (a.Handle router from) = for_handle now AscendThen router from (λ r found there s at_end up msg tag xs front link number taken. heard_ordered router r (From link msg) found)
  ascend_keep n (a.Take router to) = for_take now AscendThen router to (λ r found there s at_end up unbroken msg tag xs front. h)
  ascend_keep n a.Mark = for_mark now AscendThen n (λ settled joined. h)
  ascend_keep n (a.Show router) = for_show now AscendThen router (λ r found. h)
