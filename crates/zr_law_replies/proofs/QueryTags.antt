-- From which lines requests and finals come: the line is no reply's, and a request asks for the latest just where the query of its line does. So it is of all
-- that waits (`tags_hold`).
use Rattle.std.proofs.Common.{◌≡◌, ℕ, ◌+◌, inl, inr, ◌==◌, ◌&&◌, ◌||◌, not, Bool, true, false, cond, List, [], ◌∷◌, Option, Some, None, is_some, refl, sym, ap, ◌∙◌}
use Rattle.std.specs.List.{AllByRecursion, flat_map, list_all, list_any}
use Rattle.std.specs.Option.{option_map_or}
use Rattle.std.proofs.lemmas.Option.{none-some}
use Rattle.std.proofs.lemmas.Bool.{false≢true, and_parts, and_from, eqb-true, eq-eqb}
use Rattle.zr_lists.proofs.Each.{All-append}
use Rattle.zr_lists.proofs.Elements.{in_each}
use Rattle.zr_lists.proofs.Finds.{In, in_any, none_any}
use Rattle.zr_id.specs.Record.{RecordState}
use Rattle.zr_id.specs.declared.link.LinkNo.{LinkNo}
use Rattle.zr_body.specs.Latest.{is_latest}
use Rattle.zr_msg.specs.declared.content.Parts.{Parts}
use Rattle.zr_msg.specs.declared.event.Event.{Event}
use Rattle.zr_msg.specs.declared.event.Event.TheVariants.{Down, From}
use Rattle.zr_msg.specs.Extras.{no_extras}
use Rattle.zr_msg.specs.declared.msg.Msg.{Msg}
use Rattle.zr_msg.specs.declared.msg.Msg.TheVariants.{Sub, Unsub, Token, Untoken, Able, Unable, Interest, EndInterest, ToldSub, ToldAble, ToldUnsub, ToldToken, ToldUntoken, ToldUnable, ToldEnd, Push, Request, Response, Final, State, Step, Snap}
use Rattle.zr_msg.specs.declared.msg.Target.{Target}
use Rattle.zr_msg.specs.declared.peer.LinkPeer.{LinkPeer}
use Rattle.zr_msg.specs.declared.peer.Role.{Role}
use Rattle.zr_msg.specs.declared.peer.Role.TheVariants as role
use Rattle.zr_log.specs.declared.log.Log.{Log}
use Rattle.zr_log.specs.Log.{Change}
use Rattle.zr_log.specs.Known.{position, is_next, is_newer}
use Rattle.zr_local.specs.declared.row.Row.{Row}
use Rattle.zr_graph.specs.Base as records
use Rattle.zr_pend_spec.specs.Pending.{free_number}
use Rattle.zr_node_spec.specs.Tables.{TableState, link_at, is_router, is_to_child, leads_to_router}
use Rattle.zr_node_spec.specs.Changes.{changes, steps}
use Rattle.zr_node_spec.specs.Samples.{subscribes, leads_to_subscriber, tree_of, push_to, push_on, push_along, sends_push}
use Rattle.zr_node_spec.specs.Queries.{is_asked, asked_links, tree_for, request_to, request_along, final_at_once, sends_request}
use Rattle.zr_node_spec.specs.Snapshots.{is_new_child, snapshot, snapshots_on, snapshots_for, sends_snapshots}
use Rattle.zr_node_spec.specs.State.{NodeState, tables}
use Rattle.zr_node_spec.specs.Table.{is_other_router, sends_rows, sends_from, sends, after}
use Rattle.zr_script_spec.specs.declared.command.Act.{Act}
use Rattle.zr_script_spec.specs.declared.command.Act.TheVariants as c
use Rattle.zr_world_spec.specs.World.{Tagged}
use Rattle.zr_world_spec.specs.Acts.{up_event}
use Rattle.zr_world_spec.specs.Moments.{Numbered, Moment, is_step, beginning, ascends, reached}
use Rattle.zr_world_spec.proofs.Telling.{is_told}
use Rattle.zr_guarantee.specs.Item.{Item}
use Rattle.zr_guarantee.specs.Latest.{asks_latest}
use Rattle.zr_guarantee.specs.Queries.{Asked, asked_in, queries, Saying, saying_in, sayings}
use Rattle.zr_guarantee.specs.Sent.{item_of}
use Rattle.zr_law_settled.proofs.Answering.{reply_all, final_all}
use Rattle.zr_law_declared.proofs.Folds.{after_all, at_some}
use Rattle.zr_law_samples.proofs.Carried.{all_pass}
use Rattle.zr_law_samples.proofs.Watch.{Watched, AllPass, Allows, act_watched}
use Rattle.zr_law_replies.specs.Answers.{is_other_line}
use Rattle.zr_law_replies.proofs.Grown.{asked_of, asks_no_step, saying_of, says_no_step}
use Rattle.zr_law_replies.proofs.Lists.{from_map}
use Rattle.zr_law_replies.proofs.OneLine.{one_act}

-- ---- what is sent that is neither a request nor a final

-- a request's body
abbrev pub may_end : Msg → Bool
may_end (Sub id key) = false
may_end (Unsub id) = false
may_end (Token id key) = false
may_end (Untoken id) = false
may_end (Able id key complete) = false
may_end (Unable id) = false
may_end (Interest id current future kinds key aggregate) = false
may_end (EndInterest id) = false
may_end (ToldSub id key interest) = false
may_end (ToldToken id key interest) = false
may_end (ToldAble id key complete interest) = false
may_end (ToldUnsub id) = false
may_end (ToldUntoken id) = false
may_end (ToldUnable id) = false
may_end (ToldEnd interest) = false
may_end (Push tree content) = false
may_end (Request tree id target content) = true
may_end (Response id content) = false
may_end (Final id extras) = true
may_end (State links) = false
may_end (Step source number added decl) = false
may_end (Snap source number decls) = false

abbrev EndsNot : Msg → Type 0
EndsNot z = may_end z ≡ false

ends_if : (t : Bool) (ms : List Msg) → AllByRecursion EndsNot ms → AllByRecursion EndsNot (cond t ms [])
ends_if true ms h = h
ends_if false ms h = tt

ends_steps : (source : List ℕ) (number : ℕ) (cs : List Change) → AllByRecursion EndsNot (steps source number cs)
ends_steps source number [] = tt
ends_steps source number (c ∷ cs) = (refl, ends_steps source (number + 1) cs)

module _ (t : TableState) (before : List RecordState) where
  ends_each : (name : List ℕ) (logs : List Log) → AllByRecursion EndsNot (flat_map (λ log. cond (is_new_child before t.base.records t.base.me log.source name) (snapshot log ∷ []) []) logs)
  ends_each name [] = tt
  ends_each name (log ∷ logs) = All-append EndsNot (cond (is_new_child before t.base.records t.base.me log.source name) (snapshot log ∷ []) []) _
      (ends_if (is_new_child before t.base.records t.base.me log.source name) (snapshot log ∷ []) (refl, tt)) (ends_each name logs)

  ends_snapshots : (to : ℕ) → AllByRecursion EndsNot (sends_snapshots t before to)
  ends_snapshots to = by (link_at t.links to)
    where
      by : (o : Option LinkPeer) → AllByRecursion EndsNot (option_map_or (λ l. snapshots_on t before l) o [])
      by None = tt
      by (Some l) = ends_if (is_router l.peer.role) (snapshots_for t before l.peer.id) (ends_each l.peer.id t.known.logs)

ends_push : (t : TableState) (from : ℕ) (tree : Option (List ℕ)) (content : Parts) (to : ℕ) → AllByRecursion EndsNot (sends_push t from tree content to)
ends_push t from named content to = along (tree_of t (link_at t.links from) named)
  where
    by_role : (tree : List ℕ) (l : LinkPeer) (r : Role) → AllByRecursion EndsNot (push_to t from tree content l r)
    by_role tree l role.Client = ends_if (not (l.link.0 == from) && subscribes t.rows l.link.0 content.key) (Push None content ∷ []) (refl, tt)
    by_role tree l role.Router = ends_if (leads_to_subscriber t tree content.key l.peer.id) (Push (Some tree) content ∷ []) (refl, tt)

    on : (tree : List ℕ) (o : Option LinkPeer) → AllByRecursion EndsNot (push_on t from tree content o)
    on tree None = tt
    on tree (Some l) = by_role tree l l.peer.role

    along : (o : Option (List ℕ)) → AllByRecursion EndsNot (push_along t from o content to)
    along None = tt
    along (Some tree) = on tree (link_at t.links to)

module _ (n : NodeState) where
  ends_rows : (rows : List Row) (to : ℕ) → AllByRecursion EndsNot (sends_rows n rows to)
  ends_rows rows to = ends_if (is_to_child (tables n) n.base.me to) (steps n.base.me (position n.known n.base.me) (changes n.rows rows)) (ends_steps n.base.me (position n.known n.base.me) (changes n.rows rows))

  ends_from : (from : ℕ) (msg : Msg) (to : ℕ) → may_end msg ≡ false → AllByRecursion EndsNot (sends_from n from msg to)
  ends_from from (Sub id key) to e = ends_rows _ to
  ends_from from (Unsub id) to e = ends_rows _ to
  ends_from from (Token id key) to e = ends_rows _ to
  ends_from from (Untoken id) to e = ends_rows _ to
  ends_from from (Able id key complete) to e = ends_rows _ to
  ends_from from (Unable id) to e = ends_rows _ to
  ends_from from (Interest id current future kinds key aggregate) to e = tt
  ends_from from (EndInterest id) to e = tt
  ends_from from (ToldSub id key interest) to e = tt
  ends_from from (ToldToken id key interest) to e = tt
  ends_from from (ToldAble id key complete interest) to e = tt
  ends_from from (ToldUnsub id) to e = tt
  ends_from from (ToldUntoken id) to e = tt
  ends_from from (ToldUnable id) to e = tt
  ends_from from (ToldEnd interest) to e = tt
  ends_from from (Push tree content) to e = ends_push (tables n) from tree content to
  ends_from from (Request tree id target content) to e = absurd (false≢true (sym e))
  ends_from from (Response id content) to e = reply_all EndsNot (λ number content. refl) n.pending n.held from id content to
  ends_from from (Final id extras) to e = absurd (false≢true (sym e))
  ends_from from (State r) to e = ends_if (leads_to_router n.links from && records.is_newer n.base r && is_other_router n from to) (State r ∷ []) (refl, tt)
  ends_from from (Step source number added decl) to e =
      ends_if (leads_to_router n.links from && (is_next n.known source number && is_to_child (tables n) source to)) (Step source number added decl ∷ []) (refl, tt)
  ends_from from (Snap source number decls) to e =
      ends_if (leads_to_router n.links from && (is_newer n.known source number && is_to_child (tables n) source to)) (Snap source number decls ∷ []) (refl, tt)

-- what is told to clients is neither
told_ends_not : (msg : Msg) → is_told msg ≡ true → may_end msg ≡ false
told_ends_not (Sub id key) e = refl
told_ends_not (Unsub id) e = refl
told_ends_not (Token id key) e = refl
told_ends_not (Untoken id) e = refl
told_ends_not (Able id key complete) e = refl
told_ends_not (Unable id) e = refl
told_ends_not (Interest id current future kinds key aggregate) e = refl
told_ends_not (EndInterest id) e = refl
told_ends_not (ToldSub id key interest) e = refl
told_ends_not (ToldToken id key interest) e = refl
told_ends_not (ToldAble id key complete interest) e = refl
told_ends_not (ToldUnsub id) e = refl
told_ends_not (ToldUntoken id) e = refl
told_ends_not (ToldUnable id) e = refl
told_ends_not (ToldEnd interest) e = refl
told_ends_not (Push tree content) e = refl
told_ends_not (Request tree id target content) e = absurd (false≢true e)
told_ends_not (Response id content) e = refl
told_ends_not (Final id extras) e = absurd (false≢true e)
told_ends_not (State links) e = refl
told_ends_not (Step source number added decl) e = refl
told_ends_not (Snap source number decls) e = refl

-- ---- the test

abbrev pub agree : Bool → Bool → Bool
agree a b = cond a b (not b)

-- the bodies of a line's queries ask for the latest just where this one does
abbrev pub asks_alike : List Numbered → ℕ → Msg → Bool
asks_alike acts tag (Sub id key) = true
asks_alike acts tag (Unsub id) = true
asks_alike acts tag (Token id key) = true
asks_alike acts tag (Untoken id) = true
asks_alike acts tag (Able id key complete) = true
asks_alike acts tag (Unable id) = true
asks_alike acts tag (Interest id current future kinds key aggregate) = true
asks_alike acts tag (EndInterest id) = true
asks_alike acts tag (ToldSub id key interest) = true
asks_alike acts tag (ToldToken id key interest) = true
asks_alike acts tag (ToldAble id key complete interest) = true
asks_alike acts tag (ToldUnsub id) = true
asks_alike acts tag (ToldUntoken id) = true
asks_alike acts tag (ToldUnable id) = true
asks_alike acts tag (ToldEnd interest) = true
asks_alike acts tag (Push tree content) = true
asks_alike acts tag (Request tree id target content) = list_all (λ p. not (p.line == tag) || agree (is_latest content.body) (asks_latest p)) (queries acts)
asks_alike acts tag (Response id content) = true
asks_alike acts tag (Final id extras) = true
asks_alike acts tag (State links) = true
asks_alike acts tag (Step source number added decl) = true
asks_alike acts tag (Snap source number decls) = true

-- of a request or a final the line is no reply's, and a request asks as its line does
abbrev pub comes_well : List Numbered → Tagged → Bool
comes_well acts x = not (may_end x.msg) || (is_other_line acts x.tag && asks_alike acts x.tag x.msg)

module _ (acts : List Numbered) where
  abbrev Well : ℕ → Msg → Type 0
  Well tag msg = comes_well acts (record { msg = msg; tag = tag }) ≡ true

  well_other : (tag : ℕ) (msg : Msg) → may_end msg ≡ false → Well tag msg
  well_other tag msg e = ap (λ b. not b || (is_other_line acts tag && asks_alike acts tag msg)) e

  wells : (tag : ℕ) (ms : List Msg) → AllByRecursion EndsNot ms → AllByRecursion (Well tag) ms
  wells tag [] h = tt
  wells tag (z ∷ ms) h = (well_other tag z h.0, wells tag ms h.1)

  -- ---- what a router sends of a message

  module _ (node : NodeState) (link : LinkNo) (tag : ℕ) where
    -- a request goes on as it came
    requests_go : (tree : Option (List ℕ)) (id : ℕ) (target : Target) (content : Parts) → Well tag (Request tree id target content) → (to : ℕ) → AllByRecursion (Well tag) (sends_request (tables node) node.pending link.0 tree id target content to)
    requests_go named id target content h to =
        All-append (Well tag) (final_at_once link.0 id (asked_links (tables node) link.0 named target content.key) to) (request_along (tables node) node.pending link.0 (tree_of (tables node) (link_at node.links link.0) named) target content to)
        (at_once (asked_links (tables node) link.0 named target content.key)) (along (tree_of (tables node) (link_at node.links link.0) named))
      where
        parts : (is_other_line acts tag ≡ true) × (asks_alike acts tag (Request named id target content) ≡ true)
        parts = and_parts (is_other_line acts tag) (asks_alike acts tag (Request named id target content)) h

        at_once : (links : List LinkNo) → AllByRecursion (Well tag) (final_at_once link.0 id links to)
        at_once [] = by (to == link.0)
          where
            by : (t : Bool) → AllByRecursion (Well tag) (cond t (Final id no_extras ∷ []) [])
            by true = (and_from (is_other_line acts tag) true parts.0 refl, tt)
            by false = tt
        at_once (l ∷ links) = tt

        on : (tree : List ℕ) (o : Option LinkPeer) → AllByRecursion (Well tag) (option_map_or (λ l. request_to (tables node) node.pending link.0 tree target content l) o [])
        on tree None = tt
        on tree (Some l) = by (is_asked (tables node) link.0 tree target content.key l l.peer.role)
          where
            by : (t : Bool) → AllByRecursion (Well tag) (cond t (Request (tree_for tree l.peer.role) (free_number l.link node.pending) target content ∷ []) [])
            by true = (h, tt)
            by false = tt

        along : (o : Option (List ℕ)) → AllByRecursion (Well tag) (request_along (tables node) node.pending link.0 o target content to)
        along None = tt
        along (Some tree) = on tree (link_at node.links to)

    goes_from : (msg : Msg) → Well tag msg → (to : ℕ) → AllByRecursion (Well tag) (sends_from node link.0 msg to)
    goes_from (Sub id key) h to = wells tag _ (ends_from node link.0 (Sub id key) to refl)
    goes_from (Unsub id) h to = wells tag _ (ends_from node link.0 (Unsub id) to refl)
    goes_from (Token id key) h to = wells tag _ (ends_from node link.0 (Token id key) to refl)
    goes_from (Untoken id) h to = wells tag _ (ends_from node link.0 (Untoken id) to refl)
    goes_from (Able id key complete) h to = wells tag _ (ends_from node link.0 (Able id key complete) to refl)
    goes_from (Unable id) h to = wells tag _ (ends_from node link.0 (Unable id) to refl)
    goes_from (Interest id current future kinds key aggregate) h to = tt
    goes_from (EndInterest id) h to = tt
    goes_from (ToldSub id key interest) h to = tt
    goes_from (ToldToken id key interest) h to = tt
    goes_from (ToldAble id key complete interest) h to = tt
    goes_from (ToldUnsub id) h to = tt
    goes_from (ToldUntoken id) h to = tt
    goes_from (ToldUnable id) h to = tt
    goes_from (ToldEnd interest) h to = tt
    goes_from (Push tree content) h to = wells tag _ (ends_from node link.0 (Push tree content) to refl)
    goes_from (Request tree id target content) h to = requests_go tree id target content h to
    goes_from (Response id content) h to = wells tag _ (ends_from node link.0 (Response id content) to refl)
    goes_from (Final id extras) h to = final_all (Well tag) (λ number more. h) (λ number content. refl) node.pending node.held link.0 id extras to
    goes_from (State links) h to = wells tag _ (ends_from node link.0 (State links) to refl)
    goes_from (Step source number added decl) h to = wells tag _ (ends_from node link.0 (Step source number added decl) to refl)
    goes_from (Snap source number decls) h to = wells tag _ (ends_from node link.0 (Snap source number decls) to refl)

    goes_on : (msg : Msg) → Well tag msg → AllPass (comes_well acts) tag node (From link msg)
    goes_on msg h = (
      λ to. all_pass (λ z. comes_well acts (record { msg = z; tag = tag })) (sends node (From link msg) to)
          (All-append (Well tag) (sends_from node link.0 msg to.0) (sends_snapshots (tables (after node (From link msg))) node.base.records to.0) (goes_from msg h to.0)
          (wells tag _ (ends_snapshots (tables (after node (From link msg))) node.base.records to.0))),
      λ z told. well_other tag z (told_ends_not z told),
    )

  -- ---- acts

  module _ (later : ascends 0 acts ≡ true) (x : Numbered) (there : In x acts) where
    -- an act that is no step is the only one of its line that says or asks something
    not_said : is_step x.1 ≡ false → ((s : Saying) → saying_in x.0 x.1 ≡ Some s → is_some s.reply ≡ false) → is_other_line acts x.0 ≡ true
    not_said step none = and_from (list_any (λ (y : Numbered). y.0 == x.0) acts) (not (list_any (λ s. s.line == x.0 && is_some s.reply) (sayings acts)))
        (in_any (λ (y : Numbered). y.0 == x.0) acts x there (eq-eqb x.0 x.0 refl))
        (ap not (none_any (λ (s : Saying). s.line == x.0 && is_some s.reply) (sayings acts) (λ s i. by s i (s.line == x.0) refl)))
      where
        by : (s : Saying) → In s (sayings acts) → (t : Bool) → (s.line == x.0) ≡ t → (t && is_some s.reply) ≡ false
        by s i false e = refl
        by s i true e =
            let y = from_map (λ (z : Numbered). saying_in z.0 z.1) acts s i in
            let same : y.0 ≡ x = one_act 0 acts later y.0 x y.1 there (says_no_step y.0.0 y.0.1 s y.2) step (sym (saying_of y.0.0 y.0.1 s y.2) ∙ eqb-true s.line x.0 e) in
            none s (ap (λ (z : Numbered). saying_in z.0 z.1) (sym same) ∙ y.2)

    asks_by : is_step x.1 ≡ false → (latest : Bool) → ((p : Asked) → asked_in x.0 x.1 ≡ Some p → latest ≡ asks_latest p) → list_all (λ p. not (p.line == x.0) || agree latest (asks_latest p)) (queries acts) ≡ true
    asks_by step latest same = all (queries acts) (λ p i. i)
      where
        itself : (a b : Bool) → a ≡ b → agree a b ≡ true
        itself true b e = sym e
        itself false b e = ap not (sym e)

        one : (p : Asked) → In p (queries acts) → (t : Bool) → (p.line == x.0) ≡ t → (not t || agree latest (asks_latest p)) ≡ true
        one p i false e = refl
        one p i true e =
            let y = from_map (λ (z : Numbered). asked_in z.0 z.1) acts p i in
            let is : y.0 ≡ x = one_act 0 acts later y.0 x y.1 there (asks_no_step y.0.0 y.0.1 p y.2) step (sym (asked_of y.0.0 y.0.1 p y.2) ∙ eqb-true p.line x.0 e) in
            itself latest (asks_latest p) (same p (ap (λ (z : Numbered). asked_in z.0 z.1) (sym is) ∙ y.2))

        all : (ps : List Asked) → ((p : Asked) → In p ps → In p (queries acts)) → list_all (λ p. not (p.line == x.0) || agree latest (asks_latest p)) ps ≡ true
        all [] each = refl
        all (p ∷ ps) each = and_from _ _ (one p (each p (inl refl)) (p.line == x.0) refl) (all ps (λ z i. each z (inr i)))

    -- whatever is put on its way by an act that neither asks nor replies
    any_msg : is_step x.1 ≡ false → ((s : Saying) → saying_in x.0 x.1 ≡ Some s → is_some s.reply ≡ false) → asked_in x.0 x.1 ≡ None → (msg : Msg) → Well x.0 msg
    any_msg step none asks msg = by (may_end msg)
      where
        alike : (z : Msg) → asks_alike acts x.0 z ≡ true
        alike (Sub id key) = refl
        alike (Unsub id) = refl
        alike (Token id key) = refl
        alike (Untoken id) = refl
        alike (Able id key complete) = refl
        alike (Unable id) = refl
        alike (Interest id current future kinds key aggregate) = refl
        alike (EndInterest id) = refl
        alike (ToldSub id key interest) = refl
        alike (ToldToken id key interest) = refl
        alike (ToldAble id key complete interest) = refl
        alike (ToldUnsub id) = refl
        alike (ToldUntoken id) = refl
        alike (ToldUnable id) = refl
        alike (ToldEnd interest) = refl
        alike (Push tree content) = refl
        alike (Request tree id target content) = asks_by step (is_latest content.body) (λ p e. absurd (none-some p (sym asks ∙ e)))
        alike (Response id content) = refl
        alike (Final id extras) = refl
        alike (State links) = refl
        alike (Step source number added decl) = refl
        alike (Snap source number decls) = refl

        by : (t : Bool) → (not t || (is_other_line acts x.0 && asks_alike acts x.0 msg)) ≡ true
        by true = and_from (is_other_line acts x.0) (asks_alike acts x.0 msg) (not_said step none) (alike msg)
        by false = refl

    any_event : ((msg : Msg) → Well x.0 msg) → (node : NodeState) (event : Event) → AllPass (comes_well acts) x.0 node event
    any_event any node event = ((λ to. each (sends node event to)), λ msg told. any msg)
      where
        each : (ms : List Msg) → list_all (λ z. comes_well acts (record { msg = z; tag = x.0 })) ms ≡ true
        each [] = refl
        each (z ∷ ms) = and_from _ _ (any z) (each ms)

  allowed : ascends 0 acts ≡ true → (n : ℕ) (act : Act) → In (n, act) acts → Allows (comes_well acts) n act
  allowed later n (c.Router id) i = tt
  allowed later n (c.Client id router) i = λ r peer. any_event later (n, c.Client id router) i (any_msg later (n, c.Client id router) i refl (λ s e. absurd (none-some s e)) refl) r.node (up_event r peer)
  allowed later n (c.Link one other weight) i = tt
  allowed later n (c.Up router name) i = λ r peer. any_event later (n, c.Up router name) i (any_msg later (n, c.Up router name) i refl (λ s e. absurd (none-some s e)) refl) r.node (up_event r peer)
  allowed later n (c.Break router name) i = tt
  allowed later n (c.Down router name) i = λ node link. any_event later (n, c.Down router name) i (any_msg later (n, c.Down router name) i refl (λ s e. absurd (none-some s e)) refl) node (Down link)
  allowed later n (c.Sub client id key) i = refl
  allowed later n (c.Unsub client id) i = refl
  allowed later n (c.Token client id key) i = refl
  allowed later n (c.Untoken client id) i = refl
  allowed later n (c.Able client id key complete) i = refl
  allowed later n (c.Unable client id) i = refl
  allowed later n (c.Interest client id mode kinds key aggregate) i = refl
  allowed later n (c.Uninterest client id) i = refl
  allowed later n (c.Publish client content) i = refl
  allowed later n (c.Get client number target content) i =
      and_from _ _ (not_said later (n, c.Get client number target content) i refl (λ s e. absurd (none-some s e)))
      (asks_by later (n, c.Get client number target content) i refl (is_latest content.body) (λ p e. ap (λ o. option_map_or (λ z. asks_latest z) o false) e))
  allowed later n (c.Reply client number content) i = refl
  allowed later n (c.End client number) i = any_msg later (n, c.End client number) i refl (λ s e. sym (ap (λ o. option_map_or (λ (z : Saying). is_some z.reply) o false) e)) refl (Final number no_extras)
  allowed later n (c.Handle router from) i = tt
  allowed later n (c.Take router to) i = tt
  allowed later n c.Mark i = tt
  allowed later n (c.Show router) i = tt

-- at each moment all that waits comes well
abbrev pub TagsHold : List Numbered → Moment → Type 0
TagsHold acts m = Watched (comes_well acts) (λ i. true) m

pub tags_hold : (acts : List Numbered) (m : Moment) → ascends 0 acts ≡ true → reached acts ≡ Some m → TagsHold acts m
tags_hold acts m later is = at_some (TagsHold acts) (reached acts) m is
    (after_all (λ done now. TagsHold acts now) (λ x. In x acts)
    (λ done now tags x i. act_watched (comes_well acts) (λ z. true) (λ msg tag p. all (item_of msg tag)) (λ node link msg tag p. goes_on acts node link tag msg p) now tags x.0 x.1 (allowed acts later x.0 x.1 i))
    acts [] (Some beginning) (record { waits = λ e. tt; sends_only = λ q. refl }) (in_each (λ x. In x acts) acts (λ x i. i)))
  where
    all : (xs : List Item) → list_all (λ i. true) xs ≡ true
    all [] = refl
    all (x ∷ xs) = all xs
