-- Where a network is at rest, each attached client was told just what its interests want of what all other attached clients have declared. What its router
-- goes by (`others`) and what all others have declared have the same elements: the rows of the other clients of its router, and the sets that the router
-- knows of all others, are what their clients have declared.
use Rattle.std.proofs.Common.{◌≡◌, ℕ, Bool, true, false, cond, List, [], ◌∷◌, ◌++◌, Option, Some, None, ◌⊎◌, inl, inr, refl, sym, ap, ◌∙◌, subst, append-nil}
use Rattle.std.specs.Prelude.{◌==◌, ◌&&◌, not, is_some}
use Rattle.std.specs.List.{filter, flat_map, list_all, list_any}
use Rattle.std.specs.Map.{keys_of, values_of}
use Rattle.std.specs.Option.{option_map, option_map_or}
use Rattle.std.specs.Ordering.{is_eq}
use Rattle.std.proofs.lemmas.Bool.{true≢false, false≢true, false_from_ne_true, and_parts, and_from, not-true, eq-eqb}
use Rattle.std.proofs.lemmas.Option.{none-some, same_Some}
use Rattle.zr_id.specs.Zid.{is_named}
use Rattle.zr_graph.specs.Record.{IsAscending}
use Rattle.zr_graph.proofs.Names.{same_is, same_refl}
use Rattle.zr_tree.specs.Laws.{IsGraph}
use Rattle.zr_tree.specs.Walk.{IsWalk, graph_of}
use Rattle.zr_tree.specs.Tree.{reached, dist}
use Rattle.zr_lists.proofs.Finds.{In, same_any, find_in, in_filter, filter_in, map_in, in_map, any_in, in_any}
use Rattle.zr_tree.proofs.Paths.{exact, walk_reaches}
use Rattle.zr_msg.specs.Decl.{decl_cmp}
use Rattle.zr_msg.specs.declared.decl.Decl.{Decl}
use Rattle.zr_msg.specs.declared.decl.Kind.{Kind}
use Rattle.zr_msg.specs.declared.peer.LinkPeer.{LinkPeer}
use Rattle.zr_log_set.specs.Decls.{has, is_decl}
use Rattle.zr_lists.proofs.Order.{is_same, is_itself}
use Rattle.zr_lists.proofs.Elements.{each_in, in_front, in_behind, in_either, in_flat, flat_in}
use Rattle.zr_log_set.proofs.Decls.{decl_order}
use Rattle.zr_local.specs.Clients.{interests_on}
use Rattle.zr_local.specs.Rows.{row_key, key_cmp, row_at, decls_of, left}
use Rattle.zr_local.specs.declared.interest.Interest.{Interest}
use Rattle.zr_local.specs.declared.row.Row.{Row}
use Rattle.zr_local.proofs.Rows.{key_order}
use Rattle.zr_log.specs.Known.{log_of, decls}
use Rattle.zr_log.specs.declared.log.Log.{Log}
use Rattle.zr_node_spec.specs.Queries.{is_complete}
use Rattle.zr_node_spec.specs.Tables.{TableState, link_to}
use Rattle.zr_node_spec.specs.State.{tables}
use Rattle.zr_node_spec.specs.Table.{key_of}
use Rattle.zr_told_spec.specs.Laws.{Agrees}
use Rattle.zr_told_spec.specs.Place.{same, place_of}
use Rattle.zr_told_spec.specs.Rows.{map_on, others, is_source}
use Rattle.zr_told_spec.specs.Told.{ToldMap, Heard, at, heard as leave}
use Rattle.zr_told_spec.specs.Wanted.{fits, told_as, asked, wants, is_complete_at, want}
use Rattle.zr_told_spec.specs.declared.entry.Entry.{Entry}
use Rattle.zr_told_spec.specs.declared.place.Place.{Place}
use Rattle.zr_world_spec.specs.World.{RouterState, ClientState, EndState, End, Ends, WorldState, router_of, client_of, end_of, is_up, is_unbroken, is_empty, is_idle, is_quiet, is_settled, wire_at}
use Rattle.zr_world_spec.specs.Joined.{graph, is_joined}
use Rattle.zr_world_spec.specs.Moments.{Numbered, Moment}
use Rattle.zr_world_spec.specs.Moments as moments
use Rattle.zr_world_spec.proofs.Keyed.{there}
use Rattle.zr_world_spec.proofs.Names.{names}
use Rattle.zr_world_spec.proofs.Ends.{end_passes, none_there}
use Rattle.zr_world_spec.proofs.Lines.{at_some, prefix_reached}
use Rattle.zr_guarantee.specs.Broker.{is_attached}
use Rattle.zr_guarantee.specs.Names.{clients}
use Rattle.zr_guarantee.specs.Interests.{interests, declared, declared_by_others, told_so_far, TellsWanted, AreTold as ClientsTold, is_at_rest, ClientsAreTold}
use Rattle.zr_guarantee.specs.Scripts.{LinesTellClients}
use Rattle.zr_law_settled.proofs.Spreading.{Name}
use Rattle.zr_law_settled.proofs.Worlds.{there_in, queue_at}
use Rattle.zr_law_settled.proofs.Positions.{each_found, logs_found}
use Rattle.zr_law_settled.proofs.Rest.{router_of_end}
use Rattle.zr_law_settled.proofs.Order.{Ascend, routers_ascend}
use Rattle.zr_law_settled.proofs.Graphs.{is_graph, walk_to, graphs_are_one}
use Rattle.zr_law_declared.specs.Declared.{stands, home, IsClientOf}
use Rattle.zr_law_declared.specs.Rows.{row_of, AreDeclared}
use Rattle.zr_law_declared.specs.Sets.{IsDeclaredAt}
use Rattle.zr_law_declared.proofs.Homes.{router_at}
use Rattle.zr_law_declared.proofs.FlowActs.{GoesDeclared, goes_declared}
use Rattle.zr_law_declared.proofs.AtRest.{its_decl, attached_is, rows_are_declared, sets_are_declared}
use Rattle.zr_law_told.proofs.Readings.{told_of, wants_of, told_by, msgs_in}
use Rattle.zr_law_told.proofs.Events.{leads_to_it, links_apart}
use Rattle.zr_law_told.proofs.Interests.{all_noted, SameTests}
use Rattle.zr_law_told.proofs.Lists.{same_elements}
use Rattle.zr_law_told.proofs.Standing.{attached_client, stands_in, in_stands}
use Rattle.zr_law_told.proofs.Wanting.{flow}
use Rattle.zr_law_told.proofs.Informed.{Informed, informed}

-- ---- what is wanted depends on which declarations and which interests there are, and on nothing else of their lists

pub want_same : (xs ys : List Decl) (is js : List Interest) → SameTests xs ys → SameTests is js → (p : Place) → want xs is p ≡ want ys js p
want_same xs ys is js decls_same interests_same p =
    ap (λ b. cond b (Some (is_complete_at xs p)) None) (interests_same (λ i. asked xs i p) ∙ same_any (λ i. asked xs i p) (λ i. asked ys i p) js (λ i j. decls_same (λ d. fits i (place_of d) && same p (told_as i (place_of d)))))
    ∙ ap (λ b. cond (wants ys js p) (Some b) None) (decls_same (λ d. same p (place_of d) && is_complete d.kind))

-- ---- what was heard is what is wanted

right : (w : Place → Option Bool) (m : ToldMap) (t : Heard) → Agrees m t → ((p : Place) → option_map (λ e. e.complete) (at m p) ≡ w p) → TellsWanted w t
right w m t a h = record {
  sound = λ n p b k. sym (h p) ∙ ap (option_map (λ (e : Entry). e.complete)) (a.from n p b k);
  whole = λ p b k. by p b (at m p) refl (h p ∙ k);
  once = λ n k p b c x y. ap (λ (e : Entry). e.id) (same_Some (record { id = n; complete = b }) (record { id = k; complete = c }) (sym (a.from n p b x) ∙ a.from k p c y));
}
  where
    by : (p : Place) (b : Bool) (o : Option Entry) → at m p ≡ o → option_map (λ e. e.complete) o ≡ Some b → (n : ℕ) × (t n ≡ Some (p, b))
    by p b None e k = absurd (none-some b k)
    by p b (Some v) e k = (v.id, a.to p v e ∙ ap (λ z. Some (p, z)) (same_Some v.complete b k))

-- ---- nothing is under way

all_values : (es : Ends) → list_all is_idle (values_of es) ≡ true → list_all (λ (e : End × EndState). is_idle e.1) es ≡ true
all_values [] h = refl
all_values (e ∷ es) h = let parts = and_parts (is_idle e.1) (list_all is_idle (values_of es)) h in and_from (is_idle e.1) (list_all (λ (e : End × EndState). is_idle e.1) es) parts.0 (all_values es parts.1)

nothing_waits : (w : WorldState) → is_quiet w ≡ true → (q : End) → (wire_at (end_of w.ends q) ≡ []) × (queue_at (end_of w.ends q) ≡ [])
nothing_waits w quiet q = by (end_of w.ends q) refl
  where
    by : (o : Option EndState) → end_of w.ends q ≡ o → (wire_at o ≡ []) × (queue_at o ≡ [])
    by None e = (refl, refl)
    by (Some s) e =
        let parts = and_parts (is_empty s.wire) (is_empty s.queue) (end_passes (λ e. is_idle e.1) w.ends q s (all_values w.ends quiet) e) in
        (none_there s.wire parts.0, none_there s.queue parts.1)

-- ---- sets

in_has : (ds : List Decl) (d : Decl) → In d ds → has ds d ≡ true
in_has ds d i = in_any (λ x. is_decl x d) ds d i (is_itself decl_cmp decl_order d)

has_in : (ds : List Decl) (d : Decl) → has ds d ≡ true → In d ds
has_in ds d h = let x = any_in (λ x. is_decl x d) ds h in subst (λ z. In z ds) (is_same decl_cmp decl_order x.0 d x.2) x.1

-- ---- at rest

module _ (acts : List Numbered) (m : Moment) (is : moments.reached acts ≡ Some m) (rest : is_at_rest m.world ≡ true) where
  abbrev w : WorldState
  w = m.world

  g : GoesDeclared acts m
  g = at_some (GoesDeclared acts) (moments.reached acts) m is (goes_declared acts)

  i : Informed acts m
  i = at_some (Informed acts) (moments.reached acts) m is (informed acts)

  settled : is_settled w ≡ true
  settled = (and_parts (is_settled w) (is_joined w && is_quiet w) rest).0

  joined : is_joined w ≡ true
  joined = (and_parts (is_joined w) (is_quiet w) (and_parts (is_settled w) (is_joined w && is_quiet w) rest).1).0

  quiet : is_quiet w ≡ true
  quiet = (and_parts (is_joined w) (is_quiet w) (and_parts (is_settled w) (is_joined w && is_quiet w) rest).1).1

  ascend : IsAscending (keys_of w.routers)
  ascend = at_some Ascend (moments.reached acts) m is (routers_ascend acts)

  net : IsGraph (graph w)
  net = is_graph w g.goes.sound g.goes.holds settled ascend

  -- a walk ends at a router
  walk_end : (path : List Name) (x z : Name) → there_in w x ≡ true → IsWalk (graph w) x path z → there_in w z ≡ true
  walk_end [] x z here walk = ap (there_in w) (sym walk) ∙ here
  walk_end (y ∷ path) x z here walk =
      walk_end path y z (router_of_end w g.goes.sound g.goes.holds settled y x (and_parts (is_up w.ends (x, y)) (is_up w.ends (y, x)) walk.0).1) walk.1

  -- who is attached is a client, with its router
  its_state : (c : Name) → is_attached acts c ≡ true → (s : ClientState) × (client_of w.clients c ≡ Some s)
  its_state c attached = by (client_of w.clients c) refl
    where
      by : (o : Option ClientState) → client_of w.clients c ≡ o → (s : ClientState) × (client_of w.clients c ≡ Some s)
      by None e = absurd (true≢false (sym attached ∙ (g.spoken.others c e).attached))
      by (Some s) e = (s, e)

  its_home : (c : Name) → is_attached acts c ≡ true → (s : ClientState) → client_of w.clients c ≡ Some s → IsClientOf acts s.router c
  its_home c attached s client = record { attached = attached; home_is = g.homed c ∙ ap router_at client }

  its_router : (c : Name) (s : ClientState) → client_of w.clients c ≡ Some s → (r : RouterState) × (router_of w.routers s.router ≡ Some r)
  its_router c s client = there (router_of w.routers s.router) (g.goes.sound.routers s.router c (g.goes.sound.clients c s client))

  module _ (name : Name) (attached : is_attached acts name ≡ true) (s : ClientState) (client : client_of w.clients name ≡ Some s) (r : RouterState) (found : router_of w.routers s.router ≡ Some r)
      (l : LinkPeer) (linked : link_to r.node.links name ≡ Some l) where
    abbrev x : Name
    x = s.router

    rows : AreDeclared acts x r
    rows = rows_are_declared acts m x r is settled found

    -- what another client that is attached has declared is what others have declared
    is_there : (n : Name) → is_named name n ≡ false → is_attached acts n ≡ true → (d : Decl) → In d (declared acts n) → In d (declared_by_others acts name)
    is_there n apart on d j =
        let test : Name → Bool = λ c. not (is_named name c) && is_attached acts c in
        flat_in (λ c. declared acts c) (filter test (clients acts)) n d
        (filter_in test (clients acts) n (attached_client acts n on) (and_from (not (is_named name n)) (is_attached acts n) (ap not apart) on)) j

    -- ---- the clients of its own router

    -- a row of another link is another client's
    from_row : (q : Row) → In q r.node.rows → (q.link.0 == l.link.0) ≡ false → In q.decl (declared_by_others acts name)
    from_row q j other =
        let owner = each_in _ r.node.rows q rows.owners j in
        let sn = its_state owner.name owner.client.attached in
        let apart : is_named name owner.name ≡ false =
        false_from_ne_true (is_named name owner.name) (λ e.
        let one : Some owner.neighbour ≡ Some l = sym owner.linked ∙ ap (link_to r.node.links) (sym (same_is name owner.name e)) ∙ linked in
        let same : owner.neighbour ≡ l = cc in
        true≢false (sym (eq-eqb q.link.0 l.link.0 (ap (λ z. z.0) (sym owner.number) ∙ ap (λ (z : LinkPeer). z.link.0) same)) ∙ other)) in
        let standing : stands acts owner.name q.decl.kind q.id ≡ Some q.decl =
        sym (its_decl owner.neighbour.link q.id (stands acts owner.name q.decl.kind q.id))
        ∙ ap (option_map (λ z. z.decl)) (sym (rows.rows owner.name owner.neighbour q.decl.kind q.id owner.client owner.linked)
        ∙ ap (λ z. row_at r.node.rows (key_of z.0 q.id q.decl.kind)) owner.number
        ∙ each_in (λ z. row_at r.node.rows (row_key z) ≡ Some z) r.node.rows q (each_found key_cmp row_key key_order r.node.rows (g.ascend x r found)) j) in
        is_there owner.name apart owner.client.attached q.decl (stands_in acts w owner.name sn.0 (g.spoken.clients owner.name sn.0 sn.1) q.decl.kind q.id q.decl standing)

    -- ---- the clients of other routers

    me_is : r.node.base.me ≡ x
    me_is = g.goes.sound.own x r found

    reached_is : (y : Name) → reached (graph_of r.node.base.records) r.node.base.me y ≡ reached (graph w) x y
    reached_is y = ap (λ z. reached z r.node.base.me y) (graphs_are_one acts m x r is settled joined found) ∙ ap (λ z. reached (graph w) z y) me_is

    -- what is known of another router is what its clients have declared
    from_source : (log : Log) → In log r.node.known.logs → is_source (tables r.node) log ≡ true → (d : Decl) → In d log.decls → In d (declared_by_others acts name)
    from_source log j source d k =
        let parts = and_parts (not (is_named log.source r.node.base.me)) (reached (graph_of r.node.base.records) r.node.base.me log.source) source in
        let far = there (dist (graph w) x log.source) (sym (reached_is log.source) ∙ parts.1) in
        let walk = ((exact (graph w) net x log.source far.0).is_shortest far.1).walk in
        let ry = there (router_of w.routers log.source) (walk_end walk.0 x log.source (ap is_some found) walk.1) in
        let known : decls r.node.known log.source ≡ log.decls =
        ap (λ (o : Option Log). option_map_or (λ z. z.decls) o [])
        (each_in (λ z. log_of r.node.known z.source ≡ Some z) r.node.known.logs log (logs_found r.node.known (g.goes.logs.in_order x r found)) j) in
        let declared_there : IsDeclaredAt acts log.source d =
        (sets_are_declared acts m log.source x walk.0 ry.0 r d is settled ry.1 found walk.1).0 (ap (λ ds. has ds d) known ∙ in_has log.decls d k) in
        let sn = its_state declared_there.name declared_there.client.attached in
        let apart : is_named name declared_there.name ≡ false =
        false_from_ne_true (is_named name declared_there.name) (λ e.
        let two : Some x ≡ Some log.source = sym (its_home name attached s client).home_is ∙ ap (home acts) (same_is name declared_there.name e) ∙ declared_there.client.home_is in
        let one : x ≡ log.source = cc in
        true≢false (sym (ap (is_named log.source) (me_is ∙ one) ∙ same_refl log.source) ∙ not-true (is_named log.source r.node.base.me) parts.0)) in
        is_there declared_there.name apart declared_there.client.attached d
        (stands_in acts w declared_there.name sn.0 (g.spoken.clients declared_there.name sn.0 sn.1) declared_there.kind declared_there.id d declared_there.standing)

    -- ---- all others

    abbrev t : TableState
    t = tables r.node

    abbrev own_rows : List Row
    own_rows = left r.node.rows l.link.0

    abbrev sources : List Log
    sources = filter (λ log. is_source t log) r.node.known.logs

    declared_then : (d : Decl) → In d (others t l.link.0) → In d (declared_by_others acts name)
    declared_then d j = by (in_either (decls_of own_rows) (flat_map (λ log. log.decls) sources) d j)
      where
        by : In d (decls_of own_rows) ⊎ In d (flat_map (λ log. log.decls) sources) → In d (declared_by_others acts name)
        by (inl k) =
            let q = in_map (λ (z : Row). z.decl) own_rows d k in
            let f = in_filter (λ z. not (z.link.0 == l.link.0)) r.node.rows q.0 q.1 in
            subst (λ z. In z (declared_by_others acts name)) q.2 (from_row q.0 f.0 (not-true (q.0.link.0 == l.link.0) f.1))
        by (inr k) =
            let log = in_flat (λ (z : Log). z.decls) sources d k in
            let f = in_filter (λ z. is_source t z) r.node.known.logs log.0 log.1 in
            from_source log.0 f.0 f.1 d log.2

    -- the client of another link, and what it has declared
    module _ (n : Name) (apart : is_named n name ≡ false) (on : is_attached acts n ≡ true) (sn : ClientState) (there_n : client_of w.clients n ≡ Some sn) (kind : Kind) (id : ℕ) (d : Decl)
        (standing : stands acts n kind id ≡ Some d) where
      of_row : is_named x sn.router ≡ true → In d (decls_of own_rows)
      of_row same =
          let of : IsClientOf acts x n = record { attached = on; home_is = (its_home n on sn there_n).home_is ∙ ap Some (sym (same_is x sn.router same)) } in
          let j = rows.linked n of in
          let row : Row = record { link = j.0.link; id = id; decl = d } in
          let at_row : row_at r.node.rows (key_of j.0.link.0 id kind) ≡ Some row = rows.rows n j.0 kind id of j.1 ∙ ap (row_of j.0.link id) standing in
          let other : (j.0.link.0 == l.link.0) ≡ false = links_apart w g.goes.sound g.goes.clients x r found n name j.0 l j.1 linked apart in
          map_in (λ (z : Row). z.decl) own_rows row (filter_in (λ z. not (z.link.0 == l.link.0)) r.node.rows row
          (find_in (λ z. is_eq (key_cmp (row_key z) (key_of j.0.link.0 id kind))) r.node.rows row at_row).0 (ap not other))

      of_source : is_named x sn.router ≡ false → In d (flat_map (λ log. log.decls) sources)
      of_source other = by (log_of r.node.known y) refl known
        where
          y : Name
          y = sn.router

          ry : (q : RouterState) × (router_of w.routers sn.router ≡ Some q)
          ry = its_router n sn there_n

          walk : (path : List Name) × IsWalk (graph w) s.router path sn.router
          walk = walk_to w g.goes.sound g.goes.holds settled joined ascend s.router sn.router (ap is_some found) (ap is_some ry.1)

          known : has (decls r.node.known sn.router) d ≡ true
          known = (sets_are_declared acts m sn.router s.router walk.0 ry.0 r d is settled ry.1 found walk.1).1 (record { name = n; client = its_home n on sn there_n; kind = kind; id = id; standing = standing })

          reaches : reached (graph w) s.router sn.router ≡ true
          reaches = ap is_some (walk_reaches (graph w) net s.router sn.router walk.0 walk.1).2

          by : (o : Option Log) → log_of r.node.known sn.router ≡ o → has (option_map_or (λ z. z.decls) o []) d ≡ true → In d (flat_map (λ log. log.decls) sources)
          by None e h = absurd (false≢true h)
          by (Some log) e h =
              let f = find_in (λ (z : Log). is_named z.source sn.router) r.node.known.logs log e in
              let named : log.source ≡ sn.router = same_is log.source sn.router f.1 in
              let away : is_named log.source r.node.base.me ≡ false = ap (λ z. is_named z r.node.base.me) named ∙ ap (is_named sn.router) me_is ∙ names.symm sn.router s.router ∙ other in
              let source : is_source t log ≡ true =
              and_from (not (is_named log.source r.node.base.me)) (reached (graph_of r.node.base.records) r.node.base.me log.source) (ap not away)
              (reached_is log.source ∙ ap (reached (graph w) s.router) named ∙ reaches) in
              flat_in (λ (z : Log). z.decls) sources log d (filter_in (λ z. is_source t z) r.node.known.logs log f.0 source) (has_in log.decls d h)

    known_then : (d : Decl) → In d (declared_by_others acts name) → In d (others t l.link.0)
    known_then d j =
        let test : Name → Bool = λ c. not (is_named name c) && is_attached acts c in
        let c = in_flat (λ c. declared acts c) (filter test (clients acts)) d j in
        let parts = and_parts (not (is_named name c.0)) (is_attached acts c.0) (in_filter test (clients acts) c.0 c.1).1 in
        let apart : is_named c.0 name ≡ false = names.symm c.0 name ∙ not-true (is_named name c.0) parts.0 in
        let sn = its_state c.0 parts.1 in
        let standing = in_stands acts w c.0 sn.0 (g.spoken.clients c.0 sn.0 sn.1) d c.2 in
        by sn.0.router (is_named x sn.0.router) refl (of_row c.0 apart parts.1 sn.0 sn.1 standing.0 standing.1 d standing.2) (of_source c.0 apart parts.1 sn.0 sn.1 standing.0 standing.1 d standing.2)
      where
        by : (y : Name) (b : Bool) → is_named s.router y ≡ b → (is_named s.router y ≡ true → In d (decls_of own_rows)) → (is_named s.router y ≡ false → In d (flat_map (λ log. log.decls) sources)) → In d (others t l.link.0)
        by y true e near far = in_front (decls_of own_rows) (flat_map (λ log. log.decls) sources) d (near e)
        by y false e near far = in_behind (decls_of own_rows) (flat_map (λ log. log.decls) sources) d (far e)

    -- ---- what it was told

    abbrev told : ToldMap
    told = map_on r.told l.link.0

    whole : is_unbroken w.ends (s.router, name) ≡ true
    whole = attached_is acts m g name s client ∙ attached

    agrees : Agrees told (leave (told_by m.report name))
    agrees =
        subst (λ z. Agrees told (leave z)) (ap (λ ws. told_by m.report name ++ msgs_in ws) (nothing_waits w quiet (s.router, name)).1 ∙ append-nil (told_by m.report name))
        (i.told.agrees name s client told (ap (λ o. told_of o name) found ∙ ap (option_map (λ (j : LinkPeer). map_on r.told j.link.0)) linked))

    wants_same : SameTests (interests_on r.node.clients l.link.0) (interests acts name)
    wants_same f = sym (ap (list_any f) flow_is) ∙ i.wanting.wants name s client whole f
      where
        flow_is : flow w s.router name ≡ interests_on r.node.clients l.link.0
        flow_is = ap (all_noted (wants_of (router_of w.routers s.router) name)) (nothing_waits w quiet (s.router, name)).0
            ∙ ap (λ o. wants_of o name) found ∙ ap (λ (o : Option LinkPeer). option_map_or (λ j. interests_on r.node.clients j.link.0) o []) linked

    told_right : TellsWanted (want (declared_by_others acts name) (interests acts name)) (told_so_far m.report name)
    told_right = right (want (declared_by_others acts name) (interests acts name)) told (leave (told_by m.report name)) agrees (λ p.
        (i.told.routers s.router r found).wanted l.link.0 (leads_to_it w g.goes.sound g.goes.clients s.router r found name s client l linked) p
        ∙ want_same (others t l.link.0) (declared_by_others acts name) (interests_on r.node.clients l.link.0) (interests acts name)
        (same_elements (others t l.link.0) (declared_by_others acts name) declared_then known_then) wants_same p)

  clients_told : ClientsTold acts m
  clients_told name attached =
      let s = its_state name attached in
      let r = its_router name s.0 s.1 in
      let up : is_up w.ends (s.0.router, name) ≡ true = g.goes.clients.ups s.0.router name s.0 s.1 (attached_is acts m g name s.0 s.1 ∙ attached) in
      let l = there (link_to r.0.node.links name) (g.goes.sound.links s.0.router name r.0 r.1 ∙ up) in
      told_right name attached s.0 s.1 r.0 r.1 l.0 l.1

pub clients_are_told : ClientsAreTold
clients_are_told acts m is rest = clients_told acts m is rest

pub lines_tell_clients : LinesTellClients
lines_tell_clients ls acts rest cut = let m = prefix_reached ls acts rest cut in (m.0, m.1, λ at_rest. clients_are_told acts m.0 m.1 at_rest)
