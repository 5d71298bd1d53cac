-- Where a world is settled, routers know of the log of each that they reach as much as its router made. Routers that a walk joins have one graph
-- (`graph_level`), so they have one tree of each root; and each router in the tree of a root knows what its parent there knows (`climb`).
use Rattle.std.proofs.Common.{◌≡◌, ◌≤◌, ℕ, max, zero, suc, true, false, cond, List, [], ◌∷◌, ◌++◌, Option, Some, None, is_some, refl, sym, ap, ◌∙◌, subst, arith}
use Rattle.std.specs.Prelude.{◌&&◌, not}
use Rattle.std.specs.Map.{keys_of}
use Rattle.std.specs.Option.{option_map_or}
use Rattle.std.specs.Cmp.Lexicographic.{slice_cmp}
use Rattle.std.specs.Ordering.{nat_cmp}
use Rattle.std.proofs.lemmas.Bool.{false≢true, and_parts, and_from}
use Rattle.zr_id.specs.Record.{RecordState, linked_ids}
use Rattle.zr_graph.specs.Record.{ids, has, record_of, lists, has_edge, edge_weight, weight_given, weight_to, IsAscending}
use Rattle.zr_tree.specs.Walk.{Graph, IsWalk, graph_of}
use Rattle.zr_tree.specs.Tree.{tree_depth, parent, is_child}
use Rattle.zr_tree.specs.Laws.{IsGraph}
use Rattle.zr_lists.proofs.Finds.{in_filter}
use Rattle.zr_tree.proofs.Paths.{graph_is, walk_push, walk_back, walk_reaches}
use Rattle.zr_tree.proofs.Depths.{distance_depth, zero_is_root}
use Rattle.zr_tree.proofs.Branches.{parent_is, has_parent, child_from}
use Rattle.zr_lists.proofs.Same.{same}
use Rattle.zr_lists.proofs.Order.{name_order}
use Rattle.zr_log.specs.Known.{position}
use Rattle.zr_msg.specs.declared.msg.Msg.{Msg}
use Rattle.zr_msg.specs.declared.msg.Msg.TheVariants.{Sub, Unsub, Token, Untoken, Able, Unable, Interest, EndInterest, ToldSub, ToldAble, ToldUnsub, ToldToken, ToldUntoken, ToldUnable, ToldEnd, Push, Request, Response, Final, State, Step, Snap}
use Rattle.zr_world_spec.specs.World.{RouterState, WorldState, router_of, is_up, is_unbroken, is_linked, is_settled, unsettles}
use Rattle.zr_world_spec.specs.Joined.{graph}
use Rattle.zr_world_spec.specs.Sound.{IsSound}
use Rattle.zr_world_spec.proofs.Keyed.{there}
use Rattle.zr_law_settled.proofs.Spreading.{Name, own, best}
use Rattle.zr_law_settled.proofs.Worlds.{there_in, way_of, feeds_of, Holds}
use Rattle.zr_law_settled.proofs.Rest.{still, met, router_of_end, edges_are, walk_level, table_is, same_record, record_named}
use Rattle.zr_law_settled.proofs.Graphs.{id_there, name_found, is_graph}
use Rattle.zr_law_settled.proofs.Positions.{places_in}
use Rattle.zr_law_settled.proofs.Logs.{knows_logs, logs_of, log_lane, child_at, feeds_logs, LogsHold}

-- nothing of logs is under way
calm_places : (msg : Msg) → not (unsettles msg) ≡ true → places_in msg ≡ []
calm_places (Sub id key) h = refl
calm_places (Unsub id) h = refl
calm_places (Token id key) h = refl
calm_places (Untoken id) h = refl
calm_places (Able id key complete) h = refl
calm_places (Unable id) h = refl
calm_places (Interest id current future kinds key aggregate) h = refl
calm_places (EndInterest id) h = refl
calm_places (ToldSub id key interest) h = refl
calm_places (ToldToken id key interest) h = refl
calm_places (ToldAble id key complete interest) h = refl
calm_places (ToldUnsub id) h = refl
calm_places (ToldUntoken id) h = refl
calm_places (ToldUnable id) h = refl
calm_places (ToldEnd interest) h = refl
calm_places (Push tree content) h = refl
calm_places (Request tree id target content) h = refl
calm_places (Response id content) h = refl
calm_places (Final id extras) h = refl
calm_places (State links) h = refl
calm_places (Step source number added decl) h = absurd (false≢true h)
calm_places (Snap source number decls) h = absurd (false≢true h)

module _ (w : WorldState) (sound : IsSound w) (h : Holds w) (l : LogsHold w) (settled : is_settled w ≡ true) (ascend : IsAscending (keys_of w.routers)) where
  -- ---- one graph

  module _ (path : List Name) (x z : Name) (rx rz : RouterState) (fx : router_of w.routers x ≡ Some rx) (fz : router_of w.routers z ≡ Some rz) (walk : IsWalk (graph w) x path z) where
    one_record : (s : Name) → record_of rx.node.base.records s ≡ record_of rz.node.base.records s
    one_record s =
        same_record s (record_of rx.node.base.records s) (record_of rz.node.base.records s) (record_named rx.node.base.records s) (record_named rz.node.base.records s)
        (sym (table_is w sound h settled x s rx fx) ∙ walk_level w sound h settled path x z s walk ∙ table_is w sound h settled z s rz fz)

    one_ids : ids rx.node.base.records ≡ ids rz.node.base.records
    one_ids = same (slice_cmp nat_cmp) (λ y. y) name_order (ids rx.node.base.records) (ids rz.node.base.records) (h.in_order x rx fx).ascending (h.in_order z rz fz).ascending (λ s.
        name_found (ids rx.node.base.records) s
        ∙ ap (λ t. cond t (Some s) None) (id_there rx.node.base.records s ∙ ap is_some (one_record s) ∙ sym (id_there rz.node.base.records s))
        ∙ sym (name_found (ids rz.node.base.records) s))

    one_edge : (s t : Name) → has_edge rx.node.base.records s t ≡ has_edge rz.node.base.records s t
    one_edge s t =
        ap (λ (o : Option RecordState). option_map_or (λ r. has (linked_ids r.links) t) o false && lists rx.node.base.records t s) (one_record s)
        ∙ ap (λ (o : Option RecordState). lists rz.node.base.records s t && option_map_or (λ r. has (linked_ids r.links) s) o false) (one_record t)

    one_weight : (s t : Name) → edge_weight rx.node.base.records s t ≡ edge_weight rz.node.base.records s t
    one_weight s t =
        ap (λ b. cond b (max (weight_given rx.node.base.records s t) (weight_given rx.node.base.records t s)) 0) (one_edge s t)
        ∙ ap (λ (o : Option RecordState). cond (has_edge rz.node.base.records s t) (max (option_map_or (λ r. weight_to r.links t) o 0) (weight_given rx.node.base.records t s)) 0) (one_record s)
        ∙ ap (λ (o : Option RecordState). cond (has_edge rz.node.base.records s t) (max (weight_given rz.node.base.records s t) (option_map_or (λ r. weight_to r.links s) o 0)) 0) (one_record t)

    pub graph_level : graph_of rx.node.base.records ≡ graph_of rz.node.base.records
    graph_level = λ i. record { names = one_ids i; joined = λ s t. one_edge s t i; weight = λ s t. one_weight s t i }

  -- ---- up the tree of a root

  module _ (z : Name) (rz : RouterState) (fz : router_of w.routers z ≡ Some rz) where
    abbrev g : Graph
    g = graph_of rz.node.base.records

    is_g : IsGraph g
    is_g = graph_is rz.node.base.records (h.in_order z rz fz).ascending

    -- a walk over links is one over the root's edges
    over : (u : Name) (before : List Name) → IsWalk (graph w) z before u → (path : List Name) (x : Name) → IsWalk (graph w) u path x → IsWalk g u path x
    over u before b [] x e = e
    over u before b (v ∷ path) x e =
        (edges_are w sound h settled before z u v rz fz b ∙ e.0, over v (before ++ v ∷ []) (walk_push (graph w) z u v before b e.0) path x e.1)

    -- where a walk leads to the root, the router is so deep in its tree
    far : (x : Name) (path : List Name) → IsWalk (graph w) x path z → (n : ℕ) × (tree_depth g z x ≡ Some n)
    far x path walk =
        let back = walk_back (graph w) (is_graph w sound h settled ascend) x z path walk in
        let k = walk_reaches g is_g z x back.0 (over z [] refl back.0 x back.1) in
        distance_depth g z x k.0 k.2

    -- what the parent knows its child knows
    told : (x : Name) (path : List Name) → IsWalk (graph w) x path z → (p : Name) → parent g z x ≡ Some p → is_up w.ends (x, p) ≡ true → is_up w.ends (p, x) ≡ true →
        (logs_of w p z).number ≤ (logs_of w x z).number
    told x path walk p is_parent here back = omega (arith, l.spreads.told p x z feeds, empty)
      where
        rp : (r : RouterState) × (router_of w.routers p ≡ Some r)
        rp = there (router_of w.routers p) (router_of_end w sound h settled p x back)

        empty : best z (way_of places_in w.ends p x) ≡ 0
        empty = ap (best z) (still w sound h settled places_in calm_places p x)

        child : child_at (router_of w.routers p) z p x ≡ true
        child =
            ap (λ o. child_at o z p x) rp.1
            ∙ ap (λ q. is_child q z p x) (graph_level (x ∷ path) p z rp.0 rz rp.1 fz (and_from (is_up w.ends (p, x)) (is_up w.ends (x, p)) back here, walk))
            ∙ child_from g z p x is_parent

        feeds : feeds_logs w z p x ≡ true
        feeds = and_from (feeds_of w z p x) (child_at (router_of w.routers p) z p x)
            (and_from (there_in w x) (is_up w.ends (p, x) && is_unbroken w.ends (p, x)) (router_of_end w sound h settled x p here)
            (and_from (is_up w.ends (p, x)) (is_unbroken w.ends (p, x)) back (met w sound h settled p x back).0)) child

    -- a parent is linked, and one less deep
    nearer : (m : ℕ) (x : Name) (path : List Name) → IsWalk (graph w) x path z → tree_depth g z x ≡ Some (suc m) →
        (p : Name) × (parent g z x ≡ Some p) × (tree_depth g z p ≡ Some m) × (is_up w.ends (x, p) ≡ true) × (is_up w.ends (p, x) ≡ true)
    nearer m x path walk d =
        let found = has_parent g z x m d in
        let is = parent_is g z x found.0 found.1 in
        let same_n : Some (suc m) ≡ Some (suc is.0) = sym d ∙ is.1.to_child in
        let succ : suc m ≡ suc is.0 = cc in
        let m_is : is.0 ≡ m = omega (arith, succ) in
        let back = walk_back (graph w) (is_graph w sound h settled ascend) x z path walk in
        let linked : is_linked w.ends x found.0 ≡ true =
        sym (edges_are w sound h settled back.0 z x found.0 rz fz back.1) ∙ (in_filter (λ q. has_edge rz.node.base.records x q) (ids rz.node.base.records) found.0 is.1.neighbour).1 in
        let ups = and_parts (is_up w.ends (x, found.0)) (is_up w.ends (found.0, x)) linked in
        (found.0, found.1, subst (λ k. tree_depth g z found.0 ≡ Some k) m_is is.1.from_parent, ups.0, ups.1)

    climb : (n : ℕ) (x : Name) (path : List Name) → IsWalk (graph w) x path z → tree_depth g z x ≡ Some n → (logs_of w x z).number ≡ own (log_lane w) z
    climb zero x path walk d = ap (λ q. (logs_of w q z).number) (sym (zero_is_root g z x d))
    climb (suc m) x path walk d =
        let p = nearer m x path walk d in
        omega (
          arith,
          climb m p.0 (x ∷ path) (and_from (is_up w.ends (p.0, x)) (is_up w.ends (x, p.0)) p.4 p.3, walk) p.2,
          told x path walk p.0 p.1 p.3 p.4,
          (l.spreads.fits x z).0,
        )

    pub known_whole : (x : Name) (path : List Name) (rx : RouterState) → router_of w.routers x ≡ Some rx → IsWalk (graph w) x path z → position rx.node.known z ≡ position rz.node.known z
    known_whole x path rx fx walk =
        let n = far x path walk in
        sym (ap (λ o. (knows_logs o z).number) fx) ∙ climb n.0 x path walk n.1 ∙ ap (λ o. (knows_logs o z).number) fz
