-- The world of a run is settled just where the run is, and its routers are joined just where those of the run are (`settled_are`, `joined_are`).
use Rattle.std.proofs.Common.{◌≡◌, ℕ, Bool, true, false, cond, not, List, [], ◌∷◌, ◌++◌, map, Option, Some, None, refl, sym, ap, ◌∙◌}
use Rattle.std.specs.Prelude.{◌&&◌, ◌||◌, is_some}
use Rattle.std.specs.List.{list_all}
use Rattle.std.specs.Map.{lookup, keys_of}
use Rattle.std.specs.Option.{option_map_or}
use Rattle.std.proofs.lemmas.Bool.{and_parts, and_from, or_left, or_right}
use Rattle.zr_id.specs.Zid.{is_named}
use Rattle.zr_graph.specs.Record.{IsAscending}
use Rattle.zr_tree.specs.Walk.{IsWalk, graph_of}
use Rattle.zr_tree.specs.Tree.{dist, reached}
use Rattle.zr_tree.specs.Laws.{IsGraph}
use Rattle.zr_tree.proofs.Paths.{graph_is, walk_push, walk_reaches, dist_walk}
use Rattle.zr_told_spec.specs.Hub.{HubState}
use Rattle.zr_node_spec.specs.Tables.{link_to}
use Rattle.zr_world_spec.specs.World.{Tagged, RouterState, EndState, End, WorldState, router_of, end_of, turned, is_up, is_calm, is_calm_end, is_met, is_settled, wire_at}
use Rattle.zr_world_spec.specs.Joined.{graph, is_joined}
use Rattle.zr_world_spec.specs.Moments.{Numbered, Moment, reached as led}
use Rattle.zr_world_spec.specs.Sound.{IsSound}
use Rattle.zr_world_spec.proofs.Ends.{end_passes, all_ends_pass}
use Rattle.zr_world_spec.proofs.Keyed.{there}
use Rattle.zr_world_spec.proofs.Lines.{at_some}
use Rattle.zr_world_spec.proofs.Names.{names}
use Rattle.zr_law_settled.proofs.Worlds.{Holds}
use Rattle.zr_law_settled.proofs.Keeping.{Stands, moments_hold}
use Rattle.zr_law_settled.proofs.Rest.{met, edges_are}
use Rattle.zr_law_settled.proofs.Graphs.{is_graph, walk_to, graph_is_one}
use Rattle.zr_law_settled.proofs.Order.{Ascend, routers_ascend}
use Rattle.zr_law_running.specs.Runs.{Heard}
use Rattle.zr_law_running.specs.Allowed.{is_among}
use Rattle.zr_law_running.specs.Laws.{queue_at, IsMomentOf}
use Rattle.zr_law_joined.specs.Settled.{links_to, leaves_known, AreSettled, AreJoined}
use Rattle.zr_law_joined.specs.Laws.{Alike}

-- what each name passes that is found, all keys pass
all_keys : {X : Type 0} (p : List ℕ → Bool) (es : List (List ℕ × X)) → ((x : List ℕ) → is_some (lookup (is_named x) es) ≡ true → p x ≡ true) → list_all p (keys_of es) ≡ true
all_keys p [] each = refl
all_keys p (e ∷ es) each = and_from (p e.0) (list_all p (keys_of es))
    (each e.0 (ap (λ b. is_some (cond b (Some e.1) (lookup (is_named e.0) es))) (names.refl e.0)))
    (all_keys p es (λ x h. each x (by x (is_named x e.0) h)))
  where
    by : (x : List ℕ) (b : Bool) → is_some (lookup (is_named x) es) ≡ true → is_some (cond b (Some e.1) (lookup (is_named x) es)) ≡ true
    by x true h = refl
    by x false h = h

-- messages that wait with their tags
calm_messages : (ts : List Tagged) → list_all is_calm ts ≡ list_all leaves_known (map (λ t. t.msg) ts)
calm_messages [] = refl
calm_messages (t ∷ ts) = ap (λ z. leaves_known t.msg && z) (calm_messages ts)

module _ (ids : List (List ℕ)) (run : List Heard) (m : Moment) (sound : IsSound m.world) (h : IsMomentOf ids run m) where
  abbrev w : WorldState
  w = m.world

  -- routers of the world are those of the run, and have the same links up
  among_is : (x : List ℕ) → is_some (router_of w.routers x) ≡ is_among ids x
  among_is x = by (is_among ids x) refl
    where
      by : (b : Bool) → is_among ids x ≡ b → is_some (router_of w.routers x) ≡ is_among ids x
      by true i = ap is_some (h.routers x i).1 ∙ sym i
      by false i = ap is_some (h.no_other x i) ∙ sym i

  up_is : (x y : List ℕ) → is_among ids x ≡ true → is_up w.ends (x, y) ≡ links_to run x y
  up_is x y i =
      let r = h.routers x i in
      sym (sound.links x y r.0 r.1) ∙ ap (λ (g : HubState). is_some (link_to g.node.links y)) r.2

  -- ---- settled

  module _ (a : AreSettled ids run) (q : End) (e : EndState) (at : end_of w.ends q ≡ Some e) where
    here : is_among ids q.0 ≡ true
    here = sym (among_is q.0) ∙ sound.routers q.0 q.1 (ap is_some at)

    calm_end : is_calm_end e ≡ true
    calm_end = and_from (list_all is_calm e.wire) (list_all is_calm e.queue) (ap (list_all is_calm) (ap wire_at (sym at) ∙ h.wires q.0 q.1))
        (calm_messages e.queue ∙ ap (list_all leaves_known) (ap queue_at (sym at) ∙ h.queues q.0 q.1) ∙ a.calm q.0 q.1 here)

    met_end : is_met w q e ≡ true
    met_end = by e.up refl
      where
        back : links_to run q.0 q.1 ≡ true → (b : Bool) → is_among ids q.1 ≡ b → (not (is_some (router_of w.routers q.1)) || is_up w.ends (turned q)) ≡ true
        back linked true i = or_right (not (is_some (router_of w.routers q.1))) (is_up w.ends (turned q)) (up_is q.1 q.0 i ∙ (a.met q.0 q.1 here linked).1 i)
        back linked false i = or_left (not (is_some (router_of w.routers q.1))) (is_up w.ends (turned q)) (ap not (among_is q.1 ∙ i))

        by : (u : Bool) → e.up ≡ u → (not u || (e.unbroken && (not (is_some (router_of w.routers q.1)) || is_up w.ends (turned q)))) ≡ true
        by false k = refl
        by true k =
            let linked : links_to run q.0 q.1 ≡ true = sym (up_is q.0 q.1 here) ∙ ap (λ o. option_map_or (λ z. z.up) o false) at ∙ k in
            and_from e.unbroken (not (is_some (router_of w.routers q.1)) || is_up w.ends (turned q))
            (ap (λ o. option_map_or (λ z. z.unbroken) o false) (sym at) ∙ h.links q.0 q.1 ∙ (a.met q.0 q.1 here linked).0) (back linked (is_among ids q.1) refl)

  settled_then : AreSettled ids run → is_settled w ≡ true
  settled_then a = all_ends_pass (λ x. is_met w x.0 x.1 && is_calm_end x.1) w.ends sound.in_order
      (λ q e at. and_from (is_met w q e) (is_calm_end e) (met_end a q e at) (calm_end a q e at))

  module _ (holds : Holds w) (settled : is_settled w ≡ true) where
    settled_back : AreSettled ids run
    settled_back = record {
      met = λ x y i linked.
          let both = met w sound holds settled x y (up_is x y i ∙ linked) in
          (sym (h.links x y) ∙ both.0, λ j. sym (up_is y x j) ∙ both.1 (among_is y ∙ j));
      calm = λ x y i. ap (list_all leaves_known) (sym (h.queues x y)) ∙ by (x, y) (end_of w.ends (x, y)) refl;
    }
      where
        by : (q : End) (o : Option EndState) → end_of w.ends q ≡ o → list_all leaves_known (queue_at (end_of w.ends q)) ≡ true
        by q None at = ap (λ o. list_all leaves_known (queue_at o)) at
        by q (Some e) at =
            ap (λ o. list_all leaves_known (queue_at o)) at ∙ sym (calm_messages e.queue)
            ∙ (and_parts (list_all is_calm e.wire) (list_all is_calm e.queue)
            (and_parts (is_met w q e) (is_calm_end e) (end_passes (λ x. is_met w x.0 x.1 && is_calm_end x.1) w.ends q e settled at)).1).1

    -- ---- joined

    module _ (ascend : IsAscending (keys_of w.routers)) where
      its_graph : IsGraph (graph w)
      its_graph = is_graph w sound holds settled ascend

      reaches : (x z : List ℕ) (path : List (List ℕ)) → IsWalk (graph w) x path z → reached (graph w) x z ≡ true
      reaches x z path walk = ap is_some (walk_reaches (graph w) its_graph x z path walk).2

      joined_back : is_joined w ≡ true → AreJoined ids run
      joined_back joined x y i j =
          let r = h.routers x i in
          let walk = walk_to w sound holds settled joined ascend x y (among_is x ∙ i) (among_is y ∙ j) in
          ap (λ (g : HubState). reached (graph_of g.node.base.records) x y) (sym r.2)
          ∙ ap (λ g. reached g x y) (graph_is_one w sound holds settled joined ascend x r.0 r.1) ∙ reaches x y walk.0 walk.1

      -- a walk by the records of the router x, from where links have led to, is one over links
      along : (x z : List ℕ) (r : RouterState) → router_of w.routers x ≡ Some r → (path before : List (List ℕ)) (y : List ℕ) → IsWalk (graph w) x before y →
          IsWalk (graph_of r.node.base.records) y path z → IsWalk (graph w) y path z
      along x z r found [] before y came walk = walk
      along x z r found (v ∷ path) before y came walk =
          let edge = sym (edges_are w sound holds settled before x y v r found came) ∙ walk.0 in
          (edge, along x z r found path (before ++ v ∷ []) v (walk_push (graph w) x y v before came edge) walk.1)

      joined_then : AreJoined ids run → is_joined w ≡ true
      joined_then a = all_keys (λ x. list_all (λ y. reached (graph w) x y) (keys_of w.routers)) w.routers
          (λ x i. all_keys (λ y. reached (graph w) x y) w.routers (λ y j. to x y (sym (among_is x) ∙ i) (sym (among_is y) ∙ j)))
        where
          to : (x y : List ℕ) → is_among ids x ≡ true → is_among ids y ≡ true → reached (graph w) x y ≡ true
          to x y i j =
              let r = h.routers x i in
              let own : reached (graph_of r.0.node.base.records) x y ≡ true = ap (λ (g : HubState). reached (graph_of g.node.base.records) x y) r.2 ∙ a x y i j in
              let d = there (dist (graph_of r.0.node.base.records) x y) own in
              let walk = dist_walk (graph_of r.0.node.base.records) (graph_is r.0.node.base.records (holds.in_order x r.0 r.1).ascending) x y d.0 d.1 in
              reaches x y walk.0 (along x y r.0 r.1 walk.0 [] x refl walk.1)

module _ (ids : List (List ℕ)) (run : List Heard) (m : Moment) (h : IsMomentOf ids run m) (acts : List Numbered) (is : led acts ≡ Some m) where
  stands : Stands m
  stands = at_some Stands (led acts) m is (moments_hold acts)

  pub settled_are : Alike (AreSettled ids run) (is_settled m.world ≡ true)
  settled_are = (λ a. settled_then ids run m stands.sound h a, λ settled. settled_back ids run m stands.sound h stands.holds settled)

  pub joined_are : is_settled m.world ≡ true → Alike (AreJoined ids run) (is_joined m.world ≡ true)
  joined_are settled =
      let ascend = at_some Ascend (led acts) m is (routers_ascend acts) in
      (λ a. joined_then ids run m stands.sound h stands.holds settled ascend a, λ joined. joined_back ids run m stands.sound h stands.holds settled ascend joined)
