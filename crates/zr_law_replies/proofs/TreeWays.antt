-- The clients at the ends of a query's tree are those that the query asks: a chain of nodes leads to each, and nobody else is there (`is_tree_of`).
use Rattle.std.proofs.Common.{◌≡◌, ℕ, zero, suc, Bool, true, false, List, [], ◌∷◌, Some, inl, inr, unwrap_or, refl, sym, ap, ◌∙◌, subst}
use Rattle.std.specs.Prelude.{◌==◌, ◌&&◌, not, is_some}
use Rattle.std.specs.List.{list_any}
use Rattle.std.proofs.lemmas.Bool.{false≢true, true≢false, and_parts, and_from, not-true, or_left, or_right, or_parts, or_from, eqb-true}
use Rattle.zr_id.specs.Zid.{is_named}
use Rattle.zr_tree.specs.Walk.{Graph}
use Rattle.zr_tree.specs.Tree.{tree_depth, reached, parent, below, toward}
use Rattle.zr_tree.proofs.Depths.{reached_depth, zero_is_root}
use Rattle.zr_tree.proofs.Branches.{has_parent, parent_is, below_itself, below_parent, below_trans}
use Rattle.zr_msg.specs.declared.peer.LinkPeer.{LinkPeer}
use Rattle.zr_log.specs.Known.{decls}
use Rattle.zr_node_spec.specs.Tables.{link_at, link_to}
use Rattle.zr_node_spec.specs.Samples.{tree_of}
use Rattle.zr_node_spec.specs.Queries.{answers}
use Rattle.zr_node_spec.specs.State.{tables}
use Rattle.zr_world_spec.specs.World.{RouterState, ClientState, WorldState, router_of, client_of, end_of, is_up}
use Rattle.zr_world_spec.specs.Joined.{graph}
use Rattle.zr_world_spec.specs.Moments.{Numbered, Moment}
use Rattle.zr_world_spec.proofs.Keyed.{there}
use Rattle.zr_world_spec.proofs.Names.{names, same_name}
use Rattle.zr_world_spec.proofs.Links.{named_link, numbered_link}
use Rattle.zr_world_spec.proofs.Fits.{up_is_there}
use Rattle.zr_guarantee.specs.Item.{Carried, Query}
use Rattle.zr_guarantee.specs.Broker.{is_attached, takes}
use Rattle.zr_guarantee.specs.Queries.{Asked, asks}
use Rattle.zr_law_queries.specs.Query as tree
use Rattle.zr_law_queries.specs.Courses.{Chain}
use Rattle.zr_law_samples.proofs.Ways.{next_below}
use Rattle.zr_law_samples.proofs.Pushes.{takes_it, leads_there}
use Rattle.zr_law_samples.proofs.Asking.{set_asks}
use Rattle.zr_law_samples.proofs.Routed.{AreReady}
use Rattle.zr_law_samples.proofs.Start.{Marked, ready, detached, who_is_attached}
use Rattle.zr_law_replies.specs.Trees.{has_router, home_of, parent_of, named_at, passes_at, tree_at, IsTreeOf}
use Rattle.zr_law_replies.proofs.Trees.{asked_client, asked_router, IsPassed, home_there, client_apart, differ, parent_linked, parent_there, asks_home, asks_router, in_own_tree, in_parent_tree, home_child, child_cases, child_router, link_up, passed_client, is_tree}

module _ (before : List Numbered) (mark : ℕ) (now : Moment) (m : Marked before mark now) (q : Asked) (s : ClientState) (e : client_of now.world.clients q.client ≡ Some s) where
  abbrev w : WorldState
  w = now.world

  abbrev h : AreReady before now.world
  h = ready before mark now m

  abbrev t : tree.Tree (List ℕ)
  t = tree_at now.world q

  abbrev home : List ℕ
  home = home_of now.world q.client

  abbrev query : Carried
  query = Query q.target q.content

  -- ---- who is at an end is asked

  attached_of : (d x : List ℕ) → has_router w d ≡ false → is_up w.ends (x, d) ≡ true → is_attached before d ≡ true
  attached_of d x none up = by (is_attached before d) refl
    where
      by : (b : Bool) → is_attached before d ≡ b → b ≡ true
      by true k = refl
      by false k = absurd (false≢true (sym (detached before mark now m d none k x) ∙ up))

  module _ (x d : List ℕ) (k : tree.is_child t x d ≡ true) (ends : passes_at w q.client d ≡ false) where
    apart : is_named q.client d ≡ false
    apart = (or_parts (is_named q.client d) (has_router w d) ends).0

    none : has_router w d ≡ false
    none = (or_parts (is_named q.client d) (has_router w d) ends).1

    passed_asked : IsPassed w q x d → asks before q d ≡ true
    passed_asked p = and_from (not (is_named q.client d)) (is_attached before d && takes before d query) (ap not apart) (and_from (is_attached before d) (takes before d query) attached took)
      where
        up : is_up w.ends (x, d) ≡ true
        up = link_up before w h q s e x d p

        attached : is_attached before d ≡ true
        attached = attached_of d x none up

        sd : (z : ClientState) × (client_of w.clients d ≡ Some z)
        sd = who_is_attached before mark now m d attached

        at_home : sd.0.router ≡ x
        at_home = sym (h.homes d x sd.0 sd.1 (up_is_there (end_of w.ends (x, d)) up))

        took : takes before d query ≡ true
        took = sym (h.asked d sd.0 p.router p.link sd.1 attached (ap (router_of w.routers) at_home ∙ p.at) p.to query)
            ∙ (and_parts (not (p.link.link.0 == p.source.link.0)) (answers p.router.node.rows p.link.link.0 q.target q.content.key) (passed_client before w h q s e x d p none)).1

    pub is_asked_there : asks before q d ≡ true
    is_asked_there = elim (child_cases before w h q s e x d k) [
      | inl i ↦ absurd (true≢false (sym (home_there before w h q s e) ∙ ap (has_router w) (sym i.1) ∙ none))
      | inr p ↦ passed_asked p
    ]

  -- ---- the link over which a request comes to a router, and its tree

  module _ (up : is_up now.world.ends (home_of now.world q.client, q.client) ≡ true) where
    pub record Comes (x : List ℕ) (r : RouterState) : Type 0 where
      pub source : LinkPeer
      pub from : link_to r.node.links (parent_of now.world q.client x) ≡ Some source
      pub tree : tree_of (tables r.node) (link_at r.node.links source.link.0) (named_at now.world q.client x) ≡ Some (home_of now.world q.client)
      pub passes : passes_at now.world q.client (parent_of now.world q.client x) ≡ true

    pub comes : (x : List ℕ) (r : RouterState) → router_of w.routers x ≡ Some r → Comes x r
    comes x r er = by (is_named (home_of w q.client) x) refl
      where
        x_there : has_router w x ≡ true
        x_there = ap is_some er

        linked : (y : List ℕ) → is_up w.ends (x, y) ≡ true → (j : LinkPeer) × (link_to r.node.links y ≡ Some j)
        linked y u = there (link_to r.node.links y) (h.sound.links x y r er ∙ u)

        by : (b : Bool) → is_named (home_of w q.client) x ≡ b → Comes x r
        by true same =
            let is : home_of w q.client ≡ x = same_name (home_of w q.client) x same in
            let asker : parent_of w q.client x ≡ q.client = ap (parent_of w q.client) (sym is) ∙ asks_home before w h q s e in
            let j = linked (parent_of w q.client x) (ap (λ z. is_up w.ends (z, parent_of w q.client x)) (sym is) ∙ ap (λ z. is_up w.ends (home_of w q.client, z)) asker ∙ up) in
            record {
              source = j.0;
              from = j.1;
              tree = in_own_tree before w h q s e x r er j.0 j.1 same;
              passes = ap (passes_at w q.client) asker ∙ or_left (is_named q.client q.client) (has_router w q.client) (names.refl q.client);
            }
        by false other = by_far far.0 far.1
          where
            far : (n : ℕ) × (tree_depth (graph w) (home_of w q.client) x ≡ Some n)
            far = there (tree_depth (graph w) (home_of w q.client) x)
                (sym (reached_depth (graph w) (home_of w q.client) x) ∙ h.reaches (home_of w q.client) x (home_there before w h q s e) x_there)

            by_far : (n : ℕ) → tree_depth (graph w) (home_of w q.client) x ≡ Some n → Comes x r
            by_far zero d = absurd (true≢false (sym (names.refl (home_of w q.client)) ∙ ap (is_named (home_of w q.client)) (zero_is_root (graph w) (home_of w q.client) x d) ∙ other))
            by_far (suc n) d =
                let p = has_parent (graph w) (home_of w q.client) x n d in
                let asker : parent_of w q.client x ≡ p.0 = asks_router before w h q s e x x_there other ∙ ap (λ o. unwrap_or o x) p.1 in
                let j = linked (parent_of w q.client x) (ap (λ z. is_up w.ends (x, z)) asker ∙ (parent_linked before w h q s e x p.0 p.1).0) in
                record {
                  source = j.0;
                  from = j.1;
                  tree = in_parent_tree before w h q s e x r er j.0 j.1 other p.0 p.1;
                  passes = ap (passes_at w q.client) asker ∙ or_right (is_named q.client p.0) (has_router w p.0) (parent_there before w h q s e x p.0 p.1);
                }

    -- ---- a chain to each that is asked

    module _ (d : List ℕ) (sd : ClientState) (ed : client_of now.world.clients d ≡ Some sd) (asked : asks before q d ≡ true) where
      other : is_named q.client d ≡ false
      other = not-true (is_named q.client d) (and_parts (not (is_named q.client d)) (is_attached before d && takes before d query) asked).0

      attached : is_attached before d ≡ true
      attached = (and_parts (is_attached before d) (takes before d query) (and_parts (not (is_named q.client d)) (is_attached before d && takes before d query) asked).1).0

      took : takes before d query ≡ true
      took = (and_parts (is_attached before d) (takes before d query) (and_parts (not (is_named q.client d)) (is_attached before d && takes before d query) asked).1).1

      pub passes_not : passes_at w q.client d ≡ false
      passes_not = or_from (is_named q.client d) (has_router w d) other (h.apart d (ap is_some ed))

      dest_there : has_router w sd.router ≡ true
      dest_there = h.sound.routers sd.router d (h.sound.clients d sd ed)

      dest : (r : RouterState) × (router_of w.routers sd.router ≡ Some r)
      dest = there (router_of w.routers sd.router) dest_there

      link : (k : LinkPeer) × (link_to dest.0.node.links d ≡ Some k)
      link = there (link_to dest.0.node.links d) (h.sound.links sd.router d dest.0 dest.1 ∙ h.linked d sd ed attached)

      rows_ask : answers dest.0.node.rows link.0.link.0 q.target q.content.key ≡ true
      rows_ask = h.asked d sd dest.0 link.0 ed attached dest.1 link.1 query ∙ took

      -- its own router passes the query on to it
      last_child : tree.is_child t sd.router d ≡ true
      last_child = child_router before w h q s e sd.router d (differ before w h q s e q.client sd.router (client_apart before w h q s e) dest_there) dest.0 dest.1 c.source c.from c.tree link.0 link.1
          (asked_client (tables dest.0.node) c.source.link.0 (home_of w q.client) q.target q.content.key link.0 link.0.peer.role (h.sound.roles sd.router d dest.0 link.0 dest.1 link.1 ∙ h.apart d (ap is_some ed))
          ∙ and_from (not (link.0.link.0 == c.source.link.0)) (answers dest.0.node.rows link.0.link.0 q.target q.content.key) (ap not (apart_links (link.0.link.0 == c.source.link.0) refl)) rows_ask)
        where
          c : Comes sd.router dest.0
          c = comes sd.router dest.0 dest.1

          apart_links : (b : Bool) → (link.0.link.0 == c.source.link.0) ≡ b → b ≡ false
          apart_links false k = refl
          apart_links true k =
              let unique = h.sound.unique sd.router dest.0 dest.1 in
              let both : Some link.0 ≡ Some c.source = sym (numbered_link dest.0.node.links unique d link.0 link.1) ∙ ap (link_at dest.0.node.links) (eqb-true link.0.link.0 c.source.link.0 k)
              ∙ numbered_link dest.0.node.links unique (parent_of w q.client sd.router) c.source c.from in
              let one : link.0 ≡ c.source = cc in
              let is : d ≡ parent_of w q.client sd.router = sym (named_link dest.0.node.links d link.0 link.1) ∙ ap (λ (z : LinkPeer). z.peer.id) one
              ∙ named_link dest.0.node.links (parent_of w q.client sd.router) c.source c.from in
              absurd (true≢false (sym c.passes ∙ ap (passes_at w q.client) (sym is) ∙ passes_not))

      -- what it takes all routers know that its router's clients do
      known : (x : List ℕ) (r : RouterState) → router_of w.routers x ≡ Some r → list_any (λ z. takes_it query z) (decls r.node.known sd.router) ≡ true
      known x r er = ap (list_any (λ z. takes_it query z)) (h.logs x sd.router r dest.0 er dest.1) ∙ set_asks (takes_it query) dest.0.node.rows link.0.link.0 rows_ask

      far : (n : ℕ) × (tree_depth (graph w) (home_of w q.client) sd.router ≡ Some n)
      far = there (tree_depth (graph w) (home_of w q.client) sd.router)
          (sym (reached_depth (graph w) (home_of w q.client) sd.router) ∙ h.reaches (home_of w q.client) sd.router (home_there before w h q s e) dest_there)

      -- the next router toward it is a child
      next_child : (x p : List ℕ) → parent (graph w) (home_of w q.client) x ≡ Some p → below (graph w) (home_of w q.client) x sd.router ≡ true → tree.is_child t p x ≡ true
      next_child x p ep b = child_router before w h q s e p x (differ before w h q s e q.client p (client_apart before w h q s e) p_there) r.0 r.1 c.source c.from c.tree k.0 k.1
          (asked_router (tables r.0.node) c.source.link.0 (home_of w q.client) q.target q.content.key k.0 k.0.peer.role (h.sound.roles p x r.0 k.0 r.1 k.1 ∙ x_there)
          ∙ leads_there (tables r.0.node) (home_of w q.client) query sd.router k.0.peer.id (known p r.0 r.1)
          (ap (λ (z : Graph). reached z r.0.node.base.me sd.router) (h.graphs p r.0 r.1) ∙ ap (λ z. reached (graph w) z sd.router) (h.sound.own p r.0 r.1) ∙ h.reaches p sd.router p_there dest_there)
          (ap (λ (z : Graph). toward z (home_of w q.client) r.0.node.base.me sd.router) (h.graphs p r.0 r.1) ∙ ap (λ z. toward (graph w) (home_of w q.client) z sd.router) (h.sound.own p r.0 r.1)
          ∙ next_below (graph w) h.is_graph (home_of w q.client) sd.router far.0 far.1 x p ep b ∙ ap Some (sym (named_link r.0.node.links x k.0 k.1))))
        where
          ups : (is_up w.ends (x, p) ≡ true) × (is_up w.ends (p, x) ≡ true)
          ups = parent_linked before w h q s e x p ep

          p_there : has_router w p ≡ true
          p_there = parent_there before w h q s e x p ep

          x_there : has_router w x ≡ true
          x_there = h.sound.routers x p (up_is_there (end_of w.ends (x, p)) ups.0)

          r : (r : RouterState) × (router_of w.routers p ≡ Some r)
          r = there (router_of w.routers p) p_there

          c : Comes p r.0
          c = comes p r.0 r.1

          k : (k : LinkPeer) × (link_to r.0.node.links x ≡ Some k)
          k = there (link_to r.0.node.links x) (h.sound.links p x r.0 r.1 ∙ ups.1)

      from_home : (n : ℕ) (x : List ℕ) (ys : List (List ℕ)) → tree_depth (graph w) (home_of w q.client) x ≡ Some n → below (graph w) (home_of w q.client) x sd.router ≡ true → Chain t x ys d →
          (zs : List (List ℕ)) × Chain t (home_of w q.client) zs d
      from_home zero x ys dx b c = (ys, subst (λ (z : List ℕ). Chain t z ys d) (sym (zero_is_root (graph w) (home_of w q.client) x dx)) c)
      from_home (suc n) x ys dx b c =
          let p = has_parent (graph w) (home_of w q.client) x n dx in
          let f = parent_is (graph w) (home_of w q.client) x p.0 p.1 in
          let both : Some (suc f.0) ≡ Some (suc n) = sym f.1.to_child ∙ dx in
          let same : f.0 ≡ n = cc in
          from_home n p.0 (x ∷ ys) (f.1.from_parent ∙ ap Some same)
          (below_trans (graph w) (home_of w q.client) far.0 p.0 x sd.router far.1 (below_parent (graph w) (home_of w q.client) p.0 x p.0 p.1 (below_itself (graph w) (home_of w q.client) p.0)) b)
          (next_child x p.0 p.1 b, c)

      pub chain : (ys : List (List ℕ)) × Chain t q.client ys d
      chain =
          let c = from_home far.0 sd.router (d ∷ []) far.1 (below_itself (graph w) (home_of w q.client) sd.router) (last_child, refl) in
          (home_of w q.client ∷ c.0, (home_child before w h q s e, c.1))

    pub is_tree_of : IsTreeOf before now.world q
    is_tree_of = record {
      is_tree = is_tree before w h q s e;
      asked = λ x d k ends. is_asked_there x d k ends;
      passes = λ d asked. let sd = who_is_attached before mark now m d (attached_too d asked) in passes_not d sd.0 sd.1 asked;
      way = λ d asked. let sd = who_is_attached before mark now m d (attached_too d asked) in chain d sd.0 sd.1 asked;
    }
      where
        attached_too : (d : List ℕ) → asks before q d ≡ true → is_attached before d ≡ true
        attached_too d asked = (and_parts (is_attached before d) (takes before d query) (and_parts (not (is_named q.client d)) (is_attached before d && takes before d query) asked).1).0
