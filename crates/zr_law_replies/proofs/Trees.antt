-- The tree of a query is one, where a mark is accepted: what each child of a node is, and that its parent is that node (`is_tree`).
use Rattle.std.proofs.Common.{◌≡◌, ◌≤◌, ℕ, ◌-◌, ◌<◌, suc, Bool, true, false, cond, List, [], ◌∷◌, Option, Some, None, ◌⊎◌, inl, inr, length, unwrap_or, refl, sym, ap, ◌∙◌, arith}
use Rattle.std.specs.Prelude.{◌==◌, ◌&&◌, ◌||◌, not, is_some}
use Rattle.std.specs.List.{list_any}
use Rattle.std.specs.Option.{option_map_or}
use Rattle.std.proofs.lemmas.Bool.{false≢true, true≢false, and_parts, eq-eqb}
use Rattle.zr_id.specs.Zid.{is_named}
use Rattle.zr_tree.specs.Walk.{Graph}
use Rattle.zr_tree.specs.Tree.{tree_depth, parent, is_child}
use Rattle.zr_tree.proofs.Depths.{depth_bounded, reached_depth, root_depth}
use Rattle.zr_lists.proofs.Finds.{in_filter}
use Rattle.zr_tree.proofs.Branches.{parent_is, child_is}
use Rattle.zr_msg.specs.declared.msg.Target.{Target}
use Rattle.zr_msg.specs.declared.peer.LinkPeer.{LinkPeer}
use Rattle.zr_msg.specs.declared.peer.Role.{Role}
use Rattle.zr_msg.specs.declared.peer.Role.TheVariants.{Client, Router}
use Rattle.zr_node_spec.specs.Tables.{TableState, is_router, link_at, link_to}
use Rattle.zr_node_spec.specs.Samples.{tree_by, tree_of}
use Rattle.zr_node_spec.specs.Queries.{answers, has_queryable, leads_to_queryable, is_asked, links_along}
use Rattle.zr_node_spec.specs.State.{tables}
use Rattle.zr_world_spec.specs.World.{RouterState, ClientState, WorldState, router_of, client_of, end_of, is_up, is_linked}
use Rattle.zr_world_spec.specs.Joined.{graph}
use Rattle.zr_world_spec.specs.Moments.{Numbered}
use Rattle.zr_world_spec.proofs.Keyed.{there}
use Rattle.zr_world_spec.proofs.Names.{names, same_name}
use Rattle.zr_world_spec.proofs.Links.{named_link, numbered_link}
use Rattle.zr_world_spec.proofs.Fits.{up_is_there}
use Rattle.zr_guarantee.specs.Queries.{Asked}
use Rattle.zr_law_queries.specs.Query as tree
use Rattle.zr_law_queries.specs.Query.{IsTree}
use Rattle.zr_law_samples.proofs.Ways.{root_no_child}
use Rattle.zr_law_samples.proofs.Pushes.{tree_from_client, tree_from_parent, leads_to_child}
use Rattle.zr_law_samples.proofs.Routed.{AreReady}
use Rattle.zr_law_replies.specs.Trees.{has_router, home_of, parent_of, named_at, passes_at, height_at, links_from, neighbours_of, children_at, tree_at}
use Rattle.zr_law_replies.proofs.TreeLinks.{neighbour_link, link_neighbour}

-- whether a request goes over a link to a client, and over one to a router
module _ (t : TableState) (from : ℕ) (root : List ℕ) (target : Target) (key : List ℕ) (l : LinkPeer) where
  pub asked_client : (role : Role) → is_router role ≡ false → is_asked t from root target key l role ≡ (not (l.link.0 == from) && answers t.rows l.link.0 target key)
  asked_client Client h = refl
  asked_client Router h = absurd (false≢true (sym h))

  pub asked_router : (role : Role) → is_router role ≡ true → is_asked t from root target key l role ≡ leads_to_queryable t root target key l.peer.id
  asked_router Client h = absurd (false≢true h)
  asked_router Router h = refl

-- a router x passes a query on to y
pub record IsPassed (w : WorldState) (q : Asked) (x y : List ℕ) : Type 0 where
  pub router : RouterState
  pub at : router_of w.routers x ≡ Some router
  -- the link over which the request comes, and the one over which it goes
  pub source : LinkPeer
  pub from : link_to router.node.links (parent_of w q.client x) ≡ Some source
  pub link : LinkPeer
  pub to : link_to router.node.links y ≡ Some link
  pub goes : is_asked (tables router.node) source.link.0 (home_of w q.client) q.target q.content.key link link.peer.role ≡ true

module _ (before : List Numbered) (w : WorldState) (h : AreReady before w) (q : Asked) (s : ClientState) (e : client_of w.clients q.client ≡ Some s) where
  abbrev home : List ℕ
  home = home_of w q.client

  abbrev g : Graph
  g = graph w

  pub home_is : home_of w q.client ≡ s.router
  home_is = ap (λ o. option_map_or (λ (z : ClientState). z.router) o []) e

  pub home_there : has_router w (home_of w q.client) ≡ true
  home_there = ap (has_router w) home_is ∙ h.sound.routers s.router q.client (h.sound.clients q.client s e)

  pub client_apart : has_router w q.client ≡ false
  client_apart = h.apart q.client (ap is_some e)

  -- two names of which one is a router's
  pub differ : (x y : List ℕ) → has_router w x ≡ false → has_router w y ≡ true → is_named x y ≡ false
  differ x y a b = by (is_named x y) refl
    where
      by : (t : Bool) → is_named x y ≡ t → t ≡ false
      by false k = refl
      by true k = absurd (false≢true (sym a ∙ ap (has_router w) (same_name x y k) ∙ b))

  -- a router's parent is a router, and they have a link
  pub parent_linked : (x p : List ℕ) → parent (graph w) (home_of w q.client) x ≡ Some p → (is_up w.ends (x, p) ≡ true) × (is_up w.ends (p, x) ≡ true)
  parent_linked x p k =
      let f = parent_is (graph w) (home_of w q.client) x p k in
      and_parts (is_up w.ends (x, p)) (is_up w.ends (p, x)) (in_filter (λ z. is_linked w.ends x z) (graph w).names p f.1.neighbour).1

  pub parent_there : (x p : List ℕ) → parent (graph w) (home_of w q.client) x ≡ Some p → has_router w p ≡ true
  parent_there x p k = h.sound.routers p x (up_is_there (end_of w.ends (p, x)) (parent_linked x p k).1)

  -- ---- who asks

  pub asks_client : parent_of w q.client q.client ≡ q.client
  asks_client = rw (names.refl q.client) refl

  pub asks_home : parent_of w q.client (home_of w q.client) ≡ q.client
  asks_home = rw (differ q.client (home_of w q.client) client_apart home_there, names.refl (home_of w q.client)) refl

  pub asks_router : (x : List ℕ) → has_router w x ≡ true → is_named (home_of w q.client) x ≡ false → parent_of w q.client x ≡ unwrap_or (parent (graph w) (home_of w q.client) x) x
  asks_router x there other = rw (differ q.client x client_apart there, other, there) refl

  pub asks_other : (x : List ℕ) → has_router w x ≡ false → is_named q.client x ≡ false → parent_of w q.client x ≡ home_of w x
  asks_other x none other = rw (other, differ_home, none) refl
    where
      differ_home : is_named (home_of w q.client) x ≡ false
      differ_home = names.symm (home_of w q.client) x ∙ differ x (home_of w q.client) none home_there

  -- ---- the tree that a request is in

  module _ (x : List ℕ) (r : RouterState) (er : router_of w.routers x ≡ Some r) (j : LinkPeer) (ej : link_to r.node.links (parent_of w q.client x) ≡ Some j) where
    abbrev source_tree : Option (List ℕ)
    source_tree = tree_of (tables r.node) (link_at r.node.links j.link.0) (named_at w q.client x)

    x_there : has_router w x ≡ true
    x_there = ap is_some er

    at : link_at r.node.links j.link.0 ≡ Some j
    at = numbered_link r.node.links (h.sound.unique x r er) (parent_of w q.client x) j ej

    role_is : is_router j.peer.role ≡ has_router w (parent_of w q.client x)
    role_is = h.sound.roles x (parent_of w q.client x) r j er ej

    -- from the client
    pub in_own_tree : is_named (home_of w q.client) x ≡ true → source_tree ≡ Some (home_of w q.client)
    in_own_tree same =
        tree_from_client (tables r.node) (named_at w q.client x) j (link_at r.node.links j.link.0) at (role_is ∙ ap (has_router w) (ap (parent_of w q.client) (sym is) ∙ asks_home) ∙ client_apart)
        ∙ ap Some (h.sound.own x r er ∙ sym is)
      where
        is : home_of w q.client ≡ x
        is = same_name (home_of w q.client) x same

    -- from the parent
    pub in_parent_tree : is_named (home_of w q.client) x ≡ false → (p : List ℕ) → parent (graph w) (home_of w q.client) x ≡ Some p → source_tree ≡ Some (home_of w q.client)
    in_parent_tree other p ep =
        tree_from_parent (tables r.node) (named_at w q.client x) j (link_at r.node.links j.link.0) at (role_is ∙ ap (has_router w) parent_is_p ∙ parent_there x p ep) (home_of w q.client)
        (ap (λ b. cond b None (Some (home_of w q.client))) other)
        (ap (λ (z : Graph). parent z (home_of w q.client) r.node.base.me) (h.graphs x r er) ∙ ap (parent (graph w) (home_of w q.client)) (h.sound.own x r er) ∙ ep
        ∙ ap Some (sym parent_is_p ∙ sym (named_link r.node.links (parent_of w q.client x) j ej)))
      where
        parent_is_p : parent_of w q.client x ≡ p
        parent_is_p = asks_router x x_there other ∙ ap (λ o. unwrap_or o x) ep

    -- from nobody else
    no_tree : is_named (home_of w q.client) x ≡ false → parent (graph w) (home_of w q.client) x ≡ None → source_tree ≡ None
    no_tree other none = ap (λ o. tree_of (tables r.node) o (named_at w q.client x)) at ∙ ap (tree_by (tables r.node) j j.peer.role) (ap (λ b. cond b None (Some (home_of w q.client))) other)
        ∙ by j.peer.role (role_is ∙ ap (has_router w) (asks_router x x_there other ∙ ap (λ o. unwrap_or o x) none) ∙ x_there)
      where
        by : (role : Role) → is_router role ≡ true → tree_by (tables r.node) j role (Some (home_of w q.client)) ≡ None
        by Client k = absurd (false≢true k)
        by Router k = ap (λ o. cond (option_map_or (λ p. is_named p j.peer.id) o false) (Some (home_of w q.client)) None)
            (ap (λ (z : Graph). parent z (home_of w q.client) r.node.base.me) (h.graphs x r er) ∙ ap (parent (graph w) (home_of w q.client)) (h.sound.own x r er) ∙ none)

    pub only_tree : (root : List ℕ) → source_tree ≡ Some root → root ≡ home_of w q.client
    only_tree root k = by (is_named (home_of w q.client) x) refl (parent (graph w) (home_of w q.client) x) refl
      where
        one : (z : List ℕ) → source_tree ≡ Some z → root ≡ z
        one z f = let both : Some root ≡ Some z = sym k ∙ f in cc

        by : (b : Bool) → is_named (home_of w q.client) x ≡ b → (o : Option (List ℕ)) → parent (graph w) (home_of w q.client) x ≡ o → root ≡ home_of w q.client
        by true same o eo = one (home_of w q.client) (in_own_tree same)
        by false other (Some p) ep = one (home_of w q.client) (in_parent_tree other p ep)
        by false other None none = absurd (let both : None ≡ Some root = sym (no_tree other none) ∙ k in cc)

  -- ---- who is a child

  abbrev t : tree.Tree (List ℕ)
  t = tree_at w q

  -- of the client that asks its router alone
  client_children : children_at w q q.client ≡ home_of w q.client ∷ []
  client_children = ap (λ b. cond b (home_of w q.client ∷ []) kids) (names.refl q.client)
    where
      kids : List (List ℕ)
      kids = option_map_or (λ r. neighbours_of r.node.links (links_from r (parent_of w q.client q.client) (named_at w q.client q.client) q.target q.content.key)) (router_of w.routers q.client) []

  pub home_child : tree.is_child t q.client (home_of w q.client) ≡ true
  home_child = ap (list_any (λ z. is_named z (home_of w q.client))) client_children ∙ ap (λ b. b || false) (names.refl (home_of w q.client))

  pub client_child : (y : List ℕ) → tree.is_child t q.client y ≡ true → y ≡ home_of w q.client
  client_child y k = sym (same_name (home_of w q.client) y (only (is_named (home_of w q.client) y) (sym (ap (list_any (λ z. is_named z y)) client_children) ∙ k)))
    where
      only : (b : Bool) → (b || false) ≡ true → b ≡ true
      only true i = refl
      only false i = i

  module _ (x y : List ℕ) (other : is_named q.client x ≡ false) where
    abbrev kids_of : Option RouterState → List (List ℕ)
    kids_of o = option_map_or (λ r. neighbours_of r.node.links (links_from r (parent_of w q.client x) (named_at w q.client x) q.target q.content.key)) o []

    kids_are : tree.is_child t x y ≡ list_any (λ z. is_named z y) (kids_of (router_of w.routers x))
    kids_are = ap (λ b. list_any (λ z. is_named z y) (cond b (home_of w q.client ∷ []) (kids_of (router_of w.routers x)))) other

    -- of a router those to whom it passes the query on
    pub router_child : tree.is_child t x y ≡ true → IsPassed w q x y
    router_child k = by (router_of w.routers x) refl (sym kids_are ∙ k)
      where
        by : (o : Option RouterState) → router_of w.routers x ≡ o → list_any (λ z. is_named z y) (kids_of o) ≡ true → IsPassed w q x y
        by None er m = absurd (false≢true m)
        by (Some r) er m = by_source (link_to r.node.links (parent_of w q.client x)) refl m
          where
            by_source : (o : Option LinkPeer) → link_to r.node.links (parent_of w q.client x) ≡ o →
                list_any (λ z. is_named z y) (neighbours_of r.node.links (option_map_or (λ l. links_along (tables r.node) l.link.0 (tree_of (tables r.node) (link_at r.node.links l.link.0) (named_at w q.client x)) q.target q.content.key) o [])) ≡ true →
                IsPassed w q x y
            by_source None ej n = absurd (false≢true n)
            by_source (Some j) ej n = by_tree (tree_of (tables r.node) (link_at r.node.links j.link.0) (named_at w q.client x)) refl n
              where
                by_tree : (o : Option (List ℕ)) → tree_of (tables r.node) (link_at r.node.links j.link.0) (named_at w q.client x) ≡ o →
                    list_any (λ z. is_named z y) (neighbours_of r.node.links (links_along (tables r.node) j.link.0 o q.target q.content.key)) ≡ true → IsPassed w q x y
                by_tree None et v = absurd (false≢true v)
                by_tree (Some root) et v =
                    let f = neighbour_link r.node.links (h.sound.unique x r er) (λ l. is_asked (tables r.node) j.link.0 root q.target q.content.key l l.peer.role) y v in
                    record {
                      router = r;
                      at = er;
                      source = j;
                      from = ej;
                      link = f.0;
                      to = f.1;
                      goes = ap (λ z. is_asked (tables r.node) j.link.0 z q.target q.content.key f.0 f.0.peer.role) (sym (only_tree x r er j ej root et)) ∙ f.2;
                    }

    -- and all of those
    pub child_router : (r : RouterState) → router_of w.routers x ≡ Some r → (j : LinkPeer) → link_to r.node.links (parent_of w q.client x) ≡ Some j →
        tree_of (tables r.node) (link_at r.node.links j.link.0) (named_at w q.client x) ≡ Some (home_of w q.client) → (k : LinkPeer) → link_to r.node.links y ≡ Some k →
        is_asked (tables r.node) j.link.0 (home_of w q.client) q.target q.content.key k k.peer.role ≡ true → tree.is_child t x y ≡ true
    child_router r er j ej et k ek goes =
        kids_are ∙ ap (λ o. list_any (λ z. is_named z y) (kids_of o)) er ∙ ap along ej
        ∙ ap (λ o. list_any (λ z. is_named z y) (neighbours_of r.node.links (links_along (tables r.node) j.link.0 o q.target q.content.key))) et
        ∙ link_neighbour r.node.links (h.sound.unique x r er) (λ l. is_asked (tables r.node) j.link.0 (home_of w q.client) q.target q.content.key l l.peer.role) y k ek goes
      where
        along : Option LinkPeer → Bool
        along o = list_any (λ z. is_named z y)
            (neighbours_of r.node.links (option_map_or (λ l. links_along (tables r.node) l.link.0 (tree_of (tables r.node) (link_at r.node.links l.link.0) (named_at w q.client x)) q.target q.content.key) o []))

  module _ (x y : List ℕ) (p : IsPassed w q x y) where
    x_is_router : has_router w x ≡ true
    x_is_router = ap is_some p.at

    role_of_link : is_router p.link.peer.role ≡ has_router w y
    role_of_link = h.sound.roles x y p.router p.link p.at p.to

    pub link_up : is_up w.ends (x, y) ≡ true
    link_up = sym (h.sound.links x y p.router p.at) ∙ ap is_some p.to

    -- a router that it is passed to is a child in the tree of the client's router
    pub passed_router : has_router w y ≡ true → is_child (graph w) (home_of w q.client) x y ≡ true
    passed_router routes =
        sym (ap (λ (v : Graph). is_child v (home_of w q.client) p.router.node.base.me p.link.peer.id) (h.graphs x p.router p.at)
        ∙ ap (λ v. is_child (graph w) (home_of w q.client) v p.link.peer.id) (h.sound.own x p.router p.at)
        ∙ ap (is_child (graph w) (home_of w q.client) x) (named_link p.router.node.links y p.link p.to))
        ∙ leads_to_child (tables p.router.node) (home_of w q.client) (λ log. has_queryable q.target q.content.key log) p.link.peer.id
        (sym (asked_router (tables p.router.node) p.source.link.0 (home_of w q.client) q.target q.content.key p.link p.link.peer.role (role_of_link ∙ routes)) ∙ p.goes)

    -- a client that it is passed to can answer, and isn't the one that asks
    pub passed_client : has_router w y ≡ false → (not (p.link.link.0 == p.source.link.0) && answers p.router.node.rows p.link.link.0 q.target q.content.key) ≡ true
    passed_client none = sym (asked_client (tables p.router.node) p.source.link.0 (home_of w q.client) q.target q.content.key p.link p.link.peer.role (role_of_link ∙ none)) ∙ p.goes

    pub not_to_client : is_named q.client y ≡ false
    not_to_client = by (is_named q.client y) refl
      where
        by : (b : Bool) → is_named q.client y ≡ b → b ≡ false
        by false k = refl
        by true k = absurd (true≢false (sym (passed_client (sym (ap (has_router w) is) ∙ client_apart)) ∙ ap (λ b. not b && answers p.router.node.rows p.link.link.0 q.target q.content.key) same_link))
          where
            is : q.client ≡ y
            is = same_name q.client y k

            at_home : x ≡ home_of w q.client
            at_home = h.homes q.client x s e (ap (λ z. is_some (end_of w.ends (x, z))) is ∙ up_is_there (end_of w.ends (x, y)) link_up) ∙ sym home_is

            same_link : (p.link.link.0 == p.source.link.0) ≡ true
            same_link =
                let both : Some p.link ≡ Some p.source = sym p.to ∙ ap (link_to p.router.node.links) (sym is ∙ sym asks_home ∙ ap (parent_of w q.client) (sym at_home)) ∙ p.from in
                let one : p.link ≡ p.source = cc in
                eq-eqb p.link.link.0 p.source.link.0 (ap (λ (z : LinkPeer). z.link.0) one)

    -- it is one of this router's
    pub passed_home : has_router w y ≡ false → home_of w y ≡ x
    passed_home none = by (client_of w.clients y) refl (sym (ap (λ b. b || is_some (client_of w.clients y)) none) ∙ h.sound.neighbours x y (up_is_there (end_of w.ends (x, y)) link_up))
      where
        by : (o : Option ClientState) → client_of w.clients y ≡ o → is_some o ≡ true → home_of w y ≡ x
        by None ey k = absurd (false≢true k)
        by (Some sy) ey k = ap (λ o. option_map_or (λ (z : ClientState). z.router) o []) ey ∙ sym (h.homes y x sy ey (up_is_there (end_of w.ends (x, y)) link_up))

    pub passed_from : parent_of w q.client y ≡ x
    passed_from = by (has_router w y) refl
      where
        by : (b : Bool) → has_router w y ≡ b → parent_of w q.client y ≡ x
        by false none = asks_other y none not_to_client ∙ passed_home none
        by true routes = asks_router y routes (root_apart (is_named (home_of w q.client) y) refl) ∙ ap (λ o. unwrap_or o y) (child_is (graph w) (home_of w q.client) x y (passed_router routes))
          where
            root_apart : (b : Bool) → is_named (home_of w q.client) y ≡ b → b ≡ false
            root_apart false k = refl
            root_apart true k = absurd (true≢false (sym (passed_router routes) ∙ ap (is_child (graph w) (home_of w q.client) x) (sym (same_name (home_of w q.client) y k))
                ∙ root_no_child (graph w) h.is_graph (home_of w q.client) x))

    -- ---- heights

    far : (n : ℕ) × (tree_depth (graph w) (home_of w q.client) x ≡ Some n)
    far = there (tree_depth (graph w) (home_of w q.client) x) (sym (reached_depth (graph w) (home_of w q.client) x) ∙ h.reaches (home_of w q.client) x home_there x_is_router)

    height_x : height_at w q.client x ≡ suc (length (graph w).names) - far.0
    height_x = rw (differ q.client x client_apart x_is_router, x_is_router, far.1) refl

    near_x : far.0 < suc (length (graph w).names)
    near_x = let few = depth_bounded (graph w) (home_of w q.client) x far.0 far.1 in omega (arith, few)

    pub passed_falls : height_at w q.client y < height_at w q.client x
    passed_falls = by (has_router w y) refl
      where
        by : (b : Bool) → has_router w y ≡ b → height_at w q.client y < height_at w q.client x
        by false none =
            let zero_y : height_at w q.client y ≡ 0 = rw (not_to_client, none) refl in
            let lt : far.0 < suc (length (graph w).names) = near_x in
            let at : height_at w q.client x ≡ suc (length (graph w).names) - far.0 = height_x in
            omega (arith, lt, at, zero_y)
        by true routes =
            let f = parent_is (graph w) (home_of w q.client) y x (child_is (graph w) (home_of w q.client) x y (passed_router routes)) in
            let both : Some far.0 ≡ Some f.0 = sym far.1 ∙ f.1.from_parent in
            let same : far.0 ≡ f.0 = cc in
            let at_y : height_at w q.client y ≡ suc (length (graph w).names) - suc f.0 = rw (not_to_client, routes, f.1.to_child) refl in
            let lt : suc f.0 ≤ length (graph w).names = depth_bounded (graph w) (home_of w q.client) y (suc f.0) f.1.to_child in
            let at : height_at w q.client x ≡ suc (length (graph w).names) - far.0 = height_x in
            omega (arith, lt, at, at_y, same)

  -- ---- it is a tree

  -- a child is the client's router, or a router passes the query on to it
  pub child_cases : (x y : List ℕ) → tree.is_child t x y ≡ true → ((q.client ≡ x) × (y ≡ home_of w q.client)) ⊎ IsPassed w q x y
  child_cases x y k = by (is_named q.client x) refl
    where
      by : (b : Bool) → is_named q.client x ≡ b → ((q.client ≡ x) × (y ≡ home_of w q.client)) ⊎ IsPassed w q x y
      by true same = let is = same_name q.client x same in inl (is, client_child y (ap (λ z. tree.is_child t z y) is ∙ k))
      by false other = inr (router_child x y other k)

  home_height : height_at w q.client (home_of w q.client) < height_at w q.client q.client
  home_height =
      let at_home : height_at w q.client (home_of w q.client) ≡ suc (length (graph w).names) =
      rw (differ q.client (home_of w q.client) client_apart home_there, home_there, root_depth (graph w) (home_of w q.client)) (omega arith) in
      let at_root : height_at w q.client q.client ≡ suc (suc (length (graph w).names)) = rw (names.refl q.client) refl in
      omega (arith, at_home, at_root)

  pub is_tree : IsTree (tree_at w q)
  is_tree = record {
    decides = same_name;
    itself = names.refl;
    parent = λ x y k. elim (child_cases x y k) [
      | inl i ↦ ap (parent_of w q.client) i.1 ∙ asks_home ∙ i.0
      | inr p ↦ passed_from x y p
    ];
    falls = λ x y k. elim (child_cases x y k) [
      | inl i ↦ root_falls x y i.0 i.1
      | inr p ↦ passed_falls x y p
    ];
    top = λ x. top_at x (tree.is_child t x q.client) refl;
    leaf = leaf_at;
    asks = ap (λ b. b || has_router w q.client) (names.refl q.client);
  }
    where
      root_falls : (x y : List ℕ) → q.client ≡ x → y ≡ home_of w q.client → height_at w q.client y < height_at w q.client x
      root_falls x y i j =
          let at_x : height_at w q.client q.client ≡ height_at w q.client x = ap (height_at w q.client) i in
          let at_y : height_at w q.client y ≡ height_at w q.client (home_of w q.client) = ap (height_at w q.client) j in
          let lt : height_at w q.client (home_of w q.client) < height_at w q.client q.client = home_height in
          omega (arith, at_x, at_y, lt)

      top_at : (x : List ℕ) (b : Bool) → tree.is_child t x q.client ≡ b → b ≡ false
      top_at x false k = refl
      top_at x true k = elim (child_cases x q.client k) [
        | inl i ↦ absurd (false≢true (sym client_apart ∙ ap (has_router w) i.1 ∙ home_there))
        | inr p ↦ absurd (true≢false (sym (names.refl q.client) ∙ not_to_client x q.client p))
      ]

      leaf_at : (x : List ℕ) → passes_at w q.client x ≡ false → children_at w q x ≡ []
      leaf_at x none = by (is_named q.client x) refl (router_of w.routers x) refl none
        where
          kids : Option RouterState → List (List ℕ)
          kids o = option_map_or (λ r. neighbours_of r.node.links (links_from r (parent_of w q.client x) (named_at w q.client x) q.target q.content.key)) o []

          by : (b : Bool) → is_named q.client x ≡ b → (o : Option RouterState) → router_of w.routers x ≡ o → (b || is_some o) ≡ false → cond b (home_of w q.client ∷ []) (kids o) ≡ []
          by true i o er k = absurd (true≢false k)
          by false i None er k = refl
          by false i (Some r) er k = absurd (true≢false k)
