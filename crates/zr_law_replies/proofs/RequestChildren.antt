-- The links over which a router passes a query's request on are those to its children in the query's tree, and what is asked there is what the query's
-- request to each child says (`kid_over`, `asked_is`).
use Rattle.std.proofs.Common.{◌≡◌, ℕ, Bool, true, false, cond, List, [], ◌∷◌, map, filter, Option, Some, None, is_some, refl, sym, ap, ◌∙◌}
use Rattle.std.specs.Prelude.{◌&&◌}
use Rattle.std.specs.List.{list_any}
use Rattle.std.specs.Option.{option_map, option_map_or}
use Rattle.std.proofs.lemmas.Bool.{false≢true, or_right}
use Rattle.std.proofs.lemmas.Option.{same_Some}
use Rattle.zr_id.specs.Zid.{is_named}
use Rattle.zr_id.specs.declared.link.LinkNo.{LinkNo}
use Rattle.zr_msg.specs.declared.content.Parts.{Parts}
use Rattle.zr_msg.specs.declared.msg.Target.{Target}
use Rattle.zr_msg.specs.declared.peer.LinkPeer.{LinkPeer}
use Rattle.zr_msg.specs.declared.peer.Role.{Role}
use Rattle.zr_msg.specs.declared.peer.Role.TheVariants.{Client, Router}
use Rattle.zr_node_spec.specs.Tables.{TableState, is_router, link_at, link_to}
use Rattle.zr_node_spec.specs.Samples.{tree_by, tree_of}
use Rattle.zr_node_spec.specs.Queries.{is_asked, links_along, asked_links}
use Rattle.zr_node_spec.specs.State.{NodeState, tables}
use Rattle.zr_world_spec.specs.World.{RouterState, ClientState, WorldState, router_of, client_of, is_up}
use Rattle.zr_world_spec.specs.Moments.{Numbered, Moment}
use Rattle.zr_world_spec.specs.Sound.{AreUnique, IsSound}
use Rattle.zr_world_spec.proofs.Keyed.{there}
use Rattle.zr_world_spec.proofs.Links.{numbered_link}
use Rattle.zr_world_spec.proofs.Names.{same_name}
use Rattle.zr_guarantee.specs.Queries.{Asked}
use Rattle.zr_law_queries.specs.Query.{IsTree, is_child, is_empty, goes_nowhere}
use Rattle.zr_law_samples.proofs.Routed.{AreReady}
use Rattle.zr_law_samples.proofs.Start.{Marked, ready}
use Rattle.zr_law_numbers.proofs.RowsBegun.{is_over}
use Rattle.zr_law_numbers.proofs.DeedsOfRequests.{named_on}
use Rattle.zr_law_replies.specs.Trees.{has_router, home_of, parent_of, named_at, neighbours_of, children_at, tree_at}
use Rattle.zr_law_replies.specs.Stands.{lasting, IsStill, request_to}
use Rattle.zr_law_replies.proofs.TreeLinks.{neighbours_are, neighbour_link, link_neighbour}
use Rattle.zr_law_replies.proofs.Trees.{client_apart, differ, asks_home, is_tree}
use Rattle.zr_law_replies.proofs.TreeWays.{comes}
use Rattle.zr_law_replies.proofs.StandHere.{still_router}
use Rattle.zr_law_replies.proofs.RequestGoes.{over_test}

-- ---- links and neighbours

empty_map : {X Y : Type 0} (f : X → Y) (xs : List X) → is_empty (map f xs) ≡ is_empty xs
empty_map f [] = refl
empty_map f (x ∷ xs) = refl

module _ (t : TableState) (unique : AreUnique t.links) (from : ℕ) (target : Target) (key : List ℕ) where
  -- a request goes to a neighbour where it goes over the link to it
  pub neighbour_over : (o : Option (List ℕ)) (b : List ℕ) →
      list_any (λ z. is_named z b) (neighbours_of t.links (links_along t from o target key)) ≡ option_map_or (λ l. is_over l.link (links_along t from o target key)) (link_to t.links b) false
  neighbour_over None b = by (link_to t.links b)
    where
      by : (o : Option LinkPeer) → false ≡ option_map_or (λ l. false) o false
      by None = refl
      by (Some l) = refl
  neighbour_over (Some root) b = by (list_any (λ z. is_named z b) (neighbours_of t.links (map (λ l. l.link) (filter test t.links)))) refl (link_to t.links b) refl
    where
      test : LinkPeer → Bool
      test l = is_asked t from root target key l l.peer.role

      over : (l : LinkPeer) → link_to t.links b ≡ Some l → is_over l.link (map (λ k. k.link) (filter test t.links)) ≡ test l
      over l e = over_test t.links unique test l (numbered_link t.links unique b l e)

      by : (c : Bool) → list_any (λ z. is_named z b) (neighbours_of t.links (map (λ l. l.link) (filter test t.links))) ≡ c → (o : Option LinkPeer) → link_to t.links b ≡ o →
          c ≡ option_map_or (λ l. is_over l.link (map (λ k. k.link) (filter test t.links))) o false
      by false h None e = refl
      by false h (Some l) e = at (test l) refl
        where
          at : (d : Bool) → test l ≡ d → false ≡ is_over l.link (map (λ k. k.link) (filter test t.links))
          at false f = sym (over l e ∙ f)
          at true f = absurd (false≢true (sym h ∙ link_neighbour t.links unique test b l e f))
      by true h o e =
          let k = neighbour_link t.links unique test b h in
          sym (ap (λ z. option_map_or (λ (l : LinkPeer). is_over l.link (map (λ (j : LinkPeer). j.link) (filter test t.links))) z false) (sym e ∙ k.1) ∙ over k.0 k.1 ∙ k.2)

  -- and to nobody where it goes over no link
  pub nowhere_over : (o : Option (List ℕ)) → is_empty (neighbours_of t.links (links_along t from o target key)) ≡ is_empty (links_along t from o target key)
  nowhere_over None = refl
  nowhere_over (Some root) =
      ap (λ z. is_empty z) (neighbours_are t.links t.links test unique.numbers) ∙ empty_map (λ (l : LinkPeer). l.peer.id) (filter test t.links)
      ∙ sym (empty_map (λ (l : LinkPeer). l.link) (filter test t.links))
    where
      test : LinkPeer → Bool
      test l = is_asked t from root target key l l.peer.role

-- ---- live interests

-- no request goes by them
module _ (node : NodeState) where
  lasting_tree : (o : Option LinkPeer) (named : Option (List ℕ)) → tree_of (lasting node) o named ≡ tree_of (tables node) o named
  lasting_tree None named = refl
  lasting_tree (Some l) named = by l.peer.role named
    where
      by : (role : Role) (named : Option (List ℕ)) → tree_by (lasting node) l role named ≡ tree_by (tables node) l role named
      by Client named = refl
      by Router None = refl
      by Router (Some tree) = refl

  lasting_links : (from : ℕ) (named : Option (List ℕ)) (target : Target) (key : List ℕ) → asked_links (lasting node) from named target key ≡ asked_links (tables node) from named target key
  lasting_links from named target key =
      ap (λ o. links_along (lasting node) from o target key) (lasting_tree (link_at node.links from) named) ∙ along (tree_of (tables node) (link_at node.links from) named)
    where
      over : (tree : List ℕ) (l : LinkPeer) (role : Role) → is_asked (lasting node) from tree target key l role ≡ is_asked (tables node) from tree target key l role
      over tree l Client = refl
      over tree l Router = refl

      along : (o : Option (List ℕ)) → links_along (lasting node) from o target key ≡ links_along (tables node) from o target key
      along None = refl
      along (Some tree) = λ i. map (λ l. l.link) (filter (λ l. over tree l l.peer.role i) node.links)

-- ---- the query's

module _ (before : List Numbered) (mark : ℕ) (now : Moment) (marked : Marked before mark now) (q : Asked) (s : ClientState) (e : client_of now.world.clients q.client ≡ Some s)
    (up : is_up now.world.ends (home_of now.world q.client, q.client) ≡ true) where
  abbrev w : WorldState
  w = now.world

  abbrev h : AreReady before now.world
  h = ready before mark now marked

  abbrev is : IsTree (tree_at now.world q)
  is = is_tree before now.world (ready before mark now marked) q s e

  -- a router of a world that is still, by the tables that it had
  module _ (m : WorldState) (still : IsStill now.world m) (sound : IsSound m) (x : List ℕ) (r : RouterState) (found : router_of m.routers x ≡ Some r) where
    pub routes : has_router now.world x ≡ true
    routes = sym (still_router now.world m still x) ∙ ap is_some found

    pub not_client : is_named q.client x ≡ false
    not_client = differ before now.world (ready before mark now marked) q s e q.client x (client_apart before now.world (ready before mark now marked) q s e) routes

    was : (r0 : RouterState) × (router_of now.world.routers x ≡ Some r0) × (lasting r0.node ≡ lasting r.node)
    was =
        let z = there (router_of now.world.routers x) routes in
        let both : Some (lasting z.0.node) ≡ Some (lasting r.node) = ap (option_map (λ (y : RouterState). lasting y.node)) (sym z.1) ∙ sym (still.tables x) ∙ ap (option_map (λ (y : RouterState). lasting y.node)) found in
        (z.0, z.1, same_Some (lasting z.0.node) (lasting r.node) both)

    -- the request comes from the parent, and asks for what the query does: it goes on in the tree of the client's router
    module _ (from : List ℕ) (parent : parent_of now.world q.client x ≡ from) (k : LinkPeer) (linked : link_to r.node.links from ≡ Some k) (tree : Option (List ℕ)) (tree_is : tree ≡ named_at now.world q.client x)
        (target : Target) (target_is : target ≡ q.target) (content : Parts) (content_is : content ≡ q.content) where
      -- over these links
      abbrev over : List LinkNo
      over = asked_links (tables r.node) k.link.0 tree target content.key

      abbrev goes_in : Option (List ℕ)
      goes_in = tree_of (tables r.node) (link_at r.node.links k.link.0) tree

      abbrev by_tables : TableState → List (List ℕ)
      by_tables t = neighbours_of t.links (option_map_or (λ l. asked_links t l.link.0 (named_at now.world q.client x) q.target q.content.key) (link_to t.links (parent_of now.world q.client x)) [])

      lasting_kids : (node : NodeState) → by_tables (lasting node) ≡ by_tables (tables node)
      lasting_kids node = ap (neighbours_of node.links) (by (link_to node.links (parent_of now.world q.client x)))
        where
          by : (o : Option LinkPeer) → option_map_or (λ l. asked_links (lasting node) l.link.0 (named_at now.world q.client x) q.target q.content.key) o []
              ≡ option_map_or (λ l. asked_links (tables node) l.link.0 (named_at now.world q.client x) q.target q.content.key) o []
          by None = refl
          by (Some l) = lasting_links node l.link.0 (named_at now.world q.client x) q.target q.content.key

      pub kids_are : children_at now.world q x ≡ neighbours_of r.node.links over
      kids_are =
          ap (λ b. cond b (home_of now.world q.client ∷ []) (option_map_or (λ (z : RouterState). by_tables (tables z.node)) (router_of now.world.routers x) [])) not_client
          ∙ ap (λ o. option_map_or (λ (z : RouterState). by_tables (tables z.node)) o []) was.1
          ∙ sym (lasting_kids was.0.node) ∙ ap by_tables was.2 ∙ lasting_kids r.node
          ∙ ap (λ z. neighbours_of r.node.links (option_map_or (λ (l : LinkPeer). asked_links (tables r.node) l.link.0 (named_at now.world q.client x) q.target q.content.key) (link_to r.node.links z) [])) parent
          ∙ ap (λ o. neighbours_of r.node.links (option_map_or (λ (l : LinkPeer). asked_links (tables r.node) l.link.0 (named_at now.world q.client x) q.target q.content.key) o [])) linked
          ∙ (λ i. neighbours_of r.node.links (asked_links (tables r.node) k.link.0 (sym tree_is i) (sym target_is i) (sym content_is i).key))

      pub kid_over : (y : List ℕ) → is_child (tree_at now.world q) x y ≡ option_map_or (λ l. is_over l.link over) (link_to r.node.links y) false
      kid_over y = ap (list_any (λ z. is_named z y)) kids_are ∙ neighbour_over (tables r.node) (sound.unique x r found) k.link.0 target content.key goes_in y

      pub nowhere_is : is_empty over ≡ goes_nowhere (tree_at now.world q) x
      nowhere_is = sym (ap (λ b. b && is_empty (children_at now.world q x)) (or_right (is_named q.client x) (has_router now.world x) routes)
          ∙ ap (λ z. is_empty z) kids_are ∙ nowhere_over (tables r.node) (sound.unique x r found) k.link.0 target content.key goes_in)

      goes_in_is : tree_of (tables r.node) (link_at r.node.links k.link.0) tree ≡ Some (home_of now.world q.client)
      goes_in_is =
          let c = comes before mark now marked q s e up x was.0 was.1 in
          let source : link_to r.node.links from ≡ Some c.source = ap (link_to r.node.links) (sym parent) ∙ ap (λ (t : TableState). link_to t.links (parent_of now.world q.client x)) (sym was.2) ∙ c.from in
          let both : Some k ≡ Some c.source = sym linked ∙ source in
          let one : k ≡ c.source = cc in
          (λ i. tree_of (tables r.node) (link_at r.node.links (one i).link.0) (tree_is i))
          ∙ sym (lasting_tree r.node (link_at r.node.links c.source.link.0) (named_at now.world q.client x))
          ∙ ap (λ (t : TableState). tree_of t (link_at t.links c.source.link.0) (named_at now.world q.client x)) (sym was.2)
          ∙ lasting_tree was.0.node (link_at was.0.node.links c.source.link.0) (named_at now.world q.client x) ∙ c.tree

      -- what is asked of a child
      pub asked_is : (line : ℕ) → line ≡ q.line → (y : List ℕ) (l : LinkPeer) → link_to r.node.links y ≡ Some l → is_child (tree_at now.world q) x y ≡ true →
          record { line = line; tree = named_on goes_in l.peer.role; target = target; content = content } ≡ request_to now.world q y
      asked_is line line_is y l linked_y kid = λ i. record { line = line_is i; tree = names_it i; target = target_is i; content = content_is i }
        where
          below : is_named (home_of now.world q.client) y ≡ false
          below = at (is_named (home_of now.world q.client) y) refl
            where
              at : (b : Bool) → is_named (home_of now.world q.client) y ≡ b → b ≡ false
              at false f = refl
              at true f = absurd (false≢true (sym (client_apart before now.world (ready before mark now marked) q s e)
                  ∙ ap (has_router now.world) (sym (asks_home before now.world (ready before mark now marked) q s e)
                  ∙ ap (parent_of now.world q.client) (same_name (home_of now.world q.client) y f) ∙ is.parent x y kid) ∙ routes))

          by : (role : Role) → is_router role ≡ has_router now.world y →
              named_on (Some (home_of now.world q.client)) role ≡ cond (has_router now.world y) (named_at now.world q.client y) None
          by Client f = ap (λ b. cond b (named_at now.world q.client y) None) f
          by Router f = ap (λ b. cond b None (Some (home_of now.world q.client))) (sym below) ∙ ap (λ b. cond b (named_at now.world q.client y) None) f

          names_it : named_on goes_in l.peer.role ≡ cond (has_router now.world y) (named_at now.world q.client y) None
          names_it = ap (λ o. named_on o l.peer.role) goes_in_is ∙ by l.peer.role (sound.roles x y r l found linked_y ∙ still_router now.world m still y)
