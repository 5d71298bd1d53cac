-- A router handles the query's request: it begins there, and goes on to the router's children (`own_stands`).
use Rattle.std.proofs.Common.{◌≡◌, ℕ, ◌==◌, Bool, true, false, cond, List, [], ◌∷◌, ◌++◌, map, Option, Some, None, inl, inr, ◌⊎◌, refl, sym, ap, ◌∙◌, subst}
use Rattle.std.specs.Prelude.{◌&&◌, not, ◌||◌}
use Rattle.std.specs.Option.{option_map_or}
use Rattle.std.proofs.lemmas.Bool.{false≢true, eqb-true, false_from_ne_true, not-true}
use Rattle.zr_id.specs.Zid.{is_named}
use Rattle.zr_id.specs.declared.link.LinkNo.{LinkNo}
use Rattle.zr_msg.specs.declared.content.Parts.{Parts}
use Rattle.zr_msg.specs.declared.msg.Msg.TheVariants.{Request}
use Rattle.zr_msg.specs.declared.msg.Target.{Target}
use Rattle.zr_msg.specs.declared.event.Event.TheVariants.{From}
use Rattle.zr_script_spec.specs.declared.command.Act.TheVariants as c
use Rattle.zr_node_spec.specs.Queries.{asker, gathering_if}
use Rattle.zr_world_spec.specs.World.{RouterState, WorldState, router_of}
use Rattle.zr_world_spec.specs.Acts.{having_told}
use Rattle.zr_world_spec.specs.Moments.{Numbered, Moment}
use Rattle.zr_world_spec.specs.Sound.{AreUnique}
use Rattle.zr_world_spec.proofs.Names.{names, same_name}
use Rattle.zr_law_settled.proofs.Goes.{Goes}
use Rattle.zr_guarantee.specs.Queries.{Asked}
use Rattle.zr_law_queries.specs.Link.{Asked as AskedHop, Open}
use Rattle.zr_law_queries.specs.Query.{Tree, IsTree, OnTheWay, Here as HasCome, is_child, is_empty, goes_nowhere, Move, Begin, after}
use Rattle.zr_law_numbers.specs.Waiting as waiting
use Rattle.zr_law_numbers.specs.Waiting.{is_whole}
use Rattle.zr_law_replies.specs.Trees.{has_router, named_at, tree_at, home_of, neighbours_of, links_from, parent_of}
use Rattle.zr_law_replies.specs.Stands.{IsStill, is_open, place, asked_at, Marks, request_to, numbered, row_places, Stands, held_by, held_if, latest_release, has_come}
use Rattle.zr_law_replies.proofs.MarkChanges.{is_hop}
use Rattle.zr_law_replies.proofs.MarkMoves.{begin_marks}
use Rattle.zr_law_replies.proofs.StandOwn.{IsOnTheWay, own_asked, RowsShow}
use Rattle.zr_law_replies.proofs.StandRowMoves.{begin_rows}
use Rattle.zr_law_replies.proofs.StandBranches.{number_for, begun_places}
use Rattle.zr_law_replies.proofs.StandSteps.{Hops}
use Rattle.zr_law_replies.proofs.StandStep.{request_of, Begins, Here}
use Rattle.zr_law_replies.proofs.StandHere.{row_at, kids, asker_apart, still_router}
use Rattle.zr_law_replies.proofs.HandleHeard.{Heard, after_heard, rows_show, heard_router, heard_other, heard_moved}
use Rattle.zr_law_replies.proofs.RequestGoes.{links_on, goes_to, over_some}
use Rattle.zr_law_replies.proofs.RequestComes.{Comes}
use Rattle.zr_law_replies.proofs.RequestChildren.{routes, not_client, kids_are, kid_over, nowhere_is, asked_is}
use Rattle.zr_law_replies.proofs.HeldAt.{held_at, begun_own}
use Rattle.zr_law_replies.proofs.StandHolds.{begin_opens}
use Rattle.zr_node_spec.specs.Tables.{leads_to_client, is_router}
use Rattle.zr_body.specs.Latest.{is_latest}
use Rattle.zr_law_numbers.proofs.Gatherings.{nobody_gathers}
use Rattle.zr_world_spec.proofs.Links.{numbered_link}
use Rattle.zr_guarantee.specs.Latest.{asks_latest}
use Rattle.zr_law_queries.proofs.Trees.{no_loop}
use Rattle.zr_graph.proofs.Names.{same_refl}
use Rattle.zr_msg.specs.declared.peer.LinkPeer.{LinkPeer}
use Rattle.std.specs.List.{list_any}
use Rattle.zr_law_samples.proofs.Start.{ready}
use Rattle.zr_law_replies.proofs.Trees.{asks_home}

module _ (before : List Numbered) (mark : ℕ) (start : Moment) (q : Asked) (b : Begins before mark start q) (phase acts : List Numbered) (m : Moment) (here : Here start.world phase q acts m)
    (n : ℕ) (x from : List ℕ) (tree : Option (List ℕ)) (id : ℕ) (target : Target) (content : Parts) (tag : ℕ) (h : Heard m.world x from (Request tree id target content) tag)
    (still : IsStill start.world (after_heard m x from (Request tree id target content) tag h).world) (hop' : Hops)
    (comes : Comes start.world q here.hop hop' x from h.router h.link tree id target content tag) (own : (tag == q.line) ≡ true) where
  abbrev w : WorldState
  w = start.world

  abbrev next : Moment
  next = after_heard m x from (Request tree id target content) tag h

  abbrev then : RouterState
  then = having_told h.router (From h.link.link (Request tree id target content))

  abbrev t : Tree (List ℕ)
  t = tree_at start.world q

  abbrev s : Stands start.world phase q acts m here.hop
  s = here.stands

  abbrev g : Goes m.world
  g = here.holds.go.0

  abbrev to : List LinkNo
  to = links_on h.router h.link tree target content

  abbrev came : waiting.Asked
  came = record { line = tag; tree = tree; target = target; content = content }

  abbrev goes : List ℕ → Bool
  goes y = goes_to h.router to y

  abbrev more : List ℕ → ℕ
  more y = number_for h.router y

  is : IsTree (tree_at start.world q)
  is = b.tree.is_tree

  apart : has_router start.world q.client ≡ false
  apart = asker_apart before mark start q b phase acts m here

  x_routes : has_router start.world x ≡ true
  x_routes = routes before mark start b.marked q b.client b.found b.up m.world here.stands.still here.holds.go.0.sound x h.router h.found

  unique : AreUnique h.router.node.links
  unique = here.holds.go.0.sound.unique x h.router h.found

  way : IsOnTheWay t (request_to w q) q.line (is_whole w) s.num s.stage here.hop s.marks from x id comes.whole came comes.by
  way = own_asked t (request_to w q) q.line (is_whole w) s.num s.stage here.hop s.marks from x id comes.whole came comes.by comes.front own

  parent : t.parent x ≡ from
  parent = is.parent from x way.child

  -- what it asks is what the query's request to the router says
  tree_is : tree ≡ named_at w q.client x
  tree_is = ap (λ (r : waiting.Asked). r.tree) way.request_is ∙ ap (λ d. cond d (named_at w q.client x) None) x_routes

  target_is : target ≡ q.target
  target_is = ap (λ (r : waiting.Asked). r.target) way.request_is

  content_is : content ≡ q.content
  content_is = ap (λ (r : waiting.Asked). r.content) way.request_is

  at_place : asked_at t s.num x ≡ place from id
  at_place i = place (parent i) (sym way.number i)

  abbrev move : Move t s.stage
  move = Begin x (inl way.stage_is)

  below : is_child t (t.parent x) x ≡ true
  below = ap (λ z. is_child t z x) parent ∙ way.child

  line_is : tag ≡ q.line
  line_is = eqb-true tag q.line own

  kid_goes : (y : List ℕ) → is_child t x y ≡ goes y
  kid_goes y = kid_over before mark start b.marked q b.client b.found b.up m.world s.still g.sound x h.router h.found from parent h.link h.linked tree tree_is target target_is content content_is y

  nowhere : is_empty to ≡ goes_nowhere t x
  nowhere = nowhere_is before mark start b.marked q b.client b.found b.up m.world s.still g.sound x h.router h.found from parent h.link h.linked tree tree_is target target_is content content_is

  same : (a y : List ℕ) (k : ℕ) → is_whole w a y ≡ true → (x ≡ t.root) ⊎ (is_hop (t.parent x) x (s.num x) a y k ≡ false) → (is_named x a && (is_child t x y && more y == k)) ≡ false →
      hop' a y k ≡ here.hop a y k
  same a y k there (inl root) f = absurd (false≢true (sym apart ∙ ap (has_router w) (sym root) ∙ x_routes))
  same a y k there (inr e) f = comes.stays a y k there ((λ i. is_hop (sym parent i) x (way.number i) a y k) ∙ e) (ap (λ d. is_named x a && (d && more y == k)) (sym (kid_goes y)) ∙ f)

  above : is_child t (t.parent x) x ≡ true → hop' (t.parent x) x (s.num x) ≡ Open (request_to w q x) (Some (asked_at t s.num (t.parent x))) [] (goes_nowhere t x)
  above k = (λ i. hop' (parent i) x (sym way.number i)) ∙ comes.opened
      ∙ (λ i. Open (request_of w q x (line_is i)) ((way.by_is ∙ ap (λ z. Some (asked_at t s.num z)) (sym parent)) i) [] (nowhere i))

  asks_kid : (y : List ℕ) → is_child t x y ≡ true → hop' x y (more y) ≡ AskedHop (request_to w q y) (Some (asked_at t s.num x))
  asks_kid y kid =
      let passed = comes.passed y (kids before mark start q b x y kid) (sym (kid_goes y) ∙ kid) in
      passed.2
      ∙ (λ i. AskedHop (asked_is before mark start b.marked q b.client b.found b.up m.world s.still g.sound x h.router h.found from parent h.link h.linked tree tree_is target target_is content content_is
      tag line_is y passed.0 passed.1 kid i) (Some (sym at_place i)))

  own_marks : Marks t (request_to w q) q.line (is_whole w) (numbered t s.num (t.children x) more) (after t s.stage move) hop'
  own_marks = begin_marks t is (request_to w q) q.line (λ y. refl) (is_whole w) (kids before mark start q b) s.num s.stage here.hop hop' s.marks s.sound x (inl way.stage_is) (inr below) more same above asks_kid

  own_row : has_router w x ≡ true → goes_nowhere t x ≡ false → row_at next.world x (asked_at t s.num x) ≡ map (λ y. place y (more y)) (t.children x)
  own_row k some =
      ap (λ o. option_map_or (λ (r : RouterState). row_places r (asked_at t s.num x)) o []) (heard_router w phase q apart acts m here.hop s n x from (Request tree id target content) tag h hop')
      ∙ ap (row_places then) at_place
      ∙ begun_places h.router unique then refl from h.link h.linked id to
      (over_some h.router.node.pending (asker h.link.link.0 id) to (nowhere ∙ some)) comes.unasked
      ∙ ap (map (λ y. place y (more y)))
      (sym (kids_are before mark start b.marked q b.client b.found b.up m.world s.still g.sound x h.router h.found from parent h.link h.linked tree tree_is target target_is content content_is))

  other_rows : (z : List ℕ) → has_router w z ≡ true → is_open (s.stage z) ≡ true → t.same x z ≡ false → row_at next.world z (asked_at t s.num z) ≡ row_at m.world z (asked_at t s.num z)
  other_rows z k o e = ap (λ o. option_map_or (λ (r : RouterState). row_places r (asked_at t s.num z)) o [])
      (heard_other w phase q apart acts m here.hop s n x from (Request tree id target content) tag h hop' z e)

  own_rows : RowsShow t (numbered t s.num (t.children x) more) (after t s.stage move) (has_router w) (row_at next.world)
  own_rows = begin_rows t is s.num s.stage s.sound x (inl way.stage_is) more (has_router w) (row_at m.world) (row_at next.world) (rows_show w m.world s.still q s.num s.stage s.rows) own_row other_rows

  client_stays : after t s.stage move q.client ≡ s.stage q.client
  client_stays =
      ap (λ d. cond d (HasCome [] (goes_nowhere t x)) (cond (is_child t x q.client) OnTheWay (s.stage q.client)))
      (names.symm x q.client ∙ not_client before mark start b.marked q b.client b.found b.up m.world s.still g.sound x h.router h.found)
      ∙ ap (λ d. cond d OnTheWay (s.stage q.client)) (is.top x)

  -- ---- what it holds

  -- it gathers for its parent where that is the client that asks
  home_is : is_named (home_of w q.client) x ≡ not (has_router w from)
  home_is = by (is_named q.client from) refl
    where
      from_kid : is_child t from x ≡ true
      from_kid = way.child

      by : (c : Bool) → is_named q.client from ≡ c → is_named (home_of w q.client) x ≡ not (has_router w from)
      by true e =
          let one : q.client ≡ from = same_name q.client from e in
          or_false (is_named (home_of w q.client) x) (ap (λ ys. list_any (λ z. is_named z x) ys) (sym (ap (λ c. cond c (home_of w q.client ∷ []) (passing from)) e)) ∙ from_kid)
          ∙ ap not (sym (ap (has_router w) (sym one) ∙ apart))
        where
          passing : List ℕ → List (List ℕ)
          passing y = option_map_or (λ (z : RouterState). neighbours_of z.node.links (links_from z (parent_of w q.client y) (named_at w q.client y) q.target q.content.key)) (router_of w.routers y) []

          or_false : (c : Bool) → (c || false) ≡ true → c ≡ true
          or_false true k = refl
          or_false false k = k
      by false e = by_router (has_router w from) refl
        where
          home_apart : is_named (home_of w q.client) x ≡ true → ⊥
          home_apart k =
              let up : parent_of w q.client x ≡ q.client = ap (parent_of w q.client) (sym (same_name (home_of w q.client) x k)) ∙ asks_home before w (ready before mark start b.marked) q b.client b.found in
              false≢true (sym e ∙ ap (is_named q.client) (sym (is.parent from x from_kid) ∙ up) ∙ same_refl q.client)

          by_router : (c : Bool) → has_router w from ≡ c → is_named (home_of w q.client) x ≡ not c
          by_router true f = false_from_ne_true (is_named (home_of w q.client) x) (λ k. home_apart k)
          by_router false f = absurd (false≢true (ap (λ ys. list_any (λ z. is_named z x) ys) (sym (is.leaf from ((λ i. e i || f i)))) ∙ from_kid))

  latest_is : (leads_to_client h.router.node.links h.link.link.0 && is_latest content.body) ≡ t.gathers x
  latest_is =
      (λ i. client_link i && is_latest (content_is i).body) ∙ swap (is_named (home_of w q.client) x) (asks_latest q)
    where
      client_link : leads_to_client h.router.node.links h.link.link.0 ≡ is_named (home_of w q.client) x
      client_link =
          ap (λ o. option_map_or (λ (l : LinkPeer). not (is_router l.peer.role)) o false) (numbered_link h.router.node.links unique from h.link h.linked)
          ∙ ap not (g.sound.roles x from h.router h.link h.found h.linked ∙ still_router w m.world s.still from) ∙ sym home_is

      swap : (c d : Bool) → (c && d) ≡ (d && c)
      swap true true = refl
      swap true false = refl
      swap false true = refl
      swap false false = refl

  own_holds : (z : List ℕ) (r : RouterState) → router_of next.world.routers z ≡ Some r → is_open (after t s.stage move z) ≡ true →
      held_by r (asked_at t (numbered t s.num (t.children x) more) z) ≡ held_if (t.gathers z) s.got
  own_holds z r found o = by (t.same x z) refl
    where
      no_own : is_child t x x ≡ false
      no_own = false_from_ne_true (is_child t x x) (λ k. no_loop t is x k)

      begins : (links : List LinkNo) → to ≡ links → is_empty links ≡ false → held_by then (place from id) ≡ held_if (t.gathers x) s.got
      begins [] e some = absurd (false≢true (sym some))
      begins (l ∷ links) e some =
          ap (λ ls. held_at h.router unique (place from id) (gathering_if h.router.node.held (leads_to_client h.router.node.links h.link.link.0 && is_latest content.body) (asker h.link.link.0 id) ls)) e
          ∙ begun_own h.router unique (place from id) h.link h.linked h.router.node.held (leads_to_client h.router.node.links h.link.link.0 && is_latest content.body) l links
          (nobody_gathers h.router.node.pending h.router.node.held (asker h.link.link.0 id) (here.holds.go.1.1.tables x h.router h.found).gatherings.of_rows comes.unasked)
          ∙ ap (λ c. cond c (Some []) None) latest_is ∙ nothing (t.gathers x) refl
        where
          nothing : (c : Bool) → t.gathers x ≡ c → cond c (Some []) None ≡ held_if c s.got
          nothing false f = refl
          nothing true f = ap (λ got. Some (latest_release.best got)) (sym (s.fresh x f (ap has_come way.stage_is)))

      by : (c : Bool) → t.same x z ≡ c → held_by r (asked_at t (numbered t s.num (t.children x) more) z) ≡ held_if (t.gathers z) s.got
      by false e =
          let open_ = begin_opens t is s.stage s.sound x (inl way.stage_is) z e o in
          ap (λ c. held_by r (place (t.parent z) (cond c (more z) (s.num z)))) open_.0
          ∙ s.holds z r (sym (heard_other w phase q apart acts m here.hop s n x from (Request tree id target content) tag h hop' z e) ∙ found) open_.1
      by true e =
          let one : x ≡ z = is.decides x z e in
          subst (λ v. held_by r (asked_at t (numbered t s.num (t.children x) more) v) ≡ held_if (t.gathers v) s.got) one (here_is (ap (router_of next.world.routers) one ∙ found) (ap (λ v. is_open (after t s.stage move v)) one ∙ o))
        where
          here_is : router_of next.world.routers x ≡ Some r → is_open (after t s.stage move x) ≡ true → held_by r (asked_at t (numbered t s.num (t.children x) more) x) ≡ held_if (t.gathers x) s.got
          here_is f k =
              let both : Some then ≡ Some r = sym (heard_router w phase q apart acts m here.hop s n x from (Request tree id target content) tag h hop') ∙ f in
              let is_then : then ≡ r = cc in
              let goes_on : is_empty to ≡ false = nowhere ∙ not-true (goes_nowhere t x) (ap is_open (sym (ap (λ c. cond c (HasCome [] (goes_nowhere t x)) (cond (is_child t x x) OnTheWay (s.stage x))) (is.itself x))) ∙ k) in
              ap (λ v. held_by v (asked_at t (numbered t s.num (t.children x) more) x)) (sym is_then)
              ∙ ap (λ c. held_by then (place (t.parent x) (cond c (more x) (s.num x)))) no_own ∙ ap (held_by then) at_place ∙ begins to refl goes_on

  pub own_stands : Stands start.world phase q (acts ++ (n, c.Handle x from) ∷ []) next hop'
  own_stands = heard_moved w phase q apart acts m here.hop s n x from (Request tree id target content) tag h hop' still is move (numbered t s.num (t.children x) more)
      (ap (λ d. cond d (more q.client) (s.num q.client)) (is.top x)) client_stays own_marks own_rows own_holds (λ d ys. tt) (λ is_own said. refl) (λ d ended. refl)
