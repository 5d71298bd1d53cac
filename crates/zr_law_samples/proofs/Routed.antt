-- What a settled world of joined routers says of a publisher and a receiver that is attached: by which routers the publisher's samples and requests go, and
-- that each of these sends what the receiver is to have to the next one, once, and nothing of the publisher's goes anywhere but down the tree
-- of its router.
use Rattle.std.proofs.Common.{◌≡◌, ℕ, Bool, true, false, cond, List, Option, Some, None, Ok, inl, inr, refl, sym, ap, ◌∙◌, subst}
use Rattle.std.specs.Prelude.{◌==◌, ◌&&◌, ◌||◌, not, is_some, is_none}
use Rattle.std.specs.List.{list_all, list_any}
use Rattle.std.proofs.lemmas.Bool.{false≢true, true≢false, and_parts, and_from, or_left, or_right, eqb-true, eq-eqb}
use Rattle.zr_id.specs.Zid.{is_named}
use Rattle.zr_id.specs.declared.link.LinkNo.{LinkNo}
use Rattle.zr_tree.specs.Laws.{IsGraph}
use Rattle.zr_tree.specs.Walk.{Graph, graph_of}
use Rattle.zr_tree.specs.Tree.{tree_depth, reached, parent, is_child, below, toward}
use Rattle.zr_lists.proofs.Finds.{in_filter}
use Rattle.zr_tree.proofs.Depths.{reached_depth}
use Rattle.zr_tree.proofs.Branches.{parent_is, child_is, child_from}
use Rattle.zr_msg.specs.declared.msg.Msg.{Msg}
use Rattle.zr_msg.specs.declared.event.Event.TheVariants.{From}
use Rattle.zr_msg.specs.declared.peer.LinkPeer.{LinkPeer}
use Rattle.zr_local.specs.Rows.{declared_set}
use Rattle.zr_log.specs.Known.{decls}
use Rattle.zr_node_spec.specs.Tables.{is_router, link_at, link_to}
use Rattle.zr_node_spec.specs.Samples.{leads_to_source, tree_of}
use Rattle.zr_node_spec.specs.State.{NodeState, tables}
use Rattle.zr_world_spec.specs.World.{RouterState, ClientState, WorldState, router_of, client_of, end_of, is_up, is_linked}
use Rattle.zr_world_spec.specs.Joined.{graph}
use Rattle.zr_world_spec.specs.Acts.{number_to, sends_to}
use Rattle.zr_world_spec.specs.Moments.{Numbered}
use Rattle.zr_world_spec.specs.Sound.{IsSound}
use Rattle.zr_guarantee.specs.Item.{Carried}
use Rattle.zr_guarantee.specs.Broker.{is_attached, takes, is_for, is_line_of}
use Rattle.zr_guarantee.specs.Sent.{carried_by}
use Rattle.zr_world_spec.proofs.Keyed.{there}
use Rattle.zr_world_spec.proofs.Names.{names, same_name}
use Rattle.zr_world_spec.proofs.Links.{named_link, numbered_link}
use Rattle.zr_world_spec.proofs.Cases.{number_found}
use Rattle.zr_world_spec.proofs.Fits.{up_is_there}
use Rattle.zr_law_samples.proofs.Idle.{asked_as}
use Rattle.zr_law_samples.proofs.Ways.{root_no_child, one_parent, up_from, IsNext, on_whole_way}
use Rattle.zr_law_samples.proofs.Pushes.{tree_from_client, tree_from_parent, takes_it, asks_it, has_taker, goes_over, leads_to_child, leads_there, names_tree, Goes, goes_of, over_client, over_router}
use Rattle.zr_law_samples.proofs.Asking.{set_asks}
use Rattle.zr_law_samples.proofs.Pair.{Pair, leads, comes_down, passes_down, IsSentOn, OnWay, Between, IsRouted}

-- what is known where a mark is accepted: no client has a router's name or an end at another router than its own; each router reaches each,
-- has the graph of the world, and knows what the clients of each have declared; a client that is attached is linked, and what it has
-- declared stands in the rows of its link
pub record AreReady (before : List Numbered) (w : WorldState) : Type 0 where
  pub sound : IsSound w
  pub apart : (name : List ℕ) → is_some (client_of w.clients name) ≡ true → is_some (router_of w.routers name) ≡ false
  pub homes : (name x : List ℕ) (s : ClientState) → client_of w.clients name ≡ Some s → is_some (end_of w.ends (x, name)) ≡ true → x ≡ s.router
  pub is_graph : IsGraph (graph w)
  pub reaches : (x z : List ℕ) → is_some (router_of w.routers x) ≡ true → is_some (router_of w.routers z) ≡ true → reached (graph w) x z ≡ true
  pub graphs : (x : List ℕ) (r : RouterState) → router_of w.routers x ≡ Some r → graph_of r.node.base.records ≡ graph w
  pub logs : (x z : List ℕ) (rx rz : RouterState) → router_of w.routers x ≡ Some rx → router_of w.routers z ≡ Some rz → decls rx.node.known z ≡ declared_set rz.node.rows
  pub linked : (name : List ℕ) (s : ClientState) → client_of w.clients name ≡ Some s → is_attached before name ≡ true → is_up w.ends (s.router, name) ≡ true
  pub asked : (name : List ℕ) (s : ClientState) (r : RouterState) (k : LinkPeer) → client_of w.clients name ≡ Some s → is_attached before name ≡ true →
      router_of w.routers s.router ≡ Some r → link_to r.node.links name ≡ Some k → (carried : Carried) → asks_it r.node.rows k.link.0 carried ≡ takes before name carried

module _ (before phase : List Numbered) (w : WorldState) (h : AreReady before w) (publisher receiver : List ℕ) (sa sd : ClientState)
    (ea : client_of w.clients publisher ≡ Some sa) (ed : client_of w.clients receiver ≡ Some sd) (attached : is_attached before receiver ≡ true) where
  abbrev g : Graph
  g = graph w

  abbrev root : List ℕ
  root = sa.router

  abbrev dest : List ℕ
  dest = sd.router

  abbrev is_there : List ℕ → Bool
  is_there x = is_some (router_of w.routers x)

  root_there : is_there sa.router ≡ true
  root_there = h.sound.routers sa.router publisher (h.sound.clients publisher sa ea)

  dest_there : is_there sd.router ≡ true
  dest_there = h.sound.routers sd.router receiver (h.sound.clients receiver sd ed)

  publisher_apart : is_there publisher ≡ false
  publisher_apart = h.apart publisher (ap is_some ea)

  receiver_apart : is_there receiver ≡ false
  receiver_apart = h.apart receiver (ap is_some ed)

  pub far : (n : ℕ) × (tree_depth (graph w) sa.router sd.router ≡ Some n)
  far = there (tree_depth (graph w) sa.router sd.router) (sym (reached_depth (graph w) sa.router sd.router) ∙ h.reaches sa.router sd.router root_there dest_there)

  abbrev pub pair_of : Pair
  pair_of = record {
    before = before;
    by = λ t. is_line_of phase publisher t;
    publisher = publisher;
    receiver = receiver;
    world = w;
    root = sa.router;
    first = sd.router;
    more = up_from (graph w) h.is_graph sa.router far.0 sd.router;
  }

  -- ---- links and children

  ends_up : (x y : List ℕ) → is_linked w.ends x y ≡ true → (is_up w.ends (x, y) ≡ true) × (is_up w.ends (y, x) ≡ true)
  ends_up x y k = and_parts (is_up w.ends (x, y)) (is_up w.ends (y, x)) k

  router_there : (x y : List ℕ) → is_up w.ends (x, y) ≡ true → is_there x ≡ true
  router_there x y k = h.sound.routers x y (up_is_there (end_of w.ends (x, y)) k)

  -- a parent and its child have a link that is up at both ends
  child_linked : (x y : List ℕ) → is_child (graph w) sa.router x y ≡ true → (is_up w.ends (x, y) ≡ true) × (is_up w.ends (y, x) ≡ true)
  child_linked x y c =
      let p = parent_is (graph w) sa.router y x (child_is (graph w) sa.router x y c) in
      let ups = ends_up y x (in_filter (λ z. is_linked w.ends y z) (graph w).names x p.1.neighbour).1 in
      (ups.1, ups.0)

  root_apart : (x y : List ℕ) → is_child (graph w) sa.router x y ≡ true → is_named sa.router y ≡ false
  root_apart x y c = by (is_named sa.router y) refl
    where
      by : (b : Bool) → is_named sa.router y ≡ b → b ≡ false
      by false e = refl
      by true e = absurd (true≢false (sym c ∙ ap (is_child (graph w) sa.router x) (sym (same_name sa.router y e)) ∙ root_no_child (graph w) h.is_graph sa.router x))

  -- two names of which one is a router's
  names_apart : (x y : List ℕ) → is_there x ≡ false → is_there y ≡ true → is_named x y ≡ false
  names_apart x y a b = by (is_named x y) refl
    where
      by : (t : Bool) → is_named x y ≡ t → t ≡ false
      by false e = refl
      by true e = absurd (false≢true (sym a ∙ ap is_there (same_name x y e) ∙ b))

  -- ---- the tree in which a router sends on

  module _ (x : List ℕ) (r : RouterState) (er : router_of w.routers x ≡ Some r) (now : NodeState) (y : List ℕ) (l : LinkNo) (el : number_to r y ≡ Ok l) (msg : Msg) (carried : Carried)
      (carries : carried_by msg ≡ Some carried) (down : comes_down pair_of x y msg ≡ true) where
    abbrev sends : Goes (asked_as r.node now) l msg carried
    sends = goes_of (asked_as r.node now) l msg carried carries

    in_tree : tree_of (tables (asked_as r.node now)) (link_at r.node.links l.0) sends.tree ≡ Some sa.router
    in_tree = by (is_named sa.router x) refl down
      where
        j : (k : LinkPeer) × (link_to r.node.links y ≡ Some k) × (k.link ≡ l)
        j = number_found r y l el

        at : link_at r.node.links l.0 ≡ Some j.0
        at = ap (λ z. link_at r.node.links z.0) (sym j.2) ∙ numbered_link r.node.links (h.sound.unique x r er) y j.0 j.1

        role : is_router j.0.peer.role ≡ is_there y
        role = h.sound.roles x y r j.0 er j.1

        by : (b : Bool) → is_named sa.router x ≡ b → (cond b (is_named publisher y) (is_child (graph w) sa.router y x) && (b || names_tree sa.router msg)) ≡ true →
            tree_of (tables (asked_as r.node now)) (link_at r.node.links l.0) sends.tree ≡ Some sa.router
        by true same k =
            tree_from_client (tables (asked_as r.node now)) sends.tree j.0 (link_at r.node.links l.0) at
            (role ∙ ap is_there (sym (same_name publisher y (and_parts (is_named publisher y) true k).0)) ∙ publisher_apart)
            ∙ ap Some (h.sound.own x r er ∙ sym (same_name sa.router x same))
        by false other k =
            let parts = and_parts (is_child (graph w) sa.router y x) (names_tree sa.router msg) k in
            tree_from_parent (tables (asked_as r.node now)) sends.tree j.0 (link_at r.node.links l.0) at (role ∙ router_there y x (child_linked y x parts.0).0) sa.router (sends.tree_is sa.router parts.1)
            (ap (λ (z : Graph). parent z sa.router r.node.base.me) (h.graphs x r er) ∙ ap (parent (graph w) sa.router) (h.sound.own x r er) ∙ child_is (graph w) sa.router y x parts.0
            ∙ ap Some (sym (named_link r.node.links y j.0 j.1)))

    -- everything that carries something goes on down the tree
    goes_down : (z : List ℕ) → is_there z ≡ true → list_all (passes_down pair_of z x) (sends_to (asked_as r.node now) (From l msg) z) ≡ true
    goes_down z is_z = by (link_to r.node.links z) refl
      where
        by : (o : Option LinkPeer) → link_to r.node.links z ≡ o → list_all (passes_down pair_of z x) (sends_to (asked_as r.node now) (From l msg) z) ≡ true
        by None e = ap (list_all (passes_down pair_of z x)) (sends.nowhere z e)
        by (Some k) e = sends.passes sa.router in_tree z k e (numbered_link r.node.links (h.sound.unique x r er) z k e) (h.sound.roles x z r k er e ∙ is_z) (passes_down pair_of z x)
            (λ m none. or_left (is_none (carried_by m)) (comes_down pair_of z x m) (ap is_none none)) (λ over m named. or_right (is_none (carried_by m)) (comes_down pair_of z x m) (comes over m named))
          where
            comes : leads_to_source (tables (asked_as r.node now)) sa.router (has_taker carried) k.peer.id ≡ true → (m : Msg) → names_tree sa.router m ≡ true → comes_down pair_of z x m ≡ true
            comes over m named =
                and_from (leads pair_of z x) (is_named sa.router z || names_tree sa.router m)
                (ap (λ b. cond b (is_named publisher x) (is_child (graph w) sa.router x z)) (root_apart x z child) ∙ child)
                (or_right (is_named sa.router z) (names_tree sa.router m) named)
              where
                child : is_child (graph w) sa.router x z ≡ true
                child =
                    sym (ap (λ (v : Graph). is_child v sa.router r.node.base.me k.peer.id) (h.graphs x r er)
                    ∙ ap (λ v. is_child (graph w) sa.router v k.peer.id) (h.sound.own x r er) ∙ ap (is_child (graph w) sa.router x) (named_link r.node.links z k e))
                    ∙ leads_to_child (tables (asked_as r.node now)) sa.router (has_taker carried) k.peer.id over

  -- ---- the receiver's own router

  -- the router, and its link to the receiver
  dest_router : (r : RouterState) × (router_of w.routers sd.router ≡ Some r)
  dest_router = there (router_of w.routers sd.router) dest_there

  receiver_link : (r : RouterState) → router_of w.routers sd.router ≡ Some r → (k : LinkPeer) × (link_to r.node.links receiver ≡ Some k)
  receiver_link r er = there (link_to r.node.links receiver) (h.sound.links sd.router receiver r er ∙ h.linked receiver sd ed attached)

  -- it sends to the receiver what is for it
  at_dest : (s : List ℕ) → is_named s receiver ≡ is_named publisher receiver → (r : RouterState) → router_of w.routers sd.router ≡ Some r → (now : NodeState) (l : LinkNo) → number_to r s ≡ Ok l →
      (msg : Msg) (carried : Carried) → carried_by msg ≡ Some carried → comes_down pair_of sd.router s msg ≡ true → IsSentOn pair_of receiver carried (sends_to (asked_as r.node now) (From l msg) receiver)
  at_dest s same r er now l el msg carried carries down = record {
    goes = goes_over (tables (asked_as r.node now)) l.0 sa.router carried k.0 k.0.peer.role;
    sent_is = (goes_of (asked_as r.node now) l msg carried carries).carries sa.router (in_tree sd.router r er now s l el msg carried carries down) receiver k.0 k.1 k_at;
    where_wanted = λ v. chosen ∙ v;
    to_receiver = λ v. chosen;
  }
    where
      k : (k : LinkPeer) × (link_to r.node.links receiver ≡ Some k)
      k = receiver_link r er

      k_at : link_at r.node.links k.0.link.0 ≡ Some k.0
      k_at = numbered_link r.node.links (h.sound.unique sd.router r er) receiver k.0 k.1

      j : (z : LinkPeer) × (link_to r.node.links s ≡ Some z) × (z.link ≡ l)
      j = number_found r s l el

      j_at : link_at r.node.links l.0 ≡ Some j.0
      j_at = ap (λ z. link_at r.node.links z.0) (sym j.2) ∙ numbered_link r.node.links (h.sound.unique sd.router r er) s j.0 j.1

      -- the two links are one exactly where the two are one
      same_link : (b : Bool) → is_named s receiver ≡ b → (k.0.link.0 == l.0) ≡ b
      same_link true e =
          let one : Some j.0 ≡ Some k.0 = sym j.1 ∙ ap (link_to r.node.links) (same_name s receiver e) ∙ k.1 in
          let is : j.0 ≡ k.0 = cc in
          eq-eqb k.0.link.0 l.0 (ap (λ z. z.link.0) (sym is) ∙ ap (λ z. z.0) j.2)
      same_link false other = apart_by (k.0.link.0 == l.0) refl
        where
          apart_by : (b : Bool) → (k.0.link.0 == l.0) ≡ b → (k.0.link.0 == l.0) ≡ false
          apart_by false f = f
          apart_by true f =
              let one : Some k.0 ≡ Some j.0 = sym k_at ∙ ap (link_at r.node.links) (eqb-true k.0.link.0 l.0 f) ∙ j_at in
              let is : k.0 ≡ j.0 = cc in
              let name_is : s ≡ receiver = sym (named_link r.node.links s j.0 j.1) ∙ ap (λ z. z.peer.id) (sym is) ∙ named_link r.node.links receiver k.0 k.1 in
              absurd (false≢true (sym other ∙ ap (is_named s) (sym name_is) ∙ names.refl s))

      chosen : goes_over (tables (asked_as r.node now)) l.0 sa.router carried k.0 k.0.peer.role ≡ is_for before publisher receiver carried
      chosen =
          over_client (tables (asked_as r.node now)) l.0 sa.router carried k.0 k.0.peer.role (h.sound.roles sd.router receiver r k.0 er k.1 ∙ receiver_apart)
          ∙ ap (λ b. not b && asks_it r.node.rows k.0.link.0 carried) (same_link (is_named s receiver) refl ∙ same)
          ∙ ap (λ b. not (is_named publisher receiver) && b) (h.asked receiver sd r k.0 ed attached er k.1 carried)
          ∙ ap (λ b. not (is_named publisher receiver) && (b && takes before receiver carried)) (sym attached)

  -- ---- the others on the way

  -- what the receiver takes all routers know that its router takes
  asked_there : (x : List ℕ) (r : RouterState) → router_of w.routers x ≡ Some r → (carried : Carried) → is_for before publisher receiver carried ≡ true →
      list_any (λ d. takes_it carried d) (decls r.node.known sd.router) ≡ true
  asked_there x r er carried v =
      let rd = dest_router in
      let k = receiver_link rd.0 rd.1 in
      let asks = (and_parts (is_attached before receiver) (takes before receiver carried)
      (and_parts (not (is_named publisher receiver)) (is_attached before receiver && takes before receiver carried) v).1).1 in
      ap (list_any (λ d. takes_it carried d)) (h.logs x sd.router r rd.0 er rd.1)
      ∙ set_asks (takes_it carried) rd.0.node.rows k.0.link.0 (h.asked receiver sd rd.0 k.0 ed attached rd.1 k.1 carried ∙ asks)

  -- a router sends to its child toward the receiver what the receiver is to have
  at_child : (x to s : List ℕ) → toward (graph w) sa.router x sd.router ≡ Some to → is_child (graph w) sa.router x to ≡ true → (r : RouterState) → router_of w.routers x ≡ Some r →
      (now : NodeState) (l : LinkNo) → number_to r s ≡ Ok l → (msg : Msg) (carried : Carried) → carried_by msg ≡ Some carried → comes_down pair_of x s msg ≡ true →
      IsSentOn pair_of to carried (sends_to (asked_as r.node now) (From l msg) to)
  at_child x to s next child r er now l el msg carried carries down = record {
    goes = goes_over (tables (asked_as r.node now)) l.0 sa.router carried k.0 k.0.peer.role;
    sent_is = (goes_of (asked_as r.node now) l msg carried carries).carries sa.router (in_tree x r er now s l el msg carried carries down) to k.0 k.1
        (numbered_link r.node.links (h.sound.unique x r er) to k.0 k.1);
    where_wanted = λ v. over_router (tables (asked_as r.node now)) l.0 sa.router carried k.0 k.0.peer.role (h.sound.roles x to r k.0 er k.1 ∙ to_there)
        ∙ leads_there (tables (asked_as r.node now)) sa.router carried sd.router k.0.peer.id (asked_there x r er carried v)
        (ap (λ (z : Graph). reached z r.node.base.me sd.router) (h.graphs x r er) ∙ ap (λ z. reached (graph w) z sd.router) (h.sound.own x r er) ∙ h.reaches x sd.router (ap is_some er) dest_there)
        (ap (λ (z : Graph). toward z sa.router r.node.base.me sd.router) (h.graphs x r er) ∙ ap (λ z. toward (graph w) sa.router z sd.router) (h.sound.own x r er) ∙ next
        ∙ ap Some (sym (named_link r.node.links to k.0 k.1)));
    to_receiver = λ v. absurd (false≢true (sym (names_apart receiver to receiver_apart to_there) ∙ v));
  }
    where
      to_there : is_there to ≡ true
      to_there = router_there to x (child_linked x to child).1

      k : (k : LinkPeer) × (link_to r.node.links to ≡ Some k)
      k = there (link_to r.node.links to) (h.sound.links x to r er ∙ (child_linked x to child).0)

  -- ---- the whole way

  -- a router on the way, between its neighbours on it
  module _ (to x s : List ℕ) (leads_it : leads pair_of x s ≡ true) where
    only : (y : List ℕ) → leads pair_of x y ≡ true → y ≡ s
    only y k = by (is_named sa.router x) leads_it k
      where
        by : (b : Bool) → cond b (is_named publisher s) (is_child (graph w) sa.router s x) ≡ true → cond b (is_named publisher y) (is_child (graph w) sa.router y x) ≡ true → y ≡ s
        by true u v = sym (same_name publisher y v) ∙ same_name publisher s u
        by false u v = one_parent (graph w) h.is_graph sa.router x y s v u

    last : is_named publisher s ≡ true → is_named sa.router x ≡ true
    last k = by (is_named sa.router x) refl leads_it
      where
        by : (b : Bool) → is_named sa.router x ≡ b → cond b (is_named publisher s) (is_child (graph w) sa.router s x) ≡ true → is_named sa.router x ≡ true
        by true e u = e
        by false e u = absurd (false≢true (sym publisher_apart ∙ ap is_there (same_name publisher s k) ∙ router_there s x (child_linked s x u).0))

    -- at the receiver's router the next one is the receiver exactly where the publisher is
    same_at_dest : x ≡ sd.router → is_named s receiver ≡ is_named publisher receiver
    same_at_dest at = by (is_named sa.router x) refl leads_it
      where
        by : (b : Bool) → is_named sa.router x ≡ b → cond b (is_named publisher s) (is_child (graph w) sa.router s x) ≡ true → is_named s receiver ≡ is_named publisher receiver
        by true e u = ap (λ z. is_named z receiver) (sym (same_name publisher s u))
        by false e u = names.symm s receiver ∙ names_apart receiver s receiver_apart (router_there s x (child_linked s x u).0) ∙ sym (other (is_named publisher receiver) refl)
          where
            other : (b : Bool) → is_named publisher receiver ≡ b → is_named publisher receiver ≡ false
            other false f = f
            other true f =
                let one : Some sa ≡ Some sd = sym ea ∙ ap (client_of w.clients) (same_name publisher receiver f) ∙ ed in
                let is : sa ≡ sd = cc in
                absurd (true≢false (sym (ap (is_named sa.router) (at ∙ ap (λ (z : ClientState). z.router) (sym is)) ∙ names.refl sa.router) ∙ e))

    abbrev Next : Type 0
    Next = IsNext (graph w) h.is_graph sa.router sd.router far.0 far.1 receiver to x

    end_is : Next → is_some (end_of w.ends (x, to)) ≡ true
    end_is (inl n) = ap (λ z. is_some (end_of w.ends (z, to))) n.1 ∙ ap (λ z. is_some (end_of w.ends (sd.router, z))) n.0 ∙ h.sound.clients receiver sd ed
    end_is (inr n) = up_is_there (end_of w.ends (x, to)) (child_linked x to n.1).0

    routes : Next → (r : RouterState) → router_of w.routers x ≡ Some r → (now : NodeState) (l : LinkNo) → number_to r s ≡ Ok l → (msg : Msg) (carried : Carried) → carried_by msg ≡ Some carried →
        comes_down pair_of x s msg ≡ true → IsSentOn pair_of to carried (sends_to (asked_as r.node now) (From l msg) to)
    routes (inl n) r er now l el msg carried carries down =
        subst (λ (z : List ℕ). IsSentOn pair_of z carried (sends_to (asked_as r.node now) (From l msg) z)) (sym n.0)
        (at_dest s (same_at_dest n.1) r (ap (router_of w.routers) (sym n.1) ∙ er) now l el msg carried carries (ap (λ z. comes_down pair_of z s msg) (sym n.1) ∙ down))
    routes (inr n) r er now l el msg carried carries down = at_child x to s n.0 n.1 r er now l el msg carried carries down

    on : Next → OnWay pair_of to x s
    on n = record { end_is = end_is n; only = only; last = last; routes = routes n }

  between : (x p : List ℕ) → parent (graph w) sa.router x ≡ Some p → below (graph w) sa.router x sd.router ≡ true → Between pair_of x p
  between x p e b =
      let ups = child_linked p x (child_from (graph w) sa.router p x e) in
      record { end_is = up_is_there (end_of w.ends (x, p)) ups.1; router = router_there p x ups.0 }

  inner : (to x p : List ℕ) → IsNext (graph w) h.is_graph sa.router sd.router far.0 far.1 receiver to x → below (graph w) sa.router x sd.router ≡ true → parent (graph w) sa.router x ≡ Some p → OnWay pair_of to x p
  inner to x p n b e = on to x p leads_it n
    where
      child : is_child (graph w) sa.router p x ≡ true
      child = child_from (graph w) sa.router p x e

      leads_it : leads pair_of x p ≡ true
      leads_it = ap (λ t. cond t (is_named publisher p) (is_child (graph w) sa.router p x)) (root_apart p x child) ∙ child

  at_root : (to : List ℕ) → IsNext (graph w) h.is_graph sa.router sd.router far.0 far.1 receiver to sa.router → OnWay pair_of to sa.router publisher
  at_root to n = on to sa.router publisher leads_it n
    where
      leads_it : leads pair_of sa.router publisher ≡ true
      leads_it = ap (λ t. cond t (is_named publisher publisher) (is_child (graph w) sa.router publisher sa.router)) (names.refl sa.router) ∙ names.refl publisher

  pub routed : IsRouted pair_of
  routed = record {
    sound = h.sound;
    publisher_apart = publisher_apart;
    receiver_apart = receiver_apart;
    clients_apart = h.apart;
    home = λ s e. let one : Some s ≡ Some sa = sym e ∙ ea in let is : s ≡ sa = cc in ap (λ z. z.router) is;
    receiver_home = λ x k. h.homes receiver x sd ed k;
    goes_down = λ x y z r er now l el msg carried carries down is_z. goes_down x r er now y l el msg carried carries down z is_z;
    whole_way = on_whole_way (graph w) h.is_graph sa.router sd.router far.0 far.1 publisher (OnWay pair_of) (Between pair_of) between receiver inner at_root;
  }
