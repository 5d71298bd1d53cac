-- What a sample under way is worth: more than all that it becomes, so at least as many steps as its journey has. It goes down the tree of its root, and
-- is handled and taken once for each router below, and taken once for each client of those.
use Rattle.std.proofs.Common.{◌≡◌, ℕ, ◌<◌, ◌≤◌, Bool, true, false, cond, ◌&&◌, not, List, [], ◌∷◌, ◌++◌, map, Option, Some, None, refl, sym, ap, ◌∙◌, subst, arith}
use Rattle.std.specs.Prelude.{◌+◌, ◌-◌, ◌==◌, is_some}
use Rattle.std.specs.List.{AllByRecursion}
use Rattle.std.specs.List.Sorted.{IsStrictlySortedBy}
use Rattle.std.specs.Map.{keys_of}
use Rattle.std.specs.Option.{option_map_or}
use Rattle.std.specs.Ordering.{is_eq}
use Rattle.std.specs.declared.cmp.Ordering.TheVariants.{Less}
use Rattle.std.proofs.lemmas.Bool.{false≢true, true≢false, and_parts, eq-eqb}
use Rattle.zr_lists.proofs.Finds.{find_in, any_in, in_filter}
use Rattle.zr_orders.specs.Bag.{weigh}
use Rattle.zr_orders.proofs.Bag.{weigh-append}
use Rattle.zr_orders.proofs.Passes.{weigh-map}
use Rattle.zr_id.specs.Zid.{is_named}
use Rattle.zr_graph.specs.Record.{has}
use Rattle.zr_graph.proofs.Names.{same_is, same_refl}
use Rattle.zr_tree.specs.Walk.{graph_of}
use Rattle.zr_tree.specs.Tree.{parent, is_child, below, reached, toward, tree_depth}
use Rattle.zr_tree.specs.Laws.{IsGraph}
use Rattle.zr_tree.proofs.Branches.{parent_is, child_is}
use Rattle.zr_msg.specs.declared.content.Parts.{Parts}
use Rattle.zr_msg.specs.declared.msg.Msg.{Msg}
use Rattle.zr_msg.specs.declared.msg.Msg.TheVariants.{Push}
use Rattle.zr_msg.specs.declared.event.Event.TheVariants.{From}
use Rattle.zr_msg.specs.declared.peer.LinkPeer.{LinkPeer}
use Rattle.zr_msg.specs.declared.peer.Role.{Role}
use Rattle.zr_msg.specs.declared.peer.Role.TheVariants.{Client, Router}
use Rattle.zr_node_spec.specs.Tables.{TableState, is_router, link_at, link_to, graph as graph_by}
use Rattle.zr_node_spec.specs.Samples.{subscribes, has_subscriber, is_toward, leads_to_subscriber, tree_by, tree_of, push_to, push_on, push_along}
use Rattle.zr_node_spec.specs.State.{tables}
use Rattle.zr_node_spec.specs.Table.{sends_from}
use Rattle.zr_world_spec.specs.World.{Tagged, RouterState, EndState, End, Ends, WorldState, end_cmp, router_of, end_of, turned, is_up}
use Rattle.zr_world_spec.specs.Joined.{graph}
use Rattle.zr_world_spec.specs.Acts.{sends_to}
use Rattle.zr_world_spec.specs.Fan.{is_sample}
use Rattle.zr_world_spec.specs.Sound.{IsSound}
use Rattle.zr_world_spec.proofs.Names.{same_name}
use Rattle.zr_world_spec.proofs.Ends.{end_parts}
use Rattle.zr_world_spec.proofs.Links.{numbered_link}
use Rattle.zr_law_settled.proofs.Quiet.{passes_there}
use Rattle.zr_law_fan.specs.Samples.{Move, Handling, Taking, msg_of, tagged, sent_at, sends_over, sends_by, next_moves}
use Rattle.zr_law_fan.proofs.Moving.{sample_case, none_sent}
use Rattle.zr_law_fan.proofs.Pushing.{goes_to}
use Rattle.zr_law_fans.proofs.Trees.{Agree, same_child_here, weight_under, AreApart, children_are_apart}

-- ---- what a sample is worth

-- the tree in which a router passes a sample on, if it does
abbrev pub tree_over : RouterState → Option LinkPeer → Msg → Option (List ℕ)
tree_over r None m = None
tree_over r (Some k) (Push tree content) = tree_of (tables r.node) (link_at r.node.links k.link.0) tree
tree_over r (Some k) other = None

abbrev pub tree_at : Option RouterState → List ℕ → Msg → Option (List ℕ)
tree_at None from m = None
tree_at (Some r) from m = tree_over r (link_to r.node.links from) m

-- the ends of x at which no router is
abbrev pub clients_at : Ends → List End → List ℕ → ℕ
clients_at es [] x = 0
clients_at es (q ∷ qs) x = cond (is_named x q.0) (cond (is_some (end_of es (turned q))) 0 1) 0 + clients_at es qs x

abbrev pub clients_of : WorldState → List ℕ → ℕ
clients_of w x = clients_at w.ends (keys_of w.ends) x

-- without the one of a name
abbrev pub clients_but : Ends → List End → List ℕ → List ℕ → ℕ
clients_but es [] x a = 0
clients_but es (q ∷ qs) x a = cond (is_named x q.0) (cond (is_some (end_of es (turned q))) 0 (cond (is_named q.1 a) 0 1)) 0 + clients_but es qs x a

abbrev pub steps_at : WorldState → List ℕ → ℕ
steps_at w x = 2 + clients_of w x

abbrev pub under : WorldState → List ℕ → List ℕ → ℕ
under w root x = weight_under (graph w) (steps_at w) root x

-- a sample that is handled isn't passed on to its publisher
abbrev pub worth_from : WorldState → Option (List ℕ) → End → ℕ
worth_from w None e = 1
worth_from w (Some root) e = 1 + clients_but w.ends (keys_of w.ends) e.0 e.1 + (under w root e.0 - steps_at w e.0)

abbrev pub worth_handled : WorldState → End → Msg → ℕ
worth_handled w e m = worth_from w (tree_at (router_of w.routers e.0) e.1 m) e

abbrev pub worth : WorldState → Move → ℕ
worth w (Handling e m) = worth_handled w e m.msg
worth w (Taking e m) = cond (is_some (end_of w.ends (turned e))) (1 + worth_handled w (turned e) m.msg) 1

-- each router sees the links that are up, as far as it reaches
pub record SeesItsPart (w : WorldState) : Type 0 where
  pub is_graph : IsGraph (graph w)
  pub records : (x : List ℕ) (r : RouterState) → router_of w.routers x ≡ Some r → IsGraph (graph_of r.node.base.records)
  pub agrees : (x : List ℕ) (r : RouterState) → router_of w.routers x ≡ Some r → Agree (graph_of r.node.base.records) (graph w) x

-- a neighbour on the way to a subscriber is a child
leads_to_child : (t : TableState) (root key name : List ℕ) → leads_to_subscriber t root key name ≡ true → is_child (graph_by t) root t.base.me name ≡ true
leads_to_child t root key name h =
    let found = any_in (λ log. has_subscriber key log && (reached (graph_by t) t.base.me log.source && is_toward t root log.source name)) t.known.logs h in
    let parts = and_parts (has_subscriber key found.0) (reached (graph_by t) t.base.me found.0.source && is_toward t root found.0.source name) found.2 in
    let on_way = and_parts (reached (graph_by t) t.base.me found.0.source) (is_toward t root found.0.source name) parts.1 in
    by found.0.source (toward (graph_by t) root t.base.me found.0.source) refl on_way.1
  where
    by : (dest : List ℕ) (o : Option (List ℕ)) → toward (graph_by t) root t.base.me dest ≡ o → option_map_or (λ y. is_named y name) o false ≡ true → is_child (graph_by t) root t.base.me name ≡ true
    by dest None e h = absurd (false≢true h)
    by dest (Some y) e h =
        let f = find_in (λ z. is_child (graph_by t) root t.base.me z && below (graph_by t) root z dest) (graph_by t).names y e in
        ap (is_child (graph_by t) root t.base.me) (sym (same_is y name h)) ∙ (and_parts (is_child (graph_by t) root t.base.me y) (below (graph_by t) root y dest) f.1).0

-- each end is below those after it
abbrev AllPairs : List End → Type 0
AllPairs [] = Unit {0}
AllPairs (q ∷ qs) = AllByRecursion (λ p. end_cmp q p ≡ Less) qs × AllPairs qs

pairs_of : (qs : List End) → IsStrictlySortedBy end_cmp qs → AllPairs qs
unfolding IsStrictlySortedBy
pairs_of [] h = tt
pairs_of (q ∷ qs) h = (h.0, pairs_of qs h.1)

-- without one there are no more
pub clients_less : (es : Ends) (qs : List End) (x a : List ℕ) → clients_but es qs x a ≤ clients_at es qs x
clients_less es [] x a = omega arith
clients_less es (q ∷ qs) x a = by (is_named x q.0) (is_some (end_of es (turned q))) (is_named q.1 a) (clients_less es qs x a)
  where
    by : (b c d : Bool) → clients_but es qs x a ≤ clients_at es qs x → cond b (cond c 0 (cond d 0 1)) 0 + clients_but es qs x a ≤ cond b (cond c 0 1) 0 + clients_at es qs x
    by false c d ih = omega (arith, ih)
    by true true d ih = omega (arith, ih)
    by true false true ih = omega (arith, ih)
    by true false false ih = omega (arith, ih)

module _ (w : WorldState) (sound : IsSound w) (sees : SeesItsPart w) where
  taken_worth : (e : End) (m : Tagged) → weigh (worth w) (next_moves w (Taking e m)) < worth w (Taking e m)
  taken_worth e m = by (is_some (end_of w.ends (turned e)))
    where
      by : (b : Bool) → weigh (worth w) (cond b (Handling (turned e) m ∷ []) []) < cond b (1 + worth_handled w (turned e) m.msg) 1
      by true = omega arith
      by false = omega arith

  -- ---- nothing is sent

  none_weighs : (x : List ℕ) (msgs : List ℕ → List Msg) (tag : ℕ) → ((name : List ℕ) → msgs name ≡ []) → (qs : List End) → weigh (worth w) (sent_at qs x msgs tag) ≡ 0
  none_weighs x msgs tag none qs = ap (weigh (worth w)) (none_sent qs x msgs tag none)

  -- ---- the children to which a router may send

  module _ (root x : List ℕ) where
    abbrev kids : End → List (List ℕ)
    kids q = cond (is_child (graph w) root x q.1 && is_some (end_of w.ends (turned q))) (q.1 ∷ []) []

    abbrev all_kids : List End → List (List ℕ)
    all_kids [] = []
    all_kids (q ∷ qs) = cond (is_named x q.0) (kids q) [] ++ all_kids qs

    sums : (a : List ℕ) (msgs : List ℕ → List Msg) (tag : ℕ) →
        ((q : End) → is_named x q.0 ≡ true → weigh (λ z. worth w (Taking q (tagged tag z))) (msgs q.1) ≤ cond (is_some (end_of w.ends (turned q))) 0 (cond (is_named q.1 a) 0 1) + weigh (under w root) (kids q)) →
        (qs : List End) → weigh (worth w) (sent_at qs x msgs tag) ≤ clients_but w.ends qs x a + weigh (under w root) (all_kids qs)
    sums a msgs tag each [] = omega arith
    sums a msgs tag each (q ∷ qs) = by (is_named x q.0) refl (sums a msgs tag each qs)
      where
        by : (b : Bool) → is_named x q.0 ≡ b → weigh (worth w) (sent_at qs x msgs tag) ≤ clients_but w.ends qs x a + weigh (under w root) (all_kids qs) →
            weigh (worth w) (cond b (map (λ z. Taking q (tagged tag z)) (msgs q.1)) [] ++ sent_at qs x msgs tag) ≤
            cond b (cond (is_some (end_of w.ends (turned q))) 0 (cond (is_named q.1 a) 0 1)) 0 + clients_but w.ends qs x a + weigh (under w root) (cond b (kids q) [] ++ all_kids qs)
        by true own ih =
            let one = each q own in
            let sent = weigh-append (worth w) (map (λ z. Taking q (tagged tag z)) (msgs q.1)) (sent_at qs x msgs tag) in
            let mapped = weigh-map (worth w) (λ z. Taking q (tagged tag z)) (msgs q.1) in
            let parts = weigh-append (under w root) (kids q) (all_kids qs) in
            omega (arith, one, sent, mapped, parts, ih)
        by false own ih = omega (arith, ih)

    kids_pass : (P : List ℕ → Type 0) (qs : List End) → ((q : End) → is_named x q.0 ≡ true → is_child (graph w) root x q.1 ≡ true → P q.1) → AllByRecursion P (all_kids qs)
    kids_pass P [] h = tt
    kids_pass P (q ∷ qs) h = by (is_named x q.0) refl (is_child (graph w) root x q.1) refl (is_some (end_of w.ends (turned q))) (kids_pass P qs h)
      where
        by : (b : Bool) → is_named x q.0 ≡ b → (c : Bool) → is_child (graph w) root x q.1 ≡ c → (d : Bool) → AllByRecursion P (all_kids qs) → AllByRecursion P (cond b (cond (c && d) (q.1 ∷ []) []) [] ++ all_kids qs)
        by false own c child d ih = ih
        by true own false child d ih = ih
        by true own true child false ih = ih
        by true own true child true ih = (h q own child, ih)

    -- ends in order have each child once
    other_kids : (q : End) → is_named x q.0 ≡ true → (qs : List End) → AllByRecursion (λ p. end_cmp q p ≡ Less) qs → AllByRecursion (λ y. is_named q.1 y ≡ false) (all_kids qs)
    other_kids q own [] all = tt
    other_kids q own (p ∷ qs) all = by (is_named x p.0) refl (is_child (graph w) root x p.1) (is_some (end_of w.ends (turned p))) (other_kids q own qs all.1)
      where
        apart : is_named x p.0 ≡ true → is_named q.1 p.1 ≡ false
        apart mine =
            let same : q.0 ≡ p.0 = sym (same_name x q.0 own) ∙ same_name x p.0 mine in
            let first : is_named q.0 p.0 ≡ true = ap (is_named q.0) (sym same) ∙ same_refl q.0 in
            ap (λ b. b && is_named q.1 p.1) (sym first) ∙ sym (end_parts q p) ∙ ap is_eq all.0

        by : (b : Bool) → is_named x p.0 ≡ b → (c d : Bool) → AllByRecursion (λ y. is_named q.1 y ≡ false) (all_kids qs) →
            AllByRecursion (λ y. is_named q.1 y ≡ false) (cond b (cond (c && d) (p.1 ∷ []) []) [] ++ all_kids qs)
        by false mine c d ih = ih
        by true mine false d ih = ih
        by true mine true false ih = ih
        by true mine true true ih = (apart mine, ih)

    kids_apart : (qs : List End) → AllPairs qs → AreApart (all_kids qs)
    kids_apart [] all = tt
    kids_apart (q ∷ qs) all = by (is_named x q.0) refl (is_child (graph w) root x q.1) (is_some (end_of w.ends (turned q))) (kids_apart qs all.1)
      where
        by : (b : Bool) → is_named x q.0 ≡ b → (c d : Bool) → AreApart (all_kids qs) → AreApart (cond b (cond (c && d) (q.1 ∷ []) []) [] ++ all_kids qs)
        by false own c d ih = ih
        by true own false d ih = ih
        by true own true false ih = ih
        by true own true true ih = (other_kids q own qs all.0, ih)

    -- a child is there and reached, and so is x
    record Placed (z : List ℕ) : Type 0 where
      x_there : has (graph w).names x ≡ true
      x_reached : is_some (tree_depth (graph w) root x) ≡ true
      z_there : has (graph w).names z ≡ true
      z_reached : is_some (tree_depth (graph w) root z) ≡ true

    placed : (z : List ℕ) → is_child (graph w) root x z ≡ true → Placed z
    placed z child =
        let p = parent_is (graph w) root z x (child_is (graph w) root x z child) in
        let joined : (graph w).joined z x ≡ true = (in_filter (λ y. (graph w).joined z y) (graph w).names x p.1.neighbour).1 in
        record {
          x_there = sees.is_graph.known x z (sees.is_graph.both_ways z x joined);
          x_reached = ap is_some p.1.from_parent;
          z_there = sees.is_graph.known z x joined;
          z_reached = ap is_some p.1.to_child;
        }

    -- the link to a child is up at both ends
    kid_end : (z : List ℕ) → is_child (graph w) root x z ≡ true → is_some (end_of w.ends (z, x)) ≡ true
    kid_end z child =
        let p = parent_is (graph w) root z x (child_is (graph w) root x z child) in
        let joined : (graph w).joined z x ≡ true = (in_filter (λ y. (graph w).joined z y) (graph w).names x p.1.neighbour).1 in
        by (end_of w.ends (z, x)) refl (and_parts (is_up w.ends (z, x)) (is_up w.ends (x, z)) joined).0
      where
        by : (o : Option EndState) → end_of w.ends (z, x) ≡ o → is_up w.ends (z, x) ≡ true → is_some o ≡ true
        by None found up = absurd (false≢true (sym (ap (λ o. option_map_or (λ s. s.up) o false) found) ∙ up))
        by (Some s) found up = refl

    -- what is sent to all children is worth no more than what is below x
    below_kids : (zs : List (List ℕ)) → AreApart zs → AllByRecursion (λ z. is_child (graph w) root x z ≡ true) zs → weigh (under w root) zs ≤ under w root x - steps_at w x
    below_kids [] apart all = omega arith
    below_kids (z ∷ zs) apart all =
        let p = placed z all.0 in
        let most = children_are_apart (graph w) sees.is_graph (steps_at w) root x (z ∷ zs) p.x_there p.x_reached apart all in
        omega (arith, most)

    kid_worth : (z : List ℕ) → is_child (graph w) root x z ≡ true → (b : Bool) → 1 + worth_from w (cond b (Some root) None) (z, x) ≤ under w root z
    kid_worth z child b =
        let p = placed z child in
        let most = children_are_apart (graph w) sees.is_graph (steps_at w) root z [] p.z_there p.z_reached tt tt in
        let but = clients_less w.ends (keys_of w.ends) z x in
        by b most but
      where
        by : (b : Bool) → steps_at w z + 0 ≤ under w root z → clients_but w.ends (keys_of w.ends) z x ≤ clients_of w z → 1 + worth_from w (cond b (Some root) None) (z, x) ≤ under w root z
        by true most but = omega (arith, most, but)
        by false most but = omega (arith, most)

    -- a child passes it on in the same tree, or not at all
    kid_takes : (z : List ℕ) → is_child (graph w) root x z ≡ true → (content : Parts) → 1 + worth_handled w (z, x) (Push (Some root) content) ≤ under w root z
    kid_takes z child content = router (router_of w.routers z) refl
      where
        none : 1 + worth_from w None (z, x) ≤ under w root z
        none = kid_worth z child false

        x_there : is_some (router_of w.routers x) ≡ true
        x_there =
            let p = parent_is (graph w) root z x (child_is (graph w) root x z child) in
            let joined : (graph w).joined z x ≡ true = (in_filter (λ y. (graph w).joined z y) (graph w).names x p.1.neighbour).1 in
            sound.routers x z (passes_there (λ s. s.up) w.ends (x, z) (and_parts (is_up w.ends (z, x)) (is_up w.ends (x, z)) joined).1)

        router : (o : Option RouterState) → router_of w.routers z ≡ o → 1 + worth_from w (tree_at o x (Push (Some root) content)) (z, x) ≤ under w root z
        router None found = none
        router (Some r) found = over (link_to r.node.links x) refl
          where
            by_role : (k : LinkPeer) (role : Role) → is_router role ≡ true → 1 + worth_from w (tree_by (tables r.node) k role (Some root)) (z, x) ≤ under w root z
            by_role k Client bad = absurd (false≢true bad)
            by_role k Router ok = kid_worth z child (option_map_or (λ p. is_named p k.peer.id) (parent (graph_by (tables r.node)) root r.node.base.me) false)

            over : (l : Option LinkPeer) → link_to r.node.links x ≡ l → 1 + worth_from w (tree_over r l (Push (Some root) content)) (z, x) ≤ under w root z
            over None linked = none
            over (Some k) linked =
                let at = numbered_link r.node.links (sound.unique z r found) x k linked in
                subst (λ o. 1 + worth_from w (tree_of (tables r.node) o (Some root)) (z, x) ≤ under w root z) (sym at) (by_role k k.peer.role (sound.roles z x r k found linked ∙ x_there))

  -- ---- a sample that is handled

  module _ (x a : List ℕ) (r : RouterState) (found : router_of w.routers x ≡ Some r) (k : LinkPeer) (author : link_to r.node.links a ≡ Some k) (tree : Option (List ℕ)) (content : Parts) (tag : ℕ) where
    abbrev t : TableState
    t = tables r.node

    client_end : (q : End) (j : LinkPeer) → is_named x q.0 ≡ true → link_to r.node.links q.1 ≡ Some j → is_router j.peer.role ≡ false → is_some (end_of w.ends (turned q)) ≡ false
    client_end q j own linked role = by (is_some (end_of w.ends (turned q))) refl
      where
        by : (b : Bool) → is_some (end_of w.ends (turned q)) ≡ b → b ≡ false
        by false e = refl
        by true e = absurd (true≢false (sym (sound.routers q.1 q.0 e) ∙ sym (sound.roles x q.1 r j found linked) ∙ role))

    module _ (root : List ℕ) (in_tree : tree_of t (link_at r.node.links k.link.0) tree ≡ Some root) where
      abbrev Few : End → List Msg → Type 0
      Few q ms = weigh (λ z. worth w (Taking q (tagged tag z))) ms ≤ cond (is_some (end_of w.ends (turned q))) 0 (cond (is_named q.1 a) 0 1) + weigh (under w root) (kids root x q)

      here_child : (q : End) (j : LinkPeer) → j.peer.id ≡ q.1 → leads_to_subscriber t root content.key j.peer.id ≡ true → is_child (graph w) root x q.1 ≡ true
      here_child q j same leads =
          let child : is_child (graph_of r.node.base.records) root x q.1 ≡ true =
          subst (λ z. is_child (graph_of r.node.base.records) root x z ≡ true) same
          (subst (λ z. is_child (graph_of r.node.base.records) root z j.peer.id ≡ true) (sound.own x r found) (leads_to_child t root content.key j.peer.id leads)) in
          same_child_here (graph_of r.node.base.records) (graph w) (sees.records x r found) sees.is_graph x (sees.agrees x r found) root q.1 child

      at_turned : (q : End) → is_named x q.0 ≡ true → is_child (graph w) root x q.1 ≡ true → is_some (end_of w.ends (turned q)) ≡ true
      at_turned q own child = subst (λ y. is_some (end_of w.ends (q.1, y)) ≡ true) (same_name x q.0 own) (kid_end root x q.1 child)

      by_role : (q : End) → is_named x q.0 ≡ true → (j : LinkPeer) → link_to r.node.links q.1 ≡ Some j → j.peer.id ≡ q.1 → (role : Role) → j.peer.role ≡ role →
          Few q (push_to t k.link.0 root content j role)
      by_role q own j linked same Client is = one (not (j.link.0 == k.link.0) && subscribes t.rows j.link.0 content.key) refl
        where
          sent : (n : ℕ) (b : Bool) → is_some (end_of w.ends (turned q)) ≡ b → b ≡ false → (d : Bool) → d ≡ false →
              cond b n 1 + 0 ≤ cond b 0 (cond d 0 1) + weigh (under w root) (cond (is_child (graph w) root x q.1 && b) (q.1 ∷ []) [])
          sent n false e h false d = omega arith
          sent n false e h true d = absurd (true≢false d)
          sent n true e h d i = absurd (true≢false h)

          -- the publisher is told nothing
          no_author : (not (j.link.0 == k.link.0) && subscribes t.rows j.link.0 content.key) ≡ true → (d : Bool) → is_named q.1 a ≡ d → d ≡ false
          no_author goes false e = refl
          no_author goes true e =
              let both : Some j ≡ Some k = sym linked ∙ ap (link_to r.node.links) (same_name q.1 a e) ∙ author in
              let one : j ≡ k = cc in
              let number : (j.link.0 == k.link.0) ≡ true = ap (λ l. j.link.0 == l.link.0) (sym one) ∙ eq-eqb j.link.0 j.link.0 refl in
              absurd (false≢true (ap not (sym number) ∙ (and_parts (not (j.link.0 == k.link.0)) (subscribes t.rows j.link.0 content.key) goes).0))

          one : (b : Bool) → (not (j.link.0 == k.link.0) && subscribes t.rows j.link.0 content.key) ≡ b → Few q (cond b (Push None content ∷ []) [])
          one true goes = sent (1 + worth_handled w (turned q) (Push None content)) (is_some (end_of w.ends (turned q))) refl (client_end q j own linked (ap is_router is)) (is_named q.1 a) (no_author goes (is_named q.1 a) refl)
          one false goes = omega arith
      by_role q own j linked same Router is = one (leads_to_subscriber t root content.key j.peer.id) refl
        where
          sent : is_child (graph w) root x q.1 ≡ true → (b : Bool) → b ≡ true → (n d : ℕ) → n ≤ under w root q.1 →
              cond b n 1 + 0 ≤ cond b 0 d + weigh (under w root) (cond (is_child (graph w) root x q.1 && b) (q.1 ∷ []) [])
          sent child false e n d few = absurd (false≢true e)
          sent child true e n d few =
              let kid = ap (λ c. weigh (under w root) (cond (c && true) (q.1 ∷ []) [])) child in
              omega (arith, kid, few)

          taker : is_child (graph w) root x q.1 ≡ true → 1 + worth_handled w (turned q) (Push (Some root) content) ≤ under w root q.1
          taker child = subst (λ y. 1 + worth_handled w (q.1, y) (Push (Some root) content) ≤ under w root q.1) (same_name x q.0 own) (kid_takes root x q.1 child content)

          one : (b : Bool) → leads_to_subscriber t root content.key j.peer.id ≡ b → Few q (cond b (Push (Some root) content ∷ []) [])
          one true leads = sent (here_child q j same leads) (is_some (end_of w.ends (turned q))) (at_turned q own (here_child q j same leads)) (1 + worth_handled w (turned q) (Push (Some root) content))
              (cond (is_named q.1 a) 0 1) (taker (here_child q j same leads))
          one false leads = omega arith

      by_end : (q : End) → is_named x q.0 ≡ true → Few q (sends_to r.node (From k.link (Push tree content)) q.1)
      by_end q own = subst (Few q) (sym (goes_to r.node k.link tree content q.1)) (by_link (link_to r.node.links q.1) refl)
        where
          along : (j : LinkPeer) → link_to r.node.links q.1 ≡ Some j → Few q (push_along t k.link.0 (Some root) content j.link.0)
          along j linked =
              let at = numbered_link r.node.links (sound.unique x r found) q.1 j linked in
              let name = same_name j.peer.id q.1 (find_in (λ l. is_named l.peer.id q.1) r.node.links j linked).1 in
              subst (λ o. Few q (push_on t k.link.0 root content o)) (sym at) (by_role q own j linked name j.peer.role refl)

          by_link : (l : Option LinkPeer) → link_to r.node.links q.1 ≡ l → Few q (option_map_or (λ j. sends_from r.node k.link.0 (Push tree content) j.link.0) l [])
          by_link None linked = omega arith
          by_link (Some j) linked = subst (λ z. Few q (push_along t k.link.0 z content j.link.0)) (sym in_tree) (along j linked)

      handled_in : weigh (worth w) (sent_at (keys_of w.ends) x (sends_to r.node (From k.link (Push tree content))) tag) < worth_from w (Some root) (x, a)
      handled_in =
          let sum = sums root x a (sends_to r.node (From k.link (Push tree content))) tag by_end (keys_of w.ends) in
          let kids_few = below_kids root x (all_kids root x (keys_of w.ends)) (kids_apart root x (keys_of w.ends) (pairs_of (keys_of w.ends) sound.in_order)) (kids_pass root x (λ z. is_child (graph w) root x z ≡ true) (keys_of w.ends) (λ q own child. child)) in
          omega (arith, sum, kids_few)

    no_tree : tree_of t (link_at r.node.links k.link.0) tree ≡ None → (name : List ℕ) → sends_to r.node (From k.link (Push tree content)) name ≡ []
    no_tree none name = goes_to r.node k.link tree content name ∙ by (link_to r.node.links name)
      where
        by : (l : Option LinkPeer) → option_map_or (λ j. sends_from r.node k.link.0 (Push tree content) j.link.0) l [] ≡ []
        by None = refl
        by (Some j) = ap (λ z. push_along t k.link.0 z content j.link.0) none

    handled_push : weigh (worth w) (sent_at (keys_of w.ends) x (sends_to r.node (From k.link (Push tree content))) tag) < worth_from w (tree_of t (link_at r.node.links k.link.0) tree) (x, a)
    handled_push = by (tree_of t (link_at r.node.links k.link.0) tree) refl
      where
        by : (o : Option (List ℕ)) → tree_of t (link_at r.node.links k.link.0) tree ≡ o →
            weigh (worth w) (sent_at (keys_of w.ends) x (sends_to r.node (From k.link (Push tree content))) tag) < worth_from w o (x, a)
        by None in_tree = let none = none_weighs x (sends_to r.node (From k.link (Push tree content))) tag (no_tree in_tree) (keys_of w.ends) in omega (arith, none)
        by (Some root) in_tree = handled_in root in_tree

  handled_worth : (e : End) (m : Tagged) → is_sample m.msg ≡ true → weigh (worth w) (next_moves w (Handling e m)) < worth w (Handling e m)
  handled_worth e m sample = by (router_of w.routers e.0) refl
    where
      over : (r : RouterState) → router_of w.routers e.0 ≡ Some r → (o : Option LinkPeer) → link_to r.node.links e.1 ≡ o →
          weigh (worth w) (sent_at (keys_of w.ends) e.0 (sends_over r o m.msg) m.tag) < worth_from w (tree_over r o m.msg) e
      over r found None linked = let none = none_weighs e.0 (sends_over r None m.msg) m.tag (λ name. refl) (keys_of w.ends) in omega (arith, none)
      over r found (Some k) linked = sample_case
          (λ msg. weigh (worth w) (sent_at (keys_of w.ends) e.0 (sends_over r (Some k) msg) m.tag) < worth_from w (tree_over r (Some k) msg) e)
          (λ tree content. handled_push e.0 e.1 r found k linked tree content m.tag) m.msg sample

      by : (o : Option RouterState) → router_of w.routers e.0 ≡ o → weigh (worth w) (sent_at (keys_of w.ends) e.0 (sends_by o e.1 m.msg) m.tag) < worth_from w (tree_at o e.1 m.msg) e
      by None found = let none = none_weighs e.0 (sends_by None e.1 m.msg) m.tag (λ name. refl) (keys_of w.ends) in omega (arith, none)
      by (Some r) found = over r found (link_to r.node.links e.1) refl

  pub worth_falls : (m : Move) → is_sample (msg_of m) ≡ true → weigh (worth w) (next_moves w m) < worth w m
  worth_falls (Handling e m) sample = handled_worth e m sample
  worth_falls (Taking e m) sample = taken_worth e m
