-- How much a sample under way is worth at most: two steps for each of 64 routers and one for each of 1,024 clients, without two for its author.
use Rattle.std.proofs.Common.{◌≡◌, ◌≤◌, ◌+◌, ◌*◌, ℕ, Bool, true, false, cond, List, [], ◌∷◌, ◌++◌, length, map, Option, Some, None, inl, inr, refl, sym, ap, ◌∙◌, subst, arith}
use Rattle.std.specs.Prelude.{is_some}
use Rattle.std.specs.List.{AllByRecursion}
use Rattle.std.specs.Map.{keys_of}
use Rattle.std.specs.Option.{option_map_or}
use Rattle.std.proofs.lemmas.Bool.{false≢true, true≢false}
use Rattle.std.proofs.lemmas.List.{length-map}
use Rattle.zr_lists.proofs.Finds.{In, in_filter}
use Rattle.zr_orders.specs.Bag.{weigh, Goes}
use Rattle.zr_orders.proofs.Bag.{weigh-append, weigh_le}
use Rattle.zr_orders.proofs.Passes.{same_pass, append_pass}
use Rattle.zr_id.specs.Zid.{is_named}
use Rattle.zr_graph.specs.Record.{has}
use Rattle.zr_graph.proofs.Names.{same_refl}
use Rattle.zr_tree.specs.Walk.{graph_of}
use Rattle.zr_tree.specs.Tree.{parent}
use Rattle.zr_tree.proofs.Depths.{parent_near}
use Rattle.zr_msg.specs.declared.msg.Msg.{Msg}
use Rattle.zr_msg.specs.declared.peer.LinkPeer.{LinkPeer}
use Rattle.zr_msg.specs.declared.peer.Role.{Role}
use Rattle.zr_msg.specs.declared.peer.Role.TheVariants.{Client, Router}
use Rattle.zr_node_spec.specs.Tables.{is_router, link_at, link_to, graph as graph_by}
use Rattle.zr_node_spec.specs.Samples.{tree_by, tree_of}
use Rattle.zr_node_spec.specs.State.{tables}
use Rattle.zr_world_spec.specs.World.{Tagged, RouterState, EndState, End, Ends, WorldState, is_end, router_of, end_of, turned, most_routers, most_clients}
use Rattle.zr_world_spec.specs.Joined.{graph}
use Rattle.zr_world_spec.specs.Fan.{is_sample}
use Rattle.zr_world_spec.specs.Sound.{IsSound}
use Rattle.zr_world_spec.proofs.Names.{same_name}
use Rattle.zr_world_spec.proofs.Ends.{ends, same_end}
use Rattle.zr_world_spec.proofs.Links.{named_link, numbered_link}
use Rattle.zr_law_settled.proofs.Worlds.{HasTwins}
use Rattle.zr_law_settled.proofs.ClientRows.{ClientsHold}
use Rattle.zr_law_fan.specs.Samples.{Move, Handling, Taking, at_end, under_way, msg_of, next_moves}
use Rattle.zr_law_fan.proofs.Moving.{sample_case}
use Rattle.zr_law_fan.proofs.Pushing.{become_samples}
use Rattle.zr_law_fans.proofs.Trees.{same_parent_here, is_under, weigh_both, parent_is_apart}
use Rattle.zr_law_fans.proofs.Worth.{tree_at, tree_over, clients_at, clients_of, clients_but, clients_less, steps_at, under, worth_from, worth_handled, worth, SeesItsPart, worth_falls}
use Rattle.zr_law_fans.proofs.Counting.{loose, loose_parts, loose_at, few_loose}

-- ---- ends that are there

there_more : (es : Ends) (p : End × EndState) (qs : List End) → AllByRecursion (λ q. is_some (end_of es q) ≡ true) qs → AllByRecursion (λ q. is_some (end_of (p ∷ es) q) ≡ true) qs
there_more es p [] h = tt
there_more es p (q ∷ qs) h = (by (is_end q p.0) h.0, there_more es p qs h.1)
  where
    by : (b : Bool) → is_some (end_of es q) ≡ true → is_some (cond b (Some p.1) (end_of es q)) ≡ true
    by true k = refl
    by false k = k

keys_there : (es : Ends) → AllByRecursion (λ q. is_some (end_of es q) ≡ true) (keys_of es)
keys_there [] = tt
keys_there (p ∷ es) = (ap (λ b. is_some (cond b (Some p.1) (end_of es p.0))) (ends.refl p.0), there_more es p (keys_of es) (keys_there es))

in_keys : (es : Ends) (q : End) → is_some (end_of es q) ≡ true → In q (keys_of es)
in_keys [] q there = absurd (false≢true there)
in_keys (p ∷ es) q there = by (is_end q p.0) refl there (in_keys es q)
  where
    by : (b : Bool) → is_end q p.0 ≡ b → is_some (cond b (Some p.1) (end_of es q)) ≡ true → (is_some (end_of es q) ≡ true → In q (keys_of es)) → In q (p.0 ∷ keys_of es)
    by true k t ih = inl (same_end q p.0 k)
    by false k t ih = inr (ih t)

author_here : (es : Ends) (qs : List End) (x a : List ℕ) → clients_but es qs x a ≤ clients_at es qs x → is_some (end_of es (a, x)) ≡ false →
    clients_but es ((x, a) ∷ qs) x a + 1 ≤ clients_at es ((x, a) ∷ qs) x
author_here es qs x a less alone = by (is_named x x) (same_refl x) (is_some (end_of es (a, x))) alone (is_named a a) (same_refl a)
  where
    by : (b : Bool) → b ≡ true → (c : Bool) → c ≡ false → (d : Bool) → d ≡ true →
        cond b (cond c 0 (cond d 0 1)) 0 + clients_but es qs x a + 1 ≤ cond b (cond c 0 1) 0 + clients_at es qs x
    by true e false f true g = omega (arith, less)
    by true e false f false g = absurd (false≢true g)
    by true e true f d g = absurd (true≢false f)
    by false e c f d g = absurd (false≢true e)

-- an author that is a client is one of those at its router
without_author : (es : Ends) (qs : List End) (x a : List ℕ) → ((ps : List End) → clients_but es ps x a ≤ clients_at es ps x) → In (x, a) qs → is_some (end_of es (a, x)) ≡ false →
    clients_but es qs x a + 1 ≤ clients_at es qs x
without_author es [] x a less i alone = elim i [ ]
without_author es (q ∷ qs) x a less (inl same) alone =
    subst (λ p. clients_but es (p ∷ qs) x a + 1 ≤ clients_at es (p ∷ qs) x) same (author_here es qs x a (less qs) alone)
without_author es (q ∷ qs) x a less (inr i) alone =
    by (is_named x q.0) (is_some (end_of es (turned q))) (is_named q.1 a) (without_author es qs x a less i alone)
  where
    by : (b c d : Bool) → clients_but es qs x a + 1 ≤ clients_at es qs x → cond b (cond c 0 (cond d 0 1)) 0 + clients_but es qs x a + 1 ≤ cond b (cond c 0 1) 0 + clients_at es qs x
    by false c d ih = omega (arith, ih)
    by true true d ih = omega (arith, ih)
    by true false true ih = omega (arith, ih)
    by true false false ih = omega (arith, ih)

-- ---- what a sample is worth

module _ (w : WorldState) (sound : IsSound w) (sees : SeesItsPart w) (twins : HasTwins w) (clients : ClientsHold w) (few_routers : length w.routers ≤ most_routers) (few_clients : length w.clients ≤ most_clients) where
  few_ends : weigh (loose w.ends) (keys_of w.ends) ≤ most_clients
  few_ends = let most = few_loose w sound twins clients (keys_there w.ends) in omega (arith, most, few_clients)

  two_each : (xs : List (List ℕ)) → weigh (λ v. 2) xs ≡ 2 * length xs
  two_each [] = refl
  two_each (x ∷ xs) = omega (arith, two_each xs)

  -- all routers and clients
  all_steps : weigh (steps_at w) (graph w).names ≤ 1152
  all_steps =
      let parts = weigh_both (λ v. 2) (clients_of w) (graph w).names in
      let twos = two_each (graph w).names in
      let long : length (graph w).names ≡ length w.routers = length-map w.routers (λ e. e.0) in
      let ones = loose_parts w.ends (graph w).names sees.is_graph.ascending (keys_of w.ends) in
      omega (arith, parts, twos, long, ones, few_ends, few_routers)

  few_at : (x : List ℕ) → clients_of w x ≤ 1024
  few_at x = let one = loose_at w.ends (keys_of w.ends) x in omega (arith, one, few_ends)

  under_all : (root x : List ℕ) → under w root x ≤ weigh (steps_at w) (graph w).names
  under_all root x = weigh_le (λ v. cond (is_under (graph w) root x v) (steps_at w v) 0) (steps_at w) (λ v. by v (is_under (graph w) root x v)) (graph w).names
    where
      by : (v : List ℕ) (b : Bool) → cond b (steps_at w v) 0 ≤ steps_at w v
      by v true = omega arith
      by v false = omega arith

  -- from a client
  from_client : (x a : List ℕ) → is_some (end_of w.ends (x, a)) ≡ true → is_some (end_of w.ends (a, x)) ≡ false → (o : Option (List ℕ)) → worth_from w o (x, a) ≤ 1150
  from_client x a there alone None = omega arith
  from_client x a there alone (Some root) =
      let one = without_author w.ends (keys_of w.ends) x a (λ ps. clients_less w.ends ps x a) (in_keys w.ends (x, a) there) alone in
      let most = under_all root x in
      let least = few_at x in
      omega (arith, one, most, least, all_steps)

  -- from a router: that is the parent, and not below
  from_parent : (x a : List ℕ) (r : RouterState) → router_of w.routers x ≡ Some r → (root : List ℕ) → parent (graph_of r.node.base.records) root x ≡ Some a → worth_from w (Some root) (x, a) ≤ 1149
  from_parent x a r found root is =
      let here : parent (graph w) root x ≡ Some a = same_parent_here (graph_of r.node.base.records) (graph w) (sees.records x r found) sees.is_graph x (sees.agrees x r found) root a is in
      let p = parent_near (graph w) root x a here in
      let joined : (graph w).joined x a ≡ true = (in_filter (λ y. (graph w).joined x y) (graph w).names a p.1.neighbour).1 in
      let known : has (graph w).names a ≡ true = sees.is_graph.known a x (sees.is_graph.both_ways x a joined) in
      let apart = parent_is_apart (graph w) (steps_at w) root x a here known in
      let but = clients_less w.ends (keys_of w.ends) x a in
      let least = few_at x in
      omega (arith, apart, but, least, all_steps)

  from_router : (x a : List ℕ) → is_some (end_of w.ends (a, x)) ≡ true → (m : Msg) → is_sample m ≡ true → worth_handled w (x, a) m ≤ 1149
  from_router x a back m sample = at (router_of w.routers x) refl
    where
      push : (r : RouterState) → router_of w.routers x ≡ Some r → (k : LinkPeer) → link_to r.node.links a ≡ Some k → (tree : Option (List ℕ)) →
          worth_from w (tree_of (tables r.node) (link_at r.node.links k.link.0) tree) (x, a) ≤ 1149
      push r found k linked tree =
          let role : is_router k.peer.role ≡ true = sound.roles x a r k found linked ∙ sound.routers a x back in
          let at = numbered_link r.node.links (sound.unique x r found) a k linked in
          let name : k.peer.id ≡ a = named_link r.node.links a k linked in
          subst (λ o. worth_from w (tree_of (tables r.node) o tree) (x, a) ≤ 1149) (sym at) (by_role name k.peer.role role tree)
        where
          is_parent : k.peer.id ≡ a → (root : List ℕ) (o : Option (List ℕ)) → parent (graph_by (tables r.node)) root r.node.base.me ≡ o →
              worth_from w (cond (option_map_or (λ p. is_named p k.peer.id) o false) (Some root) None) (x, a) ≤ 1149
          is_parent name root None e = omega arith
          is_parent name root (Some p) e = by (is_named p k.peer.id) refl
            where
              by : (b : Bool) → is_named p k.peer.id ≡ b → worth_from w (cond b (Some root) None) (x, a) ≤ 1149
              by false f = omega arith
              by true f = from_parent x a r found root (ap (parent (graph_of r.node.base.records) root) (sym (sound.own x r found)) ∙ e ∙ ap Some (same_name p k.peer.id f ∙ name))

          by_role : k.peer.id ≡ a → (role : Role) → is_router role ≡ true → (tree : Option (List ℕ)) → worth_from w (tree_by (tables r.node) k role tree) (x, a) ≤ 1149
          by_role name Client bad tree = absurd (false≢true bad)
          by_role name Router ok None = omega arith
          by_role name Router ok (Some root) = is_parent name root (parent (graph_by (tables r.node)) root r.node.base.me) refl

      over : (r : RouterState) → router_of w.routers x ≡ Some r → (l : Option LinkPeer) → link_to r.node.links a ≡ l → worth_from w (tree_over r l m) (x, a) ≤ 1149
      over r found None linked = omega arith
      over r found (Some k) linked = sample_case (λ z. worth_from w (tree_over r (Some k) z) (x, a) ≤ 1149) (λ tree content. push r found k linked tree) m sample

      at : (o : Option RouterState) → router_of w.routers x ≡ o → worth_from w (tree_at o a m) (x, a) ≤ 1149
      at None found = omega arith
      at (Some r) found = over r found (link_to r.node.links a) refl

  -- ---- at an end

  handling_few : (e : End) → is_some (end_of w.ends e) ≡ true → (m : Tagged) → is_sample m.msg ≡ true → worth w (Handling e m) ≤ 1150
  handling_few e there m sample = by (is_some (end_of w.ends (turned e))) refl
    where
      by : (b : Bool) → is_some (end_of w.ends (turned e)) ≡ b → worth_handled w e m.msg ≤ 1150
      by true back = let few = from_router e.0 e.1 back m.msg sample in omega (arith, few)
      by false alone = from_client e.0 e.1 there alone (tree_at (router_of w.routers e.0) e.1 m.msg)

  taking_few : (e : End) → is_some (end_of w.ends e) ≡ true → (m : Tagged) → is_sample m.msg ≡ true → worth w (Taking e m) ≤ 1150
  taking_few e there m sample = by (is_some (end_of w.ends (turned e)))
    where
      by : (b : Bool) → cond b (1 + worth_handled w (turned e) m.msg) 1 ≤ 1150
      by true = let few = from_router e.1 e.0 there m.msg sample in omega (arith, few)
      by false = omega arith

  -- ---- all that is under way

  abbrev Sample : Move → Type 0
  Sample m = is_sample (msg_of m) ≡ true

  abbrev Few : List Move → Type 0
  Few ms = weigh (worth w) ms ≤ 1150 * length ms

  both : (xs ys : List Move) → Few xs → Few ys → Few (xs ++ ys)
  both xs ys a b =
      let weight = weigh-append (worth w) xs ys in
      let long = length_both xs in
      omega (arith, weight, long, a, b)
    where
      length_both : (zs : List Move) → length (zs ++ ys) ≡ length zs + length ys
      length_both [] = omega arith
      length_both (z ∷ zs) = omega (arith, length_both zs)

  wire_few : (e : End) → is_some (end_of w.ends e) ≡ true → (ms : List Tagged) (rest : List Move) → AllByRecursion Sample (map (λ m. Handling e m) ms ++ rest) → (AllByRecursion Sample rest → Few rest) →
      Few (map (λ m. Handling e m) ms ++ rest)
  wire_few e there [] rest all few = few all
  wire_few e there (m ∷ ms) rest all few =
      let one = handling_few e there m all.0 in
      let more = wire_few e there ms rest all.1 few in
      omega (arith, one, more)

  queue_few : (e : End) → is_some (end_of w.ends e) ≡ true → (ms : List Tagged) → AllByRecursion Sample (map (λ m. Taking e m) ms) → Few (map (λ m. Taking e m) ms)
  queue_few e there [] all = omega arith
  queue_few e there (m ∷ ms) all =
      let one = taking_few e there m all.0 in
      let more = queue_few e there ms all.1 in
      omega (arith, one, more)

  first_half : (xs ys : List Move) → AllByRecursion Sample (xs ++ ys) → AllByRecursion Sample xs × AllByRecursion Sample ys
  first_half [] ys h = (tt, h)
  first_half (x ∷ xs) ys h = let more = first_half xs ys h.1 in ((h.0, more.0), more.1)

  pub all_few : (es : Ends) → AllByRecursion (λ q. is_some (end_of w.ends q) ≡ true) (keys_of es) → AllByRecursion Sample (under_way es) → Few (under_way es)
  all_few [] there all = omega arith
  all_few (e ∷ es) there all =
      let parts = first_half (at_end e.0 e.1) (under_way es) all in
      both (at_end e.0 e.1) (under_way es)
      (wire_few e.0 there.0 e.1.wire (map (λ m. Taking e.0 m) e.1.queue) parts.0 (λ k. queue_few e.0 there.0 e.1.queue k))
      (all_few es there.1 parts.1)

  pub worlds_few : AllByRecursion Sample (under_way w.ends) → Few (under_way w.ends)
  worlds_few all = all_few w.ends (keys_there w.ends) all

  -- ---- steps

  -- each step takes something of what is under way
  pub spent : (moved before after : List Move) → AllByRecursion Sample before → Goes (next_moves w) before moved after → length moved + weigh (worth w) after ≤ weigh (worth w) before
  spent [] before after all g = let same = g (worth w) in omega (arith, same)
  spent (x ∷ moved) before after all g =
      let now : AllByRecursion Sample (x ∷ g.1.0) = same_pass (λ m. is_sample (msg_of m)) before (x ∷ g.1.0) g.1.1 all in
      let then : AllByRecursion Sample g.0 = same_pass (λ m. is_sample (msg_of m)) (next_moves w x ++ g.1.0) g.0 (λ f. sym (g.1.2 f))
      (append_pass (λ m. is_sample (msg_of m)) (next_moves w x) g.1.0 (become_samples w x now.0) now.1) in
      let more = spent moved g.0 after then g.2 in
      let falls = worth_falls w sound sees x now.0 in
      let was = g.1.1 (worth w) in
      let is = g.1.2 (worth w) in
      let parts = weigh-append (worth w) (next_moves w x) g.1.0 in
      omega (arith, more, falls, was, is, parts)

  some_worth : (m : Move) → 1 ≤ worth w m
  some_worth (Handling e m) = by (tree_at (router_of w.routers e.0) e.1 m.msg)
    where
      by : (o : Option (List ℕ)) → 1 ≤ worth_from w o e
      by None = omega arith
      by (Some root) = omega arith
  some_worth (Taking e m) = by (is_some (end_of w.ends (turned e)))
    where
      by : (b : Bool) → 1 ≤ cond b (1 + worth_handled w (turned e) m.msg) 1
      by true = omega arith
      by false = omega arith

  pub none_left : (ms : List Move) → weigh (worth w) ms ≡ 0 → ms ≡ []
  none_left [] h = refl
  none_left (m ∷ ms) h = let one = some_worth m in absurd (omega (arith, h, one))
