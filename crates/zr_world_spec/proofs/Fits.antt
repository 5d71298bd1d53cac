-- What is sound in a network falls into two parts: where ends, routers and clients are (`Places`), and that each router's links fit its
-- ends (`Fits`). Each part is kept where nothing that it speaks of changes (`places_same`, `fits_same`, `SameEnds`); a router's links
-- fit again after each event (`fits_up`, `fits_down`, `fits_from`).
use Rattle.std.proofs.Common.{◌≡◌, ℕ, Bool, true, false, cond, List, Option, Some, None, refl, sym, ap, ◌∙◌, subst}
use Rattle.std.specs.Prelude.{◌&&◌, ◌||◌, is_some}
use Rattle.std.specs.List.Sorted.{IsStrictlySortedBy}
use Rattle.std.specs.Map.{keys_of}
use Rattle.std.specs.Option.{option_map, option_map_or}
use Rattle.std.proofs.lemmas.Bool.{false≢true}
use Rattle.zr_lists.proofs.Options.{there_changed, not_there, read_cond}
use Rattle.zr_id.specs.Zid.{is_named}
use Rattle.zr_id.specs.declared.link.LinkNo.{LinkNo}
use Rattle.zr_msg.specs.declared.msg.Msg.{Msg}
use Rattle.zr_msg.specs.declared.event.Event.{Event}
use Rattle.zr_msg.specs.declared.event.Event.TheVariants.{Up, Down, From}
use Rattle.zr_msg.specs.Peer.{PeerState}
use Rattle.zr_node_spec.specs.Tables.{is_router, link_at, link_to, free_link}
use Rattle.zr_node_spec.specs.State.{NodeState, new_link}
use Rattle.zr_msg.specs.declared.peer.LinkPeer.{LinkPeer}
use Rattle.zr_node_spec.specs.Table.{with_link, without_link, after}
use Rattle.zr_node_spec.proofs.FreeLink.{free_is_free}
use Rattle.zr_world_spec.specs.World.{ClientState, RouterState, EndState, End, Routers, Clients, Ends, WorldState, end_cmp, is_end, router_of, client_of, end_of, is_up, with_router, with_end, put_end, changed, empty_world}
use Rattle.zr_world_spec.specs.Acts.{waiting, sends_to, all_queued, told_to, all_told}
use Rattle.zr_world_spec.specs.Sound.{AreUnique, IsSound}
use Rattle.zr_world_spec.proofs.Ends.{same_end, end_parts, keys_with_end, keep_with_end, keys_changed, keep_changed, keys_waiting, keep_waiting, read_put_end, sorted_put_end}
use Rattle.zr_world_spec.proofs.Names.{names, same_name, value_after, read_kept}
use Rattle.zr_world_spec.proofs.Links.{unique_with, unique_without}
use Rattle.zr_world_spec.proofs.Nodes.{me_after, peer, peer_to, peers_from, peers_up, peers_down}

-- ---- readings

-- whether an end that was looked up is up
abbrev pub up_of : Option EndState → Bool
up_of o = option_map_or (λ s. s.up) o false

-- the router of a client that was looked up
abbrev pub home : Option ClientState → Option (List ℕ)
home o = option_map (λ s. s.router) o

-- an end that is up is there
pub up_is_there : (o : Option EndState) → up_of o ≡ true → is_some o ≡ true
up_is_there None h = absurd (false≢true h)
up_is_there (Some s) h = refl

-- ---- where ends, routers and clients are

pub record Places (routers : Routers) (clients : Clients) (ends : Ends) : Type 0 where
  pub in_order : IsStrictlySortedBy end_cmp (keys_of ends)
  pub owners : (x y : List ℕ) → is_some (end_of ends (x, y)) ≡ true → is_some (router_of routers x) ≡ true
  pub neighbours : (x y : List ℕ) → is_some (end_of ends (x, y)) ≡ true → (is_some (router_of routers y) || is_some (client_of clients y)) ≡ true
  pub apart : (x y : List ℕ) → is_some (end_of ends (x, y)) ≡ true → is_named x y ≡ false
  pub homes : (name : List ℕ) (s : ClientState) → client_of clients name ≡ Some s → is_some (end_of ends (s.router, name)) ≡ true

-- the same places: routers, clients and ends are there as before
pub places_same : (routers routers' : Routers) (clients clients' : Clients) (ends ends' : Ends) → Places routers clients ends → IsStrictlySortedBy end_cmp (keys_of ends') →
    ((q : List ℕ) → is_some (router_of routers' q) ≡ is_some (router_of routers q)) → ((q : List ℕ) → home (client_of clients' q) ≡ home (client_of clients q)) →
    ((q : End) → is_some (end_of ends' q) ≡ is_some (end_of ends q)) → Places routers' clients' ends'
places_same routers routers' clients clients' ends ends' p sorted r c e = record {
  in_order = sorted;
  owners = λ x y h. r x ∙ p.owners x y (sym (e (x, y)) ∙ h);
  neighbours = λ x y h. (λ i. r y i || same_clients y i) ∙ p.neighbours x y (sym (e (x, y)) ∙ h);
  apart = λ x y h. p.apart x y (sym (e (x, y)) ∙ h);
  homes = λ name s h. by name s (client_of clients name) refl (sym (c name) ∙ ap home h);
}
  where
    same_clients : (q : List ℕ) → is_some (client_of clients' q) ≡ is_some (client_of clients q)
    same_clients q = sym (there_changed (λ s. s.router) (client_of clients' q)) ∙ ap is_some (c q) ∙ there_changed (λ s. s.router) (client_of clients q)

    by : (name : List ℕ) (s : ClientState) (o : Option ClientState) → client_of clients name ≡ o → home o ≡ Some s.router → is_some (end_of ends' (s.router, name)) ≡ true
    by name s None found h = absurd (false≢true (ap is_some h))
    by name s (Some t) found h =
        let same : t.router ≡ s.router = cc in
        e (s.router, name) ∙ ap (λ z. is_some (end_of ends (z, name))) (sym same) ∙ p.homes name t found

pub still_true : (b c : Bool) → c ≡ true → cond b true c ≡ true
still_true true c e = refl
still_true false c e = e

-- what holds of one end and of all that were there, holds of all once that one was put in
pub of_put : (P : End → Type 0) (ends : Ends) (e : End) (s : EndState) → P e → ((q : End) → is_some (end_of ends q) ≡ true → P q) →
    (q : End) → is_some (end_of (put_end ends e s) q) ≡ true → P q
of_put P ends e s own old q h = by (is_end e q) refl (sym (read_put_end ends e s is_some q) ∙ h)
  where
    by : (b : Bool) → is_end e q ≡ b → cond b true (is_some (end_of ends q)) ≡ true → P q
    by true same k = subst P (same_end e q same) own
    by false other k = old q k

-- the end of a new link, or one of which one knows
pub places_put : (routers : Routers) (clients : Clients) (ends : Ends) (e : End) (s : EndState) → Places routers clients ends → is_some (router_of routers e.0) ≡ true →
    (is_some (router_of routers e.1) || is_some (client_of clients e.1)) ≡ true → is_named e.0 e.1 ≡ false → Places routers clients (put_end ends e s)
places_put routers clients ends e s p owner neighbour other = record {
  in_order = sorted_put_end ends e s p.in_order;
  owners = λ x y h. of_put (λ q. is_some (router_of routers q.0) ≡ true) ends e s owner (λ q k. p.owners q.0 q.1 k) (x, y) h;
  neighbours = λ x y h. of_put (λ q. (is_some (router_of routers q.1) || is_some (client_of clients q.1)) ≡ true) ends e s neighbour (λ q k. p.neighbours q.0 q.1 k) (x, y) h;
  apart = λ x y h. of_put (λ q. is_named q.0 q.1 ≡ false) ends e s other (λ q k. p.apart q.0 q.1 k) (x, y) h;
  homes = λ name c h. read_put_end ends e s is_some (c.router, name) ∙ still_true (is_end e (c.router, name)) (is_some (end_of ends (c.router, name))) (p.homes name c h);
}

-- ---- a router's links and its ends

-- a router's node has the router's name, and links to just those neighbours to which the router's end is up
pub record Fits (routers : Routers) (ends : Ends) (x : List ℕ) (node : NodeState) : Type 0 where
  pub own : node.base.me ≡ x
  pub unique : AreUnique node.links
  pub links : (y : List ℕ) → is_some (peer_to node.links y) ≡ is_up ends (x, y)
  pub roles : (y : List ℕ) (p : PeerState) → peer_to node.links y ≡ Some p → is_router p.role ≡ is_some (router_of routers y)

abbrev pub Nodes : Routers → Ends → Type 0
Nodes routers ends = (x : List ℕ) (r : RouterState) → router_of routers x ≡ Some r → Fits routers ends x r.node

-- other routers and ends that are the same for the router
pub fits_same : (routers routers' : Routers) (ends ends' : Ends) (x : List ℕ) (node : NodeState) → Fits routers ends x node →
    ((y : List ℕ) → is_up ends (x, y) ≡ true → is_some (router_of routers' y) ≡ is_some (router_of routers y)) →
    ((y : List ℕ) → is_up ends' (x, y) ≡ is_up ends (x, y)) → Fits routers' ends' x node
fits_same routers routers' ends ends' x node f r e = record {
  own = f.own;
  unique = f.unique;
  links = λ y. f.links y ∙ sym (e y);
  roles = λ y p h. f.roles y p h ∙ sym (r y (sym (f.links y) ∙ ap is_some h));
}

-- one router's node changes, and ends of this router
pub nodes_set : (routers : Routers) (ends ends' : Ends) (x : List ℕ) (r r' : RouterState) → Nodes routers ends → router_of routers x ≡ Some r → Fits routers ends' x r'.node →
    ((z y : List ℕ) → is_named x z ≡ false → is_up ends' (z, y) ≡ is_up ends (z, y)) → Nodes (with_router routers x r') ends'
nodes_set routers ends ends' x r r' h found fit others z rz there_ = by (is_named x z) refl (sym (value_after routers x z r' (ap is_some found)) ∙ there_)
  where
    kept : (q : List ℕ) → is_some (router_of (with_router routers x r') q) ≡ is_some (router_of routers q)
    kept q = read_kept is_some routers x q r r' found refl

    by : (b : Bool) → is_named x z ≡ b → cond b (Some r') (router_of routers z) ≡ Some rz → Fits (with_router routers x r') ends' z rz.node
    by true e k =
        let same : r' ≡ rz = cc in
        subst (λ (t : RouterState). Fits (with_router routers x r') ends' z t.node) same
        (subst (λ t. Fits (with_router routers x r') ends' t r'.node) (same_name x z e)
        (fits_same routers (with_router routers x r') ends' ends' x r'.node fit (λ y u. kept y) (λ y. refl)))
    by false e k = fits_same routers (with_router routers x r') ends ends' z rz.node (h z rz k) (λ y u. kept y) (λ y. others z y e)

-- ---- events

-- to whom there is no link
none_to : (links : List LinkPeer) (y : List ℕ) → is_some (peer_to links y) ≡ false → link_to links y ≡ None
none_to links y h = not_there (link_to links y) (sym (there_changed (λ l. l.peer) (link_to links y)) ∙ h)

-- the link to a neighbour comes up
pub fits_up : (routers : Routers) (ends ends' : Ends) (x y : List ℕ) (node : NodeState) (p : PeerState) → Fits routers ends x node → p.id ≡ y → is_router p.role ≡ is_some (router_of routers y) →
    is_up ends (x, y) ≡ false → ((q : List ℕ) → is_up ends' (x, q) ≡ cond (is_named y q) true (is_up ends (x, q))) →
    Fits routers ends' x (after node (Up (record { 0 = free_link node.links }) p))
fits_up routers ends ends' x y node p f same role_is down lifts = record {
  own = me_after node (Up number p) ∙ f.own;
  unique = unique_with node.links (new_link number p) f.unique free none;
  links = λ q. ap is_some (peers q) ∙ read_cond is_some (is_named p.id q) (Some p) (peer_to node.links q) ∙ (λ i. cond (is_named (same i) q) true (f.links q i)) ∙ sym (lifts q);
  roles = λ q p' h. by q p' (is_named p.id q) refl (sym (peers q) ∙ h);
}
  where
    number : LinkNo
    number = record { 0 = free_link node.links }

    free : link_at node.links number.0 ≡ None
    free = free_is_free node.links

    none : link_to node.links p.id ≡ None
    none = none_to node.links p.id (f.links p.id ∙ ap (λ z. is_up ends (x, z)) same ∙ down)

    peers : (q : List ℕ) → peer_to (with_link node.links (new_link number p)) q ≡ cond (is_named p.id q) (Some p) (peer_to node.links q)
    peers q = peers_up node.links number p f.unique free none q

    by : (q : List ℕ) (p' : PeerState) (b : Bool) → is_named p.id q ≡ b → cond b (Some p) (peer_to node.links q) ≡ Some p' → is_router p'.role ≡ is_some (router_of routers q)
    by q p' true e h = let is : p ≡ p' = cc in ap (λ z. is_router z.role) (sym is) ∙ role_is ∙ ap (λ z. is_some (router_of routers z)) (sym same ∙ same_name p.id q e)
    by q p' false e h = f.roles q p' h

-- the link to a neighbour goes down
pub fits_down : (routers : Routers) (ends ends' : Ends) (x y : List ℕ) (node : NodeState) (l : LinkPeer) → Fits routers ends x node → link_to node.links y ≡ Some l →
    ((q : List ℕ) → is_up ends' (x, q) ≡ cond (is_named y q) false (is_up ends (x, q))) → Fits routers ends' x (after node (Down l.link))
fits_down routers ends ends' x y node l f found lowers = record {
  own = me_after node (Down l.link) ∙ f.own;
  unique = unique_without node.links f.unique l.link.0;
  links = λ q. ap is_some (peers q) ∙ read_cond is_some (is_named y q) None (peer_to node.links q) ∙ ap (cond (is_named y q) false) (f.links q) ∙ sym (lowers q);
  roles = λ q p h. by q p (is_named y q) (sym (peers q) ∙ h);
}
  where
    peers : (q : List ℕ) → peer_to (without_link node.links l.link.0) q ≡ cond (is_named y q) None (peer_to node.links q)
    peers q = peers_down node.links y l f.unique found q

    by : (q : List ℕ) (p : PeerState) (b : Bool) → cond b None (peer_to node.links q) ≡ Some p → is_router p.role ≡ is_some (router_of routers q)
    by q p true h = absurd (false≢true (ap is_some h))
    by q p false h = f.roles q p h

-- a message comes
pub fits_from : (routers : Routers) (ends ends' : Ends) (x : List ℕ) (node : NodeState) (l : LinkNo) (msg : Msg) → Fits routers ends x node →
    ((q : List ℕ) → is_up ends' (x, q) ≡ is_up ends (x, q)) → Fits routers ends' x (after node (From l msg))
fits_from routers ends ends' x node l msg f same =
    let peers = peers_from node l.0 msg f.unique in
    record {
      own = me_after node (From l msg) ∙ f.own;
      unique = peers.0;
      links = λ q. ap is_some (peers.1 q) ∙ f.links q ∙ sym (same q);
      roles = λ q p h. f.roles q p (sym (peers.1 q) ∙ h);
    }

-- ---- ends

-- the ends are there as before, and as many are up
pub record SameEnds (ends ends' : Ends) : Type 0 where
  pub sorted : IsStrictlySortedBy end_cmp (keys_of ends) → IsStrictlySortedBy end_cmp (keys_of ends')
  pub there_too : (q : End) → is_some (end_of ends' q) ≡ is_some (end_of ends q)
  pub as_up : (q : End) → up_of (end_of ends' q) ≡ up_of (end_of ends q)

pub same_then : (a b c : Ends) → SameEnds a b → SameEnds b c → SameEnds a c
same_then a b c f g = record { sorted = λ s. g.sorted (f.sorted s); there_too = λ q. g.there_too q ∙ f.there_too q; as_up = λ q. g.as_up q ∙ f.as_up q }

pub same_with : (ends : Ends) (e : End) (c s : EndState) → end_of ends e ≡ Some c → s.up ≡ c.up → SameEnds ends (with_end ends e s)
same_with ends e c s found up = record {
  sorted = subst (IsStrictlySortedBy end_cmp) (sym (keys_with_end ends e s));
  there_too = λ q. keep_with_end ends e s is_some q c found refl;
  as_up = λ q. keep_with_end ends e s up_of q c found up;
}

pub same_changed : (ends : Ends) (e : End) (change : EndState → EndState) → ((s : EndState) → (change s).up ≡ s.up) → SameEnds ends (changed ends e change)
same_changed ends e change up = record {
  sorted = subst (IsStrictlySortedBy end_cmp) (sym (keys_changed ends e change));
  there_too = λ q. keep_changed ends e change is_some q (λ s. refl);
  as_up = λ q. keep_changed ends e change up_of q up;
}

pub same_waiting : (ends : Ends) (x : List ℕ) (msgs : List ℕ → List Msg) (tag : ℕ) → SameEnds ends (waiting ends x msgs tag)
same_waiting ends x msgs tag = record {
  sorted = subst (IsStrictlySortedBy end_cmp) (sym (keys_waiting ends x msgs tag));
  there_too = λ q. keep_waiting ends x msgs tag is_some q (λ s. refl);
  as_up = λ q. keep_waiting ends x msgs tag up_of q (λ s. refl);
}

pub same_unwaiting : (ends : Ends) (x : List ℕ) (msgs : List ℕ → List Msg) (tag : ℕ) → SameEnds (waiting ends x msgs tag) ends
same_unwaiting ends x msgs tag =
    let same : SameEnds ends (waiting ends x msgs tag) = same_waiting ends x msgs tag in
    record {
      sorted = subst (IsStrictlySortedBy end_cmp) (keys_waiting ends x msgs tag);
      there_too = λ q. sym (same.there_too q);
      as_up = λ q. sym (same.as_up q);
    }

pub same_queued : (ends : Ends) (x : List ℕ) (node : NodeState) (event : Event) (tag : ℕ) → SameEnds ends (all_queued ends x node event tag)
same_queued ends x node event tag = same_waiting ends x (sends_to node event) tag

pub same_told : (ends : Ends) (x : List ℕ) (r : RouterState) (event : Event) (tag : ℕ) → SameEnds ends (all_told ends x r event tag)
same_told ends x r event tag = same_waiting ends x (told_to r event) tag

-- what waits once a router has heard of an event, and its clients were told
pub same_heard : (ends : Ends) (x : List ℕ) (r : RouterState) (event : Event) (tag : ℕ) → SameEnds ends (all_told (all_queued ends x r.node event tag) x r event tag)
same_heard ends x r event tag =
    let queued : Ends = all_queued ends x r.node event tag in
    same_then ends queued (all_told queued x r event tag) (same_queued ends x r.node event tag) (same_told queued x r event tag)

-- of two ends of one router
pub own_end : (x y q : List ℕ) → is_end (x, y) (x, q) ≡ is_named y q
own_end x y q = end_parts (x, y) (x, q) ∙ ap (λ b. b && is_named y q) (names.refl x)

pub other_end : (x y z q : List ℕ) → is_named x z ≡ false → is_end (x, y) (z, q) ≡ false
other_end x y z q apart = end_parts (x, y) (z, q) ∙ ap (λ b. b && is_named y q) apart

-- ---- soundness in two parts

pub places_of : (w : WorldState) → IsSound w → Places w.routers w.clients w.ends
places_of w h = record { in_order = h.in_order; owners = h.routers; neighbours = h.neighbours; apart = h.apart; homes = h.clients }

pub nodes_of : (w : WorldState) → IsSound w → Nodes w.routers w.ends
nodes_of w h x r found = record {
  own = h.own x r found;
  unique = h.unique x r found;
  links = λ y. there_changed (λ l. l.peer) (link_to r.node.links y) ∙ h.links x y r found;
  roles = λ y p k. by y p (link_to r.node.links y) refl k;
}
  where
    by : (y : List ℕ) (p : PeerState) (o : Option LinkPeer) → link_to r.node.links y ≡ o → peer o ≡ Some p → is_router p.role ≡ is_some (router_of w.routers y)
    by y p None e k = absurd (false≢true (ap is_some k))
    by y p (Some l) e k = let is : l.peer ≡ p = cc in ap (λ z. is_router z.role) (sym is) ∙ h.roles x y r l found e

pub sound_of : (w : WorldState) → Places w.routers w.clients w.ends → Nodes w.routers w.ends → IsSound w
sound_of w p n = record {
  in_order = p.in_order;
  routers = p.owners;
  neighbours = p.neighbours;
  apart = p.apart;
  clients = p.homes;
  own = λ x r found. (n x r found).own;
  unique = λ x r found. (n x r found).unique;
  links = λ x y r found. sym (there_changed (λ l. l.peer) (link_to r.node.links y)) ∙ (n x r found).links y;
  roles = λ x y r l found k. (n x r found).roles y l.peer (ap peer k);
}

-- two networks alike: the same clients, routers with the same nodes, and the same ends, as many of them up
pub record Alike (w v : WorldState) : Type 0 where
  pub clients : v.clients ≡ w.clients
  pub nodes : (q : List ℕ) → option_map (λ r. r.node) (router_of v.routers q) ≡ option_map (λ r. r.node) (router_of w.routers q)
  pub ends : SameEnds w.ends v.ends

-- where one is sound the other is
pub alike_sound : (w v : WorldState) → Alike w v → IsSound w → IsSound v
alike_sound w v a h = sound_of v
    (places_same w.routers v.routers w.clients v.clients w.ends v.ends (places_of w h) (a.ends.sorted h.in_order) there_too (λ q. ap (λ cs. home (client_of cs q)) a.clients) a.ends.there_too)
    (λ x r found. by x r (router_of w.routers x) refl (sym (a.nodes x) ∙ ap (option_map (λ z. z.node)) found))
  where
    there_too : (q : List ℕ) → is_some (router_of v.routers q) ≡ is_some (router_of w.routers q)
    there_too q = sym (there_changed (λ r. r.node) (router_of v.routers q)) ∙ ap is_some (a.nodes q) ∙ there_changed (λ r. r.node) (router_of w.routers q)

    by : (x : List ℕ) (r : RouterState) (o : Option RouterState) → router_of w.routers x ≡ o → option_map (λ z. z.node) o ≡ Some r.node → Fits v.routers v.ends x r.node
    by x r None e k = absurd (false≢true (ap is_some k))
    by x r (Some t) e k =
        let same : t.node ≡ r.node = cc in
        subst (λ z. Fits v.routers v.ends x z) same (fits_same w.routers v.routers w.ends v.ends x t.node (nodes_of w h x t e) (λ y u. there_too y) (λ y. a.ends.as_up (x, y)))

-- before the first line
pub empty_sound : IsSound empty_world
unfolding IsStrictlySortedBy
empty_sound = record {
  in_order = tt;
  routers = λ x y h. absurd (false≢true h);
  neighbours = λ x y h. absurd (false≢true h);
  apart = λ x y h. absurd (false≢true h);
  clients = λ name s h. absurd (false≢true (ap is_some h));
  own = λ x r h. absurd (false≢true (ap is_some h));
  unique = λ x r h. absurd (false≢true (ap is_some h));
  links = λ x y r h. absurd (false≢true (ap is_some h));
  roles = λ x y r l h k. absurd (false≢true (ap is_some h));
}
