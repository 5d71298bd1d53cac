-- What is read of a router's links is the same without the names of clients.
use Rattle.std.proofs.Common.{◌≡◌, ℕ, Bool, true, false, cond, not, List, [], ◌∷◌, ◌++◌, map, filter, Option, Some, None, refl, sym, ap, ◌∙◌}
use Rattle.std.specs.Prelude.{◌&&◌, nat_lt}
use Rattle.std.specs.Option.{option_map, option_map_or}
use Rattle.std.proofs.lemmas.List.{map-append}
use Rattle.zr_lists.proofs.Finds.{find-map}
use Rattle.zr_msg.specs.declared.peer.LinkPeer.{LinkPeer}
use Rattle.zr_msg.specs.declared.peer.Role.{Role}
use Rattle.zr_msg.specs.declared.peer.Role.TheVariants.{Client, Router}
use Rattle.zr_node_spec.specs.Tables.{TableState, is_router, is_link, link_at, leads_to_router, leads_to_client, is_own_child, leads_to_child, is_to_child}
use Rattle.zr_node_spec.specs.Samples.{tree_by, tree_of}
use Rattle.zr_node_spec.specs.Table.{with_link, without_link}
use Rattle.zr_told_spec.specs.Hub.{by_link}
use Rattle.zr_told_spec.specs.Told.{ToldMap}
use Rattle.zr_law_names.specs.Names.{name_of, weight_of, nameless_link}

-- ---- one link

-- a link of a role
abbrev pub at_role : LinkPeer → Role → LinkPeer
at_role l r = record { link = l.link; peer = record { id = name_of l.peer.id r; role = l.peer.role; weight = weight_of l.peer.weight r } }

pub at_same : (links : List LinkPeer) (k : ℕ) → link_at (map nameless_link links) k ≡ option_map nameless_link (link_at links k)
at_same links k = find-map (λ l. is_link k l) nameless_link links

-- what is read of the link of a number
pub read_same : {Y : Type 0} (f g : LinkPeer → Y) (y : Y) → ((l : LinkPeer) → f (nameless_link l) ≡ g l) → (links : List LinkPeer) (k : ℕ) →
    option_map_or f (link_at (map nameless_link links) k) y ≡ option_map_or g (link_at links k) y
read_same f g y same links k = ap (λ o. option_map_or f o y) (at_same links k) ∙ by (link_at links k)
  where
    by : (o : Option LinkPeer) → option_map_or f (option_map nameless_link o) y ≡ option_map_or g o y
    by None = refl
    by (Some l) = same l

pub leads_router : (links : List LinkPeer) (k : ℕ) → leads_to_router (map nameless_link links) k ≡ leads_to_router links k
leads_router links k = read_same (λ l. is_router l.peer.role) (λ l. is_router l.peer.role) false (λ l. refl) links k

pub leads_client : (links : List LinkPeer) (k : ℕ) → leads_to_client (map nameless_link links) k ≡ leads_to_client links k
leads_client links k = read_same (λ l. not (is_router l.peer.role)) (λ l. not (is_router l.peer.role)) false (λ l. refl) links k

-- ---- all links

-- what is read of those that pass a test
pub kept : {Y : Type 0} (f : LinkPeer → Y) (p q : LinkPeer → Bool) → ((l : LinkPeer) → f (nameless_link l) ≡ f l) → ((l : LinkPeer) → p (nameless_link l) ≡ q l) → (links : List LinkPeer) →
    map f (filter p (map nameless_link links)) ≡ map f (filter q links)
kept f p q same test [] = refl
kept f p q same test (l ∷ links) =
    ap (λ b. map f (cond b (nameless_link l ∷ filter p (map nameless_link links)) (filter p (map nameless_link links)))) (test l) ∙ by (q l) (kept f p q same test links)
  where
    by : (b : Bool) → map f (filter p (map nameless_link links)) ≡ map f (filter q links) →
        map f (cond b (nameless_link l ∷ filter p (map nameless_link links)) (filter p (map nameless_link links))) ≡ map f (cond b (l ∷ filter q links) (filter q links))
    by true ih = ap (λ z. z ∷ map f (filter p (map nameless_link links))) (same l) ∙ ap (λ z. f l ∷ z) ih
    by false ih = ih

-- those that pass a test of their numbers
pub passing : (p : LinkPeer → Bool) → ((l : LinkPeer) → p (nameless_link l) ≡ p l) → (links : List LinkPeer) → filter p (map nameless_link links) ≡ map nameless_link (filter p links)
passing p test [] = refl
passing p test (l ∷ links) =
    ap (λ b. cond b (nameless_link l ∷ filter p (map nameless_link links)) (filter p (map nameless_link links))) (test l) ∙ by (p l) (passing p test links)
  where
    by : (b : Bool) → filter p (map nameless_link links) ≡ map nameless_link (filter p links) →
        cond b (nameless_link l ∷ filter p (map nameless_link links)) (filter p (map nameless_link links)) ≡ map nameless_link (cond b (l ∷ filter p links) (filter p links))
    by true ih = ap (λ z. nameless_link l ∷ z) ih
    by false ih = ih

pub with_same : (links : List LinkPeer) (l : LinkPeer) → with_link (map nameless_link links) (nameless_link l) ≡ map nameless_link (with_link links l)
with_same links l =
    ap (λ z. z ++ nameless_link l ∷ filter (λ k. nat_lt l.link.0 k.link.0) (map nameless_link links)) (passing (λ k. nat_lt k.link.0 l.link.0) (λ k. refl) links)
    ∙ ap (λ z. map nameless_link (filter (λ k. nat_lt k.link.0 l.link.0) links) ++ nameless_link l ∷ z) (passing (λ k. nat_lt l.link.0 k.link.0) (λ k. refl) links)
    ∙ sym (map-append nameless_link (filter (λ k. nat_lt k.link.0 l.link.0) links) (l ∷ filter (λ k. nat_lt l.link.0 k.link.0) links))

pub without_same : (links : List LinkPeer) (link : ℕ) → without_link (map nameless_link links) link ≡ map nameless_link (without_link links link)
without_same links link = passing (λ l. not (is_link link l)) (λ l. refl) links

pub maps_same : (links : List LinkPeer) (told : ℕ → ToldMap) → by_link (map nameless_link links) told ≡ by_link links told
maps_same links told = kept (λ l. (l.link.0, told l.link.0)) (λ l. not (is_router l.peer.role)) (λ l. not (is_router l.peer.role)) (λ l. refl) (λ l. refl) links

-- ---- trees

module _ (t : TableState) where
  -- the tables without names
  abbrev pub plain : TableState
  plain = record { links = map nameless_link t.links; base = t.base; rows = t.rows; clients = t.clients; known = t.known }

  pub child_same : (root : List ℕ) (to : ℕ) → is_to_child plain root to ≡ is_to_child t root to
  child_same root to = read_same (λ l. leads_to_child plain root l) (λ l. leads_to_child t root l) false (λ l. by l l.peer.role) t.links to
    where
      by : (l : LinkPeer) (r : Role) → (is_router r && is_own_child t root (name_of l.peer.id r)) ≡ (is_router r && is_own_child t root l.peer.id)
      by l Client = refl
      by l Router = refl

  pub tree_same : (from : ℕ) (named : Option (List ℕ)) → tree_of plain (link_at plain.links from) named ≡ tree_of t (link_at t.links from) named
  tree_same from named = ap (λ o. tree_of plain o named) (at_same t.links from) ∙ by (link_at t.links from)
    where
      one : (l : LinkPeer) (r : Role) → tree_by plain (at_role l r) r named ≡ tree_by t l r named
      one l Client = refl
      one l Router = refl

      by : (o : Option LinkPeer) → tree_of plain (option_map nameless_link o) named ≡ tree_of t o named
      by None = refl
      by (Some l) = one l l.peer.role
