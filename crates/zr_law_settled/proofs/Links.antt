-- The links of one router: each number is that of one link, and a link's role is that of who stands at its other end. So a number tells
-- what kind of neighbour it leads to.
use Rattle.std.proofs.Common.{◌≡◌, ℕ, Bool, false, not, List, ◌∷◌, Some, ◌⊎◌, inl, inr, refl, sym, ap, ◌∙◌, arith}
use Rattle.std.specs.Prelude.{◌==◌, nat_lt, filter}
use Rattle.std.specs.Option.{option_map_or}
use Rattle.std.proofs.lemmas.Bool.{true≢false, not-true, eqb-true, eq-eqb, ltb-true}
use Rattle.zr_lists.proofs.Elements.{in_either}
use Rattle.zr_id.specs.Zid.{is_named}
use Rattle.zr_graph.proofs.Names.{same_is}
use Rattle.zr_lists.proofs.Finds.{In, find_in, only_find, in_filter}
use Rattle.zr_node_spec.specs.Tables.{is_link, link_at, link_to, is_router, leads_to_router}
use Rattle.zr_msg.specs.declared.peer.LinkPeer.{LinkPeer}
use Rattle.zr_node_spec.specs.Table.{with_link, without_link}

-- Each number is that of one link, and a link's role tells whether its peer is a router that is there.
pub record AreKnown (there : List ℕ → Bool) (links : List LinkPeer) : Type 0 where
  pub apart : (l k : LinkPeer) → In l links → In k links → l.link.0 ≡ k.link.0 → l ≡ k
  pub roles : (l : LinkPeer) → In l links → is_router l.peer.role ≡ there l.peer.id

-- the link that a name has found
pub linked_to : (links : List LinkPeer) (y : List ℕ) (l : LinkPeer) → link_to links y ≡ Some l → In l links × (l.peer.id ≡ y)
linked_to links y l h = let f = find_in (λ k. is_named k.peer.id y) links l h in (f.0, same_is l.peer.id y f.1)

module _ (there : List ℕ → Bool) where
  -- a link is the one of its number
  pub is_at : (links : List LinkPeer) → AreKnown there links → (l : LinkPeer) → In l links → link_at links l.link.0 ≡ Some l
  is_at links h l i = only_find (λ k. is_link l.link.0 k) links l i (eq-eqb l.link.0 l.link.0 refl) (λ k j e. h.apart k l j i (eqb-true k.link.0 l.link.0 e))

  -- its number leads to a router where its peer is one
  pub leads_is : (links : List LinkPeer) → AreKnown there links → (l : LinkPeer) → In l links → leads_to_router links l.link.0 ≡ there l.peer.id
  leads_is links h l i = ap (λ o. option_map_or (λ k. is_router k.peer.role) o false) (is_at links h l i) ∙ h.roles l i

  -- ---- events

  -- with one more link there is that one, and others whose numbers are other ones
  pub in_with : (links : List LinkPeer) (l k : LinkPeer) → In k (with_link links l) → (k ≡ l) ⊎ (In k links × (k.link.0 ≡ l.link.0 → ⊥))
  in_with links l k i = by (in_either (filter (λ x. nat_lt x.link.0 l.link.0) links) (l ∷ filter (λ x. nat_lt l.link.0 x.link.0) links) k i)
    where
      by : In k (filter (λ x. nat_lt x.link.0 l.link.0) links) ⊎ In k (l ∷ filter (λ x. nat_lt l.link.0 x.link.0) links) → (k ≡ l) ⊎ (In k links × (k.link.0 ≡ l.link.0 → ⊥))
      by (inl j) = let f = in_filter (λ x. nat_lt x.link.0 l.link.0) links k j in inr (f.0, λ e. absurd (omega (arith, ltb-true k.link.0 l.link.0 f.1)))
      by (inr (inl e)) = inl e
      by (inr (inr j)) = let f = in_filter (λ x. nat_lt l.link.0 x.link.0) links k j in inr (f.0, λ e. absurd (omega (arith, ltb-true l.link.0 k.link.0 f.1)))

  -- without the link of a number the others are there
  pub in_without : (links : List LinkPeer) (n : ℕ) (k : LinkPeer) → In k (without_link links n) → In k links × (k.link.0 ≡ n → ⊥)
  in_without links n k i =
      let f = in_filter (λ x. not (is_link n x)) links k i in
      (f.0, λ e. true≢false (sym (eq-eqb k.link.0 n e) ∙ not-true (k.link.0 == n) f.1))
