-- What the links of a router are they stay where one comes up and where one goes down.
use Rattle.std.proofs.Common.{◌≡◌, ℕ, ◌==◌, nat_lt, not, Bool, true, false, cond, List, [], ◌∷◌, ◌++◌, Some, None, map, filter, refl, sym, ap, subst, ◌∙◌}
use Rattle.std.specs.List.{AllByRecursion}
use Rattle.std.specs.List.Sorted.{IsStrictlySortedBy}
use Rattle.std.specs.Ordering.{nat_cmp, is_lt}
use Rattle.std.proofs.lemmas.Cmp.{nat_cmp_total}
use Rattle.std.proofs.lemmas.List.{map-append}
use Rattle.std.proofs.lemmas.List.Kept.{IsStrictlySortedBy-filter}
use Rattle.zr_id.specs.Zid.{is_named}
use Rattle.zr_id.specs.declared.link.LinkNo.{LinkNo}
use Rattle.zr_graph.proofs.Names.{same_is, same_refl}
use Rattle.zr_msg.specs.Peer.{PeerState}
use Rattle.std.proofs.lemmas.Bool.{false_from_ne_true, true≢false}
use Rattle.zr_node_spec.specs.Event.{AreLinks, IsFresh}
use Rattle.zr_node_spec.specs.Tables.{link_to, is_link}
use Rattle.zr_node_spec.specs.State.{NodeState, new_link}
use Rattle.zr_msg.specs.declared.peer.LinkPeer.{LinkPeer}
use Rattle.zr_node_spec.specs.Table.{with_link, without_link}
use Rattle.zr_lists.proofs.Each.{All-append, All-front, All-back, All-kept}
use Rattle.zr_lists.proofs.Sorted.{sorted_inserted}
use Rattle.zr_lists.proofs.Numbers.{nat_lt_is}
use Rattle.zr_lists.proofs.Filters.{find_filter_there}
use Rattle.zr_node_spec.proofs.Links.{AreAscending, numbers_of, none_passes, find_beside, find_here, parted_links}

-- no links
pub no_links : (me : List ℕ) → AreLinks me []
unfolding IsStrictlySortedBy
no_links me = record { ascending = tt; numbers = tt; names = tt; others = tt }

-- ---- a link has come up

numbers-filter : (p : ℕ → Bool) (links : List LinkPeer) → map (λ l. l.link.0) (filter (λ l. p l.link.0) links) ≡ filter p (map (λ l. l.link.0) links)
numbers-filter p [] = refl
numbers-filter p (l ∷ links) = by (p l.link.0) (numbers-filter p links)
  where
    by : (b : Bool) → map (λ k. k.link.0) (filter (λ k. p k.link.0) links) ≡ filter p (map (λ k. k.link.0) links)
        → map (λ k. k.link.0) (cond b (l ∷ filter (λ k. p k.link.0) links) (filter (λ k. p k.link.0) links))
        ≡ cond b (l.link.0 ∷ filter p (map (λ k. k.link.0) links)) (filter p (map (λ k. k.link.0) links))
    by true ih = ap (λ ns. l.link.0 ∷ ns) ih
    by false ih = ih

filter_alike : {X : Type 0} (p q : X → Bool) (xs : List X) → ((x : X) → p x ≡ q x) → filter p xs ≡ filter q xs
filter_alike p q [] h = refl
filter_alike p q (x ∷ xs) h = rw (h x, filter_alike p q xs h) refl

pub ascending_up : (links : List LinkPeer) (l : LinkPeer) → AreAscending links → AreAscending (with_link links l)
ascending_up links l up =
    let ns : List ℕ = map (λ k. k.link.0) links in
    let n : ℕ = l.link.0 in
    let below : map (λ k. k.link.0) (filter (λ k. nat_lt k.link.0 n) links) ≡ filter (λ m. is_lt (nat_cmp m n)) ns =
    numbers-filter (λ m. nat_lt m n) links ∙ filter_alike _ _ ns (λ m. sym (nat_lt_is m n)) in
    let above : map (λ k. k.link.0) (filter (λ k. nat_lt n k.link.0) links) ≡ filter (λ m. is_lt (nat_cmp n m)) ns =
    numbers-filter (λ m. nat_lt n m) links ∙ filter_alike _ _ ns (λ m. sym (nat_lt_is n m)) in
    let same : map (λ k. k.link.0) (with_link links l) ≡ filter (λ m. is_lt (nat_cmp m n)) ns ++ n ∷ filter (λ m. is_lt (nat_cmp n m)) ns =
    map-append (λ (k : LinkPeer). k.link.0) (filter (λ k. nat_lt k.link.0 n) links) (l ∷ filter (λ k. nat_lt n k.link.0) links)
    ∙ ap (λ ms. ms ++ n ∷ map (λ k. k.link.0) (filter (λ k. nat_lt n k.link.0) links)) below
    ∙ ap (λ ms. filter (λ m. is_lt (nat_cmp m n)) ns ++ n ∷ ms) above in
    subst (λ ms. IsStrictlySortedBy nat_cmp ms) (sym same) (sorted_inserted nat_cmp nat_cmp_total n ns up)

pub named_back : (x y : List ℕ) → is_named x y ≡ false → is_named y x ≡ false
named_back x y h = false_from_ne_true (is_named y x) (λ t. true≢false (sym (same_refl x) ∙ ap (λ z. is_named x z) (sym (same_is y x t)) ∙ h))

names_up : (front back : List LinkPeer) (l : LinkPeer) → link_to (front ++ back) l.peer.id ≡ None → AllByRecursion (λ k. link_to (front ++ back) k.peer.id ≡ Some k) (front ++ back)
    → AllByRecursion (λ k. link_to (front ++ l ∷ back) k.peer.id ≡ Some k) (front ++ l ∷ back)
names_up front back l none names =
    let strangers = none_passes (λ k. is_named k.peer.id l.peer.id) (front ++ back) none in
    let kept = both (front ++ back) strangers names in
    All-append _ front (l ∷ back) (All-front _ front back kept) (find_here _ front l back (All-front _ front back strangers) (same_refl l.peer.id), All-back _ front back kept)
  where
    both : (ks : List LinkPeer) → AllByRecursion (λ k. is_named k.peer.id l.peer.id ≡ false) ks → AllByRecursion (λ k. link_to (front ++ back) k.peer.id ≡ Some k) ks
        → AllByRecursion (λ k. link_to (front ++ l ∷ back) k.peer.id ≡ Some k) ks
    both [] s h = tt
    both (k ∷ ks) s h = (find_beside (λ j. is_named j.peer.id k.peer.id) front l back (named_back k.peer.id l.peer.id s.0) ∙ h.0, both ks s.1 h.1)

pub are_links_up : (node : NodeState) (link : LinkNo) (peer : PeerState) → IsFresh node link peer → AreLinks node.base.me node.links → AreLinks node.base.me (with_link node.links (new_link link peer))
are_links_up node link peer fresh h =
    let links : List LinkPeer = node.links in
    let l : LinkPeer = new_link link peer in
    let front : List LinkPeer = filter (λ k. nat_lt k.link.0 link.0) links in
    let back : List LinkPeer = filter (λ k. nat_lt link.0 k.link.0) links in
    let same : front ++ back ≡ links = parted_links links link.0 h.ascending fresh.number in
    let names : AllByRecursion (λ k. link_to (front ++ back) k.peer.id ≡ Some k) (front ++ back) =
    subst (λ ls. AllByRecursion (λ k. link_to ls k.peer.id ≡ Some k) ls) (sym same) h.names in
    let others : AllByRecursion (λ k. is_named k.peer.id node.base.me ≡ false) (front ++ back) =
    subst (λ ls. AllByRecursion (λ k. is_named k.peer.id node.base.me ≡ false) ls) (sym same) h.others in
    record {
      ascending = ascending_up links l h.ascending;
      numbers = numbers_of (with_link links l) (ascending_up links l h.ascending);
      names = names_up front back l (ap (λ ls. link_to ls peer.id) same ∙ fresh.name) names;
      others = All-append _ front (l ∷ back) (All-front _ front back others) (fresh.other, All-back _ front back others);
    }

-- ---- a link has gone down

pub ascending_down : (links : List LinkPeer) (n : ℕ) → AreAscending links → AreAscending (without_link links n)
ascending_down links n up = subst (λ ns. IsStrictlySortedBy nat_cmp ns) (sym (numbers-filter (λ m. not (m == n)) links)) (IsStrictlySortedBy-filter _ _ _ up)

pub are_links_down : (me : List ℕ) (links : List LinkPeer) (n : ℕ) → AreLinks me links → AreLinks me (without_link links n)
are_links_down me links n h = record {
  ascending = ascending_down links n h.ascending;
  numbers = numbers_of (without_link links n) (ascending_down links n h.ascending);
  names = All-kept _ _ (λ l. not (is_link n l)) links (λ l found kept. find_filter_there (λ k. is_named k.peer.id l.peer.id) (λ k. not (is_link n k)) links l found kept) h.names;
  others = All-kept _ _ (λ l. not (is_link n l)) links (λ l other kept. other) h.others;
}
