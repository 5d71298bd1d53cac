-- Where the link of a number stands among links whose numbers ascend, or would stand.
use Rattle.std.proofs.Common.{◌≡◌, ℕ, nat_lt, List, [], ◌∷◌, ◌++◌, cond, Less, Option, Some, None, get_or, map, refl, sym, ap, ◌∙◌, arith}
use Rattle.std.specs.List.{AllByRecursion, filter}
use Rattle.std.specs.List.Sorted.{IsStrictlySortedBy}
use Rattle.std.specs.Ordering.{nat_cmp, is_eq, is_lt}
use Rattle.std.proofs.lemmas.Option.{none-some, slice_get-get_or}
use Rattle.zr_node_spec.specs.Tables.{AreNumbered, link_at}
use Rattle.zr_msg.specs.declared.peer.LinkPeer.{LinkPeer}
use Rattle.zr_lists.specs.Ascending.{IsAscending, at_key, put}
use Rattle.zr_lists.specs.Place.{IsAt, IsGap}
use Rattle.zr_lists.proofs.Numbers.{nat_lt_is, nat_eq_is}
use Rattle.zr_node_spec.specs.Table.{with_link}
use Rattle.zr_push.proofs.Stops.{kept_same}

-- under which number a link stands
abbrev pub number_of : LinkPeer → ℕ
number_of l = l.link.0

after_numbers : (n : ℕ) (links : List LinkPeer) → AllByRecursion (λ m. nat_cmp n m ≡ Less) (map (λ l. l.link.0) links) → AllByRecursion (λ l. nat_cmp n (number_of l) ≡ Less) links
after_numbers n [] h = tt
after_numbers n (l ∷ links) h = (h.0, after_numbers n links h.1)

pub by_number : (links : List LinkPeer) → AreNumbered links → IsAscending nat_cmp number_of links
unfolding IsStrictlySortedBy
by_number [] h = tt
by_number (l ∷ links) h = (after_numbers l.link.0 links h.0, by_number links h.1)

look_up : (links : List LinkPeer) (n : ℕ) → link_at links n ≡ at_key nat_cmp number_of links n
look_up [] n = refl
look_up (l ∷ links) n =
    ap (λ b. cond b (Some l) (link_at links n)) (sym (nat_eq_is l.link.0 n)) ∙ ap (λ (o : Option LinkPeer). cond (is_eq (nat_cmp l.link.0 n)) (Some l) o) (look_up links n)

-- the link at the place of a number is found
pub found_here : (links : List LinkPeer) (n i : ℕ) (d : LinkPeer) → IsAt nat_cmp number_of links n i → link_at links n ≡ Some (get_or links i d)
found_here links n i d at = look_up links n ∙ at.found ∙ slice_get-get_or links i d at.within

pub none_here : (links : List LinkPeer) (n i : ℕ) → IsGap nat_cmp number_of links n i → link_at links n ≡ None
none_here links n i gap = look_up links n ∙ gap.absent

-- so none stands there where none is found
pub not_here : (links : List LinkPeer) (n i : ℕ) → link_at links n ≡ None → IsAt nat_cmp number_of links n i → ⊥
not_here [] n i none at = let w = at.within in absurd (omega arith)
not_here (l ∷ links) n i none at = none-some _ (sym none ∙ found_here (l ∷ links) n i l at)

-- a link that is put at its place
pub put_is : (links : List LinkPeer) (l : LinkPeer) → put nat_cmp number_of links l ≡ with_link links l
put_is links l =
    ap (λ ls. ls ++ l ∷ filter (λ k. is_lt (nat_cmp l.link.0 k.link.0)) links) (kept_same (λ k. is_lt (nat_cmp k.link.0 l.link.0)) (λ k. nat_lt k.link.0 l.link.0) links (λ k. nat_lt_is k.link.0 l.link.0))
    ∙ ap (λ ls. filter (λ k. nat_lt k.link.0 l.link.0) links ++ l ∷ ls) (kept_same (λ k. is_lt (nat_cmp l.link.0 k.link.0)) (λ k. nat_lt l.link.0 k.link.0) links (λ k. nat_lt_is l.link.0 k.link.0))
