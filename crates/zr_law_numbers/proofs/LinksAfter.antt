-- Which link a number finds once a link has come up, and once one has gone down.
use Rattle.std.proofs.Common.{◌≡◌, ℕ, ◌==◌, nat_lt, not, Bool, true, false, cond, List, [], ◌∷◌, ◌++◌, filter, Option, Some, None, refl, sym, ap, ◌∙◌}
use Rattle.std.proofs.lemmas.Bool.{eqb-true, eq-eqb, false≢true}
use Rattle.zr_msg.specs.declared.peer.LinkPeer.{LinkPeer}
use Rattle.zr_node_spec.specs.Tables.{AreNumbered, is_link, link_at}
use Rattle.zr_node_spec.specs.Table.{with_link, without_link}
use Rattle.zr_lists.proofs.Each.{All-front}
use Rattle.zr_node_spec.proofs.Links.{none_passes, find_beside, find_here, parted_links}

pub at_with_link : (links : List LinkPeer) (l : LinkPeer) (n : ℕ) → AreNumbered links → link_at links l.link.0 ≡ None → link_at (with_link links l) n ≡ cond (is_link n l) (Some l) (link_at links n)
at_with_link links l n up none = by (is_link n l) refl
  where
    front : List LinkPeer
    front = filter (λ k. nat_lt k.link.0 l.link.0) links

    back : List LinkPeer
    back = filter (λ k. nat_lt l.link.0 k.link.0) links

    same : front ++ back ≡ links
    same = parted_links links l.link.0 up none

    by : (t : Bool) → is_link n l ≡ t → link_at (front ++ l ∷ back) n ≡ cond t (Some l) (link_at links n)
    by true e =
        let absent : link_at (front ++ back) n ≡ None = ap (λ ls. link_at ls n) same ∙ ap (λ m. link_at links m) (sym (eqb-true l.link.0 n e)) ∙ none in
        find_here (is_link n) front l back (All-front (λ k. is_link n k ≡ false) front back (none_passes (is_link n) (front ++ back) absent)) e
    by false e = find_beside (is_link n) front l back e ∙ ap (λ ls. link_at ls n) same

pub at_without_link : (links : List LinkPeer) (n m : ℕ) → link_at (without_link links n) m ≡ cond (m == n) None (link_at links m)
at_without_link [] n m = by (m == n)
  where
    nothing : Option LinkPeer
    nothing = None

    by : (t : Bool) → nothing ≡ cond t nothing nothing
    by true = refl
    by false = refl
at_without_link (k ∷ links) n m = by (k.link.0 == n) refl (k.link.0 == m) refl (m == n) refl (at_without_link links n m)
  where
    rest : Option LinkPeer
    rest = link_at links m

    left : List LinkPeer
    left = without_link links n

    by : (a : Bool) → (k.link.0 == n) ≡ a → (b : Bool) → (k.link.0 == m) ≡ b → (c : Bool) → (m == n) ≡ c → link_at left m ≡ cond c None rest →
        link_at (cond (not a) (k ∷ left) left) m ≡ cond c None (cond b (Some k) rest)
    by true ea b eb true ec ih = ih
    by true ea true eb false ec ih = absurd (false≢true (sym ec ∙ eq-eqb m n (sym (eqb-true k.link.0 m eb) ∙ eqb-true k.link.0 n ea)))
    by true ea false eb false ec ih = ih
    by false ea true eb true ec ih = absurd (false≢true (sym ea ∙ eq-eqb k.link.0 n (eqb-true k.link.0 m eb ∙ eqb-true m n ec)))
    by false ea false eb true ec ih = ap (λ t. cond t (Some k) (link_at left m)) eb ∙ ih
    by false ea b eb false ec ih = ap (λ t. cond t (Some k) (link_at left m)) eb ∙ ap (λ o. cond b (Some k) o) ih
