-- The links of a router, each of which is the one of its number and the one to its neighbour: what a link's number or neighbour finds
-- after a link has come up (`link_to_with`), has gone down (`link_to_without`), and after a client has declared something (`link_to_map`).
use Rattle.std.proofs.Common.{◌≡◌, ℕ, ◌<◌, ◌≤◌, Bool, true, false, cond, not, ◌≢◌, List, [], ◌∷◌, Option, Some, None, refl, sym, ap, ◌∙◌, ◌⊎◌, inl, inr, arith}
use Rattle.std.specs.Prelude.{nat_lt, is_some}
use Rattle.std.specs.List.{filter, find}
use Rattle.std.proofs.lemmas.Bool.{false≢true, eqb-true, eq-eqb, lt-ltb, cases_eq, cases_lt}
use Rattle.zr_lists.proofs.Elements.{in_front, in_behind, in_either, each_in, in_each}
use Rattle.zr_id.specs.Zid.{is_named}
use Rattle.zr_node_spec.specs.Tables.{is_link, link_at, link_to}
use Rattle.zr_msg.specs.declared.peer.LinkPeer.{LinkPeer}
use Rattle.zr_node_spec.specs.Table.{with_link, without_link}
use Rattle.zr_lists.proofs.Finds.{In, find_in, in_find, none_find, only_find, in_filter, filter_in}
use Rattle.zr_world_spec.specs.Sound.{AreUnique}
use Rattle.zr_world_spec.proofs.Names.{names, same_name}

-- ---- lists

module _ {X : Type 0} where
  -- at most one element of a list passes a test
  abbrev pub OnlyOne : (X → Bool) → List X → Type 0
  OnlyOne p xs = (k l : X) → In k xs → In l xs → p k ≡ true → p l ≡ true → k ≡ l

  -- what was found, if it passes a test
  abbrev pub kept : (X → Bool) → Option X → Option X
  kept q None = None
  kept q (Some k) = cond (q k) (Some k) None

  pub find_filter : (p q : X → Bool) (xs : List X) → OnlyOne p xs → find p (filter q xs) ≡ kept q (find p xs)
  find_filter p q xs one = by (find p xs) refl
    where
      fails : (k : X) (b : Bool) → q k ≡ b → find p xs ≡ Some k → find p (filter q xs) ≡ cond b (Some k) None
      fails k true e h =
          let i = find_in p xs k h in
          only_find p (filter q xs) k (filter_in q xs k i.0 e) i.1 (λ z j t. one z k (in_filter q xs z j).0 i.0 t i.1)
      fails k false e h = none_find p (filter q xs) (λ y j. none y j (p y) refl)
        where
          none : (y : X) → In y (filter q xs) → (t : Bool) → p y ≡ t → t ≡ false
          none y j false u = refl
          none y j true u =
              let i = find_in p xs k h in
              let f = in_filter q xs y j in
              absurd (false≢true (sym e ∙ ap q (one k y i.0 f.0 i.1 u) ∙ f.1))

      by : (o : Option X) → find p xs ≡ o → find p (filter q xs) ≡ kept q o
      by (Some k) h = fails k (q k) refl h
      by None h = none_find p (filter q xs) (λ y j. none y j (p y) refl)
        where
          none : (y : X) → In y (filter q xs) → (t : Bool) → p y ≡ t → t ≡ false
          none y j false u = refl
          none y j true u = let f = in_find p xs y (in_filter q xs y j).0 u in absurd (false≢true (ap is_some (sym h ∙ f.1)))

-- ---- unique links

abbrev has_name : List ℕ → LinkPeer → Bool
has_name name l = is_named l.peer.id name

-- two links that are found by one number are one, and so are two to one neighbour
pub one_number : (links : List LinkPeer) → AreUnique links → (n : ℕ) → OnlyOne (is_link n) links
one_number links h n k l i j p q =
    let same : k.link.0 ≡ l.link.0 = eqb-true k.link.0 n p ∙ sym (eqb-true l.link.0 n q) in
    let found : Some k ≡ Some l = sym (each_in _ links k h.numbers i) ∙ ap (λ z. link_at links z) same ∙ each_in _ links l h.numbers j in
    cc

pub one_name : (links : List LinkPeer) → AreUnique links → (name : List ℕ) → OnlyOne (has_name name) links
one_name links h name k l i j p q =
    let same : k.peer.id ≡ l.peer.id = same_name k.peer.id name p ∙ sym (same_name l.peer.id name q) in
    let found : Some k ≡ Some l = sym (each_in _ links k h.names i) ∙ ap (λ z. link_to links z) same ∙ each_in _ links l h.names j in
    cc

own_number : (l : LinkPeer) → is_link l.link.0 l ≡ true
own_number l = eq-eqb l.link.0 l.link.0 refl

unique_by : (links : List LinkPeer) → ((n : ℕ) → OnlyOne (is_link n) links) → ((name : List ℕ) → OnlyOne (has_name name) links) → AreUnique links
unique_by links numbers names_ = record {
  numbers = in_each _ links (λ l i. only_find (is_link l.link.0) links l i (own_number l) (λ k j t. numbers l.link.0 k l j i t (own_number l)));
  names = in_each _ links (λ l i. only_find (has_name l.peer.id) links l i (names.refl l.peer.id) (λ k j t. names_ l.peer.id k l j i t (names.refl l.peer.id)));
}

pub unique_nothing : AreUnique []
unique_nothing = record { numbers = tt; names = tt }

-- the link to a neighbour is the one of its number, and has the neighbour's name
pub named_link : (links : List LinkPeer) (name : List ℕ) (l : LinkPeer) → link_to links name ≡ Some l → l.peer.id ≡ name
named_link links name l h = same_name l.peer.id name (find_in (has_name name) links l h).1

pub numbered_link : (links : List LinkPeer) → AreUnique links → (name : List ℕ) (l : LinkPeer) → link_to links name ≡ Some l → link_at links l.link.0 ≡ Some l
numbered_link links h name l found = each_in _ links l h.numbers (find_in (has_name name) links l found).0

-- ---- a link more

module _ (links : List LinkPeer) (l : LinkPeer) (h : AreUnique links) (number : link_at links l.link.0 ≡ None) (name : link_to links l.peer.id ≡ None) where
  new_number : (k : LinkPeer) → In k links → is_link l.link.0 k ≡ false
  new_number k i = by (is_link l.link.0 k) refl
    where
      by : (b : Bool) → is_link l.link.0 k ≡ b → b ≡ false
      by false e = refl
      by true e = let f = in_find (is_link l.link.0) links k i e in absurd (false≢true (ap is_some (sym number ∙ f.1)))

  new_name : (k : LinkPeer) → In k links → has_name l.peer.id k ≡ false
  new_name k i = by (has_name l.peer.id k) refl
    where
      by : (b : Bool) → has_name l.peer.id k ≡ b → b ≡ false
      by false e = refl
      by true e = let f = in_find (has_name l.peer.id) links k i e in absurd (false≢true (ap is_some (sym name ∙ f.1)))

  abbrev before : LinkPeer → Bool
  before k = nat_lt k.link.0 l.link.0

  abbrev after_ : LinkPeer → Bool
  after_ k = nat_lt l.link.0 k.link.0

  of_more : (k : LinkPeer) → In k (with_link links l) → (k ≡ l) ⊎ In k links
  of_more k i = by (in_either (filter before links) (l ∷ filter after_ links) k i)
    where
      by : In k (filter before links) ⊎ In k (l ∷ filter after_ links) → (k ≡ l) ⊎ In k links
      by (inl j) = inr (in_filter before links k j).0
      by (inr (inl e)) = inl e
      by (inr (inr j)) = inr (in_filter after_ links k j).0

  own_in : In l (with_link links l)
  own_in = in_behind (filter before links) (l ∷ filter after_ links) l (inl refl)

  old_in : (k : LinkPeer) → In k links → In k (with_link links l)
  old_in k i = by (cases_lt k.link.0 l.link.0)
    where
      by : (k.link.0 < l.link.0) ⊎ (l.link.0 ≤ k.link.0) → In k (with_link links l)
      by (inl lt) = in_front (filter before links) (l ∷ filter after_ links) k (filter_in before links k i (lt-ltb k.link.0 l.link.0 lt))
      by (inr le) = at (cases_eq k.link.0 l.link.0)
        where
          at : (k.link.0 ≡ l.link.0) ⊎ (k.link.0 ≢ l.link.0) → In k (with_link links l)
          at (inl same) = absurd (false≢true (sym (new_number k i) ∙ eq-eqb k.link.0 l.link.0 same))
          at (inr other) = in_behind (filter before links) (l ∷ filter after_ links) k (inr (filter_in after_ links k i (lt-ltb l.link.0 k.link.0 (omega arith))))

  -- by a test that one old link passes at most, and none if the new one does
  find_more : (p : LinkPeer → Bool) → OnlyOne p links → (p l ≡ true → (k : LinkPeer) → In k links → p k ≡ false) → find p (with_link links l) ≡ cond (p l) (Some l) (find p links)
  find_more p one others = by (p l) refl
    where
      by : (b : Bool) → p l ≡ b → find p (with_link links l) ≡ cond b (Some l) (find p links)
      by true e = only_find p (with_link links l) l own_in e (λ k i t. only k t (of_more k i))
        where
          only : (k : LinkPeer) → p k ≡ true → (k ≡ l) ⊎ In k links → k ≡ l
          only k t (inl same) = same
          only k t (inr j) = absurd (false≢true (sym (others e k j) ∙ t))
      by false e = at (find p links) refl
        where
          at : (o : Option LinkPeer) → find p links ≡ o → find p (with_link links l) ≡ o
          at (Some k) f =
              let i = find_in p links k f in
              only_find p (with_link links l) k (old_in k i.0) i.1 (λ z j t. only z t (of_more z j))
            where
              only : (z : LinkPeer) → p z ≡ true → (z ≡ l) ⊎ In z links → z ≡ k
              only z t (inl same) = absurd (false≢true (sym e ∙ ap p (sym same) ∙ t))
              only z t (inr j) = let i = find_in p links k f in one z k j i.0 t i.1
          at None f = none_find p (with_link links l) (λ z j. none z (of_more z j))
            where
              none : (z : LinkPeer) → (z ≡ l) ⊎ In z links → p z ≡ false
              none z (inl same) = ap p same ∙ e
              none z (inr j) = none_of z j (p z) refl
                where
                  none_of : (z : LinkPeer) → In z links → (t : Bool) → p z ≡ t → t ≡ false
                  none_of z j false u = refl
                  none_of z j true u = let g = in_find p links z j u in absurd (false≢true (ap is_some (sym f ∙ g.1)))

  pub link_to_with : (q : List ℕ) → link_to (with_link links l) q ≡ cond (is_named l.peer.id q) (Some l) (link_to links q)
  link_to_with q = find_more (has_name q) (one_name links h q) (λ e k i. names.congr k.peer.id k.peer.id q (names.refl k.peer.id) ∙ ap (is_named k.peer.id) (sym (same_name l.peer.id q e)) ∙ new_name k i)

  pub link_at_with : (n : ℕ) → link_at (with_link links l) n ≡ cond (is_link n l) (Some l) (link_at links n)
  link_at_with n = find_more (is_link n) (one_number links h n) (λ e k i. ap (λ z. is_link z k) (sym (eqb-true l.link.0 n e)) ∙ new_number k i)

  more_only : (p : LinkPeer → Bool) → OnlyOne p links → (p l ≡ true → (k : LinkPeer) → In k links → p k ≡ false) → OnlyOne p (with_link links l)
  more_only p one others j k ij ik tj tk = by (of_more j ij) (of_more k ik)
    where
      by : (j ≡ l) ⊎ In j links → (k ≡ l) ⊎ In k links → j ≡ k
      by (inl e) (inl f) = e ∙ sym f
      by (inl e) (inr b) = absurd (false≢true (sym (others (ap p (sym e) ∙ tj) k b) ∙ tk))
      by (inr a) (inl f) = absurd (false≢true (sym (others (ap p (sym f) ∙ tk) j a) ∙ tj))
      by (inr a) (inr b) = one j k a b tj tk

  pub unique_with : AreUnique (with_link links l)
  unique_with = unique_by (with_link links l)
      (λ n. more_only (is_link n) (one_number links h n) (λ e k i. ap (λ z. is_link z k) (sym (eqb-true l.link.0 n e)) ∙ new_number k i))
      (λ q. more_only (has_name q) (one_name links h q) (λ e k i. ap (is_named k.peer.id) (sym (same_name l.peer.id q e)) ∙ new_name k i))

-- ---- a link less

module _ (links : List LinkPeer) (h : AreUnique links) (n : ℕ) where
  abbrev stays : LinkPeer → Bool
  stays k = not (is_link n k)

  pub link_at_without : (q : ℕ) → link_at (without_link links n) q ≡ kept stays (link_at links q)
  link_at_without q = find_filter (is_link q) stays links (one_number links h q)

  pub link_to_without : (q : List ℕ) → link_to (without_link links n) q ≡ kept stays (link_to links q)
  link_to_without q = find_filter (has_name q) stays links (one_name links h q)

  less_only : (p : LinkPeer → Bool) → OnlyOne p links → OnlyOne p (without_link links n)
  less_only p one j k a b = one j k (in_filter stays links j a).0 (in_filter stays links k b).0

  pub unique_without : AreUnique (without_link links n)
  unique_without = unique_by (without_link links n) (λ m. less_only (is_link m) (one_number links h m)) (λ q. less_only (has_name q) (one_name links h q))

  -- the link of the number leads to one neighbour, to which there is no link then, and the links to others stay
  pub link_to_apart : (name : List ℕ) (l : LinkPeer) → link_to links name ≡ Some l → l.link.0 ≡ n → (q : List ℕ) →
      link_to (without_link links n) q ≡ cond (is_named name q) None (link_to links q)
  link_to_apart name l found same q = link_to_without q ∙ by (link_to links q) refl
    where
      i : In l links × (has_name name l ≡ true)
      i = find_in (has_name name) links l found

      at : (k : LinkPeer) → link_to links q ≡ Some k → (b c : Bool) → is_link n k ≡ b → is_named name q ≡ c → cond (not b) (Some k) None ≡ cond c None (Some k)
      at k f true true e g = refl
      at k f false false e g = refl
      at k f true false e g =
          let j = find_in (has_name q) links k f in
          let one : l ≡ k = one_number links h n l k i.0 j.0 (eq-eqb l.link.0 n same) e in
          let name_is : name ≡ q = sym (same_name l.peer.id name i.1) ∙ ap (λ z. z.peer.id) one ∙ same_name k.peer.id q j.1 in
          absurd (false≢true (sym g ∙ ap (is_named name) (sym name_is) ∙ names.refl name))
      at k f false true e g =
          let one : Some l ≡ Some k = sym found ∙ ap (λ z. link_to links z) (same_name name q g) ∙ f in
          let is : l ≡ k = cc in
          absurd (false≢true (sym e ∙ ap (λ z. is_link n z) (sym is) ∙ eq-eqb l.link.0 n same))

      by : (o : Option LinkPeer) → link_to links q ≡ o → kept stays o ≡ cond (is_named name q) None o
      by (Some k) f = at k f (is_link n k) (is_named name q) refl refl
      by None f = none (is_named name q)
        where
          none : (c : Bool) → None ≡ cond c None (link_to [] q)
          none true = refl
          none false = refl
