-- That numbers are remembered under the names of links alone: where none is, where one more is, and where a link has gone.
use Rattle.std.proofs.Common.{◌≡◌, ℕ, zero, suc, ◌<◌, ◌≤◌, ◌^◌, not, Bool, true, false, cond, List, [], ◌∷◌, length, get_or, Some, None, Result, Ok, Err, OnOk, OnErr, refl, sym, ap, subst, ◌∙◌, arith}
use Rattle.std.specs.BTreeMap.{BTreeMap, IsEmpty, Updates, IsUnchanged, get, is_at}
use Rattle.std.specs.Cmp.Lexicographic.{slice_cmp}
use Rattle.std.specs.List.{AllByRecursion, find, insert, remove}
use Rattle.std.specs.Map.{lookup}
use Rattle.std.specs.Option.{IsSome, is_some}
use Rattle.std.specs.Ordering.{nat_cmp}
use Rattle.std.proofs.lemmas.Bool.{eqb-true, true≢false}
use Rattle.std.proofs.lemmas.Option.{none-some}
use Rattle.zr_id.specs.Zid.{is_named}
use Rattle.zr_id.specs.declared.link.LinkNo.{LinkNo}
use Rattle.zr_graph.proofs.Names.{same_is}
use Rattle.zr_msg.specs.declared.peer.LinkPeer.{LinkPeer}
use Rattle.zr_node_spec.specs.Tables.{AreNumbered, is_link, link_at, link_to}
use Rattle.zr_node_spec.specs.Table.{with_link, without_link}
use Rattle.zr_node_spec.proofs.Links.{numbers_of}
use Rattle.zr_lists.specs.Place.{IsGap}
use Rattle.zr_node.proofs.Places.{number_of}
use Rattle.zr_node.proofs.Staying.{IsKept, kept_up}
use Rattle.zr_node.specs.Hints.{AreOfLinks}

abbrev pub Hints : Type 0
Hints = BTreeMap (List ℕ) LinkNo

-- ---- lists

found_behind : {X : Type 0} (test : X → Bool) (x : X) (xs : List X) (b : Bool) → IsSome (find test xs) → IsSome (cond b (Some x) (find test xs))
found_behind test x xs true h = refl
found_behind test x xs false h = h

-- what is found is found where one more is there
pub found_beside : {X : Type 0} (test : X → Bool) (xs : List X) (i : ℕ) (x : X) → IsSome (find test xs) → IsSome (find test (insert xs i x))
found_beside test xs zero x h = found_behind test x xs (test x) h
found_beside test [] (suc i) x h = cc
found_beside test (y ∷ xs) (suc i) x h = by (test y) h (λ k. found_beside test xs i x k)
  where
    by : (b : Bool) → IsSome (cond b (Some y) (find test xs)) → (IsSome (find test xs) → IsSome (find test (insert xs i x))) → IsSome (cond b (Some y) (find test (insert xs i x)))
    by true k ih = refl
    by false k ih = ih k

-- and the one more is found
pub found_put : {X : Type 0} (test : X → Bool) (xs : List X) (i : ℕ) (x : X) → test x ≡ true → IsSome (find test (insert xs i x))
found_put test xs zero x h = ap (λ b. is_some (cond b (Some x) (find test xs))) h
found_put test [] (suc i) x h = ap (λ b. is_some (cond b (Some x) None)) h
found_put test (y ∷ xs) (suc i) x h = found_behind test y (insert xs i x) (test y) (found_put test xs i x h)

-- what was put in and taken out again has left nothing
pub put_undone : {X : Type 0} (xs : List X) (i : ℕ) (x : X) → i ≤ length xs → remove (insert xs i x) i ≡ xs
put_undone xs zero x h = refl
put_undone [] (suc i) x h = absurd (omega arith)
put_undone (y ∷ xs) (suc i) x h = ap (λ ys. y ∷ ys) (put_undone xs i x (omega arith))

-- what stands at a place is found
pub found_at : {X : Type 0} (test : X → Bool) (xs : List X) (i : ℕ) (d : X) → i < length xs → test (get_or xs i d) ≡ true → IsSome (find test xs)
found_at test [] i d within h = absurd (omega arith)
found_at test (x ∷ xs) zero d within h = ap (λ b. is_some (cond b (Some x) (find test xs))) h
found_at test (x ∷ xs) (suc i) d within h = found_behind test x xs (test x) (found_at test xs i d (omega arith) h)

-- ---- hints

-- no hint
pub hinted_none : (hints : Hints) (links : List LinkPeer) → IsEmpty hints → AreOfLinks hints links
hinted_none hints links none name there = absurd (true≢false (sym there ∙ ap (λ es. is_some (lookup (is_at (slice_cmp nat_cmp name)) es)) none))

module _ (hints news : Hints) (links : List LinkPeer) where
  -- the same hints
  pub hinted_same : IsUnchanged hints news → AreOfLinks hints links → AreOfLinks news links
  hinted_same same h name there = h name (sym (ap (λ es. is_some (lookup (is_at (slice_cmp nat_cmp name)) es)) same) ∙ there)

  module _ (name : List ℕ) (number : LinkNo) (h : AreOfLinks hints links) (put : Updates (slice_cmp nat_cmp) hints news name (Some number)) where
    -- one more, of a link that is up
    pub hinted_here : IsSome (link_to links name) → AreOfLinks news links
    hinted_here up other there = by (is_named name other) refl (sym (ap (λ o. is_some o) (put.0 other)) ∙ there)
      where
        by : (b : Bool) → is_named name other ≡ b → IsSome (cond b (Some number) (get (slice_cmp nat_cmp) hints other)) → IsSome (link_to links other)
        by true e k = ap (λ n. is_some (link_to links n)) (sym (same_is name other e)) ∙ up
        by false e k = h other k

    -- one more, of a link that comes up
    pub hinted_up : (i : ℕ) (l : LinkPeer) → l.peer.id ≡ name → AreOfLinks news (insert links i l)
    hinted_up i l same other there = by (is_named name other) refl (sym (ap (λ o. is_some o) (put.0 other)) ∙ there)
      where
        by : (b : Bool) → is_named name other ≡ b → IsSome (cond b (Some number) (get (slice_cmp nat_cmp) hints other)) → IsSome (link_to (insert links i l) other)
        by true e k = found_put (λ j. is_named j.peer.id other) links i l (ap (λ n. is_named n other) same ∙ e)
        by false e k = found_beside (λ j. is_named j.peer.id other) links i l (h other k)

-- a name that the link of a number hasn't got is found without that link
left_over : (all links : List LinkPeer) (n : ℕ) (name : List ℕ) → AllByRecursion (λ l. link_at all l.link.0 ≡ Some l) links → ((l : LinkPeer) → link_at all n ≡ Some l → is_named l.peer.id name ≡ false)
    → IsSome (link_to links name) → IsSome (link_to (without_link links n) name)
left_over all [] n name at other h = h
left_over all (l ∷ links) n name at other h = by (is_link n l) refl (is_named l.peer.id name) refl h (left_over all links n name at.1 other)
  where
    by : (gone : Bool) → is_link n l ≡ gone → (same : Bool) → is_named l.peer.id name ≡ same → IsSome (cond same (Some l) (link_to links name))
        → (IsSome (link_to links name) → IsSome (link_to (without_link links n) name)) → IsSome (link_to (cond (not gone) (l ∷ without_link links n) (without_link links n)) name)
    by true e true f k ih = absurd (true≢false (sym f ∙ other l (ap (λ m. link_at all m) (sym (eqb-true l.link.0 n e)) ∙ at.0)))
    by true e false f k ih = ih k
    by false e true f k ih = ap (λ b. is_some (cond b (Some l) (link_to (without_link links n) name))) f
    by false e false f k ih = ap (λ b. is_some (cond b (Some l) (link_to (without_link links n) name))) f ∙ ih k

module _ (hints news : Hints) (links : List LinkPeer) (n : ℕ) (ascending : AreNumbered links) (h : AreOfLinks hints links) where
  -- the hint of a link is forgotten, and the link goes
  pub hinted_down : (l : LinkPeer) → link_at links n ≡ Some l → Updates (slice_cmp nat_cmp) hints news l.peer.id None → AreOfLinks news (without_link links n)
  hinted_down l found taken name there = by (is_named l.peer.id name) refl (sym (ap (λ o. is_some o) (taken.0 name)) ∙ there)
    where
      by : (b : Bool) → is_named l.peer.id name ≡ b → IsSome (cond b None (get (slice_cmp nat_cmp) hints name)) → IsSome (link_to (without_link links n) name)
      by true e k = cc
      by false e k =
          left_over links links n name (numbers_of links ascending)
          (λ j at. let same : j ≡ l = cc in ap (λ (m : LinkPeer). is_named m.peer.id name) same ∙ e) (h name k)

  -- or there is no such link
  pub hinted_still : link_at links n ≡ None → IsUnchanged hints news → AreOfLinks news (without_link links n)
  hinted_still none same name there =
      left_over links links n name (numbers_of links ascending) (λ j at. absurd (none-some j (sym none ∙ at))) (hinted_same hints news links same h name there)

-- ---- links and their hints

abbrev pub AreKept : Hints → List LinkPeer → Type 0
AreKept hints links = AreNumbered links × (length links < 2 ^ 32) × AreOfLinks hints links

-- a link is put at its place, with its hint, or nothing has changed
module _ (hints news : Hints) (links ups : List LinkPeer) (l : LinkPeer) (i : ℕ) where
  abbrev pub IsPut : Type 0
  IsPut = (ups ≡ insert links i l) × Updates (slice_cmp nat_cmp) hints news l.peer.id (Some l.link)

  abbrev pub IsLeft : Type 0
  IsLeft = (ups ≡ links) × IsUnchanged hints news

  module _ (gap : IsGap nat_cmp number_of links l.link.0 i) (few : length links < 4294967295) (h : AreKept hints links) where
    pub kept_put : {X E : Type 0} (r : Result X E) → OnOk r IsPut → OnErr r IsLeft → AreKept news ups
    kept_put (Ok x) put left =
        let up : IsKept (insert links i l) × (insert links i l ≡ with_link links l) = kept_up links l i (h.0, h.1) gap few in
        subst (λ (ls : List LinkPeer). AreKept news ls) (sym put.0) (up.0.0, up.0.1, hinted_up hints news links l.peer.id l.link h.2 put.1 i l refl)
    kept_put (Err e) put left = subst (λ (ls : List LinkPeer). AreKept news ls) (sym left.0) (h.0, h.1, hinted_same hints news links left.1 h.2)

    pub put_there : {X E : Type 0} (r : Result X E) → OnOk r IsPut → OnOk r (ups ≡ with_link links l)
    put_there (Ok x) put = put.0 ∙ (kept_up links l i (h.0, h.1) gap few).1
    put_there (Err e) put = tt

  pub left_there : {X E : Type 0} (r : Result X E) → OnErr r IsLeft → OnErr r (ups ≡ links)
  left_there (Ok x) left = tt
  left_there (Err e) left = left.0
