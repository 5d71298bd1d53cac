-- A list is appended to bit by bit: what was said so far stands behind what stood before, and the rest is left.
use Rattle.std.proofs.Common.{◌≡◌, ℕ, ◌+◌, ◌<◌, Bool, true, false, cond, List, [], ◌∷◌, ◌++◌, length, drop, map, filter, refl, sym, ap, subst, ◌∙◌, append_assoc}
use mathlib.Core.List.{IsPrefix}
use Rattle.std.proofs.Math.ListN.{get_or}
use Rattle.std.proofs.lemmas.List.{append-nil, at_drop_more}
use Rattle.zr_lists.specs.Prefix.{IsPrefixBehind}

module _ {X : Type 0} where
  -- `said` was to be said behind `before`; `now` stands there, and `rest` is left to be said
  abbrev pub IsSoFar : List X → List X → List X → List X → Type 0
  IsSoFar before said now rest = (done : List X) × (said ≡ done ++ rest) × (now ≡ before ++ done)

  pub so_far_nothing : (before said : List X) → IsSoFar before said before said
  so_far_nothing before said = ([], refl, sym (append-nil before))

  pub so_far_one : (before said now next : List X) (x : X) (rest : List X) → IsSoFar before said now (x ∷ rest) → next ≡ now ++ x ∷ [] → IsSoFar before said next rest
  so_far_one before said now next x rest h e =
      (h.0 ++ x ∷ [], h.1 ∙ sym (append_assoc h.0 (x ∷ []) rest), e ∙ ap (λ (ys : List X). ys ++ x ∷ []) h.2 ∙ append_assoc before h.0 (x ∷ []))

  -- several are said at once
  pub so_far_more : (before said now next more rest : List X) → IsSoFar before said now (more ++ rest) → next ≡ now ++ more → IsSoFar before said next rest
  so_far_more before said now next more rest h e =
      (h.0 ++ more, h.1 ∙ sym (append_assoc h.0 more rest), e ∙ ap (λ (ys : List X). ys ++ more) h.2 ∙ append_assoc before h.0 more)

  -- where one stops among them, a prefix was said
  pub so_far_stopped : (before said now next more rest : List X) → IsSoFar before said now (more ++ rest) → IsPrefixBehind now more next → IsPrefixBehind before said next
  so_far_stopped before said now next more rest h p = (
    h.0 ++ p.0,
    (
      p.1.0 ++ rest,
      h.1 ∙ ap (λ (ys : List X). h.0 ++ (ys ++ rest)) p.1.1 ∙ ap (λ (ys : List X). h.0 ++ ys) (append_assoc p.0 p.1.0 rest) ∙ sym (append_assoc h.0 p.0 (p.1.0 ++ rest)),
    ),
    p.2 ∙ ap (λ (ys : List X). ys ++ p.0) h.2 ∙ append_assoc before h.0 p.0,
  )

  pub so_far_all : (before said now : List X) → IsSoFar before said now [] → now ≡ before ++ said
  so_far_all before said now h = h.2 ∙ ap (λ (ys : List X). before ++ ys) (sym (h.1 ∙ append-nil h.0))

  -- where one stops, a prefix was said
  pub so_far_prefix : (before said now rest : List X) → IsSoFar before said now rest → IsPrefixBehind before said now
  so_far_prefix before said now rest h = (h.0, (rest, h.1), h.2)

  -- nothing at all is a prefix
  pub nothing_said : (before said : List X) → IsPrefixBehind before said before
  nothing_said before said = ([], (said, refl), sym (append-nil before))

  -- and so is all of it
  pub all_said : (before said now : List X) → now ≡ before ++ said → IsPrefixBehind before said now
  all_said before said now e = (said, ([], sym (append-nil said)), e)

-- ---- a list is gone through, and something is said of each element that a test picks

module _ {X Y : Type 0} (test : X → Bool) (said_of : X → Y) (before said : List Y) where
  -- what is to be said of the elements from a place on is left
  abbrev pub IsAlong : List Y → List X → Type 0
  IsAlong now rest = IsSoFar before said now (map said_of (filter test rest))

  -- the next element is picked
  pub along_picked : (xs : List X) (i : ℕ) (d : X) (now next : List Y) → i < length xs → test (get_or xs i d) ≡ true → next ≡ now ++ said_of (get_or xs i d) ∷ []
      → IsAlong now (drop i xs) → IsAlong next (drop (i + 1) xs)
  along_picked xs i d now next less picked e h =
      let x : X = get_or xs i d in
      let rest : List X = filter test (drop (i + 1) xs) in
      let one : map said_of (filter test (drop i xs)) ≡ said_of x ∷ map said_of rest =
      at_drop_more (λ ys. map said_of (filter test ys)) xs i d less ∙ ap (λ b. map said_of (cond b (x ∷ rest) rest)) picked in
      so_far_one before said now next (said_of x) (map said_of rest) (subst (λ (ys : List Y). IsSoFar before said now ys) one h) e

  -- the next element is not
  pub along_passed : (xs : List X) (i : ℕ) (d : X) (now next : List Y) → i < length xs → test (get_or xs i d) ≡ false → next ≡ now
      → IsAlong now (drop i xs) → IsAlong next (drop (i + 1) xs)
  along_passed xs i d now next less passed e h =
      let x : X = get_or xs i d in
      let rest : List X = filter test (drop (i + 1) xs) in
      let one : map said_of (filter test (drop i xs)) ≡ map said_of rest =
      at_drop_more (λ ys. map said_of (filter test ys)) xs i d less ∙ ap (λ b. map said_of (cond b (x ∷ rest) rest)) passed in
      subst (λ (now : List Y). IsSoFar before said now (map said_of rest)) (sym e) (subst (λ (ys : List Y). IsSoFar before said now ys) one h)

-- ---- two things are said in a row

module _ {X : Type 0} where
  -- where one stops in the first, a prefix of both was said
  pub first_prefix : (before a b now : List X) → IsPrefixBehind before a now → IsPrefixBehind before (a ++ b) now
  first_prefix before a b now h = (h.0, (h.1.0 ++ b, ap (λ (xs : List X). xs ++ b) h.1.1 ∙ append_assoc h.0 h.1.0 b), h.2)

  -- and where one stops in the second
  pub second_prefix : (before a b mid now : List X) → mid ≡ before ++ a → IsPrefixBehind mid b now → IsPrefixBehind before (a ++ b) now
  second_prefix before a b mid now e h =
      (a ++ h.0, (h.1.0, ap (λ (xs : List X). a ++ xs) h.1.1 ∙ sym (append_assoc a h.0 h.1.0)), h.2 ∙ ap (λ (xs : List X). xs ++ h.0) e ∙ append_assoc before a h.0)

  -- both were said
  pub both_said : (before a b mid now : List X) → mid ≡ before ++ a → now ≡ mid ++ b → now ≡ before ++ (a ++ b)
  both_said before a b mid now e f = f ∙ ap (λ (xs : List X). xs ++ b) e ∙ append_assoc before a b

  -- ---- prefixes alone

  pub prefix_self : (xs : List X) → IsPrefix xs xs
  prefix_self xs = ([], append-nil xs)

  pub prefix_trans : (xs ys zs : List X) → IsPrefix xs ys → IsPrefix ys zs → IsPrefix xs zs
  prefix_trans xs ys zs a b = (a.0 ++ b.0, sym (append_assoc xs a.0 b.0) ∙ ap (λ l. l ++ b.0) a.1 ∙ b.1)
