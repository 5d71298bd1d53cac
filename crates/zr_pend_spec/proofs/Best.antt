-- What is held is the best of what came (`gathered_best`), and two best of replies that say the same say the same (`best_is_one`): one reply more is
-- the step (`best_put` where it takes its place, `best_stays` where it doesn't), and nothing is said of the order in which they came.
use Rattle.std.proofs.Common.{◌≡◌, ℕ, Bool, true, false, cond, List, [], ◌∷◌, ◌++◌, Option, Some, None, Ordering, Less, Equal, Greater, ◌⊎◌, inl, inr, map, refl, sym, ap, ◌∙◌, subst, append-nil, append_assoc, rules}
use Rattle.std.specs.Cmp.{IsTotalOrder}
use Rattle.std.specs.Cmp.Rules.{comparing}
use Rattle.std.specs.Cmp.Lexicographic.{slice_cmp}
use Rattle.std.specs.List.{AllByRecursion, fold}
use Rattle.std.specs.List.Sorted.{IsStrictlySortedBy}
use Rattle.std.specs.Option.{option_map, option_map_or}
use Rattle.std.specs.Ordering.{is_eq, is_lt, nat_cmp, ordering_then, ordering_reverse}
use Rattle.std.proofs.lemmas.Bool.{false≢true, true≢false}
use Rattle.zr_lists.specs.Ascending.{IsAscending, at_key}
use Rattle.zr_lists.proofs.Elements.{in_either, in_front}
use Rattle.zr_lists.proofs.Finds.{In, find_in, in_find}
use Rattle.zr_lists.proofs.Order.{IsExactOrder, is_itself, is_same, name_order}
use Rattle.zr_lists.proofs.Puts.{ascending_put, at-put}
use Rattle.zr_lists.proofs.Same.{same}
use Rattle.zr_msg.specs.declared.content.Parts.{Parts}
use Rattle.zr_body.specs.Latest.{body_cmp, is_later, stamp_numbers}
use Rattle.zr_pend_spec.specs.Best.{GatheredIsBest, IsBest, SaySame, key_body}
use Rattle.zr_pend_spec.specs.Held.{AreByKey, gathered, held_of, held_with, put_reply}
use Rattle.zr_pend_spec.proofs.Gathered.{key_of}

-- ---- the order of bodies

abbrev text_cmp : List ℕ → List ℕ → Ordering
text_cmp = slice_cmp nat_cmp

body_total : IsTotalOrder body_cmp
body_total = search (comparing, rules)

body_exact : (a b : List ℕ) → body_cmp a b ≡ Equal → a ≡ b
body_exact a b h = by (text_cmp (stamp_numbers a) (stamp_numbers b)) h
  where
    by : (r : Ordering) → ordering_then r (text_cmp a b) ≡ Equal → a ≡ b
    by Less t = absurd (cc)
    by Equal t = name_order.exact a b t
    by Greater t = absurd (cc)

body_order : IsExactOrder body_cmp
body_order = record { total = body_total; exact = body_exact }

abbrev later : Parts → Parts → Bool
later x y = is_later x.body y.body

-- two replies say the same: they have one key and one body, whatever else they have
abbrev Says : Parts → Parts → Type 0
Says x y = (x.key ≡ y.key) × (x.body ≡ y.body)

in_last : (xs : List Parts) (x : Parts) → In x (xs ++ x ∷ [])
in_last [] x = inl refl
in_last (y ∷ xs) x = inr (in_last xs x)

-- what is held under a key is among what is held, and is of that key
found : (xs : List Parts) (k : List ℕ) (y : Parts) → held_of xs k ≡ Some y → In y xs × (y.key ≡ k)
found xs k y e = let f = find_in (λ x. is_eq (text_cmp x.key k)) xs y e in (f.0, is_same text_cmp name_order y.key k f.1)

there : (xs : List Parts) (y : Parts) → In y xs → (z : Parts) × (held_of xs y.key ≡ Some z)
there xs y i = in_find (λ x. is_eq (text_cmp x.key y.key)) xs y i (is_itself text_cmp name_order y.key)

-- under its own key an element of an ascending list is found itself
after_head : (k : List ℕ) (xs : List Parts) (y : Parts) → AllByRecursion (λ x. text_cmp k x.key ≡ Less) xs → In y xs → text_cmp k y.key ≡ Less
after_head k [] y h i = absurd i
after_head k (x ∷ xs) y h (inl e) = rw e h.0
after_head k (x ∷ xs) y h (inr i) = after_head k xs y h.1 i

itself : (xs : List Parts) (y : Parts) → AreByKey xs → In y xs → held_of xs y.key ≡ Some y
unfolding IsStrictlySortedBy
itself [] y up i = absurd i
itself (x ∷ xs) y up (inl e) = rw (e, is_itself text_cmp name_order x.key) refl
itself (x ∷ xs) y up (inr i) =
    let l : text_cmp x.key y.key ≡ Less = after_head x.key xs y up.0 i in
    rw l (itself xs y up.1 i)

-- who takes a place, and who doesn't
not_later : (x y : Parts) → x.key ≡ y.key → x.body ≡ y.body → later x y ≡ false
not_later x y e f = ap (λ v. is_lt (body_cmp y.body v)) f ∙ ap is_lt (tied y.body)
  where
    tied : (v : List ℕ) → body_cmp v v ≡ Equal
    tied v = by (body_cmp v v) refl (is_itself body_cmp body_order v)
      where
        by : (r : Ordering) → body_cmp v v ≡ r → is_eq (body_cmp v v) ≡ true → body_cmp v v ≡ Equal
        by Less e t = absurd (false≢true (ap is_eq (sym e) ∙ t))
        by Equal e t = e
        by Greater e t = absurd (false≢true (ap is_eq (sym e) ∙ t))

itself_not_later : (x : Parts) → later x x ≡ false
itself_not_later x = not_later x x refl refl

-- where x isn't later than y, and y not than z, x isn't later than z
chain : (x y z : Parts) → later x y ≡ false → later y z ≡ false → later x z ≡ false
chain x y z f g = by (body_cmp z.body x.body) refl
  where
    a : List ℕ
    a = x.body

    b : List ℕ
    b = y.body

    c : List ℕ
    c = z.body

    by : (r : Ordering) → body_cmp c a ≡ r → is_lt r ≡ false
    by Less e = at (body_cmp a b) refl
      where
        -- c < a: where a < b, c < b, against g; where a = b the same; and b < a is against f
        at : (r : Ordering) → body_cmp a b ≡ r → true ≡ false
        at Less h = sym (ap is_lt (body_order.total.trans c a b e h)) ∙ g
        at Equal h = let same : a ≡ b = body_order.exact a b h in sym (ap is_lt e) ∙ ap (λ v. is_lt (body_cmp c v)) same ∙ g
        at Greater h = let back : body_cmp b a ≡ Less = body_order.total.antisymm b a ∙ ap ordering_reverse h in sym (ap is_lt back) ∙ f
    by Equal e = refl
    by Greater e = refl

-- where neither is later they are one
even : (x y : Parts) → later x y ≡ false → later y x ≡ false → x.body ≡ y.body
even x y f g = by (body_cmp x.body y.body) refl
  where
    by : (r : Ordering) → body_cmp x.body y.body ≡ r → x.body ≡ y.body
    by Less e = absurd (true≢false (sym (ap is_lt e) ∙ g))
    by Equal e = body_order.exact x.body y.body e
    by Greater e =
        let back : body_cmp y.body x.body ≡ Less = body_order.total.antisymm y.body x.body ∙ ap ordering_reverse e in
        absurd (true≢false (sym (ap is_lt back) ∙ f))

later_before : (x y : Parts) → later x y ≡ true → later y x ≡ false
later_before x y f = by (body_cmp x.body y.body) refl
  where
    by : (r : Ordering) → body_cmp x.body y.body ≡ r → is_lt r ≡ false
    by Less e =
        let back : body_cmp y.body x.body ≡ Greater = body_order.total.antisymm y.body x.body ∙ ap ordering_reverse e in
        absurd (false≢true (sym (ap is_lt back) ∙ f))
    by Equal e = refl
    by Greater e = refl

-- ---- one reply more

best_put : (xs held : List Parts) (x : Parts) → IsBest xs held → ((y : Parts) → held_of held x.key ≡ Some y → later x y ≡ true) → IsBest (xs ++ x ∷ []) (put_reply held x)
best_put xs held x h wins = record {
  ascending = up;
  among = λ y i. by_among y (found_in y i);
  each = λ y i. by_each y (in_either xs (x ∷ []) y i);
}
  where
    up : AreByKey (put_reply held x)
    up = ascending_put text_cmp key_of name_order held x h.ascending

    at : (k : List ℕ) → held_of (put_reply held x) k ≡ cond (is_eq (text_cmp x.key k)) (Some x) (held_of held k)
    at k = at-put text_cmp key_of name_order held x k

    found_in : (y : Parts) → In y (put_reply held x) → (y ≡ x) ⊎ In y held
    found_in y i = by (is_eq (text_cmp x.key y.key)) refl
      where
        mine : held_of (put_reply held x) y.key ≡ Some y
        mine = itself (put_reply held x) y up i

        by : (t : Bool) → is_eq (text_cmp x.key y.key) ≡ t → (y ≡ x) ⊎ In y held
        by true e = let one : Some y ≡ Some x = sym mine ∙ at y.key ∙ ap (λ t. cond t (Some x) (held_of held y.key)) e in inl (cc)
        by false e = inr (found held y.key y (sym (sym mine ∙ at y.key ∙ ap (λ t. cond t (Some x) (held_of held y.key)) e))).0

    by_among : (y : Parts) → (y ≡ x) ⊎ In y held → In y (xs ++ x ∷ [])
    by_among y (inl e) = subst (λ z. In z (xs ++ x ∷ [])) (sym e) (in_last xs x)
    by_among y (inr i) = in_front xs (x ∷ []) y (h.among y i)

    in_put : (k : List ℕ) (y : Parts) → held_of (put_reply held x) k ≡ Some y → In y (put_reply held x)
    in_put k y e = (found (put_reply held x) k y e).0

    own : In x (put_reply held x)
    own = in_put x.key x (at x.key ∙ ap (λ t. cond t (Some x) (held_of held x.key)) (is_itself text_cmp name_order x.key))

    by_each : (y : Parts) → In y xs ⊎ In y (x ∷ []) → (z : Parts) × In z (put_reply held x) × (z.key ≡ y.key) × (later y z ≡ false)
    by_each y (inr (inl e)) = (x, own, ap key_of (sym e), ap (λ z. later z x) e ∙ itself_not_later x)
    by_each y (inr (inr i)) = absurd i
    by_each y (inl i) = let old = h.each y i in by (is_eq (text_cmp x.key y.key)) refl old.0 old.1 old.2 old.3
      where
        by : (t : Bool) → is_eq (text_cmp x.key y.key) ≡ t → (z : Parts) → In z held → z.key ≡ y.key → later y z ≡ false →
            (z : Parts) × In z (put_reply held x) × (z.key ≡ y.key) × (later y z ≡ false)
        by true e z j k n =
            let one : x.key ≡ y.key = is_same text_cmp name_order x.key y.key e in
            let at_x : held_of held x.key ≡ Some z = ap (held_of held) (one ∙ sym k) ∙ itself held z h.ascending j in
            (x, own, one, chain y z x n (later_before x z (wins z at_x)))
        by false e z j k n =
            let at_y : held_of (put_reply held x) y.key ≡ Some z = at y.key ∙ ap (λ t. cond t (Some x) (held_of held y.key)) e ∙ ap (held_of held) (sym k) ∙ itself held z h.ascending j in
            (z, in_put y.key z at_y, k, n)

best_stays : (xs held : List Parts) (x y : Parts) → IsBest xs held → held_of held x.key ≡ Some y → later x y ≡ false → IsBest (xs ++ x ∷ []) held
best_stays xs held x y h e n = record {
  ascending = h.ascending;
  among = λ z i. in_front xs (x ∷ []) z (h.among z i);
  each = λ z i. by z (in_either xs (x ∷ []) z i);
}
  where
    by : (z : Parts) → In z xs ⊎ In z (x ∷ []) → (w : Parts) × In w held × (w.key ≡ z.key) × (later z w ≡ false)
    by z (inl i) = h.each z i
    by z (inr (inl i)) = let f = found held x.key y e in (y, f.0, f.1 ∙ ap key_of (sym i), ap (λ w. later w y) i ∙ n)
    by z (inr (inr i)) = absurd i

best_with : (xs held : List Parts) (x : Parts) → IsBest xs held → IsBest (xs ++ x ∷ []) (held_with held x)
best_with xs held x h = by (held_of held x.key) refl
  where
    by : (m : Option Parts) → held_of held x.key ≡ m → IsBest (xs ++ x ∷ []) (cond (option_map_or (λ y. later x y) m true) (put_reply held x) held)
    by None e = best_put xs held x h (λ y f. let no : None ≡ Some y = sym e ∙ f in absurd (cc))
    by (Some y) e = at (later x y) refl
      where
        at : (t : Bool) → later x y ≡ t → IsBest (xs ++ x ∷ []) (cond t (put_reply held x) held)
        at true l = best_put xs held x h (λ z f. let one : Some y ≡ Some z = sym e ∙ f in let same : y ≡ z = cc in ap (later x) (sym same) ∙ l)
        at false l = best_stays xs held x y h e l

best_from : (xs held more : List Parts) → IsBest xs held → IsBest (xs ++ more) (fold (held_with) held more)
best_from xs held [] h = subst (λ zs. IsBest zs held) (sym (append-nil xs)) h
best_from xs held (x ∷ more) h =
    subst (λ zs. IsBest zs (fold (held_with) (held_with held x) more)) (append_assoc xs (x ∷ []) more)
    (best_from (xs ++ x ∷ []) (held_with held x) more (best_with xs held x h))

none_best : IsBest [] []
unfolding IsStrictlySortedBy
none_best = record { ascending = tt; among = λ x i. i; each = λ x i. absurd i }

pub gathered_best : (xs : List Parts) → IsBest xs (gathered xs)
gathered_best xs = best_from [] [] xs none_best

-- ---- the best is one

-- what one has under a key the other has too, and says the same
module _ (xs ys b c : List Parts) (hb : IsBest xs b) (hc : IsBest ys c) (s : SaySame xs ys) where
  meets : (k : List ℕ) (y : Parts) → held_of b k ≡ Some y → (z : Parts) × (held_of c k ≡ Some z) × Says y z
  meets k y e =
      let f = found b k y e in
      let y' = s.forth y (hb.among y f.0) in
      let z = hc.each y'.0 y'.1 in
      let z' = s.back z.0 (hc.among z.0 z.1) in
      let w = hb.each z'.0 z'.1 in
      let key_z : z.0.key ≡ k = z.2 ∙ sym y'.2 ∙ f.1 in
      let key_w : w.0.key ≡ k = w.2 ∙ sym z'.2 ∙ key_z in
      let one : Some w.0 ≡ Some y = sym (itself b w.0 hb.ascending w.1) ∙ ap (held_of b) key_w ∙ e in
      let same : w.0 ≡ y = cc in
      -- neither y is later than z, nor z than y
      let up : later y z.0 ≡ false = ap (λ v. is_lt (body_cmp z.0.body v)) y'.3 ∙ z.3 in
      let down : later z.0 y ≡ false = ap (λ v. is_lt (body_cmp y.body v)) z'.3 ∙ ap (λ v. later z'.0 v) (sym same) ∙ w.3 in
      (z.0, ap (held_of c) (sym key_z) ∙ itself c z.0 hc.ascending z.1, (f.1 ∙ sym key_z, even y z.0 up down))

-- lists of keys and values
abbrev first : List ℕ × List ℕ → List ℕ
first p = p.0

told_at : (xs : List Parts) (k : List ℕ) → at_key text_cmp first (map (key_body) xs) k ≡ option_map (key_body) (held_of xs k)
told_at [] k = refl
told_at (x ∷ xs) k = by (is_eq (text_cmp x.key k)) (told_at xs k)
  where
    by : (t : Bool) → at_key text_cmp first (map (key_body) xs) k ≡ option_map (key_body) (held_of xs k) →
        cond t (Some (key_body x)) (at_key text_cmp first (map (key_body) xs) k) ≡ option_map (key_body) (cond t (Some x) (held_of xs k))
    by true ih = refl
    by false ih = ih

told_after : (k : List ℕ) (xs : List Parts) → AllByRecursion (λ x. text_cmp k x.key ≡ Less) xs → AllByRecursion (λ (p : List ℕ × List ℕ). text_cmp k p.0 ≡ Less) (map (key_body) xs)
told_after k [] h = tt
told_after k (x ∷ xs) h = (h.0, told_after k xs h.1)

told_ascends : (xs : List Parts) → AreByKey xs → IsAscending text_cmp first (map (key_body) xs)
unfolding IsStrictlySortedBy
told_ascends [] h = tt
told_ascends (x ∷ xs) h = (told_after x.key xs h.0, told_ascends xs h.1)

same_said : (x y : Parts) → x.key ≡ y.key → x.body ≡ y.body → key_body x ≡ key_body y
same_said x y e f i = (e i, f i)

pub best_is_one : (xs ys b c : List Parts) → IsBest xs b → IsBest ys c → SaySame xs ys → map (key_body) b ≡ map (key_body) c
best_is_one xs ys b c hb hc s = same text_cmp first name_order (map (key_body) b) (map (key_body) c) (told_ascends b hb.ascending) (told_ascends c hc.ascending) at
  where
    back : SaySame ys xs
    back = record { forth = s.back; back = s.forth }

    at : (k : List ℕ) → at_key text_cmp first (map (key_body) b) k ≡ at_key text_cmp first (map (key_body) c) k
    at k = told_at b k ∙ by (held_of b k) refl (held_of c k) refl ∙ sym (told_at c k)
      where
        by : (m : Option Parts) → held_of b k ≡ m → (n : Option Parts) → held_of c k ≡ n → option_map (key_body) m ≡ option_map (key_body) n
        by None e None f = refl
        by None e (Some z) f = let w = meets ys xs c b hc hb back k z f in let no : None ≡ Some w.0 = sym e ∙ w.1 in absurd (cc)
        by (Some y) e n f =
            let z = meets xs ys b c hb hc s k y e in
            let n_is : n ≡ Some z.0 = sym f ∙ z.1 in
            ap (λ (p : List ℕ × List ℕ). Some p) (same_said y z.0 z.2.0 z.2.1) ∙ ap (option_map (key_body)) (sym n_is)

pub law : GatheredIsBest
law = record {
  best = gathered_best;
  one = best_is_one;
  free = λ xs ys s. best_is_one xs ys (gathered xs) (gathered ys) (gathered_best xs) (gathered_best ys) s;
}
