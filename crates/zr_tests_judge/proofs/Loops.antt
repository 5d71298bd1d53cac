-- What a loop finds, gathers or comes to that looks at one element of a list after the other: at index i it is behind the first i of them.
use Rattle.std.proofs.Common.{◌≡◌, ℕ, Bool, true, false, cond, List, [], length, map, filter, get_or, drop, refl, sym, ap, ◌∙◌, append_assoc, append-nil}
use Rattle.std.specs.Prelude.{◌<◌, ◌≤◌, ◌+◌, ◌&&◌, ◌||◌, ◌∷◌, ◌++◌, Option, Some, None}
use Rattle.std.specs.List.{list_any, list_all, fold, filter_map, cons_option}
use Rattle.std.proofs.lemmas.List.{at_drop_more, at_drop_all}

module _ {X : Type 0} (p : X → Bool) (xs : List X) (i : ℕ) (x : X) (within : i < length xs) (here : x ≡ get_or xs i x) where
  -- the elements that are left are this one and those behind it
  any_left : (b : Bool) → p x ≡ b → list_any p (drop i xs) ≡ (b || list_any p (drop (i + 1) xs))
  any_left b e =
      at_drop_more (list_any p) xs i x within ∙ ap (λ y. p y || list_any p (drop (i + 1) xs)) (sym here) ∙ ap (λ t. t || list_any p (drop (i + 1) xs)) e

  all_left : (b : Bool) → p x ≡ b → list_all p (drop i xs) ≡ (b && list_all p (drop (i + 1) xs))
  all_left b e =
      at_drop_more (list_all p) xs i x within ∙ ap (λ y. p y && list_all p (drop (i + 1) xs)) (sym here) ∙ ap (λ t. t && list_all p (drop (i + 1) xs)) e

  pub any_found : p x ≡ true → list_any p (drop i xs) ≡ true
  any_found e = any_left true e

  pub any_passed : p x ≡ false → list_any p (drop (i + 1) xs) ≡ list_any p (drop i xs)
  any_passed e = sym (any_left false e)

  pub all_missed : p x ≡ false → list_all p (drop i xs) ≡ false
  all_missed e = all_left false e

  pub all_passed : p x ≡ true → list_all p (drop (i + 1) xs) ≡ list_all p (drop i xs)
  all_passed e = sym (all_left true e)

-- what stands behind what was gathered so far, where each element brings something
module _ {X Y : Type 0} (all : List X → List Y) (each : X → List Y) (by_one : (x : X) (xs : List X) → all (x ∷ xs) ≡ each x ++ all xs) (xs : List X) (i : ℕ) (x : X) (within : i < length xs) (here : x ≡ get_or xs i x) where
  pub gathered_more : (before after whole : List Y) → after ≡ before ++ each x → before ++ all (drop i xs) ≡ whole → after ++ all (drop (i + 1) xs) ≡ whole
  gathered_more before after whole is so_far =
      ap (λ ys. ys ++ all (drop (i + 1) xs)) is ∙ append_assoc before (each x) (all (drop (i + 1) xs))
      ∙ ap (λ ys. before ++ ys) (sym (at_drop_more all xs i x within ∙ ap (λ y. all (y ∷ drop (i + 1) xs)) (sym here) ∙ by_one x (drop (i + 1) xs))) ∙ so_far

-- at the end nothing stands behind it
pub gathered_all : {X Y : Type 0} (all : List X → List Y) → all [] ≡ [] → (xs : List X) (i : ℕ) → length xs ≤ i → (gathered whole : List Y) → gathered ++ all (drop i xs) ≡ whole → gathered ≡ whole
gathered_all all none xs i past gathered whole so_far =
    sym (append-nil gathered) ∙ ap (λ ys. gathered ++ ys) (sym (at_drop_all all xs i past ∙ none)) ∙ so_far

pub folded_all : {X A : Type 0} (then : A → X → A) (xs : List X) (i : ℕ) → length xs ≤ i → (come whole : A) → fold then come (drop i xs) ≡ whole → come ≡ whole
folded_all then xs i past come whole so_far = sym (at_drop_all (fold then come) xs i past) ∙ so_far

-- what each element makes of what there was before it
module _ {X A : Type 0} (then : A → X → A) (xs : List X) (i : ℕ) (x : X) (within : i < length xs) (here : x ≡ get_or xs i x) where
  pub folded_more : (before after whole : A) → after ≡ then before x → fold then before (drop i xs) ≡ whole → fold then after (drop (i + 1) xs) ≡ whole
  folded_more before after whole is so_far =
      ap (λ a. fold then a (drop (i + 1) xs)) is
      ∙ sym (at_drop_more (fold then before) xs i x within ∙ ap (λ y. fold then (then before y) (drop (i + 1) xs)) (sym here)) ∙ so_far

-- so where an element of a list brings a part of itself, if it passes a test
module _ {X Y : Type 0} (p : X → Bool) (part : X → Y) where
  abbrev all_parts : List X → List Y
  all_parts xs = map part (filter p xs)

  abbrev one_part : X → List Y
  one_part x = cond (p x) (part x ∷ []) []

  by_one : (x : X) (xs : List X) → all_parts (x ∷ xs) ≡ one_part x ++ all_parts xs
  by_one x xs = by (p x)
    where
      by : (b : Bool) → map part (cond b (x ∷ filter p xs) (filter p xs)) ≡ cond b (part x ∷ []) [] ++ map part (filter p xs)
      by true = refl
      by false = refl

  module _ (xs : List X) (i : ℕ) (x : X) (within : i < length xs) (here : x ≡ get_or xs i x) (before after whole : List Y) (so_far : before ++ map part (filter p (drop i xs)) ≡ whole) where
    pub part_kept : p x ≡ true → after ≡ before ++ part x ∷ [] → after ++ map part (filter p (drop (i + 1) xs)) ≡ whole
    part_kept e is = gathered_more all_parts one_part by_one xs i x within here before after whole (is ∙ ap (λ b. before ++ cond b (part x ∷ []) []) (sym e)) so_far

    pub part_passed : p x ≡ false → after ≡ before → after ++ map part (filter p (drop (i + 1) xs)) ≡ whole
    part_passed e is = gathered_more all_parts one_part by_one xs i x within here before after whole (is ∙ sym (append-nil before) ∙ ap (λ b. before ++ cond b (part x ∷ []) []) (sym e)) so_far

-- and where an element brings one thing or nothing
module _ {X Y : Type 0} (bring : X → Option Y) where
  abbrev all_brought : List X → List Y
  all_brought xs = filter_map bring xs

  abbrev brought : X → List Y
  brought x = cons_option (bring x) []

  brought_first : (x : X) (xs : List X) → all_brought (x ∷ xs) ≡ brought x ++ all_brought xs
  brought_first x xs = by (bring x)
    where
      by : (o : Option Y) → cons_option o (filter_map bring xs) ≡ cons_option o [] ++ filter_map bring xs
      by None = refl
      by (Some y) = refl

  module _ (xs : List X) (i : ℕ) (x : X) (within : i < length xs) (here : x ≡ get_or xs i x) (before after whole : List Y) (so_far : before ++ filter_map bring (drop i xs) ≡ whole) where
    pub one_brought : (y : Y) → bring x ≡ Some y → after ≡ before ++ y ∷ [] → after ++ filter_map bring (drop (i + 1) xs) ≡ whole
    one_brought y e is = gathered_more all_brought brought brought_first xs i x within here before after whole (is ∙ ap (λ o. before ++ cons_option o []) (sym e)) so_far

    pub none_brought : bring x ≡ None → after ≡ before → after ++ filter_map bring (drop (i + 1) xs) ≡ whole
    none_brought e is = gathered_more all_brought brought brought_first xs i x within here before after whole (is ∙ sym (append-nil before) ∙ ap (λ o. before ++ cons_option o []) (sym e)) so_far

-- and where an element that passes a test is brought itself
module _ {X : Type 0} (p : X → Bool) where
  abbrev if_passes : X → List X
  if_passes x = cond (p x) (x ∷ []) []

  passes_first : (x : X) (xs : List X) → filter p (x ∷ xs) ≡ if_passes x ++ filter p xs
  passes_first x xs = by (p x)
    where
      by : (b : Bool) → cond b (x ∷ filter p xs) (filter p xs) ≡ cond b (x ∷ []) [] ++ filter p xs
      by true = refl
      by false = refl

  module _ (xs : List X) (i : ℕ) (x : X) (within : i < length xs) (here : x ≡ get_or xs i x) (before after whole : List X) (so_far : before ++ filter p (drop i xs) ≡ whole) where
    pub is_kept : p x ≡ true → after ≡ before ++ x ∷ [] → after ++ filter p (drop (i + 1) xs) ≡ whole
    is_kept e is = gathered_more (filter p) if_passes passes_first xs i x within here before after whole (is ∙ ap (λ b. before ++ cond b (x ∷ []) []) (sym e)) so_far

    pub is_passed : p x ≡ false → after ≡ before → after ++ filter p (drop (i + 1) xs) ≡ whole
    is_passed e is = gathered_more (filter p) if_passes passes_first xs i x within here before after whole (is ∙ sym (append-nil before) ∙ ap (λ b. before ++ cond b (x ∷ []) []) (sym e)) so_far
