-- Moves one after another: behind each other, beside others, and all of some things at once.
use Rattle.std.proofs.Common.{◌≡◌, ℕ, ◌+◌, List, [], ◌∷◌, ◌++◌, refl, sym, ap, ◌∙◌, arith}
use Rattle.std.specs.List.{flat_map}
use Rattle.std.proofs.lemmas.Grind.{flat_map-append}
use Rattle.zr_orders.specs.Bag.{weigh, AreSame, Moves, Goes}
use Rattle.zr_orders.proofs.Bag.{weigh-append}

-- what one list becomes after another weighs as what both become
pub weigh_flat : {X Y : Type 0} (f : Y → ℕ) (g : X → List Y) (xs ys : List X) → weigh f (flat_map g (xs ++ ys)) ≡ weigh f (flat_map g xs) + weigh f (flat_map g ys)
weigh_flat f g xs ys = ap (weigh f) (flat_map-append g xs ys) ∙ weigh-append f (flat_map g xs) (flat_map g ys)

module _ {X : Type 0} (next : X → List X) where
  -- from and to what has the same things
  pub goes_from : (a b : List X) (xs c : List X) → AreSame a b → Goes next a xs c → Goes next b xs c
  goes_from a b [] c same g = λ f. sym (same f) ∙ g f
  goes_from a b (x ∷ xs) c same g = (g.0, (g.1.0, (λ f. sym (same f) ∙ g.1.1 f), g.1.2), g.2)

  pub goes_to : (a xs b c : List X) → Goes next a xs b → AreSame b c → Goes next a xs c
  goes_to a [] b c g same = λ f. g f ∙ same f
  goes_to a (x ∷ xs) b c g same = (g.0, g.1, goes_to g.0 xs b c g.2 same)

  -- some moves and then others
  pub goes_both : (a xs b ys c : List X) → Goes next a xs b → Goes next b ys c → Goes next a (xs ++ ys) c
  goes_both a [] b ys c g h = goes_from b a ys c (λ f. sym (g f)) h
  goes_both a (x ∷ xs) b ys c g h = (g.0, g.1, goes_both g.0 xs b ys c g.2 h)

  -- beside others, which stay
  pub goes_beside : (a xs b others : List X) → Goes next a xs b → Goes next (a ++ others) xs (b ++ others)
  goes_beside a [] b others g = λ f. let one = weigh-append f a others in let two = weigh-append f b others in let same = g f in omega (arith, one, two, same)
  goes_beside a (x ∷ xs) b others g = (
    g.0 ++ others,
    (
      g.1.0 ++ others,
      (λ f.
          let one = weigh-append f a others in
          let two = weigh-append f g.1.0 others in
          let same = g.1.1 f in
          omega (arith, one, two, same)),
      (λ f.
          let one = weigh-append f g.0 others in
          let two = weigh-append f (next x) (g.1.0 ++ others) in
          let three = weigh-append f g.1.0 others in
          let four = weigh-append f (next x) g.1.0 in
          let same = g.1.2 f in
          omega (arith, one, two, three, four, same)),
    ),
    goes_beside g.0 xs b others g.2,
  )

  -- all of some things, beside others
  pub all_go : (xs others : List X) → Goes next (xs ++ others) xs (flat_map next xs ++ others)
  all_go [] others = λ f. refl
  all_go (x ∷ xs) others = (
    next x ++ (xs ++ others),
    (xs ++ others, (λ f. refl), (λ f. refl)),
    goes_to (next x ++ (xs ++ others)) xs (flat_map next xs ++ (next x ++ others)) ((next x ++ flat_map next xs) ++ others)
        (goes_from (xs ++ (next x ++ others)) (next x ++ (xs ++ others)) xs (flat_map next xs ++ (next x ++ others)) first (all_go xs (next x ++ others))) last,
  )
    where
      first : AreSame (xs ++ (next x ++ others)) (next x ++ (xs ++ others))
      first f =
          let one = weigh-append f xs (next x ++ others) in
          let two = weigh-append f (next x) others in
          let three = weigh-append f (next x) (xs ++ others) in
          let four = weigh-append f xs others in
          omega (arith, one, two, three, four)

      last : AreSame (flat_map next xs ++ (next x ++ others)) ((next x ++ flat_map next xs) ++ others)
      last f =
          let one = weigh-append f (flat_map next xs) (next x ++ others) in
          let two = weigh-append f (next x) others in
          let three = weigh-append f (next x ++ flat_map next xs) others in
          let four = weigh-append f (next x) (flat_map next xs) in
          omega (arith, one, two, three, four)
