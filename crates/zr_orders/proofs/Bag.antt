-- Journeys: what is under way weighs, with all that it becomes, what moves until nothing is under way.
use Rattle.std.proofs.Common.{◌≡◌, ℕ, zero, suc, ◌+◌, ◌≤◌, List, [], ◌∷◌, ◌++◌, length, sym, ◌∙◌, arith, refl}
use Rattle.zr_orders.specs.Bag.{weigh, Moves, Goes, OrdersAreOne, PartsFit}

pub weigh-append : {X : Type 0} (f : X → ℕ) (xs ys : List X) → weigh f (xs ++ ys) ≡ weigh f xs + weigh f ys
weigh-append f [] ys = omega arith
weigh-append f (x ∷ xs) ys = omega (arith, weigh-append f xs ys)

pub weigh_le : {X : Type 0} (f g : X → ℕ) (le : (x : X) → f x ≤ g x) (xs : List X) → weigh f xs ≤ weigh g xs
weigh_le f g le [] = omega arith
weigh_le f g le (x ∷ xs) = omega (arith, le x, weigh_le f g le xs)

pub weigh_same : {X : Type 0} (f g : X → ℕ) → ((x : X) → f x ≡ g x) → (xs : List X) → weigh f xs ≡ weigh g xs
weigh_same f g same [] = refl
weigh_same f g same (x ∷ xs) = λ i. same x i + weigh_same f g same xs i

module _ {X : Type 0} (next : X → List X) where
  -- the weight of a journey: of a thing, and of all that it becomes, so many times over
  abbrev pub journey : (X → ℕ) → ℕ → X → ℕ
  journey f zero x = 0
  journey f (suc n) x = f x + weigh (journey f n) (next x)

  -- journeys that go on for longer weigh no less
  longer : (f : X → ℕ) (n : ℕ) (x : X) → journey f n x ≤ journey f (suc n) x
  longer f zero x = omega arith
  longer f (suc n) x = omega (arith, weigh_le (journey f n) (journey f (suc n)) (longer f n) (next x))

  -- where nothing is under way at the end, the journeys of those before, for as many times as there are steps, weigh what has moved
  pub whole : (f : X → ℕ) (n : ℕ) (xs before : List X) → length xs ≤ n → Goes next before xs [] → weigh (journey f n) before ≡ weigh f xs
  whole f n [] before le g = g (journey f n)
  whole f zero (x ∷ xs) before le g = absurd (omega (arith, le))
  whole f (suc n) (x ∷ xs) before le g =
      let less : length xs ≤ n = omega (arith, le) in
      let one = whole f n xs g.0 less g.2 in
      let two = whole f (suc n) xs g.0 (omega (arith, less)) g.2 in
      let was = g.1.1 (journey f (suc n)) in
      let mid_one = g.1.2 (journey f n) in
      let mid_two = g.1.2 (journey f (suc n)) in
      let parts_one = weigh-append (journey f n) (next x) g.1.0 in
      let parts_two = weigh-append (journey f (suc n)) (next x) g.1.0 in
      let more_next = weigh_le (journey f n) (journey f (suc n)) (longer f n) (next x) in
      let more_rest = weigh_le (journey f n) (journey f (suc n)) (longer f n) g.1.0 in
      omega (arith, one, two, was, mid_one, mid_two, parts_one, parts_two, more_next, more_rest)

pub orders_are_one : (X : Type 0) → OrdersAreOne X
orders_are_one X next before xs ys g h f =
    sym (whole next f (length xs + length ys) xs before (omega arith) g) ∙ whole next f (length xs + length ys) ys before (omega arith) h

-- ---- a run that has not ended

module _ {X : Type 0} (next : X → List X) (f : X → ℕ) (n : ℕ) where
  -- journeys from some number of times on weigh so much
  abbrev Weighs : List X → ℕ → Type 0
  Weighs before total = (k : ℕ) → n ≤ k → weigh (journey next f k) before ≡ total

  moved_on : (before mid : List X) (x : X) (total : ℕ) → Moves next before x mid → Weighs before total → (k : ℕ) → n ≤ k → f x + weigh (journey next f k) mid ≡ total
  moved_on before mid x total g h k le =
      let now = h k le in
      let then = h (suc k) (omega (arith, le)) in
      let was_now = g.1 (journey next f k) in
      let was_then = g.1 (journey next f (suc k)) in
      let mid_now = g.2 (journey next f k) in
      let parts = weigh-append (journey next f k) (next x) g.0 in
      let more = longer next f k x in
      let more_rest = weigh_le (journey next f k) (journey next f (suc k)) (longer next f k) g.0 in
      omega (arith, now, then, was_now, was_then, mid_now, parts, more, more_rest)

  at_least : (x : X) → f x ≤ journey next f (suc n) x
  at_least x = omega arith

  left_fits : (ys before rest : List X) (total : ℕ) → Goes next before ys rest → Weighs before total → weigh f ys + weigh f rest ≤ total
  left_fits [] before rest total g h =
      let all = h (suc n) (omega arith) in
      let same = g (journey next f (suc n)) in
      let least = weigh_le f (journey next f (suc n)) at_least rest in
      omega (arith, all, same, least)
  left_fits (y ∷ ys) before rest total g h =
      let on = moved_on before g.0 y total g.1 h in
      let first = on n (omega arith) in
      let more = left_fits ys g.0 rest (weigh (journey next f n) g.0) g.2 (λ k le. let one = on k le in omega (arith, first, one)) in
      omega (arith, first, more)

pub parts_fit : (X : Type 0) → PartsFit X
parts_fit X next before xs ys rest g h f =
    left_fits next f (length xs) ys before rest (weigh f xs) h (λ k le. whole next f k xs before le g)
