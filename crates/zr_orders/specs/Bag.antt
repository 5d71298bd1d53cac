-- Things under way, each of which becomes others when it moves, by itself alone. In which order they stand does not matter.
use Rattle.std.specs.Prelude.{◌≡◌, ℕ, ◌+◌, ◌≤◌, List, [], ◌∷◌, ◌++◌}

-- what the things of a list weigh together
abbrev pub weigh : {X : Type 0} → (X → ℕ) → List X → ℕ
weigh f [] = 0
weigh f (x ∷ xs) = f x + weigh f xs

-- two lists have the same things, each as often: they weigh the same, however things are weighed
abbrev pub AreSame : {X : Type 0} → List X → List X → Type 0
AreSame {X} xs ys = (f : X → ℕ) → weigh f xs ≡ weigh f ys

-- x, one of those under way, has moved: the others are still under way, and what x becomes is too
abbrev pub Moves : {X : Type 0} → (X → List X) → List X → X → List X → Type 0
Moves {X} next before x after = (others : List X) × AreSame before (x ∷ others) × AreSame after (next x ++ others)

-- some things have moved, one after another
abbrev pub Goes : {X : Type 0} → (X → List X) → List X → List X → List X → Type 0
Goes {X} next before [] after = AreSame before after
Goes {X} next before (x ∷ xs) after = (mid : List X) × Moves next before x mid × Goes next mid xs after

-- of two runs from one beginning, each until nothing is under way, the same things have moved, each as often
abbrev pub OrdersAreOne : Type 0 → Type 0
OrdersAreOne X = (next : X → List X) (before xs ys : List X) → Goes next before xs [] → Goes next before ys [] → AreSame xs ys

-- of two runs from one beginning, the first until nothing is under way, the second has moved, and has left under way, only what the first has moved
abbrev pub PartsFit : Type 0 → Type 0
PartsFit X = (next : X → List X) (before xs ys rest : List X) → Goes next before xs [] → Goes next before ys rest → (f : X → ℕ) → weigh f ys + weigh f rest ≤ weigh f xs
