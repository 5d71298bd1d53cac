-- Words for any format, which is a relation between a value and its bytes.
use Rattle.std.specs.Prelude.{◌≡◌, ℕ, List, ◌∷◌, ◌++◌}

-- The bytes begin with a spelling of the value, and the rest stands behind it.
abbrev pub Begins : {X : Type 0} → (X → List ℕ → Type 0) → X → List ℕ → List ℕ → Type 0
Begins IsSpelled x bytes rest = (front : List ℕ) × IsSpelled x front × (bytes ≡ front ++ rest)

-- The bytes end inside a value: with some more bytes, and at least one, they would spell one.
abbrev pub EndsInside : {X : Type 0} → (X → List ℕ → Type 0) → List ℕ → Type 0
EndsInside {X} IsSpelled bytes = (x : X) × (next : ℕ) × (more : List ℕ) × IsSpelled x (bytes ++ next ∷ more)

-- No spelling is a proper prefix of another one, and none is that of two values.
abbrev pub HasOneReading : {X : Type 0} → (X → List ℕ → Type 0) → Type 0
HasOneReading {X} IsSpelled = (x y : X) (a b c d : List ℕ) → IsSpelled x a → IsSpelled y b → a ++ c ≡ b ++ d → (a ≡ b) × (x ≡ y)
