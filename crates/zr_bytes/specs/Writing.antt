-- What a writing call leaves where memory runs out.
use Rattle.std.specs.Prelude.{◌≡◌, List, ℕ, length, take}

-- what was there still stands at the front
abbrev pub KeepsFront : List ℕ → List ℕ → Type 0
KeepsFront old new = take (length old) new ≡ old
