-- Prefixes of lists: what a call that appends leaves where memory runs out on the way.
use Rattle.std.specs.Prelude.{◌≡◌, List, ◌++◌}

-- a list begins with the prefix
abbrev pub IsPrefixOf : {X : Type 0} → List X → List X → Type 0
IsPrefixOf {X} prefix all = (rest : List X) × (all ≡ prefix ++ rest)

-- what stood there before, and behind it a prefix of what was to be said
abbrev pub IsPrefixBehind : {X : Type 0} → List X → List X → List X → Type 0
IsPrefixBehind {X} before said after = (prefix : List X) × IsPrefixOf prefix said × (after ≡ before ++ prefix)
