-- Lines that stand one behind another in one text.
use Rattle.std.specs.Prelude.{ℕ, List, [], ◌∷◌, take, drop}

-- the lines of a text, of which each has so many bytes
abbrev pub cut : List ℕ → List ℕ → List (List ℕ)
cut [] text = []
cut (n ∷ ns) text = take n text ∷ cut ns (drop n text)
