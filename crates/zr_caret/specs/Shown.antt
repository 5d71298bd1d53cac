-- A line as it is shown, and a caret under a place of it.
use Rattle.std.specs.Prelude.{ℕ, ◌+◌, ◌-◌, ◌==◌, ◌&&◌, nat_le, Bool, true, false, if◌then◌else◌, List, [], ◌∷◌, ◌++◌, map, codes, replicate}

-- a byte that is not printable ASCII is shown as `?`
abbrev pub shown_byte : ℕ → ℕ
shown_byte b = if nat_le 32 b && nat_le b 126 then b else 63

abbrev pub shown : List ℕ → List ℕ
shown bytes = map shown_byte bytes

-- a caret behind so many spaces
abbrev pub caret_line : ℕ → List ℕ
caret_line n = replicate n 32 ++ codes "^" ++ (10 ∷ [])

-- how many bytes stand in front of the word of this number; all of them where there is none. The flag says whether a word has begun
abbrev pub place_from : Bool → ℕ → List ℕ → ℕ
place_from inside number [] = 0
place_from true number (b ∷ bs) = if b == 32 then place_from false number bs + 1 else place_from true number bs + 1
place_from false number (b ∷ bs) =
    if b == 32 then place_from false number bs + 1 else if number == 0 then 0 else place_from true (number - 1) bs + 1

-- the place of the word of this number
abbrev pub place_of_word : ℕ → List ℕ → ℕ
place_of_word number line = place_from false number line
