-- Numbered texts of the sending side of a session: which number stands for a text, and whether one more gets a number.
use Rattle.std.specs.Prelude.{ℕ, suc, ◌+◌, ◌&&◌, Bool, List, [], ◌∷◌, Option, Some, None, length, nat_eq, nat_lt, nat_le, if◌then◌else◌}
use Rattle.std.specs.List.{sum_by}
use Rattle.std.specs.Cmp.Lexicographic.{pointwise}
use Rattle.zr_wirekey.specs.Scopes.{Texts}

-- The texts in the order of their numbers, which go from 1 on.
abbrev pub NameList : Type 0
NameList = List (List ℕ)

abbrev pub is_text : List ℕ → List ℕ → Bool
is_text a b = pointwise nat_eq a b

-- the number that stands for a text among those from this number on, if one does
abbrev pub number_from : ℕ → NameList → List ℕ → Option ℕ
number_from first [] text = None
number_from first (t ∷ names) text = if is_text text t then Some first else number_from (suc first) names text

abbrev pub number_of : NameList → List ℕ → Option ℕ
number_of names text = number_from 1 names text

-- One more text gets a number where fewer than 4,096 are given, and the texts have at most 1,048,576 bytes with it.
abbrev pub has_room : NameList → List ℕ → Bool
has_room names text = nat_lt (length names) 4096 && nat_le (sum_by (λ t. length t) names + length text) 1048576

-- what the receiver of these declarations keeps
abbrev pub numbered_from : ℕ → NameList → Texts
numbered_from first [] = []
numbered_from first (t ∷ names) = (first, t) ∷ numbered_from (suc first) names

abbrev pub numbered : NameList → Texts
numbered names = numbered_from 1 names
