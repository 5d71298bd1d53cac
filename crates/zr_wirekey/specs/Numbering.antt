-- How the numbers of texts are kept, so that the number of a text is found quickly.
use Rattle.std.specs.Prelude.{◌≡◌, ℕ, ◌≤◌, List, Option, length}
use Rattle.std.specs.List.{sum_by, IsDistinct}
use Rattle.zr_wirekey.specs.Names.{NameList, is_text, number_of}

-- The number of each text is found. No text stands twice, and the texts are as few and as short as they may be.
pub record IsNumbering (names : NameList) (find : List ℕ → Option ℕ) (bytes : ℕ) : Type 0 where
  pub found : (text : List ℕ) → find text ≡ number_of names text
  pub once : IsDistinct is_text names
  pub count : bytes ≡ sum_by (λ t. length t) names
  pub few : length names ≤ 4096
  pub short : bytes ≤ 1048576
