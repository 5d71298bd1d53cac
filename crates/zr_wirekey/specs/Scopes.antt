-- Numbered texts of one side of a session: what a scope stands for.
use Rattle.std.specs.Prelude.{◌≡◌, ◌≤◌, ℕ, Bool, List, [], Option, Some, length, ◌==◌, if◌then◌else◌}
use Rattle.std.specs.List.{sum_by}
use Rattle.std.specs.Ordering.{nat_cmp, is_eq}
use Rattle.std.specs.Map.{lookup, keys_of, values_of, remove_entry}
use Rattle.std.specs.List.Sorted.{IsStrictlySortedBy}
use Rattle.std.specs.BTreeMap.{insert_entry}

-- The texts by number, in ascending order of the numbers.
abbrev pub Texts : Type 0
Texts = List (ℕ × List ℕ)

abbrev pub is_number : ℕ → ℕ → Bool
is_number number k = is_eq (nat_cmp number k)

-- The text that a scope stands for. Scope 0 is the empty text.
abbrev pub text_at : Texts → ℕ → Option (List ℕ)
text_at texts number = if number == 0 then Some [] else lookup (is_number number) texts

-- The texts with one more, or with another one of its number.
abbrev pub declared : Texts → ℕ → List ℕ → Texts
declared texts number text = insert_entry nat_cmp texts number text

-- The texts without that of the number.
abbrev pub undeclared : Texts → ℕ → Texts
undeclared texts number = remove_entry (is_number number) texts

-- how many bytes the texts have together
abbrev pub bytes_of : Texts → ℕ
bytes_of texts = sum_by (λ text. length text) (values_of texts)

-- The texts stand in order, and their bytes are counted and within the limit.
pub record IsCounted (texts : Texts) (bytes : ℕ) : Type 0 where
  pub count : bytes ≡ bytes_of texts
  pub few : bytes ≤ 1048576
  pub ordered : IsStrictlySortedBy nat_cmp (keys_of texts)
