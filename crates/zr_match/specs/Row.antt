-- A row of the table, which a walk of many expressions carries along.
use Rattle.std.specs.Prelude.{◌≡◌, ℕ, ◌+◌, ◌<◌, true, List, length}
use Rattle.zr_key.specs.Expression.{Chunk}
use Rattle.zr_key.specs.Key.{expression_of}
use Rattle.zr_match.specs.Table.{table, chunk_signs, IsRow}
use Rattle.zr_match.specs.declared.row.Row.{Row}

-- A row is one for a key: it is wide enough, and knows how many chunks the key has.
pub record IsRowFor (key : List ℕ) (row : Row) : Type 0 where
  pub wide : length key + 1 < length row.marks.items
  pub last : row.last ≡ length (expression_of key)

-- A row is that behind some chunks, the last one first.
abbrev pub IsRowBehind : List Chunk → List ℕ → Row → Type 0
IsRowBehind above key row = IsRow (table (chunk_signs true) above) (expression_of key) row.marks.items
