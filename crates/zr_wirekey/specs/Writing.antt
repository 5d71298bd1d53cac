-- The one spelling of a key that is written, and of the declaration of a number.
use Rattle.std.specs.Prelude.{ℕ, true, false, List, [], ◌∷◌, ◌++◌, ◌==◌, if◌then◌else◌}
use Rattle.zr_bytes.specs.Number.{writes}
use Rattle.zr_bytes.specs.Text.{writes_text}
use Rattle.zr_format_spec.specs.Writing.{writes_header}

-- The number of a declared text, or 0 and the whole text as the suffix.
abbrev pub writes_key : List ℕ → ℕ → List ℕ
writes_key key number = writes number ++ (if number == 0 then writes_text key else [])

-- A whole DECLARE with D_KEYEXPR: the number stands for the text from now on, which is the suffix of scope 0.
abbrev pub writes_name : ℕ → List ℕ → List ℕ
writes_name number text = writes_header 0x1E false false false ∷ writes_header 0x00 true false false ∷ (writes number ++ (writes 0 ++ writes_text text))
