-- What the reader of a chain keeps as it goes.
use Rattle.std.specs.Prelude.{◌≡◌, ℕ, not, Bool, List, [], ◌∷◌, ◌++◌, Option, Some, None, Result, Ok, Err, filter}
use Rattle.zr_bytes.specs.declared.read_error.ReadError.{ReadError}
use Rattle.zr_bytes.specs.Reading.{Read, ◌>>=◌}
use Rattle.zr_ext.specs.declared.ext.Ext.{Ext}
use Rattle.zr_ext.specs.Chain.{repeats}

-- an extension, where there is one, in the place of an earlier one of its id and form
abbrev pub with_one : List Ext → Option Ext → List Ext
with_one found None = found
with_one found (Some ext) = filter (λ e. not (repeats ext e)) found ++ ext ∷ []

-- what is passed over
abbrev pub without_value : {X : Type 0} → Read X → Read (Unit {0})
without_value said = said >>= λ x. Ok (tt, x.1)

-- whether another extension follows
abbrev pub more_of : Read (Ext × Bool) → Read Bool
more_of said = said >>= λ x. Ok (x.0.1, x.1)

-- A step that takes no memory gave what is said; where it is refused the bytes are.
abbrev pub Passes : {X : Type 0} → Result X ReadError → Read X → List ℕ → Type 0
Passes (Ok x) said new = said ≡ Ok (x, new)
Passes (Err e) said new = said ≡ Err e
