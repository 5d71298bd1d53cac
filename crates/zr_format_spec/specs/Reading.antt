-- What a reader of a format answers, as a function of the bytes that are left.
use Rattle.std.specs.Prelude.{◌≡◌, ◌⊎◌, ℕ, zero, suc, ◌-◌, Bool, List, [], ◌∷◌, length, take, drop, Option, Some, None, Result, Ok, Err, slice_get, nat_lt, if◌then◌else◌}
use Rattle.zr_bytes.specs.declared.read_error.ReadError.{ReadError}
use Rattle.zr_bytes.specs.declared.read_error.ReadError.TheVariants.{Short, Extra, NoMemory}
use Rattle.zr_bytes.specs.Flag.{has_flag}
use Rattle.zr_bytes.specs.Reading.{Read, ◌>>=◌}
use Rattle.zr_ext.specs.declared.ext.Ext.{Ext}
use Rattle.zr_ext.specs.declared.ext.Form.{Form}
use Rattle.zr_ext.specs.Reading.{chain_of}

-- What was made of bytes is what is said, seen by a view, unless memory ran out.
abbrev pub Makes : {X Y : Type 0} → (X → Y) → Result X ReadError → Result Y ReadError → Type 0
Makes view (Ok x) said = said ≡ Ok (view x)
Makes view (Err e) said = (e ≡ NoMemory) ⊎ (said ≡ Err e)

abbrev pub Reader : Type 0 → Type 0
Reader X = List ℕ → Read X

abbrev pub optional_of : {X : Type 0} → Bool → Reader X → Reader (Option X)
optional_of flag read bytes = if flag then (read bytes >>= λ x. Ok (Some x.0, x.1)) else Ok (None, bytes)

-- a value that has to pass a test
abbrev pub checked_of : {X : Type 0} → Reader X → (X → Bool) → ReadError → Reader X
checked_of read test cause bytes = read bytes >>= λ x. if test x.0 then Ok (x.0, x.1) else Err cause

-- the last of a list, as the slice call `last` gives it
abbrev pub last_of : {X : Type 0} → List X → Option X
last_of xs = slice_get xs (length xs - 1)

-- so many values, each of which tells how the next is read
unfoldable pub series_of : {X : Type 0} → (Option X → Reader X) → Option X → ℕ → Reader (List X)
series_of read last zero bytes = Ok ([], bytes)
series_of read last (suc more) bytes = do
  x ← read last bytes
  xs ← series_of read (Some x.0) more x.1
  Ok (x.0 ∷ xs.0, xs.1)

-- bytes that stand behind a value are too many
abbrev pub no_more : List ℕ → Result (Unit {0}) ReadError
no_more [] = Ok tt
no_more (next ∷ more) = Err Extra

-- what bytes are read as that are a value and nothing else
abbrev pub whole_of : {X : Type 0} → Reader X → List ℕ → Result X ReadError
whole_of read content = read content >>= λ x. no_more x.1 >>= λ none. Ok x.0

-- so many bytes
unfoldable pub so_many_of : ℕ → Reader (List ℕ)
so_many_of count bytes = if nat_lt (length bytes) count then Err Short else Ok (take count bytes, drop count bytes)

unfoldable pub exts_of : List (ℕ × Form) → ℕ → Reader (List Ext)
exts_of known header bytes = if has_flag header 0x80 then chain_of known bytes else Ok ([], bytes)
