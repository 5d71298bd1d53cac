-- What reading a numbered key answers, as a function of the bytes that are left. `Laws` ties it to the format.
use Rattle.std.specs.Prelude.{◌≡◌, ◌⊎◌, ℕ, ◌^◌, ◌-◌, Bool, List, [], ◌++◌, Result, Ok, Err, if◌then◌else◌}
use Rattle.zr_bytes.specs.declared.read_error.ReadError.{ReadError}
use Rattle.zr_bytes.specs.declared.read_error.ReadError.TheVariants.{NoMemory}
use Rattle.zr_bytes.specs.Reading.{Read, ◌>>=◌, number_below, text_of}
use Rattle.zr_key.specs.Key.{read_key}
use Rattle.zr_wirekey.specs.Scopes.{Texts, text_at}
use Rattle.zr_wirekey.specs.Spelling.{scope_of, or_bad_key}

-- the suffix, where there is one
abbrev pub suffix_of : Bool → List ℕ → Read (List ℕ)
suffix_of named bytes = if named then text_of (2 ^ 16 - 1) bytes else Ok ([], bytes)

-- the text of the scope, and the suffix
unfoldable pub parts_of : Bool → Texts → List ℕ → Read (List ℕ × List ℕ)
parts_of named texts bytes = do
  n ← number_below (2 ^ 16) bytes
  scope ← scope_of (text_at texts n.0)
  suffix ← suffix_of named n.1
  Ok ((scope, suffix.0), suffix.1)

-- a key that was made is the one that is said, unless memory ran out
abbrev pub Spelled : Result (List ℕ) ReadError → Result (List ℕ) ReadError → Type 0
Spelled (Ok key) said = said ≡ Ok key
Spelled (Err e) said = (e ≡ NoMemory) ⊎ (said ≡ Err e)

-- the expression that both together spell
unfoldable pub key_of : Bool → Texts → List ℕ → Read (List ℕ)
key_of named texts bytes = do
  parts ← parts_of named texts bytes
  key ← or_bad_key (read_key (parts.0.0 ++ parts.0.1))
  Ok (key, parts.1)
