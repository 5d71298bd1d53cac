-- Where and why a chain is refused.
use Rattle.std.specs.Prelude.{◌≡◌, ℕ, ◌-◌, ◌^◌, ◌<◌, ◌≤◌, ◌⊎◌, true, false, List, [], ◌∷◌, ◌++◌, bit_and}
use Rattle.zr_bytes.specs.declared.read_error.ReadError.{ReadError}
use Rattle.zr_bytes.specs.declared.read_error.ReadError.TheVariants.{Short, TooBig, Mandatory, BadText}
use Rattle.zr_bytes.specs.Flag.{has_flag}
use Rattle.zr_bytes.specs.Spelling.{Begins, EndsInside}
use Rattle.zr_bytes.specs.Number.{Spells}
use Rattle.zr_bytes.specs.Text.{SpellsText}
use Rattle.zr_ext.specs.declared.ext.Ext.{Ext}
use Rattle.zr_ext.specs.declared.ext.Form.{Form}
use Rattle.zr_ext.specs.declared.ext.Form.TheVariants.{Unit, Number, Bytes}
use Rattle.zr_ext.specs.Header.{encoding_of, is_known}
use Rattle.zr_ext.specs.Chain.{SpellsOpen, are_admitted}

-- the header has this form
abbrev pub HasForm : ℕ → Form → Type 0
HasForm header form = encoding_of form ≡ bit_and header 0x60

-- a header that is mandatory and not known, or one of no form
abbrev pub RefusesHeader : List (ℕ × Form) → ReadError → ℕ → Type 0
RefusesHeader known e header =
    ((e ≡ Mandatory) × (has_flag header 0x10 ≡ true) × ((form : Form) → HasForm header form → is_known known (bit_and header 0x0F) form ≡ false))
    ⊎ ((e ≡ BadText) × (has_flag header 0x10 ≡ false) × ((form : Form) → HasForm header form → ⊥))

-- a header that is not refused
abbrev pub IsAdmitted : List (ℕ × Form) → ℕ → Form → Type 0
IsAdmitted known header form = HasForm header form × (has_flag header 0x10 ≡ true → is_known known (bit_and header 0x0F) form ≡ true)

-- The bytes end inside the content, or its length is above 2^32 - 1.
abbrev pub RefusesContent : ReadError → Form → List ℕ → Type 0
RefusesContent e Unit bytes = ⊥
RefusesContent e Number bytes = (e ≡ Short) × EndsInside Spells bytes
RefusesContent e Bytes bytes =
    ((e ≡ Short) × ((n : ℕ) (rest : List ℕ) → Begins Spells n bytes rest → n ≤ 2 ^ 32 - 1) × EndsInside SpellsText bytes)
    ⊎ ((e ≡ TooBig) × (n : ℕ) × (rest : List ℕ) × (2 ^ 32 - 1 < n) × Begins Spells n bytes rest)

-- What stands here is no extension: there is nothing, or the header or the content is refused.
abbrev pub StopsAt : List (ℕ × Form) → ReadError → List ℕ → Type 0
StopsAt known e [] = e ≡ Short
StopsAt known e (header ∷ bytes) = RefusesHeader known e header ⊎ ((form : Form) × IsAdmitted known header form × RefusesContent e form bytes)

-- Behind extensions that say that another one follows, none stands.
pub record IsRefused (known : List (ℕ × Form)) (e : ReadError) (bytes : List ℕ) : Type 0 where
  pub before : List Ext
  pub front : List ℕ
  pub back : List ℕ
  pub whole : bytes ≡ front ++ back
  pub spelled : SpellsOpen before front
  pub admitted : are_admitted known before ≡ true
  pub stops : StopsAt known e back
