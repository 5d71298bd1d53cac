-- The one spelling of a chain that is written.
use Rattle.std.specs.Prelude.{ℕ, ◌+◌, ◌<◌, ◌^◌, ◌&&◌, nat_le, Bool, true, false, List, [], ◌∷◌, ◌++◌, length, if◌then◌else◌, bit_or}
use Rattle.zr_bytes.specs.Number.{writes}
use Rattle.zr_bytes.specs.Text.{writes_text}
use Rattle.zr_ext.specs.declared.ext.Ext.{Ext}
use Rattle.zr_ext.specs.declared.ext.Content.{Content}
use Rattle.zr_ext.specs.declared.ext.Content.TheVariants as content
use Rattle.zr_ext.specs.Header.{form_of, encoding_of}

abbrev pub writes_header : Ext → Bool → ℕ
writes_header ext more = bit_or (bit_or (bit_or ext.id (if ext.mandatory then 0x10 else 0)) (encoding_of (form_of ext.content))) (if more then 0x80 else 0)

abbrev pub writes_content : Content → List ℕ
writes_content content.Unit = []
writes_content (content.Number n) = writes n
writes_content (content.Bytes b) = writes_text b

abbrev pub writes_ext : Ext → Bool → List ℕ
writes_ext ext more = writes_header ext more ∷ writes_content ext.content

-- each extension but the last says that another one follows
abbrev pub writes_chain : List Ext → List ℕ
writes_chain [] = []
writes_chain (ext ∷ []) = writes_ext ext false
writes_chain (ext ∷ next ∷ exts) = writes_ext ext true ++ writes_chain (next ∷ exts)

-- the content has a spelling
abbrev pub ContentFits : Content → Type 0
ContentFits content.Unit = Unit {0}
ContentFits (content.Number n) = n < 2 ^ 64
ContentFits (content.Bytes b) = length b < 2 ^ 32

-- the extension has a spelling
abbrev pub Fits : Ext → Type 0
Fits ext = (ext.id < 16) × ContentFits ext.content

-- each id is above the one before it, and the first is `least` at least
abbrev pub ascends_from : ℕ → List Ext → Bool
ascends_from least [] = true
ascends_from least (ext ∷ exts) = nat_le least ext.id && ascends_from (ext.id + 1) exts
