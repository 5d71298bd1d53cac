-- The header of an extension (Zenoh protocol 1.0): the id in its low four bits, M (mandatory) at 0x10, the encoding
-- of the content at 0x60, and 0x80 where another extension follows.
use Rattle.std.specs.Prelude.{◌≡◌, ℕ, Bool, List, Option, Some, None, ◌==◌, ◌&&◌, bit_and}
use Rattle.std.specs.List.{list_any}
use Rattle.zr_bytes.specs.Flag.{has_flag}
use Rattle.zr_ext.specs.declared.ext.Ext.{Ext}
use Rattle.zr_ext.specs.declared.ext.Content.{Content}
use Rattle.zr_ext.specs.declared.ext.Content.TheVariants as content
use Rattle.zr_ext.specs.declared.ext.Form.{Form}
use Rattle.zr_ext.specs.declared.ext.Form.TheVariants.{Unit, Number, Bytes}

-- the form of a content
abbrev pub form_of : Content → Form
form_of content.Unit = Unit
form_of (content.Number n) = Number
form_of (content.Bytes b) = Bytes

-- the number that a content is, where it is one
abbrev pub content_number : Content → Option ℕ
content_number content.Unit = None
content_number (content.Number n) = Some n
content_number (content.Bytes b) = None

-- the encoding of a form, as it stands in a header
abbrev pub encoding_of : Form → ℕ
encoding_of Unit = 0
encoding_of Number = 0x20
encoding_of Bytes = 0x40

-- The byte is the header of the extension, and says whether another one follows.
pub record IsHeader (ext : Ext) (more : Bool) (header : ℕ) : Type 0 where
  pub id : ext.id ≡ bit_and header 0x0F
  pub mandatory : ext.mandatory ≡ has_flag header 0x10
  pub form : encoding_of (form_of ext.content) ≡ bit_and header 0x60
  pub goes_on : more ≡ has_flag header 0x80

-- two forms are one
abbrev pub same_form : Form → Form → Bool
same_form f g = encoding_of f == encoding_of g

-- An extension is known by its id and its form.
abbrev pub is_known : List (ℕ × Form) → ℕ → Form → Bool
is_known known id form = list_any (λ k. k.0 == id && same_form k.1 form) known
