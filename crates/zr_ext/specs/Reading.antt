-- What reading a chain answers, as a function of the bytes that are left. `Laws` ties it to the spellings.
use Rattle.std.specs.Prelude.{ℕ, zero, suc, ◌-◌, ◌^◌, Bool, not, List, [], ◌∷◌, length, Option, Some, None, Result, Ok, Err, ◌==◌, ◌&&◌, if◌then◌else◌, bit_and}
use Rattle.zr_bytes.specs.declared.read_error.ReadError.{ReadError}
use Rattle.zr_bytes.specs.declared.read_error.ReadError.TheVariants.{Short, Mandatory, BadText}
use Rattle.zr_bytes.specs.Flag.{has_flag}
use Rattle.zr_bytes.specs.Reading.{Read, ◌>>=◌, byte_of, number_of, text_of}
use Rattle.zr_ext.specs.declared.ext.Ext.{Ext}
use Rattle.zr_ext.specs.declared.ext.Content.{Content}
use Rattle.zr_ext.specs.declared.ext.Content.TheVariants as content
use Rattle.zr_ext.specs.declared.ext.Form.{Form}
use Rattle.zr_ext.specs.declared.ext.Form.TheVariants.{Unit, Number, Bytes}
use Rattle.zr_ext.specs.declared.header.Header.{Header}
use Rattle.zr_ext.specs.Header.{is_known}
use Rattle.zr_ext.specs.Chain.{kept, knows}

-- the form of an encoding
abbrev pub form_at : ℕ → Option Form
form_at encoding = if encoding == 0 then Some Unit else (if encoding == 0x20 then Some Number else (if encoding == 0x40 then Some Bytes else None))

-- An unknown mandatory extension is refused at its header, and so is a form that there isn't.
abbrev pub judged : List (ℕ × Form) → ℕ → Option Form → Result Header ReadError
judged known header None = if has_flag header 0x10 then Err Mandatory else Err BadText
judged known header (Some form) =
    if has_flag header 0x10 && not (is_known known (bit_and header 0x0F) form) then Err Mandatory
    else Ok (record { id = bit_and header 0x0F; mandatory = has_flag header 0x10; form = form; more = has_flag header 0x80 })

abbrev pub header_of : List (ℕ × Form) → ℕ → Result Header ReadError
header_of known header = judged known header (form_at (bit_and header 0x60))

-- what stands behind a header
unfoldable pub content_of : Form → List ℕ → Read Content
content_of Unit bytes = Ok (content.Unit, bytes)
content_of Number bytes = number_of bytes >>= λ x. Ok (content.Number x.0, x.1)
content_of Bytes bytes = text_of (2 ^ 32 - 1) bytes >>= λ x. Ok (content.Bytes x.0, x.1)

-- one extension, and whether another one follows
unfoldable pub ext_of : List (ℕ × Form) → List ℕ → Read (Ext × Bool)
ext_of known bytes = do
  b ← byte_of bytes
  head ← header_of known b.0
  x ← content_of head.form b.1
  Ok ((record { id = head.id; mandatory = head.mandatory; content = x.0 }, head.more), x.1)

-- the same, where only what is known is kept
unfoldable pub found_of : List (ℕ × Form) → List ℕ → Read (Option Ext × Bool)
found_of known bytes = do
  x ← ext_of known bytes
  Ok ((if knows known x.0.0 then Some x.0.0 else None, x.0.1), x.1)

-- a chain of at most so many extensions
unfoldable pub exts_within : ℕ → List (ℕ × Form) → List ℕ → Read (List Ext)
exts_within zero known bytes = Err Short
exts_within (suc most) known bytes = do
  x ← ext_of known bytes
  if x.0.1 then (exts_within most known x.1 >>= λ others. Ok (x.0.0 ∷ others.0, others.1)) else Ok (x.0.0 ∷ [], x.1)

-- each extension takes a byte at least
unfoldable pub chain_of : List (ℕ × Form) → List ℕ → Read (List Ext)
chain_of known bytes = exts_within (length bytes) known bytes >>= λ x. Ok (kept known x.0, x.1)
