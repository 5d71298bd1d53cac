-- The one spelling of a transport message that is written, and which messages have a spelling.
use Rattle.std.specs.Prelude.{◌≡◌, ℕ, ◌+◌, ◌-◌, ◌*◌, ◌/◌, ◌%◌, ◌^◌, ◌<◌, ◌≤◌, Bool, true, false, not, List, [], ◌∷◌, ◌++◌, length, Option, Some, None, is_some}
use Rattle.zr_bytes.specs.Number.{writes}
use Rattle.zr_bytes.specs.Text.{writes_text}
use Rattle.zr_ext.specs.declared.ext.Ext.{Ext}
use Rattle.zr_ext.specs.declared.ext.Content.TheVariants as content
use Rattle.zr_ext.specs.Writing.{writes_chain}
use Rattle.zr_format_spec.specs.Writing.{writes_header}
use Rattle.zr_id.specs.Zid.{is_zid}
use Rattle.zr_trans.specs.declared.trans.Sizes.{Sizes}
use Rattle.zr_trans.specs.declared.trans.Trans.{Trans}
use Rattle.zr_trans.specs.declared.trans.Trans.TheVariants.{Init, Open, Close, KeepAlive, Frame, Fragment}

-- the identifier's length less one, and the role
abbrev pub writes_tag : ℕ → List ℕ → ℕ
writes_tag role id = (length id - 1) * 16 + role

abbrev pub writes_sizes : Option Sizes → List ℕ
writes_sizes None = []
writes_sizes (Some sizes) = sizes.bits ∷ sizes.batch % 256 ∷ sizes.batch / 256 ∷ []

abbrev pub writes_cookie : Option (List ℕ) → List ℕ
writes_cookie None = []
writes_cookie (Some cookie) = writes_text cookie

-- extension 9, which is not mandatory
abbrev pub speaks_ext : ℕ → Ext
speaks_ext n = record { id = 9; mandatory = false; content = content.Number n }

abbrev pub writes_speaks : Option ℕ → List ℕ
writes_speaks None = []
writes_speaks (Some n) = writes_chain (speaks_ext n ∷ [])

-- the header, by the message's id, its two flags and its extensions
abbrev pub header_of : Trans → ℕ
header_of (Init answer version role id sizes cookie speaks) = writes_header 1 answer (is_some sizes) (is_some speaks)
header_of (Open answer seconds lease number cookie) = writes_header 2 answer seconds false
header_of (Close session reason) = writes_header 3 session false false
header_of KeepAlive = writes_header 4 false false false
header_of (Frame reliable number) = writes_header 5 reliable false false
header_of (Fragment reliable more number piece) = writes_header 6 reliable more false

-- what stands behind the header
abbrev pub fields_of : Trans → List ℕ
fields_of (Init answer version role id sizes cookie speaks) =
    version ∷ writes_tag role id ∷ id ++ (writes_sizes sizes ++ (writes_cookie cookie ++ writes_speaks speaks))
fields_of (Open answer seconds lease number cookie) = writes lease ++ (writes number ++ writes_cookie cookie)
fields_of (Close session reason) = reason ∷ []
fields_of KeepAlive = []
fields_of (Frame reliable number) = writes number
fields_of (Fragment reliable more number piece) = writes number ++ piece

abbrev pub writes_trans : Trans → List ℕ
writes_trans t = header_of t ∷ fields_of t

-- resolutions of four bits
abbrev pub SizesFit : Option Sizes → Type 0
SizesFit None = Unit {0}
SizesFit (Some sizes) = sizes.bits < 16

-- a cookie of less than 2^16 bytes, exactly where the message has one
abbrev pub CookieFits : Bool → Option (List ℕ) → Type 0
CookieFits has None = has ≡ false
CookieFits has (Some cookie) = (has ≡ true) × (length cookie ≤ 2 ^ 16 - 1)

-- The message has a spelling, where its identifier is one.
abbrev pub Fits : Trans → Type 0
Fits (Init answer version role id sizes cookie speaks) = (role < 4) × SizesFit sizes × CookieFits answer cookie
Fits (Open answer seconds lease number cookie) = CookieFits (not answer) cookie
Fits (Close session reason) = Unit {0}
Fits KeepAlive = Unit {0}
Fits (Frame reliable number) = Unit {0}
Fits (Fragment reliable more number piece) = Unit {0}

-- The identifier is one, as each `Zid` is.
abbrev pub IsNamed : Trans → Type 0
IsNamed (Init answer version role id sizes cookie speaks) = is_zid id ≡ true
IsNamed (Open answer seconds lease number cookie) = Unit {0}
IsNamed (Close session reason) = Unit {0}
IsNamed KeepAlive = Unit {0}
IsNamed (Frame reliable number) = Unit {0}
IsNamed (Fragment reliable more number piece) = Unit {0}

-- what a message that has a spelling has
abbrev pub HasFields : Trans → Type 0
HasFields t = Fits t × IsNamed t
