-- Transport messages (Zenoh protocol 1.0, "Transport messages"). A header has the id in its low five bits, 0x80 where
-- extensions follow, and two flags of the message's own; a flag that isn't named here is ignored.
use Rattle.std.specs.Prelude.{◌≡◌, ℕ, ◌+◌, ◌*◌, ◌/◌, ◌%◌, ◌-◌, ◌^◌, not, List, [], ◌∷◌, Option, None}
use Rattle.zr_bytes.specs.Flag.{has_id, has_flag}
use Rattle.zr_ext.specs.declared.ext.Ext.{Ext}
use Rattle.zr_ext.specs.declared.ext.Form.{Form}
use Rattle.zr_ext.specs.declared.ext.Form.TheVariants as form
use Rattle.zr_ext.specs.Header.{content_number}
use Rattle.zr_trans.specs.declared.trans.Sizes.{Sizes}
use Rattle.zr_trans.specs.declared.trans.Trans.{Trans}
use Rattle.zr_trans.specs.declared.trans.Trans.TheVariants.{Init, Open, Close, KeepAlive, Frame, Fragment}
use Rattle.zr_bytes.specs.declared.read_error.ReadError.TheVariants.{BadText}
use Rattle.zr_format_spec.specs.Format.{Format, gives, unknown, choose, ◌then◌, checked, optional, byte, number, text, so_many, extensions, the_rest}
use Rattle.zr_id.specs.Zid.{is_zid}

-- the number that the only extension says, where it is there
abbrev pub first_number : List Ext → Option ℕ
first_number [] = None
first_number (ext ∷ exts) = content_number ext.content

-- the one extension that is known in some messages
abbrev pub number_ext : ℕ → List (ℕ × Form)
number_ext id = (id, form.Number) ∷ []

-- an identifier of so many bytes, whose length stands elsewhere
abbrev pub identifier : ℕ → Format (List ℕ)
identifier count = checked (so_many count) is_zid BadText

abbrev pub cookie : Format (List ℕ)
cookie = text (2 ^ 16 - 1)

-- the resolutions, of which the low four bits count, and the batch size, its low byte first
abbrev pub sizes : Format Sizes
sizes = byte then λ bits. byte then λ low. byte then λ high. gives (record { bits = bits % 16; batch = low + 256 * high })

-- INIT: the version; the identifier's length less one in the high four bits of a byte, and the role in its low two; the
-- identifier; sizes at 0x40; a cookie in an answer, at 0x20. Extension 9, a number, is known.
abbrev pub init : ℕ → Format Trans
init header =
    byte then λ version. byte then λ tag. identifier (tag / 16 + 1) then λ id.
    optional (has_flag header 0x40) sizes then λ sizes. optional (has_flag header 0x20) cookie then λ cookie.
    extensions (number_ext 9) header then λ exts.
    gives (Init (has_flag header 0x20) version (tag % 4) id sizes cookie (first_number exts))

-- OPEN: the lease, in seconds at 0x40 and in milliseconds else; the first frame number; a cookie, but in an answer, at 0x20
abbrev pub opening : ℕ → Format Trans
opening header =
    number then λ lease. number then λ first. optional (not (has_flag header 0x20)) cookie then λ cookie.
    extensions [] header then λ exts.
    gives (Open (has_flag header 0x20) (has_flag header 0x40) lease first cookie)

-- CLOSE: of the session at 0x20; the reason
abbrev pub close : ℕ → Format Trans
close header = byte then λ reason. extensions [] header then λ exts. gives (Close (has_flag header 0x20) reason)

-- KEEP_ALIVE
abbrev pub keep_alive : ℕ → Format Trans
keep_alive header = extensions [] header then λ exts. gives KeepAlive

-- FRAME: reliable at 0x20; its number. Extension 1, a number, is known. Network messages follow.
abbrev pub frame : ℕ → Format Trans
frame header = number then λ n. extensions (number_ext 1) header then λ exts. gives (Frame (has_flag header 0x20) n)

-- FRAGMENT: reliable at 0x20, more follow at 0x40; its number; the rest of the batch. Extension 1, a number, is known.
abbrev pub fragment : ℕ → Format Trans
fragment header =
    number then λ n. extensions (number_ext 1) header then λ exts.
    the_rest (λ piece. Fragment (has_flag header 0x20) (has_flag header 0x40) n piece)

-- what follows a header
abbrev pub behind : ℕ → Format Trans
behind header =
    choose (has_id header 1) (init header)
    (choose (has_id header 2) (opening header)
    (choose (has_id header 3) (close header)
    (choose (has_id header 4) (keep_alive header)
    (choose (has_id header 5) (frame header)
    (choose (has_id header 6) (fragment header) unknown)))))

-- a header, and what it tells
abbrev pub trans_format : Format Trans
trans_format = byte then behind

-- The bytes are one of the accepted spellings of the message.
abbrev pub SpellsTrans : Trans → List ℕ → Type 0
SpellsTrans = trans_format.spelled

-- A FRAGMENT is the rest of its batch, so nothing stands behind it.
abbrev pub MayStandBefore : Trans → List ℕ → Type 0
MayStandBefore (Init _ _ _ _ _ _ _) rest = Unit {0}
MayStandBefore (Open _ _ _ _ _) rest = Unit {0}
MayStandBefore (Close _ _) rest = Unit {0}
MayStandBefore KeepAlive rest = Unit {0}
MayStandBefore (Frame _ _) rest = Unit {0}
MayStandBefore (Fragment _ _ _ _) rest = rest ≡ []
