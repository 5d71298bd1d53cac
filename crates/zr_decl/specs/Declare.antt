-- Declarations (Zenoh protocol 1.0, "DECLARE"). A header has the id in its low five bits, 0x80 where extensions follow, and two flags of the
-- message's own; a flag that isn't named here is ignored.
use Rattle.std.specs.Prelude.{ℕ, ◌+◌, ◌^◌, ◌%◌, Bool, false, not, ◌||◌, ◌==◌, if◌then◌else◌, nat_le, List, [], ◌∷◌, ◌++◌, length, Option}
use Rattle.zr_bytes.specs.declared.read_error.ReadError.TheVariants.{BadText, BadKey}
use Rattle.zr_bytes.specs.Flag.{has_id, has_flag}
use Rattle.zr_ext.specs.declared.ext.Ext.{Ext}
use Rattle.zr_ext.specs.declared.ext.Content.{Content}
use Rattle.zr_ext.specs.declared.ext.Content.TheVariants as content
use Rattle.zr_ext.specs.declared.ext.Form.{Form}
use Rattle.zr_ext.specs.declared.ext.Form.TheVariants as form
use Rattle.zr_format_spec.specs.Format.{Format, gives, unknown, choose, ◌then◌, checked, optional, byte, below, extensions}
use Rattle.zr_wirekey.specs.Scopes.{Texts}
use Rattle.zr_wirekey.specs.Spelling.{key_parts, key_format}
use Rattle.zr_msg.specs.declared.msg.Msg.{Msg}
use Rattle.zr_msg.specs.declared.msg.Msg.TheVariants.{Sub, Unsub, Token, Untoken, Able, Unable, Interest, EndInterest}
use Rattle.zr_decl.specs.declared.declared.Declared.{Declared}
use Rattle.zr_decl.specs.declared.declared.Declared.TheVariants.{Told, Number, Unnumber, Ignored}

-- ---- extensions that are known

-- quality of service, timestamp and node id, of messages; they are not passed on
abbrev pub message_exts : List (ℕ × Form)
message_exts = (1, form.Number) ∷ (2, form.Bytes) ∷ (3, form.Number) ∷ []

-- what a subscriber or a queryable says of itself
abbrev pub info_ext : List (ℕ × Form)
info_ext = (1, form.Number) ∷ []

-- the key of an undeclaration, which is ignored
abbrev pub undeclared_ext : List (ℕ × Form)
undeclared_ext = (15, form.Bytes) ∷ []

-- a queryable is complete where bit 0 of its info is set; its distance is ignored
abbrev pub content_odd : Content → Bool
content_odd content.Unit = false
content_odd (content.Number n) = n % 2 == 1
content_odd (content.Bytes b) = false

abbrev pub says_complete : List Ext → Bool
says_complete [] = false
says_complete (ext ∷ exts) = content_odd ext.content

-- ---- keys

-- A key, with a suffix where N (0x20) is set. Its scope is one that the sender declared (`theirs`) where M (0x40) is set, else one that the
-- receiver declared (`ours`).
abbrev pub wire_key : Texts → Texts → ℕ → Format (List ℕ)
wire_key theirs ours header = key_format (has_flag header 0x20) (if has_flag header 0x40 then theirs else ours)

-- ---- declarations

-- D_KEYEXPR: a number from 1 on, and the text that it stands for from now on, of at most 2,048 bytes. It need not be an expression. In this
-- profile its scope is one that the sender declared.
abbrev pub keyexpr : Texts → ℕ → Format Declared
keyexpr theirs header =
    checked (below (2 ^ 16)) (λ n. not (n == 0)) BadText then λ n.
    checked (key_parts (has_flag header 0x20) theirs) (λ parts. nat_le (length parts.0 + length parts.1) 2048) BadKey then λ parts.
    extensions [] header then λ exts. gives (Number n (parts.0 ++ parts.1))

-- U_KEYEXPR
abbrev pub undeclared_keyexpr : ℕ → Format Declared
undeclared_keyexpr header = below (2 ^ 16) then λ n. extensions [] header then λ exts. gives (Unnumber n)

-- D_SUBSCRIBER
abbrev pub subscriber : Texts → Texts → ℕ → Format Declared
subscriber theirs ours header = below (2 ^ 32) then λ id. wire_key theirs ours header then λ key. extensions info_ext header then λ exts. gives (Told (Sub id key))

-- D_QUERYABLE
abbrev pub queryable : Texts → Texts → ℕ → Format Declared
queryable theirs ours header = below (2 ^ 32) then λ id. wire_key theirs ours header then λ key. extensions info_ext header then λ exts. gives (Told (Able id key (says_complete exts)))

-- D_TOKEN
abbrev pub token : Texts → Texts → ℕ → Format Declared
token theirs ours header = below (2 ^ 32) then λ id. wire_key theirs ours header then λ key. extensions [] header then λ exts. gives (Told (Token id key))

-- the id of what is undeclared
abbrev pub undeclared : ℕ → Format ℕ
undeclared header = below (2 ^ 32) then λ id. extensions undeclared_ext header then λ exts. gives id

-- U_SUBSCRIBER
abbrev pub unsubscriber : ℕ → Format Declared
unsubscriber header = undeclared header then λ id. gives (Told (Unsub id))

-- U_QUERYABLE
abbrev pub unqueryable : ℕ → Format Declared
unqueryable header = undeclared header then λ id. gives (Told (Unable id))

-- U_TOKEN
abbrev pub untoken : ℕ → Format Declared
untoken header = undeclared header then λ id. gives (Told (Untoken id))

-- D_FINAL: all that an interest asked for was told
abbrev pub final : ℕ → Format Declared
final header = extensions [] header then λ exts. gives Ignored

-- what follows the header of a declaration
abbrev pub declaration : Texts → Texts → ℕ → Format Declared
declaration theirs ours header =
    choose (has_id header 0x00) (keyexpr theirs header)
    (choose (has_id header 0x01) (undeclared_keyexpr header)
    (choose (has_id header 0x02) (subscriber theirs ours header)
    (choose (has_id header 0x03) (unsubscriber header)
    (choose (has_id header 0x04) (queryable theirs ours header)
    (choose (has_id header 0x05) (unqueryable header)
    (choose (has_id header 0x06) (token theirs ours header)
    (choose (has_id header 0x07) (untoken header)
    (choose (has_id header 0x1A) (final header) unknown))))))))

-- DECLARE: the interest that it answers, at 0x20; extensions; one declaration. What it tells, and the interest.
abbrev pub declare : Texts → Texts → ℕ → Format (Declared × Option ℕ)
declare theirs ours header =
    optional (has_flag header 0x20) (below (2 ^ 32)) then λ interest. extensions message_exts header then λ exts.
    byte then λ inner. declaration theirs ours inner then λ d. gives (d, interest)

abbrev pub declare_format : Texts → Texts → Format (Declared × Option ℕ)
declare_format theirs ours = byte then λ header. choose (has_id header 0x1E) (declare theirs ours header) unknown

-- ---- interests

-- INTEREST: current at 0x20 and future at 0x40. Where either is set, options follow: the kinds in bits 0 to 3, a key at 0x10, with N and M as
-- in a header, and aggregation at 0x80. Where neither is, the interest of this id ends.
abbrev pub wanted : Texts → Texts → ℕ → ℕ → Format Msg
wanted theirs ours header id =
    byte then λ options. optional (has_flag options 0x10) (wire_key theirs ours options) then λ key. extensions message_exts header then λ exts.
    gives (Interest id (has_flag header 0x20) (has_flag header 0x40) (record { 0 = options % 16 }) key (has_flag options 0x80))

abbrev pub ended : ℕ → ℕ → Format Msg
ended header id = extensions message_exts header then λ exts. gives (EndInterest id)

abbrev pub interest : Texts → Texts → ℕ → Format Msg
interest theirs ours header =
    below (2 ^ 32) then λ id. choose (has_flag header 0x20 || has_flag header 0x40) (wanted theirs ours header id) (ended header id)

abbrev pub interest_format : Texts → Texts → Format Msg
interest_format theirs ours = byte then λ header. choose (has_id header 0x19) (interest theirs ours header) unknown
