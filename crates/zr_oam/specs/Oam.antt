-- Messages between routers, this project's own. Each is an OAM message of the Zenoh protocol 1.0 ("OAM"): a header with the id 1F and
-- the form of the content at 0x60, the OAM id, extensions, the content. The project's three have header 5F: content of bytes, no extension.
use Rattle.std.specs.Prelude.{ℕ, ◌-◌, ◌^◌, Bool, true, false, ◌==◌, ◌&&◌, ◌||◌, nat_lt, nat_eq, List, [], Option, Some, None, Result, Ok, Err, if◌then◌else◌, bit_and}
use Rattle.std.specs.Cmp.Lexicographic.{pointwise, slice_cmp}
use Rattle.std.specs.Ordering.{is_lt, nat_cmp}
use Rattle.zr_bytes.specs.declared.read_error.ReadError.{ReadError}
use Rattle.zr_bytes.specs.declared.read_error.ReadError.TheVariants.{BadText}
use Rattle.zr_bytes.specs.Flag.{has_id}
use Rattle.zr_ext.specs.declared.ext.Form.{Form}
use Rattle.zr_ext.specs.Reading.{form_at}
use Rattle.zr_format_spec.specs.Format.{Format, gives, fails, unknown, choose, ◌then◌, ◌allows◌, checked, passed, series, is_whole, byte, number, below, text, content, extensions}
use Rattle.zr_id.specs.Zid.{is_zid}
use Rattle.zr_id.specs.Record.{LinkedState, RecordState, may_follow}
use Rattle.zr_key.specs.declared.key.KeyError.{KeyError}
use Rattle.zr_key.specs.Key.{read_key}
use Rattle.zr_msg.specs.declared.decl.Decl.{Decl}
use Rattle.zr_msg.specs.declared.decl.Kind.{Kind}
use Rattle.zr_msg.specs.declared.decl.Kind.TheVariants.{Sub, Able, Full, Token}
use Rattle.zr_msg.specs.declared.msg.Msg.{Msg}
use Rattle.zr_msg.specs.declared.msg.Msg.TheVariants.{State, Step, Snap}

-- ---- parts

-- an identifier behind its length
abbrev pub zid : Format (List ℕ)
zid = checked (text 255) is_zid BadText

-- the kinds of declarations by their bytes
abbrev pub kind_byte : Kind → ℕ
kind_byte Sub = 0
kind_byte Able = 1
kind_byte Full = 2
kind_byte Token = 3

abbrev pub kind_of : ℕ → Result Kind ReadError
kind_of b = if b == 0 then Ok Sub else (if b == 1 then Ok Able else (if b == 2 then Ok Full else (if b == 3 then Ok Token else Err BadText)))

-- a text that is read as itself is canonical
abbrev pub is_reading : List ℕ → Result (List ℕ) KeyError → Bool
is_reading key (Ok k) = pointwise nat_eq k key
is_reading key (Err e) = false

abbrev pub is_canonical : List ℕ → Bool
is_canonical key = is_reading key (read_key key)

-- a kind, and a canonical key
abbrev pub decl : Format Decl
decl = byte then λ kind. kind_of kind allows λ kind. checked (text (2 ^ 16 - 1)) is_canonical BadText then λ key. gives (record { kind = kind; key = key })

-- declarations go by kind, and then by the bytes of the key
abbrev pub decl_before : Decl → Decl → Bool
decl_before a b = nat_lt (kind_byte a.kind) (kind_byte b.kind) || (kind_byte a.kind == kind_byte b.kind && is_lt (slice_cmp nat_cmp a.key b.key))

-- a declaration may stand behind another one: it comes after it
abbrev pub decl_may_follow : Option Decl → Decl → Bool
decl_may_follow None d = true
decl_may_follow (Some last) d = decl_before last d

-- ---- messages

-- A record: the router, its number, and a count of links with the links, strictly ascending and without the router itself. In a weighted
-- record the weight stands behind each link, from 1 to 65,535. In the other one nothing stands there, and each link weighs 1.
abbrev pub weight : Bool → Format ℕ
weight weighted = choose weighted (checked (below (2 ^ 16)) (λ w. nat_lt 0 w) BadText) (gives 1)

-- the router to which the link before leads, if there is one
abbrev pub last_id : Option LinkedState → Option (List ℕ)
last_id None = None
last_id (Some last) = Some last.id

abbrev pub link : Bool → List ℕ → Option LinkedState → Format LinkedState
link weighted own last = checked zid (may_follow own (last_id last)) BadText then λ id. weight weighted then λ w. gives (record { id = id; weight = w })

abbrev pub record_format : Bool → Format RecordState
record_format weighted =
    zid then λ id. number then λ seq. below (2 ^ 16) then λ count. series (link weighted id) None count then λ links.
    gives (record { id = id; seq = seq; links = links })

-- Declarations: a form, the source, a number from 1 on. Then for form 0, a snapshot, a count of declarations with the declarations, strictly
-- ascending; for form 1 the one that is added, and for form 2 the one that is removed.
abbrev pub next_decl : Option Decl → Format Decl
next_decl last = checked decl (decl_may_follow last) BadText

abbrev pub snapshot : List ℕ → ℕ → Format Msg
snapshot source n = below (2 ^ 32) then λ count. series next_decl None count then λ decls. gives (Snap source n decls)

abbrev pub change : List ℕ → ℕ → Bool → Format Msg
change source n added = decl then λ d. gives (Step source n added d)

abbrev pub declarations : Format Msg
declarations =
    checked byte (λ form. nat_lt form 3) BadText then λ form. zid then λ source. checked number (λ n. nat_lt 0 n) BadText then λ n.
    choose (form == 0) (snapshot source n) (change source n (form == 1))

-- one of the project's own, under header 5F alone: its content is the message and nothing else
abbrev pub own : Format Msg → ℕ → Format (Option Msg)
own message header =
    choose (header == 0x5F) (text (2 ^ 32 - 1) then λ content. is_whole message content then λ m. gives (Some m)) (fails BadText)

abbrev pub state : Bool → Format Msg
state weighted = record_format weighted then λ r. gives (State r)

-- any other is read and ignored
abbrev pub other : ℕ → Form → Format (Option Msg)
other header form = extensions [] header then λ exts. passed (content form) then λ none. gives None

-- a content of no form is refused
abbrev pub or_bad_text : Option Form → Result Form ReadError
or_bad_text None = Err BadText
or_bad_text (Some form) = Ok form

-- what follows a header; 0x5A01 is the id of records, 0x5A03 that of weighted ones, and 0x5A02 that of declarations
abbrev pub behind : ℕ → Format (Option Msg)
behind header =
    or_bad_text (form_at (bit_and header 0x60)) allows λ form. below (2 ^ 16) then λ id.
    choose (id == 0x5A01) (own (state false) header)
    (choose (id == 0x5A03) (own (state true) header) (choose (id == 0x5A02) (own declarations header) (other header form)))

-- An OAM message: one of the project's own, or nothing.
abbrev pub oam_format : Format (Option Msg)
oam_format = byte then λ header. choose (has_id header 0x1F) (behind header) unknown
