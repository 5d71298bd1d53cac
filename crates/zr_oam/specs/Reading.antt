-- What reading an OAM message answers, as a function of the bytes that are left. `Laws` ties it to the format.
use Rattle.std.specs.Prelude.{ℕ, ◌-◌, ◌^◌, Bool, true, false, ◌==◌, nat_lt, List, [], Option, Some, None, Ok, Err, if◌then◌else◌, bit_and}
use Rattle.zr_bytes.specs.declared.read_error.ReadError.TheVariants.{UnknownId, BadText}
use Rattle.zr_bytes.specs.Flag.{has_id}
use Rattle.zr_bytes.specs.Reading.{◌>>=◌, byte_of, number_of, number_below, text_of}
use Rattle.zr_ext.specs.declared.ext.Form.{Form}
use Rattle.zr_ext.specs.Reading.{form_at, content_of}
use Rattle.zr_ext.specs.Finding.{without_value}
use Rattle.zr_format_spec.specs.Reading.{Reader, checked_of, series_of, whole_of, exts_of}
use Rattle.zr_id.specs.Zid.{is_zid}
use Rattle.zr_id.specs.Record.{LinkedState, RecordState, may_follow}
use Rattle.zr_msg.specs.declared.decl.Decl.{Decl}
use Rattle.zr_msg.specs.declared.msg.Msg.{Msg}
use Rattle.zr_msg.specs.declared.msg.Msg.TheVariants.{State, Step, Snap}
use Rattle.zr_oam.specs.Oam.{kind_of, is_canonical, decl_may_follow, last_id, or_bad_text}

unfoldable pub zid_of : Reader (List ℕ)
zid_of bytes = checked_of (text_of 255) is_zid BadText bytes

unfoldable pub key_of : Reader (List ℕ)
key_of bytes = checked_of (text_of (2 ^ 16 - 1)) is_canonical BadText bytes

unfoldable pub decl_of : Reader Decl
decl_of bytes = do
  b ← byte_of bytes
  kind ← kind_of b.0
  key ← key_of b.1
  Ok (record { kind = kind; key = key.0 }, key.1)

unfoldable pub weight_of : Bool → Reader ℕ
weight_of weighted bytes = if weighted then checked_of (number_below (2 ^ 16)) (λ w. nat_lt 0 w) BadText bytes else Ok (1, bytes)

unfoldable pub neighbour_of : List ℕ → Option LinkedState → Reader (List ℕ)
neighbour_of own last bytes = checked_of zid_of (may_follow own (last_id last)) BadText bytes

unfoldable pub link_of : Bool → List ℕ → Option LinkedState → Reader LinkedState
link_of weighted own last bytes = do
  id ← neighbour_of own last bytes
  w ← weight_of weighted id.1
  Ok (record { id = id.0; weight = w.0 }, w.1)

unfoldable pub record_of : Bool → Reader RecordState
record_of weighted bytes = do
  id ← zid_of bytes
  seq ← number_of id.1
  count ← number_below (2 ^ 16) seq.1
  links ← series_of (link_of weighted id.0) None count.0 count.1
  Ok (record { id = id.0; seq = seq.0; links = links.0 }, links.1)

unfoldable pub state_of : Bool → Reader Msg
state_of weighted bytes = do
  r ← record_of weighted bytes
  Ok (State r.0, r.1)

unfoldable pub next_decl_of : Option Decl → Reader Decl
next_decl_of last bytes = checked_of decl_of (decl_may_follow last) BadText bytes

unfoldable pub snapshot_of : List ℕ → ℕ → Reader Msg
snapshot_of source n bytes = do
  count ← number_below (2 ^ 32) bytes
  decls ← series_of next_decl_of None count.0 count.1
  Ok (Snap source n decls.0, decls.1)

unfoldable pub change_of : List ℕ → ℕ → Bool → Reader Msg
change_of source n added bytes = do
  d ← decl_of bytes
  Ok (Step source n added d.0, d.1)

unfoldable pub form_of : Reader ℕ
form_of bytes = checked_of byte_of (λ form. nat_lt form 3) BadText bytes

unfoldable pub entry_number_of : Reader ℕ
entry_number_of bytes = checked_of number_of (λ n. nat_lt 0 n) BadText bytes

unfoldable pub declarations_of : Reader Msg
declarations_of bytes = do
  form ← form_of bytes
  source ← zid_of form.1
  n ← entry_number_of source.1
  if form.0 == 0 then snapshot_of source.0 n.0 n.1 else change_of source.0 n.0 (form.0 == 1) n.1

unfoldable pub own_of : Reader Msg → ℕ → Reader (Option Msg)
own_of read header bytes =
    if header == 0x5F then (text_of (2 ^ 32 - 1) bytes >>= λ content. whole_of read content.0 >>= λ m. Ok (Some m, content.1)) else Err BadText

unfoldable pub other_of : ℕ → Form → Reader (Option Msg)
other_of header form bytes = do
  exts ← exts_of [] header bytes
  none ← without_value (content_of form exts.1)
  Ok (None, none.1)

unfoldable pub behind_of : ℕ → Reader (Option Msg)
behind_of header bytes = do
  form ← or_bad_text (form_at (bit_and header 0x60))
  id ← number_below (2 ^ 16) bytes
  if id.0 == 0x5A01 then own_of (state_of false) header id.1
      else (if id.0 == 0x5A03 then own_of (state_of true) header id.1
      else (if id.0 == 0x5A02 then own_of declarations_of header id.1 else other_of header form id.1))

unfoldable pub oam_of : Reader (Option Msg)
oam_of bytes = do
  header ← byte_of bytes
  if has_id header.0 0x1F then behind_of header.0 header.1 else Err UnknownId
