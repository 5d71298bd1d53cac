-- What reading a transport message answers, as a function of the bytes that are left. `Laws` ties it to the formats.
use Rattle.std.specs.Prelude.{ℕ, ◌+◌, ◌*◌, ◌/◌, ◌%◌, ◌-◌, ◌^◌, not, List, [], Ok, Err, if◌then◌else◌}
use Rattle.zr_bytes.specs.declared.read_error.ReadError.TheVariants.{UnknownId, BadText}
use Rattle.zr_bytes.specs.Flag.{has_id, has_flag}
use Rattle.zr_bytes.specs.Reading.{Read, ◌>>=◌, byte_of, number_of, text_of}
use Rattle.zr_format_spec.specs.Reading.{optional_of, checked_of, so_many_of, exts_of}
use Rattle.zr_id.specs.Zid.{is_zid}
use Rattle.zr_trans.specs.declared.trans.Sizes.{Sizes}
use Rattle.zr_trans.specs.declared.trans.Trans.{Trans}
use Rattle.zr_trans.specs.declared.trans.Trans.TheVariants.{Init, Open, Close, KeepAlive, Frame, Fragment}
use Rattle.zr_trans.specs.Trans.{first_number, number_ext}

-- so many bytes, which have to be an identifier
unfoldable pub id_of : ℕ → List ℕ → Read (List ℕ)
id_of count bytes = checked_of (so_many_of count) is_zid BadText bytes

unfoldable pub sizes_of : List ℕ → Read Sizes
sizes_of bytes = do
  bits ← byte_of bytes
  low ← byte_of bits.1
  high ← byte_of low.1
  Ok (record { bits = bits.0 % 16; batch = low.0 + 256 * high.0 }, high.1)

unfoldable pub cookie_of : List ℕ → Read (List ℕ)
cookie_of bytes = text_of (2 ^ 16 - 1) bytes

-- INIT behind the identifier
unfoldable pub behind_id_of : ℕ → ℕ → ℕ → List ℕ → List ℕ → Read Trans
behind_id_of header version tag id bytes = do
  sizes ← optional_of (has_flag header 0x40) sizes_of bytes
  cookie ← optional_of (has_flag header 0x20) cookie_of sizes.1
  exts ← exts_of (number_ext 9) header cookie.1
  Ok (Init (has_flag header 0x20) version (tag % 4) id sizes.0 cookie.0 (first_number exts.0), exts.1)

unfoldable pub init_of : ℕ → List ℕ → Read Trans
init_of header bytes = do
  version ← byte_of bytes
  tag ← byte_of version.1
  id ← id_of (tag.0 / 16 + 1) tag.1
  behind_id_of header version.0 tag.0 id.0 id.1

unfoldable pub open_of : ℕ → List ℕ → Read Trans
open_of header bytes = do
  lease ← number_of bytes
  first ← number_of lease.1
  cookie ← optional_of (not (has_flag header 0x20)) cookie_of first.1
  exts ← exts_of [] header cookie.1
  Ok (Open (has_flag header 0x20) (has_flag header 0x40) lease.0 first.0 cookie.0, exts.1)

unfoldable pub close_of : ℕ → List ℕ → Read Trans
close_of header bytes = do
  reason ← byte_of bytes
  exts ← exts_of [] header reason.1
  Ok (Close (has_flag header 0x20) reason.0, exts.1)

unfoldable pub keep_alive_of : ℕ → List ℕ → Read Trans
keep_alive_of header bytes = do
  exts ← exts_of [] header bytes
  Ok (KeepAlive, exts.1)

unfoldable pub frame_of : ℕ → List ℕ → Read Trans
frame_of header bytes = do
  n ← number_of bytes
  exts ← exts_of (number_ext 1) header n.1
  Ok (Frame (has_flag header 0x20) n.0, exts.1)

unfoldable pub fragment_of : ℕ → List ℕ → Read Trans
fragment_of header bytes = do
  n ← number_of bytes
  exts ← exts_of (number_ext 1) header n.1
  Ok (Fragment (has_flag header 0x20) (has_flag header 0x40) n.0 exts.1, [])

unfoldable pub behind_of : ℕ → List ℕ → Read Trans
behind_of header bytes =
    if has_id header 1 then init_of header bytes
    else (if has_id header 2 then open_of header bytes
    else (if has_id header 3 then close_of header bytes
    else (if has_id header 4 then keep_alive_of header bytes
    else (if has_id header 5 then frame_of header bytes
    else (if has_id header 6 then fragment_of header bytes else Err UnknownId)))))

unfoldable pub trans_of : List ℕ → Read Trans
trans_of bytes = do
  header ← byte_of bytes
  behind_of header.0 header.1
