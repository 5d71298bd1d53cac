-- What reading a body answers, as a function of the bytes that are left. `Laws` ties it to the formats.
-- The value of a part is that of what stands last in it: of a body it is the payload, where there is one.
use Rattle.std.specs.Prelude.{ℕ, ◌-◌, ◌%◌, ◌^◌, Bool, List, [], length, take, Ok, Err, ◌==◌, if◌then◌else◌}
use Rattle.zr_bytes.specs.declared.read_error.ReadError.TheVariants.{UnknownId, BadText}
use Rattle.zr_bytes.specs.Flag.{has_id, has_flag}
use Rattle.zr_bytes.specs.Reading.{Read, ◌>>=◌, byte_of, number_of, number_below, text_of}
use Rattle.zr_ext.specs.Reading.{chain_of}
use Rattle.zr_ext.specs.Finding.{without_value}
use Rattle.zr_format_spec.specs.Reading.{Reader}
use Rattle.zr_body.specs.declared.place.Place.{Place}
use Rattle.zr_body.specs.declared.place.Place.TheVariants.{Push, Request, Response}

abbrev pub passed_if : Bool → Reader (Unit {0}) → Reader (Unit {0})
passed_if flag skip bytes = if flag then skip bytes else Ok (tt, bytes)

unfoldable pub skip_number : Reader (Unit {0})
skip_number bytes = without_value (number_of bytes)

unfoldable pub skip_text : ℕ → Reader (Unit {0})
skip_text limit bytes = without_value (text_of limit bytes)

unfoldable pub skip_some_text : ℕ → Reader (Unit {0})
skip_some_text limit bytes = do
  t ← text_of limit bytes
  if length t.0 == 0 then Err BadText else Ok (tt, t.1)

unfoldable pub skip_timestamp : Reader (Unit {0})
skip_timestamp bytes = do
  a ← skip_number bytes
  skip_some_text 16 a.1

unfoldable pub skip_encoding : Reader (Unit {0})
skip_encoding bytes = do
  n ← number_below (2 ^ 32) bytes
  passed_if (n.0 % 2 == 1) (skip_text 255) n.1

unfoldable pub skip_extensions : Reader (Unit {0})
skip_extensions bytes = without_value (chain_of [] bytes)

-- of a body without a payload
abbrev pub no_payload : Read (Unit {0}) → Read (List ℕ)
no_payload said = said >>= λ x. Ok ([], x.1)

unfoldable pub read_payload : Reader (List ℕ)
read_payload bytes = text_of (2 ^ 32 - 1) bytes

unfoldable pub read_put : ℕ → Reader (List ℕ)
read_put header bytes = do
  a ← passed_if (has_flag header 0x20) skip_timestamp bytes
  b ← passed_if (has_flag header 0x40) skip_encoding a.1
  c ← passed_if (has_flag header 0x80) skip_extensions b.1
  read_payload c.1

unfoldable pub read_del : ℕ → Reader (List ℕ)
read_del header bytes = do
  a ← passed_if (has_flag header 0x20) skip_timestamp bytes
  no_payload (passed_if (has_flag header 0x80) skip_extensions a.1)

unfoldable pub read_query : ℕ → Reader (List ℕ)
read_query header bytes = do
  a ← passed_if (has_flag header 0x20) skip_number bytes
  b ← passed_if (has_flag header 0x40) (skip_text (2 ^ 16 - 1)) a.1
  no_payload (passed_if (has_flag header 0x80) skip_extensions b.1)

unfoldable pub read_sample : ℕ → Reader (List ℕ)
read_sample header bytes =
    if has_id header 1 then read_put header bytes else (if has_id header 2 then read_del header bytes else Err UnknownId)

unfoldable pub read_reply : ℕ → Reader (List ℕ)
read_reply header bytes = do
  a ← passed_if (has_flag header 0x20) skip_number bytes
  b ← passed_if (has_flag header 0x80) skip_extensions a.1
  c ← byte_of b.1
  read_sample c.0 c.1

unfoldable pub read_err : ℕ → Reader (List ℕ)
read_err header bytes = do
  a ← passed_if (has_flag header 0x40) skip_encoding bytes
  b ← passed_if (has_flag header 0x80) skip_extensions a.1
  read_payload b.1

unfoldable pub read_behind : Place → ℕ → Reader (List ℕ)
read_behind Push header bytes = read_sample header bytes
read_behind Request header bytes = if has_id header 3 then read_query header bytes else Err UnknownId
read_behind Response header bytes =
    if has_id header 4 then read_reply header bytes else (if has_id header 5 then read_err header bytes else Err UnknownId)

unfoldable pub payload_in : Place → Reader (List ℕ)
payload_in place bytes = do
  b ← byte_of bytes
  read_behind place b.0 b.1

-- the bytes that were passed over
unfoldable pub body_of : Place → Reader (List ℕ)
body_of place bytes = payload_in place bytes >>= λ x. Ok (take (length bytes - length x.1) bytes, x.1)
