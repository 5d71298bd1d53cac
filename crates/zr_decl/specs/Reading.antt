-- What reading a declaration or an interest answers, as a function of the bytes that are left. `Laws` ties it to the formats.
use Rattle.std.specs.Prelude.{ℕ, ◌+◌, ◌^◌, ◌%◌, not, ◌||◌, ◌==◌, nat_le, List, [], ◌++◌, length, Option, Ok, Err, if◌then◌else◌}
use Rattle.zr_bytes.specs.declared.read_error.ReadError.TheVariants.{UnknownId, BadText, BadKey}
use Rattle.zr_bytes.specs.Flag.{has_id, has_flag}
use Rattle.zr_bytes.specs.Reading.{◌>>=◌, byte_of, number_below}
use Rattle.zr_format_spec.specs.Reading.{Reader, checked_of, optional_of, exts_of}
use Rattle.zr_wirekey.specs.Scopes.{Texts}
use Rattle.zr_wirekey.specs.Reading.{parts_of, key_of}
use Rattle.zr_msg.specs.declared.msg.Msg.{Msg}
use Rattle.zr_msg.specs.declared.msg.Msg.TheVariants.{Sub, Unsub, Token, Untoken, Able, Unable, Interest, EndInterest}
use Rattle.zr_decl.specs.declared.declared.Declared.{Declared}
use Rattle.zr_decl.specs.declared.declared.Declared.TheVariants.{Told, Number, Unnumber, Ignored}
use Rattle.zr_decl.specs.Declare.{message_exts, info_ext, undeclared_ext, says_complete}

unfoldable pub wire_key_of : Texts → Texts → ℕ → Reader (List ℕ)
wire_key_of theirs ours header bytes = key_of (has_flag header 0x20) (if has_flag header 0x40 then theirs else ours) bytes

unfoldable pub number_of : Reader ℕ
number_of bytes = checked_of (number_below (2 ^ 16)) (λ n. not (n == 0)) BadText bytes

unfoldable pub text_of : Texts → ℕ → Reader (List ℕ × List ℕ)
text_of theirs header bytes = checked_of (parts_of (has_flag header 0x20) theirs) (λ parts. nat_le (length parts.0 + length parts.1) 2048) BadKey bytes

unfoldable pub keyexpr_of : Texts → ℕ → Reader Declared
keyexpr_of theirs header bytes = do
  n ← number_of bytes
  parts ← text_of theirs header n.1
  exts ← exts_of [] header parts.1
  Ok (Number n.0 (parts.0.0 ++ parts.0.1), exts.1)

unfoldable pub undeclared_keyexpr_of : ℕ → Reader Declared
undeclared_keyexpr_of header bytes = do
  n ← number_below (2 ^ 16) bytes
  exts ← exts_of [] header n.1
  Ok (Unnumber n.0, exts.1)

unfoldable pub subscriber_of : Texts → Texts → ℕ → Reader Declared
subscriber_of theirs ours header bytes = do
  id ← number_below (2 ^ 32) bytes
  key ← wire_key_of theirs ours header id.1
  exts ← exts_of info_ext header key.1
  Ok (Told (Sub id.0 key.0), exts.1)

unfoldable pub queryable_of : Texts → Texts → ℕ → Reader Declared
queryable_of theirs ours header bytes = do
  id ← number_below (2 ^ 32) bytes
  key ← wire_key_of theirs ours header id.1
  exts ← exts_of info_ext header key.1
  Ok (Told (Able id.0 key.0 (says_complete exts.0)), exts.1)

unfoldable pub token_of : Texts → Texts → ℕ → Reader Declared
token_of theirs ours header bytes = do
  id ← number_below (2 ^ 32) bytes
  key ← wire_key_of theirs ours header id.1
  exts ← exts_of [] header key.1
  Ok (Told (Token id.0 key.0), exts.1)

-- the id of what is undeclared
unfoldable pub undeclared_of : ℕ → Reader ℕ
undeclared_of header bytes = do
  id ← number_below (2 ^ 32) bytes
  exts ← exts_of undeclared_ext header id.1
  Ok (id.0, exts.1)

unfoldable pub unsubscriber_of : ℕ → Reader Declared
unsubscriber_of header bytes = do
  id ← undeclared_of header bytes
  Ok (Told (Unsub id.0), id.1)

unfoldable pub unqueryable_of : ℕ → Reader Declared
unqueryable_of header bytes = do
  id ← undeclared_of header bytes
  Ok (Told (Unable id.0), id.1)

unfoldable pub untoken_of : ℕ → Reader Declared
untoken_of header bytes = do
  id ← undeclared_of header bytes
  Ok (Told (Untoken id.0), id.1)

unfoldable pub final_of : ℕ → Reader Declared
final_of header bytes = do
  exts ← exts_of [] header bytes
  Ok (Ignored, exts.1)

unfoldable pub declaration_of : Texts → Texts → ℕ → Reader Declared
declaration_of theirs ours header bytes =
    if has_id header 0x00 then keyexpr_of theirs header bytes
    else (if has_id header 0x01 then undeclared_keyexpr_of header bytes
    else (if has_id header 0x02 then subscriber_of theirs ours header bytes
    else (if has_id header 0x03 then unsubscriber_of header bytes
    else (if has_id header 0x04 then queryable_of theirs ours header bytes
    else (if has_id header 0x05 then unqueryable_of header bytes
    else (if has_id header 0x06 then token_of theirs ours header bytes
    else (if has_id header 0x07 then untoken_of header bytes
    else (if has_id header 0x1A then final_of header bytes else Err UnknownId))))))))

unfoldable pub declare_of : Texts → Texts → ℕ → Reader (Declared × Option ℕ)
declare_of theirs ours header bytes = do
  interest ← optional_of (has_flag header 0x20) (number_below (2 ^ 32)) bytes
  exts ← exts_of message_exts header interest.1
  inner ← byte_of exts.1
  d ← declaration_of theirs ours inner.0 inner.1
  Ok ((d.0, interest.0), d.1)

unfoldable pub message_of : Texts → Texts → Reader (Declared × Option ℕ)
message_of theirs ours bytes = do
  header ← byte_of bytes
  if has_id header.0 0x1E then declare_of theirs ours header.0 header.1 else Err UnknownId

-- what a DECLARE tells, whatever interest it answers
unfoldable pub declared_of : Texts → Texts → Reader Declared
declared_of theirs ours bytes = do
  d ← message_of theirs ours bytes
  Ok (d.0.0, d.1)

-- ---- interests

unfoldable pub wanted_of : Texts → Texts → ℕ → ℕ → Reader Msg
wanted_of theirs ours header id bytes = do
  options ← byte_of bytes
  key ← optional_of (has_flag options.0 0x10) (wire_key_of theirs ours options.0) options.1
  exts ← exts_of message_exts header key.1
  Ok (Interest id (has_flag header 0x20) (has_flag header 0x40) (record { 0 = options.0 % 16 }) key.0 (has_flag options.0 0x80), exts.1)

unfoldable pub ended_of : ℕ → ℕ → Reader Msg
ended_of header id bytes = do
  exts ← exts_of message_exts header bytes
  Ok (EndInterest id, exts.1)

unfoldable pub asked_of : Texts → Texts → ℕ → Reader Msg
asked_of theirs ours header bytes = do
  id ← number_below (2 ^ 32) bytes
  if has_flag header 0x20 || has_flag header 0x40 then wanted_of theirs ours header id.0 id.1 else ended_of header id.0 id.1

unfoldable pub interest_of : Texts → Texts → Reader Msg
interest_of theirs ours bytes = do
  header ← byte_of bytes
  if has_id header.0 0x19 then asked_of theirs ours header.0 header.1 else Err UnknownId
