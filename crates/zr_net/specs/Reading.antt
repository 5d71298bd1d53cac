-- What reading a network message answers, as a function of the bytes that are left. `Laws` ties it to the format.
use Rattle.std.specs.Prelude.{ℕ, List, ◌^◌, Ok, Err, if◌then◌else◌}
use Rattle.zr_bytes.specs.declared.read_error.ReadError.TheVariants.{UnknownId}
use Rattle.zr_bytes.specs.Flag.{has_id}
use Rattle.zr_bytes.specs.Reading.{◌>>=◌, byte_of, number_below}
use Rattle.zr_ext.specs.declared.ext.Ext.{Ext}
use Rattle.zr_format_spec.specs.Reading.{Reader, exts_of}
use Rattle.zr_wirekey.specs.Scopes.{Texts}
use Rattle.zr_body.specs.declared.place.Place.TheVariants as place
use Rattle.zr_body.specs.Reading.{body_of}
use Rattle.zr_msg.specs.declared.content.Parts.{Parts}
use Rattle.zr_msg.specs.declared.msg.Msg.TheVariants.{Push, Request, Response, Final}
use Rattle.zr_msg.specs.declared.peer.Role.{Role}
use Rattle.zr_decl.specs.declared.declared.Declared.{Declared}
use Rattle.zr_decl.specs.declared.declared.Declared.TheVariants.{Told}
use Rattle.zr_decl.specs.Reading.{wire_key_of, declare_of, asked_of}
use Rattle.zr_net.specs.Exts.{push_known, request_known, response_known, final_known, number_at, bytes_at, extras_of, target_of, tree_of}

-- what a message says of its key, its extensions and its body
abbrev pub content_of : List ℕ → List Ext → List ℕ → Parts
content_of key exts body = record { key = key; extras = extras_of exts; body = body }

-- a PUSH behind its key and its extensions
unfoldable pub sample_of : List ℕ → List Ext → Reader Declared
sample_of key exts bytes = do
  tree ← tree_of (bytes_at 7 exts)
  body ← body_of place.Push bytes
  Ok (Told (Push tree (content_of key exts body.0)), body.1)

unfoldable pub push_of : Role → Texts → Texts → ℕ → Reader Declared
push_of role theirs ours header bytes = do
  key ← wire_key_of theirs ours header bytes
  exts ← exts_of (push_known role) header key.1
  sample_of key.0 exts.0 exts.1

-- a REQUEST behind its key and its extensions
unfoldable pub question_of : ℕ → List ℕ → List Ext → Reader Declared
question_of id key exts bytes = do
  tree ← tree_of (bytes_at 7 exts)
  target ← target_of (number_at 4 exts)
  body ← body_of place.Request bytes
  Ok (Told (Request tree id target (content_of key exts body.0)), body.1)

unfoldable pub request_of : Role → Texts → Texts → ℕ → Reader Declared
request_of role theirs ours header bytes = do
  id ← number_below (2 ^ 32) bytes
  key ← wire_key_of theirs ours header id.1
  exts ← exts_of (request_known role) header key.1
  question_of id.0 key.0 exts.0 exts.1

-- a RESPONSE behind its key and its extensions
unfoldable pub reply_of : ℕ → List ℕ → List Ext → Reader Declared
reply_of id key exts bytes = do
  body ← body_of place.Response bytes
  Ok (Told (Response id (content_of key exts body.0)), body.1)

unfoldable pub response_of : Texts → Texts → ℕ → Reader Declared
response_of theirs ours header bytes = do
  id ← number_below (2 ^ 32) bytes
  key ← wire_key_of theirs ours header id.1
  exts ← exts_of response_known header key.1
  reply_of id.0 key.0 exts.0 exts.1

unfoldable pub final_of : ℕ → Reader Declared
final_of header bytes = do
  id ← number_below (2 ^ 32) bytes
  exts ← exts_of final_known header id.1
  Ok (Told (Final id.0 (extras_of exts.0)), exts.1)

unfoldable pub declared_of : Texts → Texts → ℕ → Reader Declared
declared_of theirs ours header bytes = do
  d ← declare_of theirs ours header bytes
  Ok (d.0.0, d.1)

unfoldable pub told_of : Texts → Texts → ℕ → Reader Declared
told_of theirs ours header bytes = do
  m ← asked_of theirs ours header bytes
  Ok (Told m.0, m.1)

unfoldable pub behind_of : Role → Texts → Texts → ℕ → Reader Declared
behind_of role theirs ours header bytes =
    if has_id header 0x1D then push_of role theirs ours header bytes
    else (if has_id header 0x1C then request_of role theirs ours header bytes
    else (if has_id header 0x1B then response_of theirs ours header bytes
    else (if has_id header 0x1A then final_of header bytes
    else (if has_id header 0x1E then declared_of theirs ours header bytes
    else (if has_id header 0x19 then told_of theirs ours header bytes else Err UnknownId)))))

unfoldable pub net_of : Role → Texts → Texts → Reader Declared
net_of role theirs ours bytes = do
  header ← byte_of bytes
  behind_of role theirs ours header.0 header.1
