-- Network messages (Zenoh protocol 1.0, "Network messages"). A header has the id in its low five bits, 0x80 where extensions follow, and two flags
-- of the message's own: N (0x20), the key has a suffix, and M (0x40), the sender declared its scope. A flag that isn't named here is ignored.
use Rattle.std.specs.Prelude.{ℕ, ◌^◌}
use Rattle.zr_bytes.specs.Flag.{has_id}
use Rattle.zr_format_spec.specs.Format.{Format, gives, unknown, choose, ◌then◌, ◌allows◌, byte, below, extensions}
use Rattle.zr_wirekey.specs.Scopes.{Texts}
use Rattle.zr_body.specs.declared.place.Place.TheVariants as place
use Rattle.zr_body.specs.Body.{body}
use Rattle.zr_msg.specs.declared.msg.Msg.TheVariants.{Push, Request, Response, Final}
use Rattle.zr_msg.specs.declared.peer.Role.{Role}
use Rattle.zr_decl.specs.declared.declared.Declared.{Declared}
use Rattle.zr_decl.specs.declared.declared.Declared.TheVariants.{Told}
use Rattle.zr_decl.specs.Declare.{wire_key, declare, interest}
use Rattle.zr_net.specs.Exts.{push_known, request_known, response_known, final_known, number_at, bytes_at, extras_of, target_of, tree_of}

-- PUSH: a key, and a PUT or DEL
abbrev pub push : Role → Texts → Texts → ℕ → Format Declared
push role theirs ours header =
    wire_key theirs ours header then λ key. extensions (push_known role) header then λ exts.
    tree_of (bytes_at 7 exts) allows λ tree. body place.Push then λ body.
    gives (Told (Push tree (record { key = key; extras = extras_of exts; body = body })))

-- REQUEST: an id, a key, and a QUERY
abbrev pub request : Role → Texts → Texts → ℕ → Format Declared
request role theirs ours header =
    below (2 ^ 32) then λ id. wire_key theirs ours header then λ key. extensions (request_known role) header then λ exts.
    tree_of (bytes_at 7 exts) allows λ tree. target_of (number_at 4 exts) allows λ target. body place.Request then λ body.
    gives (Told (Request tree id target (record { key = key; extras = extras_of exts; body = body })))

-- RESPONSE: the request's id, a key, and a REPLY or ERR
abbrev pub response : Texts → Texts → ℕ → Format Declared
response theirs ours header =
    below (2 ^ 32) then λ id. wire_key theirs ours header then λ key. extensions response_known header then λ exts. body place.Response then λ body.
    gives (Told (Response id (record { key = key; extras = extras_of exts; body = body })))

-- RESPONSE_FINAL: the request's id
abbrev pub final : ℕ → Format Declared
final header = below (2 ^ 32) then λ id. extensions final_known header then λ exts. gives (Told (Final id (extras_of exts)))

-- a DECLARE, whatever interest it answers
abbrev pub declared : Texts → Texts → ℕ → Format Declared
declared theirs ours header = declare theirs ours header then λ d. gives d.0

-- an INTEREST
abbrev pub asked : Texts → Texts → ℕ → Format Declared
asked theirs ours header = interest theirs ours header then λ m. gives (Told m)

-- what follows a header, on a link to a peer of this role, which declared `theirs` to a receiver that declared `ours`
abbrev pub behind : Role → Texts → Texts → ℕ → Format Declared
behind role theirs ours header =
    choose (has_id header 0x1D) (push role theirs ours header)
    (choose (has_id header 0x1C) (request role theirs ours header)
    (choose (has_id header 0x1B) (response theirs ours header)
    (choose (has_id header 0x1A) (final header)
    (choose (has_id header 0x1E) (declared theirs ours header)
    (choose (has_id header 0x19) (asked theirs ours header) unknown)))))

abbrev pub net_format : Role → Texts → Texts → Format Declared
net_format role theirs ours = byte then λ header. behind role theirs ours header
