-- Bodies that a script makes, and what is seen of any body.
use Rattle.std.specs.Prelude.{◌≡◌, ◌≤◌, ℕ, Bool, false, List, [], ◌∷◌, length, drop, Ok, Err, if◌then◌else◌}
use Rattle.zr_bytes.specs.Flag.{has_id}
use Rattle.zr_bytes.specs.Text.{writes_text}
use Rattle.zr_bytes.specs.Reading.{Read}
use Rattle.zr_body.specs.Body.{IsBody}
use Rattle.zr_body.specs.Reading.{read_put, read_reply, read_err}

-- a PUT of a payload, without flags and extensions
abbrev pub put_body : List ℕ → List ℕ
put_body payload = 1 ∷ writes_text payload

-- a DEL without flags and extensions
abbrev pub del_body : List ℕ
del_body = 2 ∷ []

-- a DEL, by its id
abbrev pub is_del : List ℕ → Bool
is_del [] = false
is_del (header ∷ bytes) = has_id header 2

-- the value that was read; no bytes where there is none
abbrev pub value_read : Read (List ℕ) → List ℕ
value_read (Ok x) = x.0
value_read (Err e) = []

-- the payload of a PUT, of the PUT in a REPLY, or of an ERR; any other body has none, and none is no bytes
abbrev pub payload_of : List ℕ → List ℕ
payload_of [] = []
payload_of (header ∷ bytes) =
    if has_id header 1 then value_read (read_put header bytes)
    else (if has_id header 4 then value_read (read_reply header bytes)
    else (if has_id header 5 then value_read (read_err header bytes) else []))

-- The bytes are a body, whose payload stands from here on to their end.
abbrev pub IsBodyTo : ℕ → List ℕ → Type 0
IsBodyTo start body = IsBody body × (start ≤ length body) × (drop start body ≡ payload_of body)
