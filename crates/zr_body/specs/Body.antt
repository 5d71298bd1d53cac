-- The bodies of messages (Zenoh protocol 1.0). A header has the id in its low five bits, 0x80 where extensions follow,
-- and two flags of the body's own; a flag that isn't named here is ignored. The value of a body's format is its payload,
-- no bytes where there is none; all else is passed over.
use Rattle.std.specs.Prelude.{◌≡◌, ℕ, ◌-◌, ◌%◌, ◌^◌, Bool, List, [], length, ◌==◌}
use Rattle.zr_bytes.specs.declared.read_error.ReadError.TheVariants.{BadText}
use Rattle.zr_bytes.specs.Flag.{has_id, has_flag}
use Rattle.zr_format_spec.specs.Format.{Format, gives, fails, unknown, choose, ◌then◌, passed, byte, number, below, text, chain}
use Rattle.zr_body.specs.declared.place.Place.{Place}
use Rattle.zr_body.specs.declared.place.Place.TheVariants.{Push, Request, Response}

-- what is passed over where a flag is set, and else nothing
abbrev pub when : Bool → Format (Unit {0}) → Format (Unit {0})
when flag p = choose flag p (gives tt)

-- a byte string of at least one byte
abbrev pub some_text : ℕ → Format (Unit {0})
some_text limit = text limit then λ t. choose (length t == 0) (fails BadText) (gives tt)

-- a time, and the 1 to 16 bytes of the clock that gave it
abbrev pub timestamp : Format (Unit {0})
timestamp = passed number then λ time. some_text 16

-- twice an id, and one more where a schema of at most 255 bytes follows
abbrev pub encoding : Format (Unit {0})
encoding = below (2 ^ 32) then λ n. when (n % 2 == 1) (passed (text 255))

-- extensions, none of which is known here
abbrev pub extensions_if : ℕ → Format (Unit {0})
extensions_if header = when (has_flag header 0x80) (passed (chain []))

abbrev pub payload : Format (List ℕ)
payload = text (2 ^ 32 - 1)

-- PUT: a timestamp at 0x20, an encoding at 0x40, the payload
abbrev pub put : ℕ → Format (List ℕ)
put header =
    when (has_flag header 0x20) timestamp then λ a. when (has_flag header 0x40) encoding then λ b. extensions_if header then λ c. payload

-- DEL: a timestamp at 0x20
abbrev pub del : ℕ → Format (List ℕ)
del header = when (has_flag header 0x20) timestamp then λ a. extensions_if header then λ b. gives []

-- QUERY: a consolidation at 0x20, which may be any number, and parameters at 0x40, which need not be text
abbrev pub query : ℕ → Format (List ℕ)
query header =
    when (has_flag header 0x20) (passed number) then λ a. when (has_flag header 0x40) (passed (text (2 ^ 16 - 1))) then λ b. extensions_if header then λ c. gives []

-- PUT or DEL
abbrev pub sample : ℕ → Format (List ℕ)
sample header = choose (has_id header 1) (put header) (choose (has_id header 2) (del header) unknown)

-- REPLY: a consolidation at 0x20, and a PUT or DEL
abbrev pub reply : ℕ → Format (List ℕ)
reply header = when (has_flag header 0x20) (passed number) then λ a. extensions_if header then λ b. byte then sample

-- ERR: an encoding at 0x40, the payload
abbrev pub err : ℕ → Format (List ℕ)
err header = when (has_flag header 0x40) encoding then λ a. extensions_if header then λ b. payload

-- what follows a header in a message of this kind
abbrev pub behind : Place → ℕ → Format (List ℕ)
behind Push header = sample header
behind Request header = choose (has_id header 3) (query header) unknown
behind Response header = choose (has_id header 4) (reply header) (choose (has_id header 5) (err header) unknown)

-- the payload of a body of a message of this kind
abbrev pub body_format : Place → Format (List ℕ)
body_format place = byte then behind place

-- The bytes are a body of a message of this kind.
abbrev pub IsBodyIn : Place → List ℕ → Type 0
IsBodyIn place bytes = (payload : List ℕ) × (body_format place).spelled payload bytes

-- A body is its bytes.
abbrev pub body : Place → Format (List ℕ)
body place = record { spelled = λ b bytes. (b ≡ bytes) × IsBodyIn place bytes; refused = (body_format place).refused }

-- The bytes are a body of some kind of message.
abbrev pub IsBody : List ℕ → Type 0
IsBody body = (place : Place) × IsBodyIn place body
