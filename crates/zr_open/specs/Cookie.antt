-- The cookie by which an accepting end knows the peer of its INIT again.
use Rattle.std.specs.Prelude.{ℕ, List, [], ◌∷◌, ◌++◌, length}
use Rattle.std.specs.Int.{w64, to_le_bytes}
use Rattle.sha2.specs.Sha256.{sha256}
use Rattle.zr_open.specs.Opening.{OpeningState}

-- SHA-256 of the secret, the link's number as eight bytes, the low one first, the identifier's length as one byte, and the
-- identifier
abbrev pub cookie_of : OpeningState → List ℕ → List ℕ
cookie_of o id = sha256 (((o.secret ++ to_le_bytes w64 o.number) ++ length id ∷ []) ++ id)
