-- The laws of bodies: what a reading call answers is what the bytes spell, and what is passed on is read again.
use Rattle.std.specs.Prelude.{◌≡◌, ℕ, List, ◌++◌, Ok}
use Rattle.zr_bytes.specs.Spelling.{HasOneReading}
use Rattle.zr_format_spec.specs.Laws.{anywhere, IsReadBy}
use Rattle.zr_body.specs.declared.place.Place.{Place}
use Rattle.zr_body.specs.Body.{IsBodyIn, body}
use Rattle.zr_body.specs.Reading.{body_of}

-- A body is read exactly where the bytes begin with one of the place, byte for byte, and refused exactly where the
-- format of the place refuses the bytes for that cause.
pub record BodiesAreRead : Type 0 where
  pub read : (place : Place) → IsReadBy anywhere (body place) (body_of place)
  pub again : (place : Place) (bytes rest : List ℕ) → IsBodyIn place bytes → body_of place (bytes ++ rest) ≡ Ok (bytes, rest)

-- No body begins another one.
abbrev pub BodiesHaveOneReading : Type 0
BodiesHaveOneReading = (place : Place) → HasOneReading (body place).spelled
