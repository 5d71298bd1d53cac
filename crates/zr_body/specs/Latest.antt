-- Which queries ask for the latest replies alone, and which of two replies is the later one (Zenoh protocol 1.0: the consolidation of a QUERY,
-- and the timestamp of a PUT or DEL). A body is one that was read, so each reading here succeeds.
use Rattle.std.specs.Prelude.{ℕ, ◌==◌, ◌&&◌, ◌||◌, Bool, false, List, [], ◌∷◌, Option, Some, None, Ok, Err, if◌then◌else◌}
use Rattle.std.specs.Cmp.Lexicographic.{slice_cmp}
use Rattle.std.specs.Option.{option_map_or}
use Rattle.std.specs.Ordering.{nat_cmp, on, then_cmp, is_lt}
use Rattle.std.specs.declared.cmp.Ordering.{Ordering}
use Rattle.zr_bytes.specs.Flag.{has_id, has_flag}
use Rattle.zr_bytes.specs.Reading.{Read, ◌>>=◌, byte_of, number_of, text_of}
use Rattle.zr_format_spec.specs.Reading.{Reader}
use Rattle.zr_body.specs.Reading.{passed_if, skip_number, skip_extensions}

-- ---- queries

abbrev pub is_three : Read ℕ → Bool
is_three (Ok x) = x.0 == 3
is_three (Err e) = false

-- a QUERY with the consolidation 3
abbrev pub is_latest : List ℕ → Bool
is_latest [] = false
is_latest (header ∷ bytes) = has_id header 3 && (has_flag header 0x20 && is_three (number_of bytes))

-- ---- replies

-- a REPLY, and no ERR
abbrev pub is_reply : List ℕ → Bool
is_reply [] = false
is_reply (header ∷ bytes) = has_id header 4

-- when a value was given, by which clock
pub record StampState : Type 0 where
  pub time : ℕ
  pub clock : List ℕ

unfoldable pub read_stamp : Reader StampState
read_stamp bytes = do
  t ← number_of bytes
  c ← text_of 16 t.1
  Ok (record { time = t.0; clock = c.0 }, c.1)

-- what was read, if anything was
abbrev pub stamp_read : Read StampState → Option StampState
stamp_read (Ok x) = Some x.0
stamp_read (Err e) = None

-- the timestamp of a PUT or DEL, whose header this is, if it has one
abbrev pub stamp_if : ℕ → List ℕ → Option StampState
stamp_if header bytes = if has_flag header 0x20 && (has_id header 1 || has_id header 2) then stamp_read (read_stamp bytes) else None

-- that of the PUT or DEL in a REPLY, behind the reply's header
unfoldable pub reply_stamp : ℕ → Reader (Option StampState)
reply_stamp header bytes = do
  a ← passed_if (has_flag header 0x20) skip_number bytes
  b ← passed_if (has_flag header 0x80) skip_extensions a.1
  c ← byte_of b.1
  Ok (stamp_if c.0 c.1, c.1)

abbrev pub or_none : Read (Option StampState) → Option StampState
or_none (Ok x) = x.0
or_none (Err e) = None

-- the timestamp of a REPLY, if it has one
abbrev pub stamp_of : List ℕ → Option StampState
stamp_of [] = None
stamp_of (header ∷ bytes) = if has_id header 4 then or_none (reply_stamp header bytes) else None

-- ---- which is later

-- a timestamp as numbers in the order of their importance: none where there is none
abbrev pub numbers_of : Option StampState → List ℕ
numbers_of stamp = option_map_or (λ s. s.time ∷ s.clock) stamp []

abbrev pub stamp_numbers : List ℕ → List ℕ
stamp_numbers body = numbers_of (stamp_of body)

-- One with a timestamp is later than one without; then the greater time, then the greater clock, then the greater body.
abbrev pub body_cmp : List ℕ → List ℕ → Ordering
body_cmp = then_cmp (on stamp_numbers (slice_cmp nat_cmp)) (slice_cmp nat_cmp)

abbrev pub is_later : List ℕ → List ℕ → Bool
is_later body other = is_lt (body_cmp other body)
