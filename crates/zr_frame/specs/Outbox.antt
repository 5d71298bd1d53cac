-- What an end of a session has agreed on for what it sends.
use Rattle.std.specs.Prelude.{ℕ, Option, ◌+◌, ◌%◌, ◌^◌, ◌<◌, ◌≤◌}
use Rattle.zr_wirekey.specs.Names.{NameList}
use Rattle.zr_frame.specs.Turn.{modulus_of}

-- The most bytes of a batch, the two bits of the frame numbers' resolution, the number of the next frame, and the texts of keys that have numbers, where
-- this end gives them.
pub record OutboxState : Type 0 where
  pub batch : ℕ
  pub bits : ℕ
  pub next : ℕ
  pub names : Option NameList

-- each outbox is so
pub record IsOutbox (o : OutboxState) : Type 0 where
  pub large : 64 ≤ o.batch
  pub small : o.batch < 2 ^ 16
  pub two_bits : o.bits < 4
  pub in_range : o.next < modulus_of o.bits

-- the outbox behind one frame or fragment
abbrev pub advanced : OutboxState → OutboxState
advanced o = record { batch = o.batch; bits = o.bits; next = (o.next + 1) % modulus_of o.bits; names = o.names }

-- the outbox with these names
abbrev pub with_names : OutboxState → Option NameList → OutboxState
with_names o names = record { batch = o.batch; bits = o.bits; next = o.next; names = names }
