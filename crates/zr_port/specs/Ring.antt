-- The ring of a link that has come up.
use Rattle.std.specs.Prelude.{◌≡◌, ℕ, ◌+◌, List, length}
use Rattle.zr_id.specs.declared.link.LinkNo.{LinkNo}
use Rattle.zr_ring.specs.declared.name.RingName.{RingName}
use Rattle.zr_port.specs.declared.entry.Entry.{Entry}

-- the name is that of the ring of a router's link, which the last entry of a list has brought up
abbrev pub IsRingOf : List ℕ → LinkNo → List Entry → RingName → Type 0
IsRingOf router link h name = (name.router ≡ router) × (name.link ≡ link) × (length h ≡ name.since + 1)
