-- Which ends a write that failed may stand behind.
use Rattle.zr_link.specs.declared.end.LinkEnd.{LinkEnd}
use Rattle.zr_link.specs.declared.end.LinkEnd.TheVariants as end

-- the ends of a reader of whose writes one may have failed: that one ended it, or came behind its end and changes nothing of that
abbrev pub MayHaveFailed : LinkEnd → Type 0
MayHaveFailed end.ReadFault = ⊥
MayHaveFailed end.WriteFault = Unit {0}
MayHaveFailed end.PeerEnded = ⊥
MayHaveFailed (end.Closed reason) = Unit {0}
MayHaveFailed (end.Peer reason) = Unit {0}
MayHaveFailed end.CrewRefused = Unit {0}
MayHaveFailed end.Turns = ⊥
MayHaveFailed end.NoMemory = ⊥
