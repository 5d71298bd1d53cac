-- What a router shows of itself at a moment.
use Rattle.std.specs.Prelude.{List}
use Rattle.zr_id.specs.Record.{RecordState}
use Rattle.zr_msg.specs.Peer.{PeerState}
use Rattle.zr_glance.specs.declared.glance.Parent.{Parent}
use Rattle.zr_glance.specs.declared.glance.Count.{Count}

-- who stands at the other ends of its links, the link records that it keeps, its parent in the tree of each other router, and how much it knows of what
-- each router's clients declare
pub record GlanceState : Type 0 where
  pub links : List PeerState
  pub records : List RecordState
  pub parents : List Parent
  pub sources : List Count
