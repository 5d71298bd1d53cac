-- Who stands at the other end of a link.
use Rattle.std.specs.Prelude.{ℕ, List}
use Rattle.zr_msg.specs.declared.peer.Role.{Role}

-- the identifier and the role of a peer, and what the link to it weighs
pub record PeerState : Type 0 where
  pub id : List ℕ
  pub role : Role
  pub weight : ℕ
