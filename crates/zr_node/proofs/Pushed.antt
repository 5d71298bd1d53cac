-- The link over which a sample has come.
use Rattle.std.proofs.Common.{◌≡◌, ℕ, List, Some, sym, ap, ◌∙◌}
use Rattle.zr_msg.specs.declared.peer.LinkPeer.{LinkPeer}
use Rattle.zr_node_spec.specs.Tables.{link_at}
use Rattle.zr_node_spec.proofs.Links.{found_number}

-- the link that is found under a number is the one of its own number
pub at_itself : (links : List LinkPeer) (number : ℕ) (l : LinkPeer) → Some l ≡ link_at links number → link_at links l.link.0 ≡ Some l
at_itself links number l e = ap (λ (k : ℕ). link_at links k) (found_number links number l (sym e)) ∙ sym e
