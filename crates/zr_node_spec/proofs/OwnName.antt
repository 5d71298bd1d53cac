-- Whatever a router hears of links and records, it stays who it is.
use Rattle.std.proofs.Common.{◌≡◌, ℕ, Bool, true, false, cond, Option, Some, None, refl}
use Rattle.zr_id.specs.Record.{RecordState}
use Rattle.zr_graph.specs.Base.{BaseState, is_newer, kept, after_record}
use Rattle.zr_msg.specs.Peer.{PeerState}
use Rattle.zr_msg.specs.declared.peer.LinkPeer.{LinkPeer}
use Rattle.zr_msg.specs.declared.peer.Role.{Role}
use Rattle.zr_msg.specs.declared.peer.Role.TheVariants.{Client, Router}
use Rattle.zr_node_spec.specs.Tables.{leads_to_router}
use Rattle.zr_node_spec.specs.State.{NodeState}
use Rattle.zr_node_spec.specs.Table.{base_up, base_down, base_parted, base_told}

pub me_up : (b : BaseState) (peer : PeerState) (role : Role) → (base_up b peer role).me ≡ b.me
me_up b peer Client = refl
me_up b peer Router = refl

me_parted : (b : BaseState) (peer : PeerState) (role : Role) → (base_parted b peer role).me ≡ b.me
me_parted b peer Client = refl
me_parted b peer Router = refl

pub me_down : (b : BaseState) (o : Option LinkPeer) → (base_down b o).me ≡ b.me
me_down b None = refl
me_down b (Some l) = me_parted b l.peer l.peer.role

-- a record that is kept leaves the base that of its router
pub me_record : (b : BaseState) (r : RecordState) → (after_record b r).me ≡ b.me
me_record b r = by (is_newer b r)
  where
    by : (newer : Bool) → (cond newer (kept b r) b).me ≡ b.me
    by true = refl
    by false = refl

pub me_told : (node : NodeState) (from : ℕ) (r : RecordState) → (base_told node from r).me ≡ node.base.me
me_told node from r = by (leads_to_router node.links from)
  where
    by : (t : Bool) → (cond t (after_record node.base r) node.base).me ≡ node.base.me
    by true = me_record node.base r
    by false = refl
