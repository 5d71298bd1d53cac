-- What a sample leaves of a router and of what its clients were told: everything as it was.
use Rattle.std.specs.Prelude.{◌≡◌, ℕ, List, [], Option, None}
use Rattle.zr_id.specs.declared.link.LinkNo.{LinkNo}
use Rattle.zr_msg.specs.declared.content.Parts.{Parts}
use Rattle.zr_msg.specs.declared.event.Event.TheVariants.{From}
use Rattle.zr_msg.specs.declared.msg.Msg.{Msg}
use Rattle.zr_msg.specs.declared.msg.Msg.TheVariants.{Push}
use Rattle.zr_node_spec.specs.State.{tables}
use Rattle.zr_told_spec.specs.Hub.{HubState, hub_after, hub_refuses, sends_told}
use Rattle.zr_told_spec.specs.Rows.{map_on}

-- a message changes nothing of a router with its clients, of whom none is told anything, and it is taken
pub record IsCalmWith (h : HubState) (l : LinkNo) (msg : Msg) : Type 0 where
  pub stays : hub_after h (From l msg) ≡ h
  pub silent : (k : ℕ) → sends_told (tables h.node) (map_on h.told k) (From l msg) k ≡ []
  pub taken : hub_refuses h (From l msg) ≡ None

-- so is each sample
abbrev pub IsCalm : HubState → Type 0
IsCalm h = (l : LinkNo) (tree : Option (List ℕ)) (content : Parts) → IsCalmWith h l (Push tree content)
