-- Network messages of frames, as they are read (Zenoh protocol 1.0, "Network messages").
use Rattle.std.specs.Prelude.{ℕ, Bool, false, List, [], ◌∷◌, Ok, if◌then◌else◌, nat_le, bit_and}
use Rattle.zr_bytes.specs.Flag.{has_id}
use Rattle.zr_bytes.specs.Reading.{Read, ◌>>=◌}
use Rattle.zr_wirekey.specs.Scopes.{Texts}
use Rattle.zr_msg.specs.declared.peer.Role.{Role}
use Rattle.zr_oam.specs.Reading.{oam_of}
use Rattle.zr_net.specs.Reading.{net_of}
use Rattle.zr_session.specs.declared.carried.Carried.{Carried}
use Rattle.zr_session.specs.declared.carried.Carried.TheVariants.{BetweenRouters, Network}

-- Within a frame such a byte begins the next network message; any other begins a transport message.
abbrev pub begins_network : List ℕ → Bool
begins_network [] = false
begins_network (header ∷ bytes) = nat_le 0x19 (bit_and header 0x1F)

-- it begins an OAM message
abbrev pub begins_oam : List ℕ → Bool
begins_oam [] = false
begins_oam (header ∷ bytes) = has_id header 0x1F

unfoldable pub between_routers_of : List ℕ → Read Carried
between_routers_of bytes = do
  m ← oam_of bytes
  Ok (BetweenRouters m.0, m.1)

-- numbers of this end are not taken from the peer
unfoldable pub network_of : Role → Texts → List ℕ → Read Carried
network_of role keys bytes = do
  d ← net_of role keys [] bytes
  Ok (Network d.0, d.1)

-- the message at the front, of a peer of this role that declared these numbered texts
unfoldable pub carried_of : Role → Texts → List ℕ → Read Carried
carried_of role keys bytes = if begins_oam bytes then between_routers_of bytes else network_of role keys bytes
