-- Whether a link is met at both ends, by what is kept of one.
use Rattle.std.specs.Prelude.{◌&&◌, ◌||◌, not, Bool, is_some}
use Rattle.zr_world_spec.specs.World.{End, WorldState, router_of, is_up, turned}
use Rattle.zr_world_ends.specs.Kept.{KeptEnd}

abbrev pub is_kept_met : WorldState → End → KeptEnd → Bool
is_kept_met w e k = not k.up || (k.unbroken && (not (is_some (router_of w.routers e.1)) || is_up w.ends (turned e)))
