-- Each world that a script reaches is calm: its clients were told of what they want, and want no more than there are ids.
use Rattle.std.proofs.Common.{◌≡◌, List, Some, refl}
use Rattle.zr_msg.specs.declared.event.Event.TheVariants.{From}
use Rattle.zr_msg.specs.declared.msg.Msg.TheVariants.{Push}
use Rattle.zr_world_spec.specs.World.{WorldState}
use Rattle.zr_world_spec.specs.Moments.{Numbered, Moment, reached}
use Rattle.zr_world_spec.proofs.Lines.{at_some}
use Rattle.zr_law_settled.proofs.Goes.{Goes, goes_at}
use Rattle.zr_law_settled.proofs.Wanting.{wants_few, hub_takes}
use Rattle.zr_law_fan.specs.Samples.{IsCalm}
use Rattle.zr_law_fans.specs.Scripts.{ScriptsAreCalm}
use Rattle.zr_law_fans.proofs.Right.{router_stays, nobody_told}
use Rattle.zr_law_fans.proofs.Acts.{AreRight, Stands, stands_at}

pub calm : (w : WorldState) → Goes w → AreRight w.routers → IsCalm w
calm w goes right x r found l tree content = record {
  stays = router_stays r (right x r found) l tree content;
  silent = nobody_told r (right x r found) l tree content;
  taken = hub_takes r (From l (Push tree content)) refl (wants_few w goes.weights goes.bounded.1.few x r found (goes.logs.in_order x r found));
}

pub goes : (acts : List Numbered) (m : Moment) → reached acts ≡ Some m → Goes m.world
goes acts m is = at_some (λ next. Goes next.world) (reached acts) m is (goes_at acts)

pub stands : (acts : List Numbered) (m : Moment) → reached acts ≡ Some m → Stands m.world
stands acts m is = at_some (λ next. Stands next.world) (reached acts) m is (stands_at acts)

pub scripts_are_calm : ScriptsAreCalm
scripts_are_calm acts m is = calm m.world (goes acts m is) (stands acts m is).right
