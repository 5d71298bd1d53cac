-- In each settled moment logs agree: each router knows of each one that it reaches as many changes as it made, and the set that they led to, which
-- is what its clients have declared.
use Rattle.std.proofs.Common.{◌≡◌, Some, sym, ap, ◌∙◌}
use Rattle.zr_log.specs.Known.{position, decls}
use Rattle.zr_world_spec.specs.World.{RouterState, router_of}
use Rattle.zr_world_spec.specs.Moments as moments
use Rattle.zr_world_spec.proofs.Lines.{at_some}
use Rattle.zr_law_settled.specs.Tables.{SettledLogsAgree}
use Rattle.zr_law_settled.proofs.Spreading.{Name}
use Rattle.zr_law_settled.proofs.Order.{Ascend, routers_ascend}
use Rattle.zr_law_settled.proofs.Logs.{knows_logs}
use Rattle.zr_law_settled.proofs.LogRest.{known_whole}
use Rattle.zr_law_settled.proofs.Making.{sets_at, SetsStand, sets_stand}

pub logs_agree : SettledLogsAgree
logs_agree acts m is settled x z path rx rz fx fz walk = record {
  position_is = whole;
  decls_are = here x rx fx ∙ ap (stand.sets.made z) whole ∙ sym (here z rz fz);
  declared_is = ap (decls rz.node.known) (sym (stand.logs.logs.own_name z rz fz)) ∙ stand.sets.rows z rz fz;
}
  where
    stand : SetsStand m
    stand = at_some SetsStand (moments.reached acts) m is (sets_stand acts)

    whole : position rx.node.known z ≡ position rz.node.known z
    whole = known_whole m.world stand.logs.stands.sound stand.logs.stands.holds stand.logs.logs settled (at_some Ascend (moments.reached acts) m is (routers_ascend acts)) z rz fz x path rx fx walk

    here : (y : Name) (r : RouterState) → router_of m.world.routers y ≡ Some r → decls r.node.known z ≡ stand.sets.made z (position r.node.known z)
    here y r found = sym (ap (λ o. sets_at o z) found) ∙ stand.sets.known y z ∙ ap (λ o. stand.sets.made z (knows_logs o z).number) found
