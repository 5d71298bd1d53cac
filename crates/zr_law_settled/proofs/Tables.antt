-- In each settled moment of each script tables agree: acts lead to moments at which what is known of worlds holds.
use Rattle.zr_world_spec.specs.Moments.{reached}
use Rattle.zr_world_spec.proofs.Lines.{at_some, prefix_reached}
use Rattle.zr_law_settled.specs.Tables.{SettledTablesAgree}
use Rattle.zr_law_settled.proofs.Keeping.{Stands, moments_hold}
use Rattle.zr_law_settled.proofs.Rest.{tables_agree}

pub settled_tables_agree : SettledTablesAgree
settled_tables_agree ls before rest cut =
    let m = prefix_reached ls before rest cut in
    let stands = at_some Stands (reached before) m.0 m.1 (moments_hold before) in
    (m.0, m.1, λ settled. tables_agree m.0.world stands.sound stands.holds settled)
