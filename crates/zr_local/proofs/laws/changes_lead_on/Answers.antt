use Rattle.zr_local.proofs.Leads.{lead_on}
use Rattle.zr_local.proofs.laws.changes_lead_on.Goals as goal

pub returns : goal.returns
returns c = lead_on
