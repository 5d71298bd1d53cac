use Rattle.zr_law_settled.proofs.ClientKeeping as law
use Rattle.zr_law_settled.proofs.settled_rows_are_of_clients.Goals as goal

pub returns : goal.returns
returns c = law.rows_are_of_clients
