use Rattle.zr_open.proofs.Opens.{client_opens}
use Rattle.zr_open.proofs.laws.clients_open.Goals as goal

pub returns : goal.returns
returns c = client_opens
