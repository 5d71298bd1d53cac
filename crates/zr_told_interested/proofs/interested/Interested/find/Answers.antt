use Rattle.std.proofs.Common.{rules}
use Rattle.std.proofs.lemmas.Result.{IfOk-weaker}
use Rattle.zr_told_interested.proofs.interested.Interested.find.Goals as goal

pub returns-in-None-clause-found : goal.returns-in-None-clause-found
returns-in-None-clause-found c = IfOk-weaker c.links_of.result _ _ (λ v f. f c.args.places.now) c.links_of.ensures

pub returns-in-Some-clause-found : goal.returns-in-Some-clause-found
returns-in-Some-clause-found c = IfOk-weaker c.find.result _ _ (λ v f. f c.args.clients.now (search rules)) c.find.ensures
