use Rattle.std.proofs.lemmas.Result.{IfOk-weaker}
use Rattle.zr_told_interested.proofs.Reaching.{among_all, links_ascend}
use Rattle.zr_told_interested.proofs.interested.links_of.Goals as goal

pub returns : goal.returns
returns c =
    IfOk-weaker c.numbers_of.result _ _ (λ v e qs. record { ascend = links_ascend c.args.clients.now v.items c.requires e; among = among_all c.args.clients.now qs v.items e })
    c.numbers_of.ensures
