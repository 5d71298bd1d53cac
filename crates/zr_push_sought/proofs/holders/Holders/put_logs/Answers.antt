use Rattle.std.proofs.Common.{List, ◌++◌, take, subst, arith}
use Rattle.std.proofs.lemmas.List.{take_all}
use Rattle.zr_log.specs.declared.log.Log.{Log}
use Rattle.zr_push_sought.specs.Holders.{HoldJust}
use Rattle.zr_push_sought.specs.Pairs.{of_sources}
use Rattle.zr_push_sought.proofs.Alike.{hold_alike, log_in}
use Rattle.zr_push_sought.proofs.holders.Holders.put_logs.Goals as goal

pub loop-log-preserved : goal.loop-log-preserved
loop-log-preserved c = λ rest just.
    hold_alike c.put_log.new.self _ _ (log_in c.args.me c.args.logs.now c.loop-log.log-index c.log-item.result rest (omega arith) c.log-item.is)
    (c.put_log.ensures (of_sources c.args.me (take c.loop-log.log-index c.args.logs.now) ++ rest) (c.loop-log.invariant rest just))

pub returns : goal.returns
returns c = λ rest just.
    subst (λ (logs : List Log). HoldJust (of_sources c.args.me logs ++ rest) c.loop-log.self) (take_all c.loop-log.log-index c.args.logs.now (omega arith)) (c.loop-log.invariant rest just)
