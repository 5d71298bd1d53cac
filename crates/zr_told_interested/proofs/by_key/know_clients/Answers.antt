use Rattle.std.proofs.Common.{List, subst, arith}
use Rattle.std.proofs.lemmas.List.{drop_all}
use Rattle.zr_local.specs.declared.interest.ClientInterests.{ClientInterests}
use Rattle.zr_local.specs.declared.interest.Interest.{Interest}
use Rattle.zr_told_interested.specs.Keys.{AreKeyed}
use Rattle.zr_told_interested.proofs.Left.{all_hold, next_holds}
use Rattle.zr_told_interested.proofs.by_key.know_clients.Goals as goal

pub loop-client-preserved : goal.loop-client-preserved
loop-client-preserved c =
    next_holds (λ (x : ClientInterests). AreKeyed x.interests) c.args.clients.now c.loop-client.client-index c.client-item.result (omega arith) c.client-item.is (subst (λ (is : List Interest). AreKeyed is) c.as_slice.ensures.value c.know_interests.ensures) c.loop-client.invariant

pub returns : goal.returns
returns c = all_hold (λ (x : ClientInterests). AreKeyed x.interests) c.args.clients.now c.loop-client.client-index (drop_all c.loop-client.client-index c.args.clients.now (omega arith)) c.loop-client.invariant
