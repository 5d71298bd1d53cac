use Rattle.std.proofs.Common.{arith}
use Rattle.std.proofs.lemmas.List.{drop_all}
use Rattle.zr_index.specs.Meeting.{held}
use Rattle.zr_local.specs.declared.interest.ClientInterests.{ClientInterests}
use Rattle.zr_index.proofs.Adding.{added_all, added_more}
use Rattle.zr_told_interested.specs.Keys.{pairs_on}
use Rattle.zr_told_interested.proofs.by_key.keyed.Goals as goal

pub loop-client-preserved : goal.loop-client-preserved
loop-client-preserved c = λ f.
    added_more (λ (d : ClientInterests). pairs_on d) f c.args.clients.now c.loop-client.client-index c.client-item.result (held c.loop-client.index) (held c.add_client.new.index) _
    (omega arith) c.client-item.is (c.in_ok-add_client.ensures f) (c.loop-client.invariant f)

pub returns : goal.returns
returns c = λ f.
    added_all (λ (d : ClientInterests). pairs_on d) f c.args.clients.now c.loop-client.client-index (held c.loop-client.index) _
    (drop_all c.loop-client.client-index c.args.clients.now (omega arith)) (c.loop-client.invariant f)
