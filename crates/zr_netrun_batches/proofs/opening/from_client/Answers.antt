use Rattle.zr_netrun_batches.proofs.Opens.{client_leads}
use Rattle.zr_netrun_batches.proofs.opening.from_client.Goals as goal

pub new-requires : goal.new-requires
new-requires c =
    client_leads c.packed_messages_are_read_back.ensures c.opening.result 0 c.args.client c.accepting-acceptor.result c.greet.new.acceptor c.new-outbox.result c.in_ok-greet.ensures c.opening.ensures.named
    c.accepting-acceptor.ensures.value c.new-outbox.ensures
