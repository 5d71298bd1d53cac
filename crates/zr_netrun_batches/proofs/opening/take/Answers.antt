use Rattle.zr_netrun_batches.proofs.Batch.{batch_taken, read_again}
use Rattle.zr_netrun_batches.proofs.opening.take.Goals as goal

pub returns-in-Going : goal.returns-in-Going
returns-in-Going c =
    let fed = c.in_ok-feed.ensures in (
      fed.stream.confirmed,
      λ o p t stands is batch.
          batch_taken c.args.session.now c.feed.new.self c.args.batch.now c.new-fed.result c.feed.new.out c.in_ok-feed.field-0 o p t fed.stream c.new-fed.ensures.events c.new-fed.ensures.bytes fed.fate
          c.in-Going.is (read_again c.written_messages_are_read.ensures t batch) stands is batch,
    )
