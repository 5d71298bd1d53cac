use Rattle.std.proofs.Common.{◌≡◌, ◌++◌}
use Rattle.std.proofs.lemmas.Result.{on_ok_weaker}
use Rattle.zr_session.specs.declared.event.Fed.{Fed}
use Rattle.zr_netrun_batches.specs.Coming.{messages_in}
use Rattle.zr_netrun_batches.proofs.reading.feed.Goals as goal

pub returns : goal.returns
returns c =
    let before : Fed = record { events = c.clear.new.self; bytes = c.args.fed.now.bytes } in
    on_ok_weaker c.put_messages.result
    (λ (h : c.put_messages.new.ready.items ≡ c.args.ready.now.items ++ messages_in c.feed.new.out.events.items).
    (before, c.feed.new.out, c.in_ok-feed.ensures.stream, c.clear.ensures.items, h)) c.put_messages.ensures
