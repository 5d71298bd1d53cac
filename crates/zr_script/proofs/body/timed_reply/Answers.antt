use Rattle.zr_script.proofs.Bodies.{timed_read}
use Rattle.zr_script.proofs.body.timed_reply.Goals as goal

pub whole-requires : goal.whole-requires
whole-requires c =
    rw (
      c.as_slice.ensures.value,
      c.in_ok-put_bytes-2.ensures.ok,
      c.in_ok-put_bytes.ensures.ok,
      c.in_ok-put_zint.ensures.ok,
      c.in_ok-push-2.ensures.items,
      c.in_ok-push.ensures.items,
      c.new-bytes.ensures.items,
      c.bytes.ensures.value,
      c.from.ensures,
    ) (timed_read c.args.time c.args.clock.now c.args.payload.now c.bytes.ensures.valid c.requires)
