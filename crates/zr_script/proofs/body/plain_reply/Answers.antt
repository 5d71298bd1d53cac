use Rattle.zr_script.proofs.Bodies.{reply_read}
use Rattle.zr_script.proofs.body.plain_reply.Goals as goal

pub whole-requires : goal.whole-requires
whole-requires c =
    rw (c.as_slice.ensures.value, c.in_ok-write_body.ensures.ok, c.in_ok-push.ensures.items, c.new-bytes.ensures.items, c.in_ok-sample.ensures) (reply_read c.args.payload.now c.requires)
