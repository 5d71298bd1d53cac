use Rattle.std.proofs.Common.{sym, ap, ◌∙◌, arith, length}
use Rattle.zr_body.specs.Reading.{payload_in}
use Rattle.zr_body.proofs.Payloads.{payload_fits, read_is_body}
use Rattle.zr_body.proofs.reading.read_body.Goals as goal

pub overflow_sub-length : goal.overflow_sub-length
overflow_sub-length c = omega (arith, c.left.ensures, c.left-2.ensures, ap length c.fork-ahead.ensures, payload_fits _ _ _ _ c.in_ok-payload.ensures)

pub overflow_sub-length-2 : goal.overflow_sub-length-2
overflow_sub-length-2 c = omega (arith, c.left.ensures, c.left-2.ensures, ap length c.fork-ahead.ensures, payload_fits _ _ _ _ c.in_ok-payload.ensures)

pub of-requires : goal.of-requires
of-requires c =
    let place = c.args.place in
    let read = ap (payload_in place) (sym c.fork-ahead.ensures) ∙ c.in_ok-payload.ensures in
    rw (c.left.ensures, c.left-2.ensures, c.as_slice.ensures) (read_is_body place c.args.c.now c.body.new.c c.in_ok-payload.payload.now read)
