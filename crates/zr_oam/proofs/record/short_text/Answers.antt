use Rattle.std.proofs.Common.{◌≡◌, ◌≤◌, Ok, length, arith}
use Rattle.zr_bytes.specs.Reading.{byte_of}
use Rattle.zr_oam.proofs.Contents.{text_of_short}
use Rattle.zr_oam.proofs.record.short_text.Goals as goal

pub returns-in-Ok : goal.returns-in-Ok
returns-in-Ok c =
    let is : byte_of c.args.c.now ≡ Ok (c.in-Ok.count, c.u8.new.self) = rw (← c.fork-ahead.ensures) c.in-Ok.ensures in
    let enough : c.in-Ok.count ≤ length c.u8.new.self = omega (arith, c.if-from-left.true, c.from.ensures, c.left.ensures) in
    let text = text_of_short _ _ _ is c.if-count-lt-ONE_BYTE.true enough in
    rw (c.split_at.ensures.front, c.split_at.ensures.back, c.as_slice.ensures, c.from-in-Ok.ensures) text
