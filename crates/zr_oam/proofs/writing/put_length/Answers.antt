use Rattle.std.proofs.Common.{◌≡◌, ◌-◌, ◌<◌, length, arith}
use Rattle.zr_oam.proofs.Contents.{length_put}
use Rattle.zr_oam.proofs.writing.put_length.Goals as goal

pub returns-then-count-from-clause-ok : goal.returns-then-count-from-clause-ok
returns-then-count-from-clause-ok c =
    let sized : c.len.result ≡ length c.args.out.now.items = omega (arith, c.len.ensures, c.args.out.now.ok.0) in
    let short : c.len.result - c.args.start < 128 = omega (arith, c.if-count-from.true, c.from.ensures) in
    length_put _ _ _ sized c.requires.first c.requires.within short
