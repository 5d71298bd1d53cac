use Rattle.std.proofs.Common.{◌≡◌, ◌∷◌, length, arith}
use Rattle.zr_bytes.specs.Number.{writes}
use Rattle.zr_oam.proofs.Contents.{own_put, own_fails}
use Rattle.zr_oam.proofs.writing.put_record.Goals as goal

pub returns-clause-ok : goal.returns-clause-ok
returns-clause-ok c =
    let at : c.len-start.result ≡ length c.put_start.new.out.items = omega (arith, c.len-start.ensures, c.put_start.new.out.ok.0) in
    own_put _ _ (0x5F ∷ writes c.args.id) _ _ _ _ _ c.in_ok-put_start.ensures.ok at c.in_ok-put_content.ensures.ok c.put_length.ensures.ok

pub returns-clause-err : goal.returns-clause-err
returns-clause-err c =
    let at : c.len-start.result ≡ length c.put_start.new.out.items = omega (arith, c.len-start.ensures, c.put_start.new.out.ok.0) in
    own_fails _ _ (0x5F ∷ writes c.args.id) _ _ _ _ _ c.in_ok-put_start.ensures.ok at c.in_ok-put_content.ensures.ok c.put_length.ensures.err
