use Rattle.std.proofs.Common.{arith}
use Rattle.zr_oam.proofs.Fitting.{bytes_by}
use Rattle.zr_oam.proofs.reading.are_bytes.Goals as goal

pub returns : goal.returns
returns c = bytes_by c.args.bytes.now (λ k l. let t = c.type_inv.bytes k in omega (arith, t))
