use Rattle.std.proofs.lemmas.Result.{on_err_weaker}
use Rattle.zr_carrier.specs.Kept.{wires_in}
use Rattle.zr_carrier.specs.Wire.{AreSameBut}
use Rattle.zr_carrier.proofs.Setting.{closed_again}
use Rattle.zr_carrier.proofs.plain.PlainCarrier.open.Goals as goal

pub returns-then-is_err-clause-err : goal.returns-then-is_err-clause-err
returns-then-is_err-clause-err c =
    let old = wires_in c.args.self.now.wires in
    let mid = wires_in c.put_wires-put.new.self.wires in
    on_err_weaker c.put_wires-put.result
    (λ (h : AreSameBut c.args.router c.args.neighbour old mid). closed_again c.args.router c.args.neighbour old mid (wires_in c.close.new.self.wires) c.requires.0 c.requires.1 h c.close.ensures)
    c.put_wires-put.ensures.others
