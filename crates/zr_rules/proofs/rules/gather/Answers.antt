-- What was read last stands behind what was gathered, though there was no room for it.
use Rattle.std.proofs.Common.{◌++◌, take}
use Rattle.zr_rules.proofs.Gathering.{gathers_more}
use Rattle.zr_rules.proofs.rules.gather.Goals as goal

pub returns-then-is_err-clause-gathered : goal.returns-then-is_err-clause-gathered
returns-then-is_err-clause-gathered g c = (
  c.reading.text.items ++ take c.in-Bytes.count c.next_piece.new.into,
  gathers_more c.reading.text.items c.in-Bytes.count c.next_piece.new.into (g.S.Source.left c.args.input.now) (g.S.Source.left c.reading.input) (g.S.Source.left c.next_piece.new.input) c.reading.invariant.gathers c.in-Bytes.ensures.bytes.2,
  tt,
)
