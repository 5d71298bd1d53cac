use Rattle.std.proofs.Common.{◌∙◌}
use Rattle.zr_frame.proofs.Heads.{written_short}
use Rattle.zr_frame.proofs.packer.fragment_head.Goals as goal

pub returns-clause-short : goal.returns-clause-short
returns-clause-short c = written_short c.args.more c.args.number _ _ (c.new-piece.ensures ∙ c.new.ensures.items) c.written.ensures
