-- The words behind a command's name are short, as the line is.
use Rattle.zr_script.proofs.Parting.{more_short}
use Rattle.zr_script.proofs.Words.{words_short}
use Rattle.zr_script.proofs.line.command.Goals as goal

pub by_name-requires : goal.by_name-requires
by_name-requires c = more_short _ _ _ c.in-Some.ensures (words_short c.args.line.now c.requires)
