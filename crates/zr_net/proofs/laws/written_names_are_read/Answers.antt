use Rattle.zr_format_spec.proofs.Follows.{written_is_read}
use Rattle.zr_wirekey.specs.Writing.{writes_name}
use Rattle.zr_decl.specs.declared.declared.Declared.TheVariants.{Number}
use Rattle.zr_decl.specs.Writing.{IsName}
use Rattle.zr_net.proofs.Messages.{follows_net}
use Rattle.zr_net.proofs.Names.{name_spelled}
use Rattle.zr_net.proofs.laws.written_names_are_read.Goals as goal

pub returns : goal.returns
returns c role theirs ours =
    written_is_read _ _ _ (λ name. Number name.0 name.1) (λ name. writes_name name.0 name.1) IsName (follows_net role theirs ours) (λ name h. name_spelled role theirs ours name.0 name.1 h)
