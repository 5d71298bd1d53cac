use Rattle.std.specs.Prelude.{None}
use Rattle.zr_format_spec.proofs.Follows.{written_is_read}
use Rattle.zr_wirekey.specs.Writing.{writes_name}
use Rattle.zr_decl.specs.declared.declared.Declared.TheVariants.{Number}
use Rattle.zr_decl.specs.Writing.{IsName}
use Rattle.zr_decl.proofs.Messages.{follows_message}
use Rattle.zr_decl.proofs.Names.{name_spelled}
use Rattle.zr_decl.proofs.laws.written_names_are_read.Goals as goal

pub returns : goal.returns
returns c theirs ours =
    written_is_read _ _ _ (λ name. (Number name.0 name.1, None)) (λ name. writes_name name.0 name.1) IsName (follows_message theirs ours) (λ name h. name_spelled theirs ours name.0 name.1 h)
