use Rattle.std.proofs.Common.{◌∙◌, ap}
use Rattle.zr_bytes.specs.Reading.{number_of}
use Rattle.zr_bytes.specs.declared.read_error.ReadError.TheVariants.{Short}
use Rattle.zr_bytes.proofs.Numbers.{read_begins, begins_read, refused_inside, inside_refused}
use Rattle.zr_bytes.proofs.laws.numbers_are_read.Goals as goal

pub returns : goal.returns
returns c = record {
  ok = λ bytes rest value. (read_begins 8 value bytes rest, λ begins. ap number_of begins.2 ∙ begins_read 8 value begins.0 rest begins.1);
  short = λ bytes. (λ refused. (refused_inside 8 bytes Short refused).1, inside_refused 8 bytes);
  no_other = λ bytes e refused. (refused_inside 8 bytes e refused).0;
}
