use Rattle.zr_format_spec.specs.Laws.{anywhere}
use Rattle.zr_format_spec.proofs.Follows.{format_is_read}
use Rattle.zr_body.specs.Body.{body}
use Rattle.zr_body.specs.Reading.{body_of}
use Rattle.zr_body.proofs.Bodies.{follows_body}
use Rattle.std.proofs.Common.{refl}
use Rattle.zr_body.proofs.laws.bodies_are_read.Goals as goal

pub returns : goal.returns
returns c = record {
  read = λ place. format_is_read anywhere (body place) (body_of place) (follows_body place);
  again = λ place bytes rest s. (follows_body place).again bytes rest bytes (refl, s) tt;
}
