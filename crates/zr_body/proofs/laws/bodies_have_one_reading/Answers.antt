use Rattle.zr_format_spec.proofs.Follows.{one_reading_anywhere}
use Rattle.zr_body.specs.Body.{body}
use Rattle.zr_body.specs.Reading.{body_of}
use Rattle.zr_body.proofs.Bodies.{follows_body}
use Rattle.zr_body.proofs.laws.bodies_have_one_reading.Goals as goal

pub returns : goal.returns
returns c place = one_reading_anywhere (body place) (body_of place) (follows_body place)
