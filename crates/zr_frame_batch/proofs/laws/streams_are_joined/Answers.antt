use Rattle.zr_frame_batch.proofs.Cutting.{are_more}
use Rattle.zr_frame_batch.proofs.laws.streams_are_joined.Goals as goal

pub returns : goal.returns
returns c = are_more
