use Rattle.zr_frame_batch.proofs.Cutting.{written_cut}
use Rattle.zr_frame_batch.proofs.laws.written_batches_are_cut.Goals as goal

pub returns : goal.returns
returns c = written_cut
