use Rattle.std.proofs.Common.{length, arith}
use Rattle.zr_frame_batch.proofs.Cutting.{cut_some, cut_one}
use Rattle.zr_frame_batch.proofs.laws.streams_are_cut_once.Goals as goal

pub returns : goal.returns
returns c = record { some = λ bytes. cut_some (length bytes) bytes (omega arith); one = cut_one }
