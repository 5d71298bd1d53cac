use Rattle.zr_frame_batch.proofs.Splitting.{split_begins}
use Rattle.zr_frame_batch.proofs.incoming.split_batch.Goals as goal

pub returns-clause-some : goal.returns-clause-some
returns-clause-some c = split_begins (λ x. x.0.now) (λ x. x.1.now) c.args.piece.now _ c.split.result c.in-len2-up.len_at_least c.length_of.ensures c.split.ensures.some
