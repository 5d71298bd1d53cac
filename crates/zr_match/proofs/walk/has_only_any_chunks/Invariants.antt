-- What is left decides.
use Rattle.std.proofs.Common.{◌≡◌}
use Rattle.std.specs.List.{list_all}
use Rattle.zr_key.specs.Key.{expression_of}
use Rattle.zr_match.specs.Table.{is_any_chunks}
use Rattle.zr_match.proofs.ChunkSteps.{chunks_left, room}
use Rattle.zr_match.proofs.walk.has_only_any_chunks.Given as goal

abbrev pub invariant-loop-rest : goal.invariant-loop-rest
invariant-loop-rest l = list_all is_any_chunks (chunks_left l.rest) ≡ list_all is_any_chunks (expression_of l.text)

abbrev pub decreases-loop-rest : goal.decreases-loop-rest
decreases-loop-rest l = room l.rest
