-- What is left decides.
use Rattle.std.proofs.Common.{◌≡◌, not}
use Rattle.std.specs.List.{list_all}
use Rattle.zr_key.specs.Key.{expression_of}
use Rattle.zr_match.specs.Match.{is_verbatim_chunk}
use Rattle.zr_match.proofs.ChunkSteps.{chunks_left, room}
use Rattle.zr_match.proofs.walk.has_no_verbatim.Given as goal

abbrev pub invariant-loop-rest : goal.invariant-loop-rest
invariant-loop-rest l = list_all (λ x. not (is_verbatim_chunk x)) (chunks_left l.rest) ≡ list_all (λ x. not (is_verbatim_chunk x)) (expression_of l.text)

abbrev pub decreases-loop-rest : goal.decreases-loop-rest
decreases-loop-rest l = room l.rest
