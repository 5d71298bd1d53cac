use Rattle.std.proofs.Common.{◌<◌, length, arith}
use Rattle.std.proofs.lemmas.Bool.Decides.{nat_tests}
use Rattle.zr_session.proofs.Pieces.{rest_first, rest_kept, rest_batch, rest_ends, rest_runs_out, ahead_batch, ahead_ends}
use Rattle.zr_session.proofs.piece.take_piece.Goals as goal

pub pieces-init : goal.pieces-init
pieces-init c = rest_first _ _ _ _ _ c.requires

pub returns-in-Err-clause-stream : goal.returns-in-Err-clause-stream
returns-in-Err-clause-stream c =
    ahead_ends _ _ _ _ _ _ c.in-Some.more.now _ c.pieces.kept _ _ _ _ _ _ c.pieces.invariant c.in-Some.ensures.0 c.in-Some.ensures.1 c.in-Err.ensures

pub pieces-preserved-in-Some : goal.pieces-preserved-in-Some
pieces-preserved-in-Some c =
    ahead_batch _ _ _ _ _ _ c.in-Some.more.now _ _ _ _ _ _ c.pieces.invariant c.in-Some.ensures.0 c.in-Some.ensures.1 c.in-Ok.ensures

pub returns-in-Err-take-clause-stream : goal.returns-in-Err-take-clause-stream
returns-in-Err-take-clause-stream c = rest_runs_out _ _ _ _ _ _ c.take.new.self _ c.pieces.phase _ _ c.pieces.invariant

pub returns-in-Err-read-clause-stream : goal.returns-in-Err-read-clause-stream
returns-in-Err-read-clause-stream c =
    let some : 0 < length c.pieces.rest.now = grind (arith, nat_tests, c.is_empty.ensures, c.pieces-test.true) in
    let short = c.in-Ok-take.ensures.shorter c.pieces.invariant.comes.partial some in
    rest_ends _ _ _ _ _ _ _ c.in-Ok-take.more.now _ _ _ _ _ _ _ _ c.pieces.invariant c.in-Ok-take.ensures.parts (omega (arith, short)) c.in-Some-batch.ensures.some c.in-Err-read.ensures

pub pieces-preserved-in-Ok-read : goal.pieces-preserved-in-Ok-read
pieces-preserved-in-Ok-read c =
    let some : 0 < length c.pieces.rest.now = grind (arith, nat_tests, c.is_empty.ensures, c.pieces-test.true) in
    let short = c.in-Ok-take.ensures.shorter c.pieces.invariant.comes.partial some in
    rw c.clear.ensures
    (rest_batch _ _ _ _ _ _ _ c.in-Ok-take.more.now _ _ _ _ _ _ c.pieces.invariant c.in-Ok-take.ensures.parts (omega (arith, short)) c.in-Some-batch.ensures.some c.in-Ok-read.ensures)

pub pieces-preserved : goal.pieces-preserved
pieces-preserved c =
    let some : 0 < length c.pieces.rest.now = grind (arith, nat_tests, c.is_empty.ensures, c.pieces-test.true) in
    let short = c.in-Ok-take.ensures.shorter c.pieces.invariant.comes.partial some in
    rest_kept _ _ _ _ _ _ _ c.in-Ok-take.more.now _ _ _ c.pieces.invariant c.in-Ok-take.ensures.parts (omega (arith, short)) (c.batch.ensures.none c.in_default-batch.is)
