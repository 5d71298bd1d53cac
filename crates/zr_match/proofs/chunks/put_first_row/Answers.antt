use Rattle.std.proofs.Common.{◌≡◌, ◌∷◌, [], Bool, length-set, ◌∙◌, arith, length, drop}
use Rattle.zr_key.specs.Key.{chunk_of, expression_of}
use Rattle.zr_match.specs.Table.{chunk_signs}
use Rattle.zr_match.proofs.Rows.{first_more, first_whole, drop_next, drop_none, length_suc}
use Rattle.zr_match.proofs.ChunkSteps.{chunks_left, chunks_cut, chunks_end, room_at, room_more}
use Rattle.zr_match.proofs.chunks.put_first_row.Goals as goal

pub loop-rest-preserved : goal.loop-rest-preserved
loop-rest-preserved c =
    let i = c.loop-rest.invariant in
    let rest : drop c.loop-rest.at (expression_of c.args.second.now) ≡ chunk_of c.cut.result.0.now ∷ chunks_left c.cut.result.1 =
    i.rest ∙ chunks_cut c.loop-rest.rest c.in-Some.bytes c.cut.result.0.now c.cut.result.1 c.in-Some.is c.cut.ensures.parts in
    let had = room_at c.loop-rest.rest c.in-Some.bytes c.in-Some.is in
    let has = room_more c.cut.result.1 (length c.in-Some.bytes.now) c.cut.ensures.shorter in
    record {
      within = omega (arith, length_suc c.loop-rest.at (expression_of c.args.second.now) _ _ rest);
      room = omega arith;
      filled = first_more (chunk_signs c.args.expands) (expression_of c.args.second.now) c.loop-rest.at _ _ c.loop-rest.row c.first_place.result i.filled rest (omega (arith, length-set {A = Bool})) c.first_place.ensures;
      rest = drop_next c.loop-rest.at (expression_of c.args.second.now) _ _ rest;
    }

pub returns-clause-row : goal.returns-clause-row
returns-clause-row c = first_whole (chunk_signs c.args.expands) (expression_of c.args.second.now) c.loop-rest.at c.loop-rest.row c.loop-rest.invariant.filled
    (c.loop-rest.invariant.rest ∙ chunks_end c.loop-rest.rest c.in_default.is)

pub returns-clause-last : goal.returns-clause-last
returns-clause-last c =
    let none : drop c.loop-rest.at (expression_of c.args.second.now) ≡ [] = c.loop-rest.invariant.rest ∙ chunks_end c.loop-rest.rest c.in_default.is in
    omega (arith, drop_none c.loop-rest.at (expression_of c.args.second.now) none)
