use Rattle.std.proofs.Common.{◌≡◌, ◌∷◌, Bool, length-set, ◌∙◌, refl, arith, length, drop}
use Rattle.zr_key.specs.Key.{chunk_of, expression_of}
use Rattle.zr_match.specs.Table.{chunk_signs, table}
use Rattle.zr_match.proofs.Rows.{next_more, next_whole, drop_next}
use Rattle.zr_match.proofs.ChunkSteps.{chunks_left, chunks_cut, chunks_end, room_at, room_more, part_fits}
use Rattle.zr_match.proofs.chunks.put_next_row.Goals as goal

pub place-requires : goal.place-requires
place-requires c =
    let had = room_at c.loop-rest.rest c.in-Some.bytes c.in-Some.is in
    omega (arith, part_fits c.in-Some.bytes.now c.cut.result.0.now _ c.cut.ensures.parts)

pub loop-rest-preserved : goal.loop-rest-preserved
loop-rest-preserved c =
    let i = c.loop-rest.invariant in
    let rest : drop c.loop-rest.at (expression_of c.args.second.now) ≡ chunk_of c.cut.result.0.now ∷ chunks_left c.cut.result.1 =
    i.rest ∙ chunks_cut c.loop-rest.rest c.in-Some.bytes c.cut.result.0.now c.cut.result.1 c.in-Some.is c.cut.ensures.parts in
    let had = room_at c.loop-rest.rest c.in-Some.bytes c.in-Some.is in
    let has = room_more c.cut.result.1 (length c.in-Some.bytes.now) c.cut.ensures.shorter in
    record {
      room = omega arith;
      way = λ above row. next_more (chunk_signs c.args.expands) (chunk_of c.args.x.now) (table (chunk_signs c.args.expands) above) (expression_of c.args.second.now) c.loop-rest.at _ _ c.loop-rest.row c.loop-rest.across _ c.place.result
          (i.way above row) rest (omega (arith, length-set {A = Bool})) refl c.place.ensures;
      rest = drop_next c.loop-rest.at (expression_of c.args.second.now) _ _ rest;
    }

pub returns : goal.returns
returns c above row = next_whole (chunk_signs c.args.expands) (chunk_of c.args.x.now) (table (chunk_signs c.args.expands) above) (expression_of c.args.second.now) c.loop-rest.at c.loop-rest.row c.loop-rest.across
    (c.loop-rest.invariant.way above row) (c.loop-rest.invariant.rest ∙ chunks_end c.loop-rest.rest c.in_default.is)
