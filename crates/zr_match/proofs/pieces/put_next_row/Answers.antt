use Rattle.std.proofs.Common.{◌≡◌, ◌+◌, ◌<◌, ◌∷◌, Bool, length-set, ap, ◌∙◌, refl, arith, length, drop, get_or}
use Rattle.std.proofs.lemmas.List.{drop_all}
use Rattle.zr_key.specs.Key.{pieces_of}
use Rattle.zr_match.specs.Table.{piece_signs, piece_of, table}
use Rattle.zr_match.proofs.Rows.{next_more, next_whole, drop_next}
use Rattle.zr_match.proofs.PieceSteps.{piece_next}
use Rattle.zr_match.proofs.pieces.put_next_row.Goals as goal

pub loop-y-preserved : goal.loop-y-preserved
loop-y-preserved c =
    let i = c.loop-y.invariant in
    let within : c.loop-y.y-index < length c.args.second.now = omega arith in
    let rest : drop c.loop-y.at (pieces_of c.args.second.now) ≡ piece_of (get_or c.args.second.now c.loop-y.y-index 0) ∷ pieces_of (drop (c.loop-y.y-index + 1) c.args.second.now) =
    i.rest ∙ piece_next c.args.second.now c.loop-y.y-index within c.if-y-eq42.false in
    record {
      place = omega arith;
      way = λ above row. next_more (piece_signs c.args.expands) (piece_of c.args.x) (table (piece_signs c.args.expands) above) (pieces_of c.args.second.now) c.loop-y.at _ _ c.loop-y.row c.loop-y.across _ c.place.result
          (i.way above row) rest (omega (arith, length-set {A = Bool})) refl c.place.ensures;
      rest = drop_next c.loop-y.at (pieces_of c.args.second.now) _ _ rest;
    }

pub returns : goal.returns
returns c above row = next_whole (piece_signs c.args.expands) (piece_of c.args.x) (table (piece_signs c.args.expands) above) (pieces_of c.args.second.now) c.loop-y.at c.loop-y.row c.loop-y.across
    (c.loop-y.invariant.way above row) (c.loop-y.invariant.rest ∙ ap (λ z. pieces_of z) (drop_all c.loop-y.y-index c.args.second.now (omega arith)))
