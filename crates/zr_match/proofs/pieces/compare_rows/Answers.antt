use Rattle.std.proofs.Common.{◌≡◌, ◌<◌, List, ap, sym, subst, ◌∙◌, arith, length, take, get_or, reverse, take_all, false}
use Rattle.zr_key.specs.Expression.{Piece}
use Rattle.zr_key.specs.Key.{pieces_of}
use Rattle.zr_match.specs.Table.{piece_signs, table, IsRow}
use Rattle.zr_match.proofs.PieceSteps.{star_taken, piece_taken, pieces_fit}
use Rattle.zr_match.proofs.pieces.compare_rows.Goals as goal

pub loop-x-preserved-then-x-eq42 : goal.loop-x-preserved-then-x-eq42
loop-x-preserved-then-x-eq42 c =
    let within : c.loop-x.x-index < length c.args.first.now = omega arith in
    subst (λ (p : List Piece). IsRow (table (piece_signs c.args.expands) p) (pieces_of c.args.second.now) c.loop-x.row) (sym (star_taken c.args.first.now c.loop-x.x-index within c.if-x-eq42.true)) c.loop-x.invariant

pub loop-x-preserved : goal.loop-x-preserved
loop-x-preserved c =
    let within : c.loop-x.x-index < length c.args.first.now = omega arith in
    subst (λ (p : List Piece). IsRow (table (piece_signs c.args.expands) p) (pieces_of c.args.second.now) c.put_next_row.new.row) (sym (piece_taken c.args.first.now c.loop-x.x-index within c.if-x-eq42.false))
    (c.put_next_row.ensures (reverse (pieces_of (take c.loop-x.x-index c.args.first.now))) c.loop-x.invariant)

pub bounds-row-last : goal.bounds-row-last
bounds-row-last c = omega (arith, pieces_fit c.args.second.now, c.put_first_row-last.ensures.last)

pub returns : goal.returns
returns c =
    let ys : List Piece = pieces_of c.args.second.now in
    let end : take c.loop-x.x-index c.args.first.now ≡ c.args.first.now = take_all c.loop-x.x-index c.args.first.now (omega arith) in
    ap (λ n. get_or c.loop-x.row n false) c.put_first_row-last.ensures.last ∙ c.loop-x.invariant (length ys) (omega arith)
    ∙ ap (λ z. table (piece_signs c.args.expands) (reverse (pieces_of z)) (reverse (take (length ys) ys))) end
    ∙ ap (λ z. table (piece_signs c.args.expands) (reverse (pieces_of c.args.first.now)) (reverse z)) (take_all (length ys) ys (omega arith))
