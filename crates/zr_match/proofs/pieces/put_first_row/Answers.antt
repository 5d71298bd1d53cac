use Rattle.std.proofs.Common.{◌≡◌, ◌+◌, ◌<◌, ◌∷◌, [], Bool, length-set, ap, ◌∙◌, arith, length, drop, get_or}
use Rattle.std.proofs.lemmas.List.{drop_all}
use Rattle.zr_key.specs.Key.{pieces_of}
use Rattle.zr_match.specs.Table.{piece_signs, piece_of}
use Rattle.zr_match.proofs.Rows.{first_more, first_whole, drop_next, drop_none, length_suc}
use Rattle.zr_match.proofs.PieceSteps.{piece_next}
use Rattle.zr_match.proofs.pieces.put_first_row.Goals as goal

pub loop-y-preserved : goal.loop-y-preserved
loop-y-preserved c =
    let i = c.loop-y.invariant in
    let within : c.loop-y.y-index < length c.args.second.now = omega arith in
    let rest : drop c.loop-y.at (pieces_of c.args.second.now) ≡ piece_of (get_or c.args.second.now c.loop-y.y-index 0) ∷ pieces_of (drop (c.loop-y.y-index + 1) c.args.second.now) =
    i.rest ∙ piece_next c.args.second.now c.loop-y.y-index within c.if-y-eq42.false in
    record {
      place = omega arith;
      within = omega (arith, length_suc c.loop-y.at (pieces_of c.args.second.now) _ _ rest);
      filled = first_more (piece_signs c.args.expands) (pieces_of c.args.second.now) c.loop-y.at _ _ c.loop-y.row c.first_place.result i.filled rest (omega (arith, length-set {A = Bool})) c.first_place.ensures;
      rest = drop_next c.loop-y.at (pieces_of c.args.second.now) _ _ rest;
    }

pub returns-clause-row : goal.returns-clause-row
returns-clause-row c = first_whole (piece_signs c.args.expands) (pieces_of c.args.second.now) c.loop-y.at c.loop-y.row c.loop-y.invariant.filled
    (c.loop-y.invariant.rest ∙ ap (λ z. pieces_of z) (drop_all c.loop-y.y-index c.args.second.now (omega arith)))

pub returns-clause-last : goal.returns-clause-last
returns-clause-last c =
    let none : drop c.loop-y.at (pieces_of c.args.second.now) ≡ [] = c.loop-y.invariant.rest ∙ ap (λ z. pieces_of z) (drop_all c.loop-y.y-index c.args.second.now (omega arith)) in
    omega (arith, drop_none c.loop-y.at (pieces_of c.args.second.now) none)
