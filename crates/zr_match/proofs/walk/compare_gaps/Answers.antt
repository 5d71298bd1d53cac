use Rattle.std.proofs.Common.{◌∷◌, [], true, sym, ap, ◌∙◌}
use Rattle.zr_key.specs.Key.{expression_of}
use Rattle.zr_match.specs.Table.{compare_chunks}
use Rattle.zr_match.proofs.Ends.{gap_first, gap_second}
use Rattle.zr_key.proofs.Spelling.{same_bytes}
use Rattle.zr_match.proofs.walk.compare_gaps.Goals as goal

pub returns-then-is_any_chunks : goal.returns-then-is_any_chunks
returns-then-is_any_chunks c =
    let text = same_bytes c.args.first.now (42 ∷ 42 ∷ []) (sym c.if-is_any_chunks.ensures) in
    c.has_no_verbatim.ensures ∙ sym (gap_first c.args.expands (expression_of c.args.second.now)) ∙ ap (λ z. compare_chunks c.args.expands (expression_of z) (expression_of c.args.second.now)) (sym text)

pub returns-then-is_any_chunks-2 : goal.returns-then-is_any_chunks-2
returns-then-is_any_chunks-2 c =
    let text = same_bytes c.args.second.now (42 ∷ 42 ∷ []) (sym c.if-is_any_chunks-2.ensures) in
    c.has_no_verbatim-then-is_any_chunks-2.ensures ∙ sym (gap_second (expression_of c.args.first.now)) ∙ ap (λ z. compare_chunks true (expression_of c.args.first.now) (expression_of z)) (sym text)
    ∙ ap (λ e. compare_chunks e (expression_of c.args.first.now) (expression_of c.args.second.now)) (sym c.if-expands.true)
