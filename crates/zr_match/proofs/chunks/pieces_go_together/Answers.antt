use Rattle.std.proofs.Common.{sym, ◌∙◌}
use Rattle.zr_match.proofs.GoTogether.{plain_case, apart_case, open_case}
use Rattle.zr_match.proofs.chunks.pieces_go_together.Goals as goal

pub returns-then-are_plain : goal.returns-then-are_plain
returns-then-are_plain c = c.eq.ensures ∙ plain_case c.args.expands c.args.first.now c.args.second.now (sym c.if-are_plain.ensures)

pub returns-then-are_apart : goal.returns-then-are_apart
returns-then-are_apart c = apart_case c.args.expands c.args.first.now c.args.second.now (sym c.if-are_apart.ensures)

pub returns : goal.returns
returns c = c.pieces_compare.ensures ∙ open_case c.args.expands c.args.first.now c.args.second.now (sym c.if-are_apart.ensures)
